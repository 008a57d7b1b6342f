use Rattle.std.proofs.Common.{◌≡◌, ◌≤◌, length, take, drop}
use Rattle.verdict.specs.Sweep.{afters, ended, present}
use Rattle.verdict.proofs.marks.advance.Given as goal

-- the processes so far have taken their marks, and the others have not
abbrev pub invariant-loop-process : goal.invariant-loop-process
invariant-loop-process l =
    record {
      long : length l.ended ≡ 16;
      wide : length l.waits ≡ 16;
      few : l.count ≤ l.process;
      ended : take l.count l.ended ≡ present (ended (take l.process l.initial.waits) (take l.process l.marks));
      taken : take l.process l.waits ≡ afters l.event (take l.process l.initial.waits) (take l.process l.marks);
      others : drop l.process l.waits ≡ drop l.process l.initial.waits;
    }
