use Rattle.std.proofs.Common.{◌≡◌, [], take, drop}
use Rattle.trace.specs.State.{plain_of}
use Rattle.trace.specs.Plain.{first_offence, begun, ended}
use Rattle.trace.specs.Tally.{Tallies}
use Rattle.trace.proofs.table.Trace.gather.Given as goal

-- the marks so far passed, and are tallied on their sides
abbrev pub invariant-loop-mark : goal.invariant-loop-mark
invariant-loop-mark g l =
    let ds = (plain_of l.self).delays in
    let before = take l.mark-index l.marks in
    (first_offence ds [] l.marks ≡ first_offence ds before (drop l.mark-index l.marks)) × Tallies ds (begun before) l.begun × Tallies ds (ended before) l.ended
