use Rattle.std.proofs.Common.{◌≡◌, map, length, drop}
use Rattle.verdict.specs.Sweep.{marks_from, marked}
use Rattle.verdict.proofs.links.TraceLinks.marks.Given as goal

-- the delays that are left add to the ends and to the begins found so far
abbrev pub invariant-loop-number : goal.invariant-loop-number
invariant-loop-number g l =
    let xs = l.self.delays.now in
    record {
      long : length l.found ≡ 16;
      ends : marks_from l.number (drop l.number xs) l.event.ends (map (λ m. m.end) l.found) ≡ marked xs l.event.ends;
      begins : marks_from l.number (drop l.number xs) l.event.begins (map (λ m. m.begin) l.found) ≡ marked xs l.event.begins;
    }
