use Rattle.std.proofs.Common.{◌<◌, length}
use Rattle.verdict.specs.Rows.{Stamped}
use Rattle.verdict.specs.Scratch.{links_of, stamp_at}
use Rattle.verdict.proofs.Walks.{Walking}
use Rattle.verdict.proofs.rows.Rows.walk.Given as goal

abbrev pub invariant-loop : goal.invariant-loop
invariant-loop g l =
    let ks = l.initial.self.kept.now in
    (l.at < length ks) × Stamped l.initial.self l.self × Walking (links_of ks) (length ks) l.start l.counter l.at (stamp_at l.self.kept.now)
