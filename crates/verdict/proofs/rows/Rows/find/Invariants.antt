use Rattle.std.proofs.Common.{ℕ, ◌<◌, length}
use Rattle.verdict.specs.Kept.{Checked, Grounded}
use Rattle.verdict.specs.Rows.{Stamped}
use Rattle.verdict.specs.Scratch.{links_of, stamp_at}
use Rattle.verdict.proofs.rows.Rows.find.Given as goal

abbrev pub invariant-loop-start : goal.invariant-loop-start
invariant-loop-start g l =
    let ks = l.fn.self.kept.now in
    Stamped l.fn.self l.self × Checked (links_of ks) (length ks) l.start (stamp_at l.self.kept.now) × ((v : ℕ) → v < l.start → Grounded (links_of ks) v)
