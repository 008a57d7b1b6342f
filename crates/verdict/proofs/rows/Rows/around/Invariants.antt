use Rattle.std.proofs.Common.{◌≡◌, ℕ, ◌<◌}
use Rattle.verdict.specs.Scratch.{links_of}
use Rattle.verdict.specs.Kept.{from_at, iter}
use Rattle.verdict.proofs.rows.Rows.around.Given as goal

abbrev pub invariant-loop-links : goal.invariant-loop-links
invariant-loop-links g l =
    let f = from_at (links_of l.self.kept.now) in
    (l.at < l.events) × (0 < l.links) × (l.at ≡ iter f l.links l.on) × ((j : ℕ) → 0 < j → j < l.links → iter f j l.on ≡ l.on → ⊥)
