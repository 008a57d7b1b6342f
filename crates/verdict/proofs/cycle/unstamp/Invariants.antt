use Rattle.std.proofs.Common.{◌≡◌, ℕ, ◌<◌}
use Rattle.verdict.specs.Scratch.{links_of, stamp_at}
use Rattle.verdict.proofs.cycle.unstamp.Given as goal

-- the rows so far have no stamp
abbrev pub invariant-loop-row : goal.invariant-loop-row
invariant-loop-row l = (links_of l.kept ≡ links_of l.initial.kept) × ((v : ℕ) → v < l.row-index → stamp_at l.kept v ≡ 0)
