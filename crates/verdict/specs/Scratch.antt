-- For the inner contracts of the search: what its rows of the scratch table hold. Assumes nothing.
use Rattle.std.specs.Prelude.{ℕ, List, map, Option, slice_index}
use Rattle.verdict.specs.declared.link.Kept.{Kept}
use Rattle.verdict.specs.declared.link.Origin.{Origin}

-- the kept links, without the stamps
abbrev pub links_of : List Kept → List (Option Origin)
links_of ks = map (λ x. x.link) ks

-- the stamp of the row v
abbrev pub stamp_at : List Kept → ℕ → ℕ
stamp_at ks v = slice_index (map (λ x. x.stamp) ks) v
