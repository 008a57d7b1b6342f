-- For the inner contracts of the search: lists of links with their weights. Assumes nothing.
use Rattle.std.specs.Prelude.{◌≡◌, ℕ, suc, ◌<◌, List, [], ◌∷◌}
use Rattle.std.specs.List.{ContainsAt as Has}
use Rattle.verdict.specs.declared.link.Arc.{Arc}

-- every link joins two of n events
abbrev pub Inside : {W : Type 0} → ℕ → List (Arc W) → Type 0
Inside n [] = Unit {0}
Inside n (a ∷ rest) = (a.link.from < n) × (a.link.to < n) × Inside n rest

-- the link from an event to the next one, k
pub record Neighbour {W : Type 0} (arcs : List (Arc W)) (k : ℕ) (a : Arc W) : Type 0 where
  pub to : a.link.to ≡ k
  pub from : suc a.link.from ≡ k
  pub among : Has arcs a
