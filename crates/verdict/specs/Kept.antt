-- For the inner contracts of the search: the links that it keeps, for each event at most one, which leads into it.
-- Assumes nothing.
use Rattle.std.specs.Prelude.{◌≡◌, ℕ, zero, suc, ◌<◌, ◌≤◌, Bool, true, false, ◌⊎◌, List, [], ◌∷◌, is_some, Some, None, Option, ◌≢◌, slice_index_or}
use Rattle.verdict.specs.declared.link.Link.{Link}
use Rattle.verdict.specs.declared.link.Origin.{Origin}

-- f applied k times
abbrev pub iter : (ℕ → ℕ) → ℕ → ℕ → ℕ
iter f zero x = x
iter f (suc k) x = f (iter f k x)

-- a link as it is kept for the event that it leads to
abbrev pub kept_as : Link → Option Origin
kept_as l = Some (record { from = l.from; by = l.by })

-- what is kept for the event v, and the event that its link comes from
abbrev pub kept_at : List (Option Origin) → ℕ → Option Origin
kept_at ls v = slice_index_or ls v None

abbrev pub start_of : Option Origin → ℕ
start_of None = 0
start_of (Some o) = o.from

abbrev pub from_at : List (Option Origin) → ℕ → ℕ
from_at ls v = start_of (kept_at ls v)

abbrev pub held_at : List (Option Origin) → ℕ → Bool
held_at ls v = is_some (kept_at ls v)

-- the first k events on the way back from x have links
abbrev pub Along : List (Option Origin) → ℕ → ℕ → Type 0
Along ls x k = (j : ℕ) → j < k → held_at ls (iter (from_at ls) j x) ≡ true

-- links into events among n come from events among n
abbrev pub Closed : List (Option Origin) → ℕ → Type 0
Closed ls n = (v : ℕ) → v < n → from_at ls v < n

-- the way back from x ends, after some links, at an event that has none
pub record Grounded (ls : List (Option Origin)) (x : ℕ) : Type 0 where
  pub links : ℕ
  pub along : Along ls x links
  pub ends : held_at ls (iter (from_at ls) links x) ≡ false

-- the way back from x comes to x again
pub record Cyclic (ls : List (Option Origin)) (x k : ℕ) : Type 0 where
  pub some : 0 < k
  pub along : Along ls x k
  pub closes : iter (from_at ls) k x ≡ x

-- it does so within n links, and x is one of n events
pub record Round (ls : List (Option Origin)) (n x : ℕ) : Type 0 where
  pub inside : x < n
  pub links : ℕ
  pub cyclic : Cyclic ls x links
  pub short : links ≤ n

-- it does so after k links, and not sooner
pub record First (ls : List (Option Origin)) (x k : ℕ) : Type 0 where
  pub cyclic : Cyclic ls x k
  pub first : (j : ℕ) → 0 < j → j < k → iter (from_at ls) j x ≢ x

-- Stamps, of which those up to m are used: the way back from a stamped event among n ends.
abbrev pub Checked : List (Option Origin) → ℕ → ℕ → (ℕ → ℕ) → Type 0
Checked ls n m stamp = (v : ℕ) → v < n → (stamp v ≡ 0) ⊎ (Grounded ls v × (stamp v ≤ m))

-- rows that are the first k links on the way back from x, the last of them first
abbrev pub Written : List (Option Origin) → ℕ → ℕ → List Link → Type 0
Written ls x zero [] = Unit {0}
Written ls x zero (r ∷ rs) = ⊥
Written ls x (suc k) [] = ⊥
Written ls x (suc k) (r ∷ rs) = (r.to ≡ iter (from_at ls) k x) × (kept_at ls (iter (from_at ls) k x) ≡ kept_as r) × Written ls x k rs
