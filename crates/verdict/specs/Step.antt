-- For the inner contracts of the search: what trying a link, and a round of all links, do to the tables. Assumes nothing.
use Rattle.std.specs.Prelude.{◌≡◌, ℕ, ◌+◌, ◌*◌, ◌<◌, ◌≤◌, Bool, true, false, ◌⊎◌, List, [], ◌∷◌, take, Some, None, Option, slice_index_or, slice_set}
use Rattle.kinds.specs.Group.{Le, Lt}
use Rattle.kinds.specs.Rules.{largest, Sums}
use Rattle.kinds.specs.declared.kind.Kind.{Ghosts}
use Rattle.verdict.specs.Answer.{Zeros}
use Rattle.verdict.specs.Kept.{kept_at, kept_as}
use Rattle.verdict.specs.Label.{Sound, Round, Least, Closes}
use Rattle.verdict.specs.declared.link.Arc.{Arc}
use Rattle.verdict.specs.declared.link.Link.{Link}
use Rattle.verdict.specs.declared.link.Origin.{Origin}

-- the sizes of all rises together
abbrev pub sizes : {W : Type 0} → (W → ℕ) → List (Arc W) → ℕ
sizes size [] = 0
sizes size (a ∷ rest) = size a.rise + sizes size rest

module _ {W R : Type 0} (kind : Ghosts W R) where
  -- the label of the event v: the weight that its row gives, and its place in the group
  abbrev pub weight_at : List R → ℕ → W
  weight_at times v = kind.weighed (slice_index_or times v (kind.rowed kind.nought))

  abbrev pub label : List R → ℕ → kind.Time
  label times v = kind.place (weight_at times v)

  -- the rows of n events are those of their labels
  abbrev pub Rowed : ℕ → List R → Type 0
  Rowed n times = (v : ℕ) → v < n → slice_index_or times v (kind.rowed kind.nought) ≡ kind.rowed (weight_at times v)

  -- the link a raises the label of the event that it leads to, and is kept there
  pub record Raises (a : Arc W) (times times' : List R) (ls ls' : List (Option Origin)) : Type 0 where
    pub weight : W
    pub sums : Sums kind.group kind.place kind.size (weight_at times a.link.from) a.rise weight
    pub higher : Lt kind.group (label times a.link.to) (kind.place weight)
    pub raised : times' ≡ slice_set times a.link.to (kind.rowed weight)
    pub kept : ls' ≡ slice_set ls a.link.to (kept_as a.link)

  -- nothing changes: the link is met, or its sum is too large
  pub record Passes (a : Arc W) (times times' : List R) (ls ls' : List (Option Origin)) : Type 0 where
    pub why : Le kind.group (kind.group.sum (label times a.link.from) (kind.place a.rise)) (label times a.link.to) ⊎ (largest < kind.size (weight_at times a.link.from) + kind.size a.rise)
    pub same : times' ≡ times
    pub kept : ls' ≡ ls

  abbrev pub Relaxes : Arc W → List R → List R → List (Option Origin) → List (Option Origin) → Bool → Type 0
  Relaxes a times times' ls ls' true = Raises a times times' ls ls'
  Relaxes a times times' ls ls' false = Passes a times times' ls ls'

  -- labels that a round can start from: they are sound, no larger than m, and no sum in the round is too large
  pub record Ready (arcs : List (Arc W)) (n m : ℕ) (times : List R) (ls : List (Option Origin)) : Type 0 where
    pub sound : Sound kind.group kind.place arcs n (label times) ls
    pub rows : Rowed n times
    pub small : (v : ℕ) → v < n → kind.size (weight_at times v) ≤ m
    pub room : m + sizes kind.size arcs ≤ largest

  -- what the round leaves
  pub record Sweeps (arcs : List (Arc W)) (n m : ℕ) (times times' : List R) (ls' : List (Option Origin)) (raised : Bool) : Type 0 where
    pub round : Round kind.group kind.place arcs n (label times) (label times') raised
    pub sound : Sound kind.group kind.place arcs n (label times') ls'
    pub rows : Rowed n times'
    pub small : (v : ℕ) → v < n → kind.size (weight_at times' v) ≤ m + sizes kind.size arcs

  -- what it does to labels that it can start from
  abbrev pub Turns : List (Arc W) → ℕ → List R → List R → List (Option Origin) → List (Option Origin) → Bool → Type 0
  Turns arcs n times times' ls ls' raised = (m : ℕ) → Ready arcs n m times ls → Sweeps arcs n m times times' ls' raised

  -- how a search starts: every label at zero, and no link kept
  pub record Fresh (n : ℕ) (times : List R) (ls : List (Option Origin)) : Type 0 where
    pub zeros : Zeros (kind.rowed kind.nought) n times
    pub bare : (v : ℕ) → v < n → kept_at ls v ≡ None

  -- what it finds: the least times that meet all links, or a chain in the first rows
  abbrev pub Concludes : List (Arc W) → ℕ → List R → List Link → Option ℕ → Type 0
  Concludes arcs n times chain None = Least kind.group kind.place arcs n (label times) × Rowed n times
  Concludes arcs n times chain (Some l) = Closes kind.group kind.place arcs (take l chain)

  -- no sum in as many rounds as there are events is too large
  abbrev pub Modest : List (Arc W) → ℕ → Type 0
  Modest arcs n = n * sizes kind.size arcs ≤ largest
