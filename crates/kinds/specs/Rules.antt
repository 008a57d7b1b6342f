-- What a kind of time keeps. Assumes nothing.
use Rattle.std.specs.Prelude.{◌≡◌, ℕ, ◌+◌, ◌^◌, ◌<◌, ◌≤◌, IfSome, Option, MatchOption}
use Rattle.kinds.specs.Group.{Ordered, Lt, times}

-- no weight is larger than this
abbrev pub largest : ℕ
largest = 2 ^ 60

-- no gap and no limit is larger than this
abbrev pub modest : ℕ
modest = 2 ^ 36

-- s is the sum of a and b, and no larger than both together
pub record Sums {W C : Type 0} (group : Ordered C) (place : W → C) (size : W → ℕ) (a b s : W) : Type 0 where
  pub within : size a + size b ≤ largest
  pub placed : place s ≡ group.sum (place a) (place b)
  pub sized : size s ≤ size a + size b

-- What adding answers: nothing exactly where the two sizes together pass the largest.
abbrev pub Adds : {W C : Type 0} → Ordered C → (W → C) → (W → ℕ) → W → W → Option W → Type 0
Adds group place size a b r = MatchOption r (largest < size a + size b) (λ s. Sums group place size a b s)

-- o is the opposite of a, and as large
pub record Opposes {W C : Type 0} (group : Ordered C) (place : W → C) (size : W → ℕ) (a o : W) : Type 0 where
  pub placed : place o ≡ group.neg (place a)
  pub sized : size o ≡ size a

-- z is the zero of the kind
pub record Zero {W C : Type 0} (group : Ordered C) (place : W → C) (size : W → ℕ) (z : W) : Type 0 where
  pub placed : place z ≡ group.nil
  pub sized : size z ≡ 0

-- Rules about a kind: its zero, sums and opposites are those of its group, and its gap, limits and rows keep their bounds.
pub record Rules {W R C : Type 0} (group : Ordered C) (place : W → C) (size : W → ℕ)
    (nought : W) (added : W → W → Option W) (opposed : W → W)
    (spacing : W) (limited : ℕ → ℕ → Option W) (weighed : R → W) (rowed : W → R) : Type 0 where
  pub bounded : (a : W) → size a ≤ largest
  pub zero : Zero group place size nought
  pub sums : (a b : W) → Adds group place size a b (added a b)
  pub opposes : (a : W) → Opposes group place size a (opposed a)
  pub spacing_above : Lt group group.nil (place spacing)
  pub spacing_modest : size spacing ≤ modest
  pub limit_modest : (a b : ℕ) → IfSome (limited a b) (λ w. size w ≤ modest)
  pub row_back : (a : W) → weighed (rowed a) ≡ a

-- Any weight above zero, added to itself often enough, passes any other.
abbrev pub Archimedean : {W C : Type 0} → Ordered C → (W → C) → Type 0
Archimedean {W} group place = (a b : W) → Lt group group.nil (place a) → (n : ℕ) × Lt group (place b) (times group n (place a))
