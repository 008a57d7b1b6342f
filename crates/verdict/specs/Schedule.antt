-- Schedules of a trace, its links and its chains. Assumes nothing.
use Rattle.std.specs.Prelude.{◌≡◌, ℕ, suc, ◌<◌, Bool, true, not, ◌⊎◌, List, [], ◌∷◌, length, Some, Option, ◌==◌, ◌≢◌, slice_index}
use Rattle.kinds.specs.Group.{Ordered, Le, Lt}
use Rattle.std.specs.List.{slice_get}
use Rattle.trace.specs.Matching.{Matches}
use Rattle.trace.specs.Plain.{weight_of, upper_weight}
use Rattle.trace.specs.declared.parts.Declared.{Declared}
use Rattle.trace.specs.declared.parts.Event.{Event}

-- An edge of the constraint graph: from an event to another, at a cost. It says that the time of `from` less the time of
-- `to` is at most the cost. `Link`, below, says which edges are links of a trace.
pub record Edge (C : Type 0) : Type 0 where
  pub from : ℕ
  pub to : ℕ
  pub cost : C

-- whether a delay's byte switches it on: 0 is off, anything else on
abbrev pub switched : List ℕ → ℕ → Bool
switched bytes d = not (slice_index bytes d == 0)

-- The delays ds and events es of a trace of one kind, with the delays switched on for which `on` is true. Of the kind,
-- `place` puts a weight into the group, `spacing` is the gap (the minimum separation of events), and `limited` gives the
-- weight of a limit (a timing bound). A pair of numbers that the kind refuses gives no limit; declaring lets none in.
module _ {W C : Type 0} (group : Ordered C) (place : W → C) (spacing : W) (limited : ℕ → ℕ → Option W)
    (ds : List Declared) (es : List Event) (on : ℕ → Bool) where
  -- a wait: a delay that is on, from its begin at j to its matching end at k
  pub record Wait (d j k : ℕ) (given : Declared) : Type 0 where
    pub declared : slice_get ds d ≡ Some given
    pub switched : on d ≡ true
    pub matches : Matches ds es d j k

  -- A schedule (a feasible assignment of times) gives each event a time in the kind's group.
  pub record Schedule (t : ℕ → C) : Type 0 where
    pub start : 0 < length es → t 0 ≡ group.nil
    pub gaps : (i : ℕ) → suc i < length es → Le group (group.sum (t i) (place spacing)) (t (suc i))
    pub lowers : (d j k : ℕ) (given : Declared) (w : W) → Wait d j k given → weight_of limited given.lower ≡ Some w → Le group (group.sum (t j) (place w)) (t k)
    pub uppers : (d j k : ℕ) (given : Declared) (w : W) → Wait d j k given → upper_weight limited given.upper ≡ Some w → Le group (t k) (group.sum (t j) (place w))

  -- some times are a schedule
  abbrev pub Admits : Type 0
  Admits = (t : ℕ → C) × Schedule t

  -- the earliest times (the least solution): a schedule, and no schedule has any event sooner
  pub record Earliest (t : ℕ → C) : Type 0 where
    pub schedule : Schedule t
    pub least : (u : ℕ → C) → Schedule u → (i : ℕ) → i < length es → Le group (t i) (u i)

  -- The links, the edges that a schedule meets: from an event to the next at minus the gap,
  pub record Next (l : Edge C) : Type 0 where
    pub inside : suc l.from < length es
    pub to : l.to ≡ suc l.from
    pub cost : l.cost ≡ group.neg (place spacing)

  -- from a begin to its end at minus the lower limit,
  pub record Lower (l : Edge C) : Type 0 where
    pub delay : ℕ
    pub given : Declared
    pub limit : W
    pub waits : Wait delay l.from l.to given
    pub weight : weight_of limited given.lower ≡ Some limit
    pub cost : l.cost ≡ group.neg (place limit)

  -- from an end to its begin at the upper limit, and no other
  pub record Upper (l : Edge C) : Type 0 where
    pub delay : ℕ
    pub given : Declared
    pub limit : W
    pub waits : Wait delay l.to l.from given
    pub weight : upper_weight limited given.upper ≡ Some limit
    pub cost : l.cost ≡ place limit

  abbrev pub Link : Edge C → Type 0
  Link l = Next l ⊎ (Lower l ⊎ Upper l)

-- each link starts where the one before it ends; the first starts at a, and the last ends at b
abbrev pub Walk : {C : Type 0} → ℕ → ℕ → List (Edge C) → Type 0
Walk a b [] = a ≡ b
Walk a b (l ∷ ls) = (l.from ≡ a) × Walk l.to b ls

-- no link of ls starts at a
abbrev pub Elsewhere : {C : Type 0} → ℕ → List (Edge C) → Type 0
Elsewhere a [] = Unit {0}
Elsewhere a (l ∷ ls) = (l.from ≢ a) × Elsewhere a ls

-- no two links start at one event
abbrev pub Distinct : {C : Type 0} → List (Edge C) → Type 0
Distinct [] = Unit {0}
Distinct (l ∷ ls) = Elsewhere l.from ls × Distinct ls

-- the cost of links, one after the other
abbrev pub total : {C : Type 0} → Ordered C → List (Edge C) → C
total group [] = group.nil
total group (l ∷ ls) = group.sum l.cost (total group ls)

abbrev pub Every : {X : Type 0} → (X → Type 0) → List X → Type 0
Every P [] = Unit {0}
Every P (x ∷ xs) = P x × Every P xs

-- A chain (a simple cycle of the constraint graph): links that close and pass no event twice, here at a cost below zero.
pub record Chain {C : Type 0} (group : Ordered C) (Link : Edge C → Type 0) (ls : List (Edge C)) : Type 0 where
  pub start : ℕ
  pub some : 0 < length ls
  pub closed : Walk start start ls
  pub simple : Distinct ls
  pub links : Every Link ls
  pub below : Lt group (total group ls) group.nil
