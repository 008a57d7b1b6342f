-- The plain trace: what a trace holds, told by the calls' arguments alone. Assumes nothing.
use Rattle.std.specs.Prelude.{◌≡◌, ℕ, ◌^◌, Bool, true, false, cond, not, ◌||◌, List, [], ◌∷◌, ◌++◌, map, length, Some, None, fold, Option, Result, MatchResult, ◌==◌, bit_or, nat_le, nat_lt, slice_index_or}
use Rattle.kinds.specs.Group.{Ordered}
use Rattle.trace.specs.declared.parts.Declared.{Declared}
use Rattle.trace.specs.declared.parts.Event.{Event}
use Rattle.trace.specs.declared.parts.Mark.{Mark}
use Rattle.trace.specs.declared.parts.Mark.TheVariants.{Begin, End}
use Rattle.trace.specs.declared.parts.Pair.{Pair}
use Rattle.trace.specs.declared.parts.Refusal.{Refusal}
use Rattle.trace.specs.declared.parts.Refusal.TheVariants.{DelaysFull, NoProcess, NoLimit, Crossed, EventsFull, NoDelay, SecondBegin, SecondEnd}

-- The number of each refusal.
abbrev pub code : Refusal → ℕ
code DelaysFull = 10
code NoProcess = 11
code NoLimit = 12
code Crossed = 13
code EventsFull = 20
code NoDelay = 21
code SecondBegin = 22
code SecondEnd = 23

-- A plain trace: the row counts of its tables, the delays and the events accepted, in their order.
pub record Plain : Type 0 where
  pub delay_rows : ℕ
  pub event_rows : ℕ
  pub delays : List Declared
  pub events : List Event

-- It opens with no delay and no event.
abbrev pub opened : ℕ → ℕ → Plain
opened delay_rows event_rows = record { delay_rows = delay_rows; event_rows = event_rows; delays = []; events = [] }

-- no row is left, or the trace has as many as it may
abbrev pub full : ℕ → ℕ → ℕ → Bool
full count rows most = nat_le rows count || nat_le most count

-- the first refusal whose cause is there
abbrev pub first_of : {F : Type 0} → List (Bool × F) → Option F
first_of [] = None
first_of (b ∷ rest) = cond b.0 (Some b.1) (first_of rest)

abbrev pub or_else : {F : Type 0} → Option F → Option F → Option F
or_else None g = g
or_else (Some f) g = Some f

-- A call's answer r, and the trace p' after it: refused with nothing changed, or the next trace.
abbrev pub Steps : Option Refusal → Plain → Plain → Result (Unit {0}) Refusal → Plain → Type 0
Steps refusal p next r p' = MatchResult r (λ _. (refusal ≡ None) × (p' ≡ next)) (λ f. (refusal ≡ Some f) × (p' ≡ p))

-- the order of weights: that of their places in the kind's group
abbrev pub at_most : {W C : Type 0} → Ordered C → (W → C) → W → W → Bool
at_most group place a b = group.leq (place a) (place b)

abbrev pub absent : {W : Type 0} → Option W → Bool
absent None = true
absent (Some w) = false

-- Declaring, in a kind that turns the pairs of limits into weights by `limited` and orders weights by `leq`.
module _ {W : Type 0} (limited : ℕ → ℕ → Option W) where
  -- the weight of a limit, if the kind accepts the pair
  abbrev pub weight_of : Pair → Option W
  weight_of p = limited p.first p.second

  -- the weight of an upper limit, if there is one
  abbrev pub upper_weight : Option Pair → Option W
  upper_weight None = None
  upper_weight (Some p) = weight_of p

  -- an upper limit is there, and the kind does not accept it
  abbrev pub upper_refused : Option Pair → Bool
  upper_refused None = false
  upper_refused (Some p) = absent (weight_of p)

-- a lower limit is above an upper one
abbrev pub crossing : {W : Type 0} → (W → W → Bool) → Option W → Option W → Bool
crossing leq None u = false
crossing leq (Some l) None = false
crossing leq (Some l) (Some u) = not (leq l u)

abbrev pub limits_refusal : {W : Type 0} → (ℕ → ℕ → Option W) → (W → W → Bool) → Declared → Option Refusal
limits_refusal limited leq d = first_of (
    (absent (weight_of limited d.lower) || upper_refused limited d.upper, NoLimit)
    ∷ (crossing leq (weight_of limited d.lower) (upper_weight limited d.upper), Crossed)
    ∷ [])

abbrev pub declare_refusal : {W : Type 0} → (ℕ → ℕ → Option W) → (W → W → Bool) → Plain → Declared → Option Refusal
declare_refusal limited leq p d = or_else
    (first_of ((full (length p.delays) p.delay_rows 64, DelaysFull) ∷ (nat_lt 15 d.process, NoProcess) ∷ []))
    (limits_refusal limited leq d)

-- the trace with one delay more
abbrev pub with_delay : Plain → Declared → Plain
with_delay p d = record { delay_rows = p.delay_rows; event_rows = p.event_rows; delays = p.delays ++ (d ∷ []); events = p.events }

-- the process of a delay, and 16, which no process is, where there is no such delay
abbrev pub process_in : List Declared → ℕ → ℕ
process_in ds d = slice_index_or (map (λ x. x.process) ds) d 16

-- the delays that marks begin, and those that they end, in the order of the marks
abbrev pub begun : List Mark → List ℕ
begun [] = []
begun (Begin d ∷ ms) = d ∷ begun ms
begun (End d ∷ ms) = begun ms

abbrev pub ended : List Mark → List ℕ
ended [] = []
ended (Begin d ∷ ms) = ended ms
ended (End d ∷ ms) = d ∷ ended ms

-- whether one of the delays ns is of the process q
abbrev pub of_process : List Declared → ℕ → List ℕ → Bool
of_process ds q [] = false
of_process ds q (d ∷ ns) = process_in ds d == q || of_process ds q ns

-- What refuses a mark of the delay d after marks of the delays ns on the same side: it is not declared, or its process has one.
abbrev pub mark_refusal : Refusal → List Declared → List ℕ → ℕ → Option Refusal
mark_refusal second ds ns d = first_of ((nat_le (length ds) d, NoDelay) ∷ (of_process ds (process_in ds d) ns, second) ∷ [])

-- What refuses a mark that comes after the marks `before`.
abbrev pub offence : List Declared → List Mark → Mark → Option Refusal
offence ds before (Begin d) = mark_refusal SecondBegin ds (begun before) d
offence ds before (End d) = mark_refusal SecondEnd ds (ended before) d

-- Marks are taken one after the other: the first that is refused decides.
abbrev pub first_offence : List Declared → List Mark → List Mark → Option Refusal
first_offence ds before [] = None
first_offence ds before (m ∷ ms) = or_else (offence ds before m) (first_offence ds (before ++ (m ∷ [])) ms)

abbrev pub note_refusal : Plain → List Mark → Option Refusal
note_refusal p marks = or_else (first_offence p.delays [] marks) (first_of ((full (length p.events) p.event_rows 512, EventsFull) ∷ []))

-- a set of delays as a word, bit d for delay d
abbrev pub word : List ℕ → ℕ
word ns = fold (λ w d. bit_or w (2 ^ d)) 0 ns

-- the event of a list of marks: the delays begun and those ended
abbrev pub event_of : List Mark → Event
event_of marks = record { begins = word (begun marks); ends = word (ended marks) }

-- the trace with one event more
abbrev pub with_event : Plain → Event → Plain
with_event p e = record { delay_rows = p.delay_rows; event_rows = p.event_rows; delays = p.delays; events = p.events ++ (e ∷ []) }
