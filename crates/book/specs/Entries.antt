-- The entries of a book, delays first, and how a trace takes them one by one. Assumes nothing.
use Rattle.std.specs.Prelude.{◌≡◌, ℕ, zero, suc, ◌+◌, ◌-◌, ◌*◌, ◌<◌, ◌≤◌, Bool, true, false, cond, not, List, [], ◌∷◌, length, Some, None, Err, Option, Result, MatchResult, nat_lt}
use Rattle.std.specs.Option as options
use Rattle.trace.specs.Plain.{Plain, declare_refusal, note_refusal, with_delay, with_event, event_of, first_of, or_else}
use Rattle.trace.specs.declared.parts.Mark.{Mark}
use Rattle.book.specs.Layout.{PartOf, marks_spelled, marks_fit, byte_at, delay_at, delay_shaped, event_next, event_marks, event_shaped}
use Rattle.book.specs.Trailer.{start_in, delays_in, events_in, count_of_delays, count_of_events, trailer_refusal}
use Rattle.book.specs.declared.fault.Fault.{Fault}
use Rattle.book.specs.declared.fault.Fault.TheVariants.{Section, Shape, Trace}
use Rattle.book.specs.declared.fault.Refused.{Refused}

-- An entry, and the place at which it begins.
pub data Entry : Type 0 where
  delay : ℕ → Entry
  event : ℕ → Entry

abbrev pub place_of : Entry → ℕ
place_of (delay at) = at
place_of (event at) = at

-- the places of the delays, and those of the events, each of which begins where the one before ends
abbrev pub delay_place : List ℕ → ℕ → ℕ
delay_place book k = delays_in book + 20 * k

abbrev pub event_place : List ℕ → ℕ → ℕ
event_place book zero = events_in book
event_place book (suc k) = event_next book (event_place book k)

-- the entries, numbered from 0, and how many there are
abbrev pub entry : List ℕ → ℕ → Entry
entry book k = cond (nat_lt k (count_of_delays book)) (delay (delay_place book k)) (event (event_place book (k - count_of_delays book)))

abbrev pub entry_count : List ℕ → ℕ
entry_count book = count_of_delays book + count_of_events book

-- the shape of a delay entry
abbrev pub delay_misshapen : List ℕ → ℕ → Option Fault
delay_misshapen book at = first_of ((not (delay_shaped book at), Shape) ∷ [])

-- the shape of a mark
abbrev pub mark_misshapen : List ℕ → ℕ → Option Fault
mark_misshapen book at = first_of ((nat_lt 1 (byte_at book at), Shape) ∷ [])

-- the n marks that bytes spell, two bytes each
abbrev pub Marked : ℕ → List ℕ → Result (List Mark) Fault → Type 0
Marked n spelled r = MatchResult r
    (λ marks. (marks_fit n spelled 0 ≡ true) × (marks ≡ marks_spelled n spelled 0))
    (λ f. (marks_fit n spelled 0 ≡ false) × (f ≡ Shape))

-- the bytes of the marks of the event at a place, which ends where the trailer begins, or before
pub record Spelling (spelled book : List ℕ) (at : ℕ) : Type 0 where
  pub inside : event_next book at ≤ start_in book
  pub long : length spelled ≡ 2 * byte_at book at
  pub same : PartOf (2 * byte_at book at) spelled book (at + 1)

-- an event entry passes the end of the entries, or its shape
abbrev pub event_misshapen : ℕ → List ℕ → ℕ → Option Fault
event_misshapen end book at = first_of ((nat_lt end (event_next book at), Section) ∷ (not (event_shaped book at), Shape) ∷ [])

-- Reading into a trace of a kind that turns the pairs of limits into weights by `limited` and orders weights by `leq`.
module _ {W : Type 0} (limited : ℕ → ℕ → Option W) (leq : W → W → Bool) (book : List ℕ) where
  -- What refuses an entry: its own checks, then the trace's.
  abbrev pub entry_fault : Plain → Entry → Option Fault
  entry_fault p (delay at) = or_else (delay_misshapen book at) (options.option_map Trace (declare_refusal limited leq p (delay_at book at)))
  entry_fault p (event at) = or_else (event_misshapen (start_in book) book at) (options.option_map Trace (note_refusal p (event_marks book at)))

  -- the trace with one entry more
  abbrev pub with_entry : Plain → Entry → Plain
  with_entry p (delay at) = with_delay p (delay_at book at)
  with_entry p (event at) = with_event p (event_of (event_marks book at))

  -- the trace with the first n entries
  abbrev pub with_entries : Plain → ℕ → Plain
  with_entries p zero = p
  with_entries p (suc n) = with_entry (with_entries p n) (entry book n)

  -- The first n entries are accepted, one after the other, and q is the trace with them.
  pub record Accepted (p : Plain) (n : ℕ) (q : Plain) : Type 0 where
    pub each : (k : ℕ) → k < n → entry_fault (with_entries p k) (entry book k) ≡ None
    pub made : q ≡ with_entries p n

  -- One of the first `total` entries is refused: those before it stay, and the refusal has its place.
  pub record Stopped (p : Plain) (total : ℕ) (f : Refused) (q : Plain) : Type 0 where
    pub number : ℕ
    pub among : number < total
    pub before : Accepted p number q
    pub refusal : entry_fault q (entry book number) ≡ Some f.fault
    pub at : f.place ≡ place_of (entry book number)

  -- the first `total` entries, taken until one is refused
  abbrev pub Taken : Plain → ℕ → Result (Unit {0}) Refused → Plain → Type 0
  Taken p total r q = MatchResult r (λ _. Accepted p total q) (λ f. Stopped p total f q)

  -- Reading a book: the trailer's refusal with nothing changed, or its entries.
  abbrev pub Reads : ℕ → Plain → Result (Unit {0}) Refused → Plain → Type 0
  Reads kind p r q = options.MatchOption (trailer_refusal kind book) (Taken p (entry_count book) r q) (λ f. (r ≡ Err f) × (q ≡ p))

-- One entry: refused with nothing changed, or the next trace.
abbrev pub Enters : {A : Type 0} → Option Fault → Plain → Plain → Result A Fault → Plain → Type 0
Enters fault p next r q = MatchResult r (λ _. (fault ≡ None) × (q ≡ next)) (λ f. (fault ≡ Some f) × (q ≡ p))
