-- One side of an event, its begins or its ends, as it is gathered. Assumes nothing.
use Rattle.std.specs.Prelude.{◌≡◌, ℕ, ◌^◌, ◌<◌, true, false, List, [], ◌∷◌, ◌++◌, length, Some, None, Result, MatchResult, slice_index, slice_index_or}
use Rattle.trace.specs.Plain.{process_in, of_process, word, mark_refusal, first_offence, event_of}
use Rattle.trace.specs.Sound.{has, begins_of, ends_of}
use Rattle.trace.specs.declared.parts.Declared.{Declared}
use Rattle.trace.specs.declared.parts.Event.{Event}
use Rattle.trace.specs.declared.parts.Mark.{Mark}
use Rattle.trace.specs.declared.parts.Refusal.{Refusal}
use Rattle.trace.specs.declared.side.Side.{Side}

-- a set of declared delays, no two of one process
pub record Settled (ds : List Declared) (w : ℕ) : Type 0 where
  pub known : w < 2 ^ length ds
  pub apart : (d e : ℕ) → has d w ≡ true → has e w ≡ true → process_in ds d ≡ process_in ds e → d ≡ e

-- events each of which begins such a set, and ends one
pub record Settles (ds : List Declared) (es : List Event) : Type 0 where
  pub begins : (k : ℕ) → k < length es → Settled ds (slice_index (begins_of es) k)
  pub ends : (k : ℕ) → k < length es → Settled ds (slice_index (ends_of es) k)

-- a side that has taken the delays ns
pub record Tallies (ds : List Declared) (ns : List ℕ) (s : Side) : Type 0 where
  pub long : length s.processes ≡ 16
  pub word_is : s.word ≡ word ns
  pub processes_is : (q : ℕ) → q < 16 → slice_index_or s.processes q false ≡ of_process ds q ns
  pub settled : Settled ds s.word
  pub inside : (d : ℕ) → has d s.word ≡ true → of_process ds (process_in ds d) ns ≡ true

-- Taking one more delay d: refused, or tallied.
abbrev pub Takes : Refusal → List Declared → List ℕ → ℕ → Result (Unit {0}) Refusal → Side → Type 0
Takes second ds ns d r s = MatchResult r (λ _. (mark_refusal second ds ns d ≡ None) × Tallies ds (ns ++ (d ∷ [])) s) (λ f. mark_refusal second ds ns d ≡ Some f)

-- What gathering a list of marks answers.
pub record Gathered (ds : List Declared) (marks : List Mark) (e : Event) : Type 0 where
  pub passed : first_offence ds [] marks ≡ None
  pub event : e ≡ event_of marks
  pub begins : Settled ds e.begins
  pub ends : Settled ds e.ends

abbrev pub Gathers : List Declared → List Mark → Result Event Refusal → Type 0
Gathers ds marks r = MatchResult r (λ e. Gathered ds marks e) (λ f. first_offence ds [] marks ≡ Some f)
