-- When a begin and an end of a delay match. Assumes nothing.
use Rattle.std.specs.Prelude.{◌≡◌, ℕ, ◌<◌, Bool, true, false, List, length, slice_index}
use Rattle.trace.specs.Plain.{process_in}
use Rattle.trace.specs.Sound.{has, begins_of, ends_of}
use Rattle.trace.specs.declared.parts.Declared.{Declared}
use Rattle.trace.specs.declared.parts.Event.{Event}

-- whether the event k begins, or ends, the delay d
abbrev pub begins_at : List Event → ℕ → ℕ → Bool
begins_at es k d = has d (slice_index (begins_of es) k)

abbrev pub ends_at : List Event → ℕ → ℕ → Bool
ends_at es k d = has d (slice_index (ends_of es) k)

-- the event k has no mark of the process q
abbrev pub Quiet : List Declared → List Event → ℕ → ℕ → Type 0
Quiet ds es q k = (d : ℕ) → process_in ds d ≡ q → (begins_at es k d ≡ false) × (ends_at es k d ≡ false)

-- The begin of the delay d at the event j matches its end at a later event k: no event between them has a mark of d's process.
pub record Matches (ds : List Declared) (es : List Event) (d j k : ℕ) : Type 0 where
  pub later : j < k
  pub noted : k < length es
  pub begins : begins_at es j d ≡ true
  pub ends : ends_at es k d ≡ true
  pub between : (i : ℕ) → j < i → i < k → Quiet ds es (process_in ds d) i
