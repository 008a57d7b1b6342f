-- What the bytes of a book spell. Assumes nothing.
use Rattle.std.specs.Prelude.{◌≡◌, ℕ, zero, suc, ◌+◌, ◌*◌, ◌<◌, Bool, true, cond, ◌&&◌, ◌||◌, List, [], ◌∷◌, ◌++◌, Some, None, ◌==◌, nat_le, slice_index}
use Rattle.trace.specs.declared.parts.Declared.{Declared}
use Rattle.trace.specs.declared.parts.Mark.{Mark}
use Rattle.trace.specs.declared.parts.Mark.TheVariants.{Begin, End}
use Rattle.trace.specs.declared.parts.Pair.{Pair}

abbrev pub byte_at : List ℕ → ℕ → ℕ
byte_at book at = slice_index book at

-- the first n bytes of a part of a book are the book's from a place on
abbrev pub PartOf : ℕ → List ℕ → List ℕ → ℕ → Type 0
PartOf n part book at = (k : ℕ) → k < n → byte_at part k ≡ byte_at book (at + k)

-- the number of so many bytes from a place on, the first byte the highest
abbrev pub number_at : ℕ → List ℕ → ℕ → ℕ
number_at zero book at = 0
number_at (suc n) book at = number_at n book at * 256 + byte_at book (at + n)

-- A delay entry: process, upper present, two zero bytes, lower pair, upper pair.
abbrev pub pair_at : List ℕ → ℕ → Pair
pair_at book at = record { first = number_at 4 book at; second = number_at 4 book (at + 4) }

abbrev pub delay_at : List ℕ → ℕ → Declared
delay_at book at = record {
  process = byte_at book at;
  lower = pair_at book (at + 4);
  upper = cond (byte_at book (at + 1) == 1) (Some (pair_at book (at + 12))) None;
}

-- the zero bytes are zero, and an upper pair that is absent is zero too
abbrev pub delay_shaped : List ℕ → ℕ → Bool
delay_shaped book at = nat_le (byte_at book (at + 1)) 1 && number_at 2 book (at + 2) == 0 && (byte_at book (at + 1) == 1 || number_at 8 book (at + 12) == 0)

-- An event entry: a mark count, then the marks, each 0 for a begin or 1 for an end, and the delay.
abbrev pub mark_spelled : List ℕ → ℕ → Mark
mark_spelled book at = cond (byte_at book at == 0) (Begin (byte_at book (at + 1))) (End (byte_at book (at + 1)))

-- the first so many marks from a place on
abbrev pub marks_spelled : ℕ → List ℕ → ℕ → List Mark
marks_spelled zero book at = []
marks_spelled (suc n) book at = marks_spelled n book at ++ (mark_spelled book (at + 2 * n) ∷ [])

-- each of them is a begin or an end
abbrev pub marks_shaped : ℕ → List ℕ → ℕ → Bool
marks_shaped zero book at = true
marks_shaped (suc n) book at = marks_shaped n book at && nat_le (byte_at book (at + 2 * n)) 1

-- there are no more than an event may have, and each of them is a begin or an end
abbrev pub marks_fit : ℕ → List ℕ → ℕ → Bool
marks_fit n book at = nat_le n 32 && marks_shaped n book at

-- the place after an event entry
abbrev pub event_next : List ℕ → ℕ → ℕ
event_next book at = at + 1 + 2 * byte_at book at

abbrev pub event_marks : List ℕ → ℕ → List Mark
event_marks book at = marks_spelled (byte_at book at) book (at + 1)

abbrev pub event_shaped : List ℕ → ℕ → Bool
event_shaped book at = marks_fit (byte_at book at) book (at + 1)
