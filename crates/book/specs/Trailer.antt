-- The trailer: the last 16 bytes of a book, and what refuses it. Assumes nothing.
use Rattle.std.specs.Prelude.{◌≡◌, ℕ, ◌+◌, ◌-◌, ◌*◌, ◌<◌, Bool, not, ◌||◌, List, [], ◌∷◌, length, drop, codes, Option, ◌==◌, nat_lt, slice_index_or}
use Rattle.std.specs.Str.{bytes_eq}
use Rattle.trace.specs.Plain.{first_of, or_else}
use Rattle.book.specs.Layout.{byte_at, number_at, PartOf}
use Rattle.book.specs.declared.fault.Fault.{Fault}
use Rattle.book.specs.declared.fault.Fault.TheVariants.{Size, Tag, Kind, Section}
use Rattle.book.specs.declared.fault.Refused.{Refused}

abbrev pub refused : Fault → ℕ → Refused
refused fault at = record { fault = fault; place = at }

-- the trailer's place
abbrev pub start_in : List ℕ → ℕ
start_in book = length book - 16

-- the kind byte
abbrev pub kind_in : List ℕ → ℕ
kind_in book = byte_at book (length book - 4)

abbrev pub tagged : List ℕ → Bool
tagged book = bytes_eq (drop (length book - 3) book) (codes "TCB")

-- What refuses a book of whatever kind: its size, its last three bytes, its kind byte.
abbrev pub end_refusal : List ℕ → Option Refused
end_refusal book = first_of (
    (nat_lt (length book) 16 || nat_lt 34576 (length book), refused Size 0)
    ∷ (not (tagged book), refused Tag (length book - 3))
    ∷ (nat_lt 2 (kind_in book), refused Kind (length book - 4))
    ∷ [])

-- how far before the trailer the sections begin, and how many entries they have
abbrev pub delays_back : List ℕ → ℕ
delays_back book = number_at 4 book (start_in book)

abbrev pub events_back : List ℕ → ℕ
events_back book = number_at 4 book (start_in book + 4)

abbrev pub count_of_delays : List ℕ → ℕ
count_of_delays book = number_at 2 book (start_in book + 8)

abbrev pub count_of_events : List ℕ → ℕ
count_of_events book = number_at 2 book (start_in book + 10)

-- too many entries, a section that begins before the book, or delays that reach past the trailer's place
abbrev pub misplaced : List ℕ → Bool
misplaced book =
    nat_lt 64 (count_of_delays book)
    || nat_lt 512 (count_of_events book)
    || nat_lt (start_in book) (delays_back book)
    || nat_lt (start_in book) (events_back book)
    || nat_lt (delays_back book) (20 * count_of_delays book)

-- What refuses the trailer of a book that is read into a trace of the given kind.
abbrev pub trailer_refusal : ℕ → List ℕ → Option Refused
trailer_refusal kind book = or_else (end_refusal book) (first_of (
    (not (kind_in book == kind), refused Kind (length book - 4))
    ∷ (misplaced book, refused Section (start_in book))
    ∷ []))

-- the sections' places
abbrev pub delays_in : List ℕ → ℕ
delays_in book = start_in book - delays_back book

abbrev pub events_in : List ℕ → ℕ
events_in book = start_in book - events_back book

-- the list's arrays are the delay entries of a book
abbrev pub DelayEntries : List (List ℕ) → List ℕ → Type 0
DelayEntries entries book = (length entries ≡ count_of_delays book) × ((k : ℕ) → k < length entries → PartOf 20 (slice_index_or entries k []) book (delays_in book + 20 * k))
