-- What a report says of a book: whether it is refused, and how. Assumes nothing.
use Rattle.std.specs.Prelude.{ℕ, zero, suc, Bool, List, Some, None, Ok, Err, Option, Result}
use Rattle.kinds.specs.Fine.{instants, fine_place, fine_limit}
use Rattle.kinds.specs.Twin.{twin_place, twin_limit}
use Rattle.kinds.specs.Whole.{integers, whole_place, whole_limit}
use Rattle.trace.specs.Plain.{Plain, at_most, opened}
use Rattle.book.specs.Entries.{Reads}
use Rattle.book.specs.Trailer.{kind_in}
use Rattle.book.specs.declared.fault.Refused.{Refused}

-- refused so, or not
abbrev pub answer : Option Refused → Result (Unit {0}) Refused
answer None = Ok tt
answer (Some why) = Err why

-- reading the book into an empty trace of 64 delays and 512 events of one kind is refused so, or not
abbrev pub ToldIn : {W : Type 0} → (ℕ → ℕ → Option W) → (W → W → Bool) → ℕ → List ℕ → Option Refused → Type 0
ToldIn limited leq coded book o = (q : Plain) × Reads limited leq book coded (opened 64 512) (answer o) q

-- the same in the kind of that number
abbrev pub ToldAs : ℕ → List ℕ → Option Refused → Type 0
ToldAs zero book o = ToldIn whole_limit (at_most integers whole_place) 0 book o
ToldAs (suc zero) book o = ToldIn fine_limit (at_most instants fine_place) 1 book o
ToldAs (suc (suc k)) book o = ToldIn twin_limit (at_most integers twin_place) 2 book o

-- and in the book's own kind
abbrev pub Told : List ℕ → Option Refused → Type 0
Told book o = ToldAs (kind_in book) book o
