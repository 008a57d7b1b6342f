-- The kinds that a book can be of. Assumes nothing.
use Rattle.std.specs.Prelude.{◌≡◌, ℕ, ◌<◌, List, Some, None, Result, MatchResult}
use Rattle.book.specs.Trailer.{kind_in, end_refusal}
use Rattle.book.specs.declared.fault.Fault.{Fault}
use Rattle.book.specs.declared.fault.Fault.TheVariants.{Kind}
use Rattle.book.specs.declared.fault.Refused.{Refused}
use Rattle.book.specs.declared.kind.BookKind.{BookKind}
use Rattle.book.specs.declared.kind.BookKind.TheVariants.{Whole, Fine, Twin}

abbrev pub number_of : BookKind → ℕ
number_of Whole = 0
number_of Fine = 1
number_of Twin = 2

-- the kind of a number, or that no kind has it
abbrev pub Numbered : ℕ → Result BookKind Fault → Type 0
Numbered n r = MatchResult r (λ kind. number_of kind ≡ n) (λ f. (2 < n) × (f ≡ Kind))

-- The kind whose number is the kind byte, or what refuses a book of whatever kind.
abbrev pub OfKind : List ℕ → Result BookKind Refused → Type 0
OfKind book r = MatchResult r (λ kind. (end_refusal book ≡ None) × (number_of kind ≡ kind_in book)) (λ f. end_refusal book ≡ Some f)
