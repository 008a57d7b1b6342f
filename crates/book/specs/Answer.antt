-- Answers that are refused or given. Assumes nothing.
use Rattle.std.specs.Prelude.{◌≡◌, Some, None, Option, Result, MatchResult}

-- An answer: the refusal, if there is one, and else the value.
abbrev pub Answers : {A F : Type 0} → Option F → A → Result A F → Type 0
Answers refusal x r = MatchResult r (λ y. (refusal ≡ None) × (y ≡ x)) (λ f. refusal ≡ Some f)
