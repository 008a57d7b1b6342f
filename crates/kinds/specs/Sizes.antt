-- Sizes of integers, and what sums and opposites of weights keep. Assumes nothing.
use Rattle.std.specs.Prelude.{◌≡◌, ℕ, ◌+◌, ◌≤◌, ℤ, ◌+ℤ◌, neg_ℤ, unsigned_abs}
use Rattle.std.proofs.Math.Decide.{dec_le}
use Rattle.std.proofs.Common.{arith}
use Rattle.std.proofs.lemmas.Int.{ints}
use Rattle.kinds.specs.Checked.{some_if}
use Rattle.kinds.specs.Group.{Ordered}
use Rattle.kinds.specs.Rules.{Sums, Adds, Opposes, largest}
use Rattle.kinds.specs.Whole.{integers}
use Rattle.kinds.specs.Checks.{made_cases}

-- a sum is no larger than its parts together
pub abs_sum : (z a b : ℤ) → z ≡ a +ℤ b → unsigned_abs z ≤ unsigned_abs a + unsigned_abs b
abs_sum z a b e = omega (arith, ints)

-- an opposite is as large
pub abs_neg : (z a : ℤ) → z ≡ neg_ℤ a → unsigned_abs z ≡ unsigned_abs a
abs_neg z a e = omega (arith, ints)

-- a sum that is made where the sizes together are not too large
pub adds_made : {W C : Type 0} (group : Ordered C) (place : W → C) (size : W → ℕ) (a b : W) (made : size a + size b ≤ largest → W) → ((h : size a + size b ≤ largest) → Sums group place size a b (made h)) → Adds group place size a b (some_if (dec_le (size a + size b) largest) made)
adds_made group place size a b made s =
    made_cases (dec_le (size a + size b) largest) made _ (λ w. Sums group place size a b w) (λ n. omega arith) s

pub integer_sums : {W : Type 0} (place : W → ℤ) (a b s : W) → unsigned_abs (place a) + unsigned_abs (place b) ≤ largest → place s ≡ place a +ℤ place b → Sums integers place (λ w. unsigned_abs (place w)) a b s
integer_sums place a b s k e = record { within = k; placed = e; sized = abs_sum (place s) (place a) (place b) e }

pub integer_opposes : {W : Type 0} (place : W → ℤ) (a o : W) → place o ≡ neg_ℤ (place a) → Opposes integers place (λ w. unsigned_abs (place w)) a o
integer_opposes place a o e = record { placed = e; sized = abs_neg (place o) (place a) e }
