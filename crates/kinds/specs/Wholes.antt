-- The whole kind keeps the rules of a kind. Assumes nothing.
use Rattle.std.specs.Prelude.{◌≡◌, ◌^◌, ◌≤◌, unsigned_abs, refl}
use Rattle.std.proofs.Common.{sym, subst, arith, rules}
use mathlib.Core.HLevel.{is_prop→PathP}
use Rattle.std.proofs.Math.Bridge.{le_prop}
use Rattle.std.proofs.Math.Decide.{dec_le}
use Rattle.kinds.specs.Rules.{Rules, modest}
use Rattle.kinds.specs.Whole.{integers, whole_place, whole_size, whole_zero, whole_added, whole_opposed, whole_gap, whole_limit, whole_weight, whole_row}
use Rattle.kinds.specs.declared.whole.Whole.{Whole}
use Rattle.kinds.specs.declared.whole.WholeRow.{WholeRow}
use Rattle.kinds.specs.Checks.{made_cases, weight_some}
use Rattle.kinds.specs.Sizes.{adds_made, integer_sums, integer_opposes}

-- weights of the same ticks are equal
pub whole_path : (a b : Whole) → a.ticks ≡ b.ticks → a ≡ b
whole_path a b p = λ i. record { ticks = p i; small = is_prop→PathP (λ j. unsigned_abs (p j) ≤ 2 ^ 60) (λ j. le_prop) a.small b.small i }

-- a row with a weight's ticks gives that weight
pub whole_weighs : (r : WholeRow) (a : Whole) → a.ticks ≡ r.ticks → a ≡ whole_weight r
whole_weighs r a e = weight_some (dec_le (unsigned_abs r.ticks) (2 ^ 60)) _ _ a (subst (λ z. unsigned_abs z ≤ 2 ^ 60) e a.small) (λ h. whole_path a _ e)

-- the whole kind keeps the rules
pub whole_keeps : Rules integers whole_place whole_size whole_zero whole_added whole_opposed whole_gap whole_limit whole_weight whole_row
whole_keeps = record {
  bounded = λ a. a.small;
  zero = record { placed = refl; sized = refl };
  sums = λ a b. adds_made integers whole_place whole_size a b _ (λ h. integer_sums whole_place a b _ h refl);
  opposes = λ a. integer_opposes whole_place a (whole_opposed a) refl;
  spacing_above = refl;
  spacing_modest = search rules;
  limit_modest = λ m n. made_cases _ _ _ (λ w. whole_size w ≤ modest) (λ k. tt) (λ h. omega arith);
  row_back = λ a. sym (whole_weighs (whole_row a) a refl);
}
