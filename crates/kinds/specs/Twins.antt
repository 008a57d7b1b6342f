-- The twin kind keeps the rules of a kind. Assumes nothing.
use Rattle.std.specs.Prelude.{◌≡◌, ◌+◌, ◌/◌, ◌%◌, ◌*◌, ◌^◌, ◌≤◌, pos, ◌+ℤ◌, unsigned_abs, refl}
use Rattle.std.proofs.Common.{sym, ◌∙◌, ap, subst₂, arith, rules}
use mathlib.Core.HLevel.{is_prop→PathP}
use Rattle.std.proofs.Math.Bridge.{le_prop}
use Rattle.std.proofs.Math.Decide.{dec_le}
use Rattle.kinds.specs.Checked.{both}
use Rattle.kinds.specs.Rules.{Rules, modest}
use Rattle.kinds.specs.Twin.{twin_worth, twin_place, twin_size, twin_zero, twin_added, twin_opposed, twin_gap, twin_limit, twin_weight, twin_row, twin_turned}
use Rattle.kinds.specs.Whole.{integers}
use Rattle.kinds.specs.declared.twin.Twin.{Twin}
use Rattle.kinds.specs.declared.twin.TwinRow.{TwinRow}
use Rattle.kinds.specs.Checks.{made_cases, weight_some}
use Rattle.kinds.specs.Sizes.{adds_made, integer_sums, integer_opposes}
use Rattle.kinds.specs.Worths.{worth_sum, worth_normal}

-- weights of the same parts are equal
pub twin_parts : (a b : Twin) → a.crystal ≡ b.crystal → a.core ≡ b.core → a ≡ b
twin_parts a b p q = λ i. record {
  crystal = p i;
  core = q i;
  normal = is_prop→PathP (λ j. p j ≤ 31) (λ j. le_prop) a.normal b.normal i;
  small = is_prop→PathP (λ j. unsigned_abs (twin_worth (p j) (q j)) ≤ 2 ^ 60) (λ j. le_prop) a.small b.small i;
}

-- a row with a weight's parts gives that weight
pub twin_weighs : (r : TwinRow) (a : Twin) → a.crystal ≡ r.crystal → a.core ≡ r.core → a ≡ twin_weight r
twin_weighs r a p q =
    weight_some (both (dec_le r.crystal 31) (dec_le (unsigned_abs (twin_worth r.crystal r.core)) (2 ^ 60))) _ _ a
    (omega arith, subst₂ (λ c k. unsigned_abs (twin_worth c k) ≤ 2 ^ 60) p q a.small)
    (λ h. twin_parts a _ p q)

-- the sum's normal form is worth both weights together
pub twin_sums : (a b : Twin) → twin_worth ((a.crystal + b.crystal) % 32) (a.core +ℤ b.core +ℤ pos ((a.crystal + b.crystal) / 32 * 46875)) ≡ twin_place a +ℤ twin_place b
twin_sums a b =
    worth_normal 46875 32 (a.crystal + b.crystal) (a.core +ℤ b.core)
    ∙ worth_sum 46875 32 a.crystal b.crystal a.core b.core

-- the twin kind keeps the rules
pub twin_keeps : Rules integers twin_place twin_size twin_zero twin_added twin_opposed twin_gap twin_limit twin_weight twin_row
twin_keeps = record {
  bounded = λ a. a.small;
  zero = record { placed = refl; sized = refl };
  sums = λ a b. adds_made integers twin_place twin_size a b _ (λ h. integer_sums twin_place a b _ h (twin_sums a b));
  opposes = λ a. integer_opposes twin_place a (twin_opposed a) (twin_turned a.crystal a.core a.normal);
  spacing_above = refl;
  spacing_modest = search rules;
  limit_modest = λ m n. made_cases _ _ _ (λ w. twin_size w ≤ modest) (λ k. tt) (λ h. omega (arith, ap unsigned_abs (worth_normal 46875 32 m (pos n))));
  row_back = λ a. sym (twin_weighs (twin_row a) a refl refl);
}
