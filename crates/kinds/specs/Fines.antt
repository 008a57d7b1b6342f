-- The fine kind keeps the rules of a kind. Assumes nothing.
use Rattle.std.specs.Prelude.{◌≡◌, ◌+◌, ◌^◌, ◌≤◌, unsigned_abs, refl}
use Rattle.std.proofs.Common.{sym, ap₂, subst₂, arith, rules}
use mathlib.Core.HLevel.{is_prop→PathP}
use Rattle.std.proofs.Math.Bridge.{le_prop}
use Rattle.std.proofs.Math.Decide.{dec_le}
use Rattle.kinds.specs.Fine.{instants, fine_place, fine_size, fine_zero, fine_added, fine_opposed, fine_gap, fine_limit, fine_weight, fine_row}
use Rattle.kinds.specs.Rules.{Rules, modest}
use Rattle.kinds.specs.declared.fine.Fine.{Fine}
use Rattle.kinds.specs.declared.fine.FineRow.{FineRow}
use Rattle.kinds.specs.Checks.{made_cases, weight_some}
use Rattle.kinds.specs.Sizes.{abs_sum, abs_neg, adds_made}

-- weights of the same ticks and hairs are equal
pub fine_path : (a b : Fine) → a.ticks ≡ b.ticks → a.hairs ≡ b.hairs → a ≡ b
fine_path a b p q = λ i. record {
  ticks = p i;
  hairs = q i;
  small = is_prop→PathP (λ j. unsigned_abs (p j) + unsigned_abs (q j) ≤ 2 ^ 60) (λ j. le_prop) a.small b.small i;
}

-- a row with a weight's parts gives that weight
pub fine_weighs : (r : FineRow) (a : Fine) → a.ticks ≡ r.ticks → a.hairs ≡ r.hairs → a ≡ fine_weight r
fine_weighs r a p q =
    weight_some (dec_le (unsigned_abs r.ticks + unsigned_abs r.hairs) (2 ^ 60)) _ _ a
    (subst₂ (λ x y. unsigned_abs x + unsigned_abs y ≤ 2 ^ 60) p q a.small) (λ h. fine_path a _ p q)

-- the fine kind keeps the rules
pub fine_keeps : Rules instants fine_place fine_size fine_zero fine_added fine_opposed fine_gap fine_limit fine_weight fine_row
fine_keeps = record {
  bounded = λ a. a.small;
  zero = record { placed = refl; sized = refl };
  sums = λ a b. adds_made instants fine_place fine_size a b _ (λ h. record {
    within = h;
    placed = refl;
    sized = omega (arith, abs_sum _ a.ticks b.ticks refl, abs_sum _ a.hairs b.hairs refl);
  });
  opposes = λ a. record { placed = refl; sized = ap₂ ◌+◌ (abs_neg _ a.ticks refl) (abs_neg _ a.hairs refl) };
  spacing_above = refl;
  spacing_modest = search rules;
  limit_modest = λ m n. made_cases _ _ _ (λ w. fine_size w ≤ modest) (λ k. tt) (λ h. omega arith);
  row_back = λ a. sym (fine_weighs (fine_row a) a refl refl);
}
