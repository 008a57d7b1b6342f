-- The whole kind: whole ticks, one tick for a gap. Assumes nothing.
use Rattle.std.proofs.Common.{sym, inl, inr, arith}
use Rattle.std.specs.Prelude.{ℕ, ◌+◌, ◌^◌, ℤ, pos, ◌+ℤ◌, neg_ℤ, Option, unsigned_abs}
use Rattle.std.specs.Int.Signed.{le_z}
use Rattle.std.proofs.Math.Decide.{dec_le}
use Rattle.std.proofs.lemmas.Int.{ints, by_lt_z}
use Rattle.kinds.specs.Checked.{both, some_if, weight_if}
use Rattle.kinds.specs.Group.{Ordered}
use Rattle.kinds.specs.declared.whole.Whole.{Whole}
use Rattle.kinds.specs.declared.whole.WholeRow.{WholeRow}

-- The integers, with their sum and order.
abbrev pub integers : Ordered ℤ
integers = record {
  nil = pos 0;
  sum = ◌+ℤ◌;
  neg = neg_ℤ;
  leq = le_z;
  sum_assoc = λ a b c. omega (arith, ints);
  sum_comm = λ a b. omega (arith, ints);
  sum_nil = λ a. omega (arith, ints);
  sum_neg = λ a. omega (arith, ints);
  leq_trans = λ a b c h k. sym (omega (arith, ints));
  leq_total = λ a b. by_lt_z a b (λ h. inl (sym (omega (arith, ints)))) (λ h. inr (sym (omega (arith, ints))));
  leq_antisym = λ a b h k. omega (arith, ints);
  leq_sum = λ a b c h. sym (omega (arith, ints));
}

abbrev pub whole_place : Whole → ℤ
whole_place w = w.ticks

abbrev pub whole_size : Whole → ℕ
whole_size w = unsigned_abs w.ticks

abbrev pub whole_zero : Whole
whole_zero = record { ticks = pos 0; small = omega arith }

-- The sum, where the sizes together are not too large.
abbrev pub whole_added : Whole → Whole → Option Whole
whole_added a b = some_if (dec_le (whole_size a + whole_size b) (2 ^ 60)) (λ h. record { ticks = a.ticks +ℤ b.ticks; small = omega (arith, ints) })

abbrev pub whole_opposed : Whole → Whole
whole_opposed a = record { ticks = neg_ℤ a.ticks; small = omega (arith, ints) }

-- One tick.
abbrev pub whole_gap : Whole
whole_gap = record { ticks = pos 1; small = omega arith }

-- Ticks from 0 to 1,048,576, and no second part.
abbrev pub whole_limit : ℕ → ℕ → Option Whole
whole_limit a b = some_if (both (dec_le a 1048576) (dec_le b 0)) (λ h. record { ticks = pos a; small = omega arith })

-- A row whose ticks are a weight's; any other row gives zero.
abbrev pub whole_weight : WholeRow → Whole
whole_weight r = weight_if (dec_le (unsigned_abs r.ticks) (2 ^ 60)) (λ h. record { ticks = r.ticks; small = h }) whole_zero

abbrev pub whole_row : Whole → WholeRow
whole_row w = record { ticks = w.ticks }
