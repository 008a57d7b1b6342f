-- The fine kind: ticks with hairs, one hair for a gap. Assumes nothing.
use Rattle.std.specs.Prelude.{ℕ, ◌+◌, ◌^◌, ℤ, pos, ◌+ℤ◌, neg_ℤ, Option, unsigned_abs}
use Rattle.std.proofs.Common.{arith}
use Rattle.std.proofs.Math.Decide.{dec_le}
use Rattle.std.proofs.lemmas.Int.{ints}
use Rattle.kinds.specs.Checked.{both, some_if, weight_if}
use Rattle.kinds.specs.Group.{Ordered}
use Rattle.kinds.specs.Lex.{lex}
use Rattle.kinds.specs.Whole.{integers}
use Rattle.kinds.specs.declared.fine.Fine.{Fine}
use Rattle.kinds.specs.declared.fine.FineRow.{FineRow}

-- Pairs of integers: ticks decide, and hairs where the ticks are equal.
abbrev pub instants : Ordered (ℤ × ℤ)
instants = lex integers integers

abbrev pub fine_place : Fine → ℤ × ℤ
fine_place w = (w.ticks, w.hairs)

abbrev pub fine_size : Fine → ℕ
fine_size w = unsigned_abs w.ticks + unsigned_abs w.hairs

abbrev pub fine_zero : Fine
fine_zero = record { ticks = pos 0; hairs = pos 0; small = omega arith }

-- The sum part by part, where the sizes together are not too large.
abbrev pub fine_added : Fine → Fine → Option Fine
fine_added a b =
    some_if (dec_le (fine_size a + fine_size b) (2 ^ 60))
    (λ h. record { ticks = a.ticks +ℤ b.ticks; hairs = a.hairs +ℤ b.hairs; small = omega (arith, ints) })

abbrev pub fine_opposed : Fine → Fine
fine_opposed a = record { ticks = neg_ℤ a.ticks; hairs = neg_ℤ a.hairs; small = omega (arith, ints) }

-- One hair.
abbrev pub fine_gap : Fine
fine_gap = record { ticks = pos 0; hairs = pos 1; small = omega arith }

-- Ticks from 0 to 1,048,576, and no second part: a limit has no hairs.
abbrev pub fine_limit : ℕ → ℕ → Option Fine
fine_limit a b = some_if (both (dec_le a 1048576) (dec_le b 0)) (λ h. record { ticks = pos a; hairs = pos 0; small = omega arith })

-- A row whose parts are a weight's; any other row gives zero.
abbrev pub fine_weight : FineRow → Fine
fine_weight r = weight_if (dec_le (unsigned_abs r.ticks + unsigned_abs r.hairs) (2 ^ 60)) (λ h. record { ticks = r.ticks; hairs = r.hairs; small = h }) fine_zero

abbrev pub fine_row : Fine → FineRow
fine_row w = record { ticks = w.ticks; hairs = w.hairs }
