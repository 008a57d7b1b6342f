-- A row whose parts are no weight's gives zero. Assumes nothing.
use Rattle.std.specs.Prelude.{◌≡◌, ◌+◌, ◌^◌, ◌<◌, ◌≤◌, pos, unsigned_abs}
use Rattle.std.proofs.Common.{arith}
use Rattle.std.proofs.Math.Decide.{dec_le}
use Rattle.kinds.specs.Checked.{both, weight_if}
use Rattle.kinds.specs.Fine.{fine_weight}
use Rattle.kinds.specs.Fines.{fine_path}
use Rattle.kinds.specs.Twin.{twin_worth, twin_zero, twin_weight}
use Rattle.kinds.specs.Whole.{whole_weight}
use Rattle.kinds.specs.Wholes.{whole_path}
use Rattle.kinds.specs.declared.fine.Fine.{Fine}
use Rattle.kinds.specs.declared.fine.FineRow.{FineRow}
use Rattle.kinds.specs.declared.twin.Twin.{Twin}
use Rattle.kinds.specs.declared.twin.TwinRow.{TwinRow}
use Rattle.kinds.specs.declared.whole.Whole.{Whole}
use Rattle.kinds.specs.declared.whole.WholeRow.{WholeRow}

pub weight_none : {P W : Type 0} (d : Dec P) (made : P → W) (zero w : W) → ¬ P → w ≡ zero → w ≡ weight_if d made zero
weight_none (yes h) made zero w n e = absurd (n h)
weight_none (no h) made zero w n e = e

-- a row with too many ticks gives zero
pub whole_refuses : (r : WholeRow) (a : Whole) → a.ticks ≡ pos 0 → 2 ^ 60 < unsigned_abs r.ticks → a ≡ whole_weight r
whole_refuses r a e k = weight_none (dec_le (unsigned_abs r.ticks) (2 ^ 60)) _ _ a (λ h. omega arith) (whole_path a _ e)

-- a row with too many ticks and hairs gives zero
pub fine_refuses : (r : FineRow) (a : Fine) → a.ticks ≡ pos 0 → a.hairs ≡ pos 0 → 2 ^ 60 < unsigned_abs r.ticks + unsigned_abs r.hairs → a ≡ fine_weight r
fine_refuses r a p q k =
    weight_none (dec_le (unsigned_abs r.ticks + unsigned_abs r.hairs) (2 ^ 60)) _ _ a (λ h. omega arith) (fine_path a _ p q)

-- a row with too many crystal ticks, or worth too much, gives zero
pub twin_refuses : (r : TwinRow) (a : Twin) → a ≡ twin_zero → ¬ ((r.crystal ≤ 31) × (unsigned_abs (twin_worth r.crystal r.core) ≤ 2 ^ 60)) → a ≡ twin_weight r
twin_refuses r a e n =
    weight_none (both (dec_le r.crystal 31) (dec_le (unsigned_abs (twin_worth r.crystal r.core)) (2 ^ 60))) _ _ a n e
