-- The twin kind: crystal ticks and core cycles, one core cycle for a gap. Assumes nothing.
use Rattle.std.specs.Prelude.{◌≡◌, ℕ, ◌+◌, ◌-◌, ◌*◌, ◌/◌, ◌%◌, ◌^◌, ◌≤◌, ℤ, pos, ◌+ℤ◌, ◌-ℤ◌, neg_ℤ, Option, unsigned_abs}
use Rattle.std.proofs.Common.{arith}
use Rattle.std.proofs.Math.Decide.{dec_le}
use Rattle.std.proofs.lemmas.Int.{ints}
use Rattle.kinds.specs.Checked.{both, some_if, weight_if}
use Rattle.kinds.specs.Worth.{worth}
use Rattle.kinds.specs.declared.twin.Twin.{Twin}
use Rattle.kinds.specs.declared.twin.TwinRow.{TwinRow}

-- A crystal tick is worth 46,875 units, and a core cycle 32.
abbrev pub twin_worth : ℕ → ℤ → ℤ
twin_worth c k = worth 46875 32 c k

-- d and j are worth as much as c and k, with fewer than 32 crystal ticks
pub record Carried (c : ℕ) (k : ℤ) (d : ℕ) (j : ℤ) : Type 0 where
  pub few : d ≤ 31
  pub same : twin_worth d j ≡ twin_worth c k

abbrev pub twin_place : Twin → ℤ
twin_place w = twin_worth w.crystal w.core

abbrev pub twin_size : Twin → ℕ
twin_size w = unsigned_abs (twin_place w)

abbrev pub twin_zero : Twin
twin_zero = record { crystal = 0; core = pos 0; normal = omega arith; small = omega arith }

-- The sum part by part, with every 32 crystal ticks as 46,875 core cycles, where the sizes together are not too large.
abbrev pub twin_added : Twin → Twin → Option Twin
twin_added a b =
    some_if (dec_le (twin_size a + twin_size b) (2 ^ 60))
    (λ h. record {
      crystal = (a.crystal + b.crystal) % 32;
      core = a.core +ℤ b.core +ℤ pos ((a.crystal + b.crystal) / 32 * 46875);
      normal = omega arith;
      small = omega (arith, ints);
    })

-- the parts of the opposite are worth the opposite
pub twin_turned : (c : ℕ) (k : ℤ) → c ≤ 31 → twin_worth ((32 - c) % 32) (neg_ℤ k -ℤ pos ((c + 31) / 32 * 46875)) ≡ neg_ℤ (twin_worth c k)
twin_turned c k h = let whole : (32 - c) % 32 + c ≡ (c + 31) / 32 * 32 = omega arith in omega (arith, ints)

-- Crystal ticks filled up to 32, unless there are none, with 46,875 core cycles taken off for the 32.
abbrev pub twin_opposed : Twin → Twin
twin_opposed a = record {
  crystal = (32 - a.crystal) % 32;
  core = neg_ℤ a.core -ℤ pos ((a.crystal + 31) / 32 * 46875);
  normal = omega arith;
  small = omega (arith, ints, twin_turned a.crystal a.core a.normal);
}

-- One core cycle.
abbrev pub twin_gap : Twin
twin_gap = record { crystal = 0; core = pos 1; normal = omega arith; small = omega arith }

-- Crystal ticks and core cycles from 0 to 1,048,576 each, with every 32 crystal ticks as 46,875 core cycles.
abbrev pub twin_limit : ℕ → ℕ → Option Twin
twin_limit a b =
    some_if (both (dec_le a 1048576) (dec_le b 1048576))
    (λ h. record { crystal = a % 32; core = pos (b + a / 32 * 46875); normal = omega arith; small = omega arith })

-- A row whose parts are a weight's; any other row gives zero.
abbrev pub twin_weight : TwinRow → Twin
twin_weight r =
    weight_if (both (dec_le r.crystal 31) (dec_le (unsigned_abs (twin_worth r.crystal r.core)) (2 ^ 60)))
    (λ h. record { crystal = r.crystal; core = r.core; normal = h.0; small = h.1 })
    twin_zero

abbrev pub twin_row : Twin → TwinRow
twin_row w = record { crystal = w.crystal; core = w.core }
