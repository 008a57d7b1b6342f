-- The integers overtake. Assumes nothing.
use Rattle.std.proofs.Common.{◌≡◌, ℕ, zero, suc, true, ℤ, pos, nat_abs, sym, refl, arith}
use lib.Signed.{le_z}
use Rattle.std.proofs.lemmas.Int.{ints}
use Rattle.kinds.specs.Group.{Lt, times}
use Rattle.kinds.specs.Whole.{integers}

-- n times a positive integer is at least n
times_grows : (z : ℤ) → Lt integers (pos 0) z → (n : ℕ) → le_z (pos n) (times integers n z) ≡ true
times_grows z h zero = refl
times_grows z h (suc n) = let k = times_grows z h n in sym (omega (arith, ints))

-- z, taken |b| + 1 times, passes b
pub overtakes : (z b : ℤ) → Lt integers (pos 0) z → (n : ℕ) × Lt integers b (times integers n z)
overtakes z b h = (suc (nat_abs b), let k = times_grows z h (suc (nat_abs b)) in sym (omega (arith, ints)))
