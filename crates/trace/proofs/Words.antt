-- Sets of delays as words. Assumes nothing.
use Rattle.std.proofs.Common.{◌≡◌, ℕ, ◌/◌, ◌%◌, ◌^◌, ◌<◌, ◌≤◌, max, true, false, eqb, ◌≢◌, ◌⊎◌, sym, ap, ◌∙◌, inl, inr, arith, pow_pos, pow_mono}
use native.Mathlib.Nat.{div-eq_of_lt}
use lib.Bits.{bit_or, or_shr, or_step}
use Rattle.std.proofs.lemmas.Nat.Bits.{bit_at-pow_same, bit_at-pow_other}
use Rattle.std.proofs.lemmas.Bool.{cases_lt, cases_eq, eq-eqb, both_ways}
use Rattle.trace.specs.Sound.{has}

-- a word below 2 ^ n has only members below n
pub has_below : (d n w : ℕ) → w < 2 ^ n → has d w ≡ true → d < n
has_below d n w h e = go (cases_lt d n)
  where
    none : n ≤ d → has d w ≡ false
    none k =
        let p : 2 ^ n ≤ 2 ^ d = pow_mono k in
        let z : w / 2 ^ d ≡ 0 = div-eq_of_lt (omega arith) in
        ap (λ x. eqb (x % 2) 1) z

    go : (d < n) ⊎ (n ≤ d) → d < n
    go (inl k) = k
    go (inr k) = absurd (both_ways (has d w) (none k) e)

-- the empty set
pub has_none : (d : ℕ) → has d 0 ≡ false
has_none d = ap (λ x. eqb (x % 2) 1) (div-eq_of_lt (pow_pos d))

-- the bit of a joined set
bit_or_lem : (a b : ℕ) → bit_or a b % 2 ≡ max (a % 2) (b % 2)
bit_or_lem a b = rw (or_step a b) (omega arith)

-- a set with d has d
pub has_added : (d w : ℕ) → has d (bit_or w (2 ^ d)) ≡ true
has_added d w = eq-eqb _ _ (ap (λ x. x % 2) (or_shr w (2 ^ d) d) ∙ bit_or_lem (w / 2 ^ d) (2 ^ d / 2 ^ d) ∙ omega (arith, bit_at-pow_same d))

-- and of every other member what it had
pub has_other : (d e w : ℕ) → e ≢ d → has e (bit_or w (2 ^ d)) ≡ has e w
has_other d e w h = ap (λ x. eqb x 1) (ap (λ x. x % 2) (or_shr w (2 ^ d) e) ∙ bit_or_lem (w / 2 ^ e) (2 ^ d / 2 ^ e) ∙ omega (arith, bit_at-pow_other d e h))

-- a member of a set with d is d, or was in the set
pub has_either : (d e w : ℕ) → has e (bit_or w (2 ^ d)) ≡ true → (e ≡ d) ⊎ (has e w ≡ true)
has_either d e w h = go (cases_eq e d)
  where
    go : (e ≡ d) ⊎ (e ≡ d → ⊥) → (e ≡ d) ⊎ (has e w ≡ true)
    go (inl k) = inl k
    go (inr k) = inr (sym (has_other d e w k) ∙ h)
