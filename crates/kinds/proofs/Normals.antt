-- A worth has one normal form, so twin weights of one worth are equal, and what is worth two weights is their sum. Assumes nothing.
use Rattle.std.specs.Prelude.{◌≡◌, ℕ, ◌+◌, ◌-◌, ◌*◌, ◌%◌, ◌^◌, ◌<◌, ◌≤◌, ℤ, pos, ◌+ℤ◌, Some, FitsSigned, unsigned_abs, refl}
use Rattle.std.specs.Int.{w64}
use Rattle.std.proofs.Common.{sym, ◌∙◌, ap, ap₂, mul_comm, mul_assoc, mul-add, add-mul, arith, to_z, of_z}
use Rattle.std.proofs.Math.Nat.{eq_of_mul-eq-mul_left}
use borrow.Author.Differences.{up, down, same_in}
use Rattle.std.proofs.lemmas.Nat.{mod-mul-add}
use Rattle.std.proofs.lemmas.Int.{ints, to_z-of_z}
use Rattle.std.proofs.Math.Decide.{dec_le}
use Rattle.kinds.specs.Checks.{made_some}
use Rattle.kinds.specs.Twin.{Carried, twin_worth, twin_place, twin_size, twin_added}
use Rattle.kinds.specs.Twins.{twin_parts, twin_sums}
use Rattle.kinds.specs.Worth.{worth, Coprime}
use Rattle.kinds.specs.Worths.{worth_sum, worth_carry}
use Rattle.kinds.specs.declared.twin.Twin.{Twin}

-- u times p is one more than v times q, so what n of p and m of q are worth, taken u times, leaves n over q
spread : (p q u v n m : ℕ) → p * u ≡ q * v + 1 → u * (p * n + q * m) ≡ (v * n + u * m) * q + n
spread p q u v n m e =
    let first : u * (p * n) ≡ (q * v + 1) * n = sym (mul_assoc u p n) ∙ ap (λ x. x * n) (mul_comm u p ∙ e) in
    let second : u * (q * m) ≡ u * m * q = ap (λ x. u * x) (mul_comm q m) ∙ sym (mul_assoc u m q) in
    omega (arith, mul-add u (p * n) (q * m), add-mul (q * v) 1 n, mul_assoc q v n, mul_comm q (v * n), add-mul (v * n) (u * m) q)

same_first : (p q a b m n : ℕ) → Coprime p q → a < q → b < q → p * a + q * m ≡ p * b + q * n → a ≡ b
same_first p q a b m n (u, v, e) h k s =
    sym (mod-mul-add (v * a + u * m) q a h)
    ∙ ap (λ x. x % q) (sym (spread p q u v a m e) ∙ ap (λ x. u * x) s ∙ spread p q u v b n e)
    ∙ mod-mul-add (v * b + u * n) q b k

-- a worth has one normal form
pub worth_unique : (p q a b : ℕ) (j k : ℤ) → Coprime p q → a < q → b < q → worth p q a j ≡ worth p q b k → (a ≡ b) × (j ≡ k)
worth_unique p q a b j k d h l e = (first, same_in j k (eq_of_mul-eq-mul_left q (omega arith) _ _ second))
  where
    parts : p * a + q * (up j + down k) ≡ p * b + q * (up k + down j)
    parts = omega (arith, ints, mul-add q (up j) (down k), mul-add q (up k) (down j))

    first : a ≡ b
    first = same_first p q a b (up j + down k) (up k + down j) d h l parts

    second : q * (up j + down k) ≡ q * (up k + down j)
    second = omega (arith, parts, ap (λ n. p * n) first)

-- 19 times 46,875 is one more than 27,832 times 32
apart : Coprime 46875 32
apart = (19, 27832, refl)

-- weights of the same worth are equal
pub twin_path : (a b : Twin) → twin_place a ≡ twin_place b → a ≡ b
twin_path a b e =
    let parts = worth_unique 46875 32 a.crystal b.crystal a.core b.core apart (omega arith) (omega arith) e in
    twin_parts a b parts.0 parts.1

-- a weight has few core cycles
pub few_cycles : (c : ℕ) (k : ℤ) → c ≤ 31 → unsigned_abs (twin_worth c k) ≤ 2 ^ 60 → unsigned_abs k ≤ 2 ^ 56
few_cycles c k h l = omega (arith, ints)

pub twin_cycles : (a : Twin) → unsigned_abs a.core ≤ 2 ^ 56
twin_cycles a = few_cycles a.crystal a.core a.normal a.small

-- so the cycles of two weights add up in 64 bits
pub cycles_sum : (a b : Twin) → to_z w64 (of_z w64 (to_z w64 (of_z w64 a.core) +ℤ to_z w64 (of_z w64 b.core))) ≡ a.core +ℤ b.core
cycles_sum a b = go a.core b.core (twin_cycles a) (twin_cycles b)
  where
    go : (j k : ℤ) → unsigned_abs j ≤ 2 ^ 56 → unsigned_abs k ≤ 2 ^ 56 → to_z w64 (of_z w64 (to_z w64 (of_z w64 j) +ℤ to_z w64 (of_z w64 k))) ≡ j +ℤ k
    go j k f g = omega (arith, ints)

-- what is worth both weights together is their sum
pub twin_adds : (a b s : Twin) → twin_size a + twin_size b ≤ 2 ^ 60 → twin_place s ≡ twin_place a +ℤ twin_place b → Some s ≡ twin_added a b
twin_adds a b s k e =
    made_some (dec_le (twin_size a + twin_size b) (2 ^ 60)) _ s k (λ h. twin_path s _ (e ∙ sym (twin_sums a b)))

-- the parts of two weights, added and then carried as r, are worth both weights together
pub twin_both : (a b : Twin) (r : ℕ × ℤ) → FitsSigned w64 r.1 → twin_worth r.0 r.1 ≡ twin_worth (a.crystal + b.crystal) (to_z w64 (of_z w64 (to_z w64 (of_z w64 a.core) +ℤ to_z w64 (of_z w64 b.core)))) → twin_worth r.0 (to_z w64 (of_z w64 r.1)) ≡ twin_place a +ℤ twin_place b
twin_both a b r fits e =
    ap (twin_worth r.0) (to_z-of_z w64 r.1 fits)
    ∙ e
    ∙ ap (twin_worth (a.crystal + b.crystal)) (cycles_sum a b)
    ∙ worth_sum 46875 32 a.crystal b.crystal a.core b.core

-- 32 crystal ticks less and 46,875 core cycles more
pub twin_carries : (c d : ℕ) (j k : ℤ) → 32 ≤ c → c < 64 → d ≡ c - 32 → j ≡ k +ℤ pos 46875 → Carried c k d j
twin_carries c d j k h l p q = record { few = omega arith; same = ap₂ twin_worth p q ∙ worth_carry 46875 32 c k h }
