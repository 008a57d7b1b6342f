-- A function applied again and again, and the pigeonhole principle. Assumes nothing.
use Rattle.std.proofs.Common.{◌≡◌, ℕ, zero, suc, ◌+◌, ◌<◌, ◌≤◌, cond, eqb, ◌⊎◌, refl, ap, ◌∙◌, inl, inr, arith}
use Rattle.verdict.specs.Kept.{iter}
use Rattle.std.proofs.lemmas.Bool.{cases_Bool, eqb-true, eqb-false, cond-true, cond-false}

pub iter_front : (f : ℕ → ℕ) (k x : ℕ) → iter f (suc k) x ≡ iter f k (f x)
iter_front f zero x = refl
iter_front f (suc k) x = ap f (iter_front f k x)

pub iter_add : (f : ℕ → ℕ) (i j x : ℕ) → iter f (i + j) x ≡ iter f i (iter f j x)
iter_add f zero j x = let p : 0 + j ≡ j = omega arith in ap (λ n. iter f n x) p
iter_add f (suc i) j x = let p : suc i + j ≡ suc (i + j) = omega arith in ap (λ n. iter f n x) p ∙ ap f (iter_add f i j x)

pub iter_inside : (f : ℕ → ℕ) (n : ℕ) → ((v : ℕ) → v < n → f v < n) → (k x : ℕ) → x < n → iter f k x < n
iter_inside f n h zero x p = p
iter_inside f n h (suc k) x p = h (iter f k x) (iter_inside f n h k x p)

-- v, and `last` in the place of n
swap : ℕ → ℕ → ℕ → ℕ
swap n last v = cond (eqb v n) last v

swap_cases : (n last v : ℕ) → ((v ≡ n) × (swap n last v ≡ last)) ⊎ ((v ≡ n → ⊥) × (swap n last v ≡ v))
unfolding swap
swap_cases n last v =
    elim (cases_Bool (eqb v n)) [
      | inl e ↦ inl (eqb-true v n e, cond-true _ _ _ e)
      | inr e ↦ inr (eqb-false v n e, cond-false _ _ _ e)
    ]

-- values of h below n, no two the same: there are no more than n
pub pigeonhole : (n m : ℕ) (h : ℕ → ℕ) → ((i : ℕ) → i < m → h i < n) → ((i j : ℕ) → i < j → j < m → h i ≡ h j → ⊥) → m ≤ n
pigeonhole n zero h below apart = omega arith
pigeonhole zero (suc m) h below apart = let p = below 0 (omega arith) in omega arith
pigeonhole (suc n) (suc m) h below apart =
    let fewer = pigeonhole n m (λ i. swap n (h m) (h i)) under other in
    omega arith
  where
    under : (i : ℕ) → i < m → swap n (h m) (h i) < n
    under i p =
        let here = below i (omega arith) in
        let last = below m (omega arith) in
        elim (swap_cases n (h m) (h i)) [
          | inl e ↦ let d : h i ≡ h m → ⊥ = apart i m p (omega arith) in omega arith
          | inr e ↦ omega arith
        ]

    other : (i j : ℕ) → i < j → j < m → swap n (h m) (h i) ≡ swap n (h m) (h j) → ⊥
    other i j p q e =
        let one : h i ≡ h j → ⊥ = apart i j p (omega arith) in
        let two : h i ≡ h m → ⊥ = apart i m (omega arith) (omega arith) in
        let three : h j ≡ h m → ⊥ = apart j m q (omega arith) in
        elim (swap_cases n (h m) (h i)) [
          | inl a ↦ elim (swap_cases n (h m) (h j)) [ inl b ↦ one (omega arith) | inr b ↦ three (omega arith) ]
          | inr a ↦ elim (swap_cases n (h m) (h j)) [ inl b ↦ two (omega arith) | inr b ↦ one (omega arith) ]
        ]
