-- A totally ordered commutative group. Assumes nothing.
use Rattle.std.specs.Prelude.{◌≡◌, ℕ, zero, suc, Bool, true, false, ◌⊎◌}

-- A group on C with an order that is kept by adding. `leq a b` decides that a is not above b.
pub record Ordered (C : Type 0) : Type 0 where
  pub nil : C
  pub sum : C → C → C
  pub neg : C → C
  pub leq : C → C → Bool
  pub sum_assoc : (a b c : C) → sum (sum a b) c ≡ sum a (sum b c)
  pub sum_comm : (a b : C) → sum a b ≡ sum b a
  pub sum_nil : (a : C) → sum a nil ≡ a
  pub sum_neg : (a : C) → sum a (neg a) ≡ nil
  pub leq_trans : (a b c : C) → leq a b ≡ true → leq b c ≡ true → leq a c ≡ true
  pub leq_total : (a b : C) → (leq a b ≡ true) ⊎ (leq b a ≡ true)
  pub leq_antisym : (a b : C) → leq a b ≡ true → leq b a ≡ true → a ≡ b
  pub leq_sum : (a b c : C) → leq a b ≡ true → leq (sum a c) (sum b c) ≡ true

-- a is not above b
abbrev pub Le : {C : Type 0} → Ordered C → C → C → Type 0
Le g a b = g.leq a b ≡ true

-- a is below b: b is not at or below a
abbrev pub Lt : {C : Type 0} → Ordered C → C → C → Type 0
Lt g a b = g.leq b a ≡ false

-- a added to itself, n times in all
abbrev pub times : {C : Type 0} → Ordered C → ℕ → C → C
times g zero a = g.nil
times g (suc n) a = g.sum a (times g n a)
