-- The worth of two clocks: q ticks of the first, at p units each, are p ticks of the second, at q units each. Assumes nothing.
use Rattle.std.specs.Prelude.{◌≡◌, ℕ, ◌+◌, ◌-◌, ◌*◌, ◌/◌, ◌%◌, ◌≤◌, ℤ, pos, ◌+ℤ◌, ◌*ℤ◌}
use Rattle.std.proofs.Common.{◌∙◌, ap, mul_comm, mul_assoc, mul-add, arith}
use borrow.Author.Differences.{sum_is_lem}
use Rattle.std.proofs.lemmas.Nat.{div-add-mod'}
use Rattle.std.proofs.lemmas.Int.{ints}
use Rattle.kinds.specs.Worth.{worth}

scale_sum : (q : ℕ) (a b : ℤ) → pos q *ℤ (a +ℤ b) ≡ pos q *ℤ a +ℤ pos q *ℤ b
scale_sum q a b = let e = simp mul-add at (ap (λ n. q * n) (sum_is_lem a b)) in omega (arith, ints)

swap_ends : (a b c : ℕ) → a * (b * c) ≡ c * (b * a)
swap_ends a b c = mul_comm a (b * c) ∙ ap (λ n. n * a) (mul_comm b c) ∙ mul_assoc c b a

module _ (p q : ℕ) where
  -- worths add part by part
  pub worth_sum : (a b : ℕ) (j k : ℤ) → worth p q (a + b) (j +ℤ k) ≡ worth p q a j +ℤ worth p q b k
  worth_sum a b j k = rw (scale_sum q j k) (omega (arith, ints, mul-add p a b))

  -- n times q of the first part are worth n times p of the second
  pub worth_trade : (n c : ℕ) (k : ℤ) → worth p q c (k +ℤ pos (n * p)) ≡ worth p q (n * q + c) k
  worth_trade n c k = rw (scale_sum q k (pos (n * p))) (omega (arith, ints, mul-add p (n * q) c, swap_ends q n p))

  -- the normal form is worth as much
  pub worth_normal : (c : ℕ) (k : ℤ) → worth p q (c % q) (k +ℤ pos (c / q * p)) ≡ worth p q c k
  worth_normal c k = worth_trade (c / q) (c % q) k ∙ ap (λ n. worth p q n k) (div-add-mod' c q)

  -- a carry is worth as much
  pub worth_carry : (c : ℕ) (k : ℤ) → q ≤ c → worth p q (c - q) (k +ℤ pos p) ≡ worth p q c k
  worth_carry c k h =
      ap (λ n. worth p q (c - q) (k +ℤ pos n)) (omega arith) ∙ worth_trade 1 (c - q) k ∙ ap (λ n. worth p q n k) (omega arith)
