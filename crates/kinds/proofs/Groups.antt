-- More of what follows from the laws of an ordered group. Assumes nothing.
use Rattle.std.proofs.Common.{◌≡◌, sym, ap, ◌∙◌, subst, subst₂, inl, inr}
use Rattle.std.proofs.lemmas.Bool.{both_ways, cases_Bool}
use Rattle.kinds.specs.Group.{Ordered, Le, Lt}
use Rattle.kinds.specs.Laws.{lt_sum, lt_le_lt, sum_back}

module _ {C : Type 0} (g : Ordered C) where
  pub le_lt_lt : (a b c : C) → Le g a b → Lt g b c → Lt g a c
  le_lt_lt a b c h k =
      elim (cases_Bool (g.leq c a)) [ inl l ↦ absurd (both_ways _ k (g.leq_trans c a b l h)) | inr l ↦ l ]

  pub lt_not_le : (a b : C) → Lt g a b → Le g b a → ⊥
  lt_not_le a b h k = both_ways _ h k

  pub nil_sum : (a : C) → g.sum g.nil a ≡ a
  nil_sum a = g.sum_comm g.nil a ∙ g.sum_nil a

  pub le_sum_left : (a b c : C) → Le g a b → Le g (g.sum c a) (g.sum c b)
  le_sum_left a b c h = subst₂ (Le g) (g.sum_comm a c) (g.sum_comm b c) (g.leq_sum a b c h)

  pub le_both : (a b c d : C) → Le g a b → Le g c d → Le g (g.sum a c) (g.sum b d)
  le_both a b c d h k = g.leq_trans _ (g.sum b c) _ (g.leq_sum a b c h) (le_sum_left c d b k)

  -- what is added to a makes it larger
  pub lt_grown : (a x : C) → Lt g a (g.sum a x) → Lt g g.nil x
  lt_grown a x h =
      elim (cases_Bool (g.leq x g.nil)) [
        | inl k ↦ absurd (both_ways _ h (subst (Le g (g.sum a x)) (g.sum_nil a) (le_sum_left x g.nil a k)))
        | inr k ↦ k
      ]

  pub le_grows : (a x : C) → Le g g.nil x → Le g a (g.sum a x)
  le_grows a x h = subst (λ y. Le g y (g.sum a x)) (g.sum_nil a) (le_sum_left g.nil x a h)

  regroup : (z c s : C) → g.sum (g.sum z c) s ≡ g.sum z (g.sum c s)
  regroup z c s = g.sum_assoc z c s

  -- one link more at the far end of a walk
  pub le_hop : (x y z c s : C) → Le g x (g.sum y s) → Le g y (g.sum z c) → Le g x (g.sum z (g.sum c s))
  le_hop x y z c s h k = subst (Le g x) (regroup z c s) (g.leq_trans x (g.sum y s) (g.sum (g.sum z c) s) h (g.leq_sum y (g.sum z c) s k))

  pub lt_hop : (x y z c s : C) → Lt g x (g.sum y s) → Le g y (g.sum z c) → Lt g x (g.sum z (g.sum c s))
  lt_hop x y z c s h k = subst (Lt g x) (regroup z c s) (lt_le_lt g x (g.sum y s) (g.sum (g.sum z c) s) h (g.leq_sum y (g.sum z c) s k))

  pub hop_lt : (x y z c s : C) → Le g x (g.sum y s) → Lt g y (g.sum z c) → Lt g x (g.sum z (g.sum c s))
  hop_lt x y z c s h k = subst (Lt g x) (regroup z c s) (le_lt_lt x (g.sum y s) (g.sum (g.sum z c) s) h (lt_sum g y (g.sum z c) s k))

  neg_unique : (a b : C) → g.sum a b ≡ g.nil → b ≡ g.neg a
  neg_unique a b h =
      sym (nil_sum b) ∙ ap (λ y. g.sum y b) (sym (g.sum_neg a) ∙ g.sum_comm a (g.neg a)) ∙ g.sum_assoc (g.neg a) a b
      ∙ ap (g.sum (g.neg a)) h ∙ g.sum_nil (g.neg a)

  pub neg_nil : g.neg g.nil ≡ g.nil
  neg_nil = sym (neg_unique g.nil g.nil (g.sum_nil g.nil))

  pub neg_sum : (a b : C) → g.neg (g.sum a b) ≡ g.sum (g.neg a) (g.neg b)
  neg_sum a b = sym (neg_unique (g.sum a b) (g.sum (g.neg a) (g.neg b)) (
      ap (g.sum (g.sum a b)) (g.sum_comm (g.neg a) (g.neg b)) ∙ g.sum_assoc a b (g.sum (g.neg b) (g.neg a))
      ∙ ap (g.sum a) (sym (g.sum_assoc b (g.neg b) (g.neg a)) ∙ ap (λ y. g.sum y (g.neg a)) (g.sum_neg b) ∙ nil_sum (g.neg a))
      ∙ g.sum_neg a))

  -- the opposite of what is above zero is below it
  pub neg_below : (a : C) → Lt g g.nil a → Lt g (g.neg a) g.nil
  neg_below a h = subst₂ (Lt g) (nil_sum (g.neg a)) (g.sum_neg a) (lt_sum g g.nil a (g.neg a) h)

  pub neg_neg : (a : C) → g.neg (g.neg a) ≡ a
  neg_neg a = sym (neg_unique (g.neg a) a (g.sum_comm (g.neg a) a ∙ g.sum_neg a))

  -- a summand moved to the other side
  pub le_move : (a c b : C) → Le g (g.sum a c) b → Le g a (g.sum b (g.neg c))
  le_move a c b h = subst (λ y. Le g y (g.sum b (g.neg c))) (sum_back g a c) (g.leq_sum _ _ (g.neg c) h)

  pub le_back : (a c b : C) → Le g a (g.sum b c) → Le g (g.sum a (g.neg c)) b
  le_back a c b h = subst (Le g (g.sum a (g.neg c))) (sum_back g b c) (g.leq_sum _ _ (g.neg c) h)
