-- What follows from the laws of an ordered group. Assumes nothing.
use Rattle.std.specs.Prelude.{◌≡◌, ◌⊎◌}
use Rattle.std.proofs.Common.{◌∙◌, ap, subst, subst₂, inl, inr}
use Rattle.std.proofs.lemmas.Bool.{both_ways, cases_Bool}
use Rattle.kinds.specs.Group.{Ordered, Le, Lt}

module _ {C : Type 0} (g : Ordered C) where
  pub le_refl : (a : C) → Le g a a
  le_refl a = elim (g.leq_total a a) [ inl h ↦ h | inr h ↦ h ]

  pub le_from_eq : (a b : C) → a ≡ b → Le g a b
  le_from_eq a b e = subst (Le g a) e (le_refl a)

  pub lt_le_lt : (a b c : C) → Lt g a b → Le g b c → Lt g a c
  lt_le_lt a b c h k =
      elim (cases_Bool (g.leq c a)) [ inl l ↦ absurd (both_ways _ h (g.leq_trans b c a k l)) | inr l ↦ l ]

  pub lt_le : (a b : C) → Lt g a b → Le g a b
  lt_le a b h = elim (g.leq_total a b) [ inl k ↦ k | inr k ↦ absurd (both_ways _ h k) ]

  -- a is below b, or above, or the same
  pub cases_order : (a b : C) → Lt g a b ⊎ (Lt g b a ⊎ (a ≡ b))
  cases_order a b =
      elim (cases_Bool (g.leq b a)) [
        | inl k ↦ elim (cases_Bool (g.leq a b)) [ inl l ↦ inr (inr (g.leq_antisym a b l k)) | inr l ↦ inr (inl l) ]
        | inr k ↦ inl k
      ]

  pub sum_back : (a c : C) → g.sum (g.sum a c) (g.neg c) ≡ a
  sum_back a c = g.sum_assoc a c (g.neg c) ∙ ap (g.sum a) (g.sum_neg c) ∙ g.sum_nil a

  pub lt_sum : (a b c : C) → Lt g a b → Lt g (g.sum a c) (g.sum b c)
  lt_sum a b c h =
      elim (cases_Bool (g.leq (g.sum b c) (g.sum a c))) [
        | inl k ↦ absurd (both_ways _ h (subst₂ (Le g) (sum_back b c) (sum_back a c) (g.leq_sum _ _ (g.neg c) k)))
        | inr k ↦ k
      ]
