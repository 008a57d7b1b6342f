-- Pairs of members of two groups, ordered by their first parts, and where those are equal by their second. Assumes nothing.
use Rattle.std.specs.Prelude.{◌≡◌, Bool, true, false, cond, ◌⊎◌, refl}
use Rattle.std.proofs.Common.{sym, ◌∙◌, ap, subst, inl, inr}
use Rattle.std.proofs.Math.Path.{Σ_path}
use Rattle.std.proofs.lemmas.Bool.{both_ways}
use Rattle.kinds.specs.Group.{Ordered, Le, Lt}
use Rattle.kinds.specs.Laws.{cases_order, le_from_eq, lt_le, lt_le_lt, lt_sum}

-- The operations: sums and opposites go part by part.
abbrev pub pair_sum : {A B : Type 0} → Ordered A → Ordered B → A × B → A × B → A × B
pair_sum g h p q = (g.sum p.0 q.0, h.sum p.1 q.1)

abbrev pub pair_neg : {A B : Type 0} → Ordered A → Ordered B → A × B → A × B
pair_neg g h p = (g.neg p.0, h.neg p.1)

-- The first parts decide, unless each is at most the other: then the second parts do.
abbrev pub pair_leq : {A B : Type 0} → Ordered A → Ordered B → A × B → A × B → Bool
pair_leq g h p q = cond (g.leq q.0 p.0) (cond (g.leq p.0 q.0) (h.leq p.1 q.1) false) true

-- The laws, from those of the two groups.
module _ {A B : Type 0} (g : Ordered A) (h : Ordered B) where
  -- p is at most q: its first part is below, or is the same and the second is at most the other
  abbrev pub AtMost : A × B → A × B → Type 0
  AtMost p q = Lt g p.0 q.0 ⊎ ((p.0 ≡ q.0) × Le h p.1 q.1)

  pub at_most_in : (p q : A × B) → AtMost p q → pair_leq g h p q ≡ true
  at_most_in p q (inl k) = rw k refl
  at_most_in p q (inr (e, k)) = rw (le_from_eq g q.0 p.0 (sym e), le_from_eq g p.0 q.0 e) k

  pub at_most_out : (p q : A × B) → pair_leq g h p q ≡ true → AtMost p q
  at_most_out p q = go (cases_order g p.0 q.0)
    where
      go : Lt g p.0 q.0 ⊎ (Lt g q.0 p.0 ⊎ (p.0 ≡ q.0)) → pair_leq g h p q ≡ true → AtMost p q
      go (inl k) l = inl k
      go (inr (inl k)) l = absurd (both_ways _ refl (rw (lt_le g q.0 p.0 k, k) at l))
      go (inr (inr e)) l = inr (e, rw (le_from_eq g q.0 p.0 (sym e), le_from_eq g p.0 q.0 e) at l)

  pub pair_trans : (p q r : A × B) → pair_leq g h p q ≡ true → pair_leq g h q r ≡ true → pair_leq g h p r ≡ true
  pair_trans p q r k l = at_most_in p r (go (at_most_out p q k) (at_most_out q r l))
    where
      go : AtMost p q → AtMost q r → AtMost p r
      go (inl k) (inl l) = inl (lt_le_lt g _ _ _ k (lt_le g _ _ l))
      go (inl k) (inr (e, l)) = inl (lt_le_lt g _ _ _ k (le_from_eq g _ _ e))
      go (inr (d, k)) (inl l) = inl (subst (λ x. Lt g x r.0) (sym d) l)
      go (inr (d, k)) (inr (e, l)) = inr (d ∙ e, h.leq_trans _ _ _ k l)

  pub pair_total : (p q : A × B) → (pair_leq g h p q ≡ true) ⊎ (pair_leq g h q p ≡ true)
  pair_total p q = go (cases_order g p.0 q.0) (h.leq_total p.1 q.1)
    where
      go : Lt g p.0 q.0 ⊎ (Lt g q.0 p.0 ⊎ (p.0 ≡ q.0)) → Le h p.1 q.1 ⊎ Le h q.1 p.1 → (pair_leq g h p q ≡ true) ⊎ (pair_leq g h q p ≡ true)
      go (inl k) l = inl (at_most_in p q (inl k))
      go (inr (inl k)) l = inr (at_most_in q p (inl k))
      go (inr (inr e)) (inl l) = inl (at_most_in p q (inr (e, l)))
      go (inr (inr e)) (inr l) = inr (at_most_in q p (inr (sym e, l)))

  pub pair_antisym : (p q : A × B) → pair_leq g h p q ≡ true → pair_leq g h q p ≡ true → p ≡ q
  pair_antisym p q k l = go (at_most_out p q k) (at_most_out q p l)
    where
      go : AtMost p q → AtMost q p → p ≡ q
      go (inl k) (inl l) = absurd (both_ways _ k (lt_le g _ _ l))
      go (inl k) (inr (e, l)) = absurd (both_ways _ k (le_from_eq g _ _ e))
      go (inr (d, k)) (inl l) = absurd (both_ways _ l (le_from_eq g _ _ d))
      go (inr (d, k)) (inr (e, l)) = Σ_path d (h.leq_antisym _ _ k l)

  pub pair_adds : (p q r : A × B) → pair_leq g h p q ≡ true → pair_leq g h (pair_sum g h p r) (pair_sum g h q r) ≡ true
  pair_adds p q r k = at_most_in _ _ (go (at_most_out p q k))
    where
      go : AtMost p q → AtMost (pair_sum g h p r) (pair_sum g h q r)
      go (inl k) = inl (lt_sum g _ _ r.0 k)
      go (inr (e, k)) = inr (ap (λ x. g.sum x r.0) e, h.leq_sum _ _ r.1 k)

-- The group of pairs.
abbrev pub lex : {A B : Type 0} → Ordered A → Ordered B → Ordered (A × B)
lex g h = record {
  nil = (g.nil, h.nil);
  sum = pair_sum g h;
  neg = pair_neg g h;
  leq = pair_leq g h;
  sum_assoc = λ p q r. Σ_path (g.sum_assoc p.0 q.0 r.0) (h.sum_assoc p.1 q.1 r.1);
  sum_comm = λ p q. Σ_path (g.sum_comm p.0 q.0) (h.sum_comm p.1 q.1);
  sum_nil = λ p. Σ_path (g.sum_nil p.0) (h.sum_nil p.1);
  sum_neg = λ p. Σ_path (g.sum_neg p.0) (h.sum_neg p.1);
  leq_trans = pair_trans g h;
  leq_total = pair_total g h;
  leq_antisym = pair_antisym g h;
  leq_sum = pair_adds g h;
}
