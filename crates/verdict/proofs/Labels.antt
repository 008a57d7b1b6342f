-- What a search does to its labels and kept links. Assumes nothing.
use Rattle.std.proofs.Common.{◌≡◌, ℕ, ◌<◌, true, false, cond, eqb, List, is_some, Option, sym, refl, ap, ◌∙◌, subst, subst₂, inl, inr}
use Rattle.std.proofs.lemmas.Bool.{cases_eq, both_ways, cond-true, cond-false, eq-eqb, ne_eqb}
use Rattle.std.specs.List.{ContainsAt as Has}
use Rattle.kinds.specs.Group.{Ordered, Le, Lt}
use Rattle.kinds.specs.Laws.{le_from_eq, lt_le}
use Rattle.verdict.specs.Kept.{from_at, held_at, kept_at, Closed, kept_as, start_of}
use Rattle.verdict.specs.Label.{Real, Sound}
use Rattle.verdict.specs.declared.link.Arc.{Arc}
use Rattle.verdict.proofs.Graphs.{Slack, still_rises}
use Rattle.verdict.specs.declared.link.Origin.{Origin}

-- f, and c at v
put : {C : Type 0} → (ℕ → C) → ℕ → C → ℕ → C
put f v c x = cond (eqb x v) c (f x)

put_here : {C : Type 0} (f : ℕ → C) (v : ℕ) (c : C) (x : ℕ) → x ≡ v → put f v c x ≡ c
unfolding put
put_here f v c x e = cond-true _ _ _ (eq-eqb x v e)

put_other : {C : Type 0} (f : ℕ → C) (v : ℕ) (c : C) (x : ℕ) → (x ≡ v → ⊥) → put f v c x ≡ f x
unfolding put
put_other f v c x d = cond-false _ _ _ (ne_eqb x v d)

-- The label of the event that a link leads to is raised, and the link is kept there.
module _ {W C : Type 0} (g : Ordered C) (place : W → C) (arcs : List (Arc W)) (n : ℕ) (P P' : ℕ → C)
    (ls ms : List (Option Origin)) (a : Arc W) (among : Has arcs a) (from_in : a.link.from < n) (to_in : a.link.to < n)
    (here : P' a.link.to ≡ g.sum (P a.link.from) (place a.rise))
    (elsewhere : (x : ℕ) → (x ≡ a.link.to → ⊥) → P' x ≡ P x)
    (higher : Lt g (P a.link.to) (P' a.link.to))
    (kept : kept_at ms a.link.to ≡ kept_as a.link)
    (others : (x : ℕ) → (x ≡ a.link.to → ⊥) → kept_at ms x ≡ kept_at ls x)
    (s : Sound g place arcs n P ls) where
  pub no_lower : (x : ℕ) → Le g (P x) (P' x)
  no_lower x =
      elim (cases_eq x a.link.to) [
        | inl e ↦ subst (λ y. Le g (P y) (P' y)) (sym e) (lt_le g _ _ higher)
        | inr d ↦ le_from_eq g _ _ (sym (elsewhere x d))
      ]

  rise' : ℕ → C
  rise' = put s.rise a.link.to (place a.rise)

  rise_here : rise' a.link.to ≡ place a.rise
  unfolding rise'
  rise_here = put_here s.rise a.link.to (place a.rise) _ refl

  rise_other : (x : ℕ) → (x ≡ a.link.to → ⊥) → rise' x ≡ s.rise x
  unfolding rise'
  rise_other x d = put_other s.rise a.link.to (place a.rise) x d

  -- what holds at the link's end and at every other event holds at all
  both : (Q : ℕ → Type 0) → Q a.link.to → ((x : ℕ) → (x ≡ a.link.to → ⊥) → Q x) → (x : ℕ) → Q x
  both Q q r x = elim (cases_eq x a.link.to) [ inl e ↦ subst Q (sym e) q | inr d ↦ r x d ]

  from_here : from_at ms a.link.to ≡ a.link.from
  from_here = ap start_of kept

  held_here : held_at ms a.link.to ≡ true
  held_here = ap is_some kept

  held_other : (x : ℕ) → (x ≡ a.link.to → ⊥) → held_at ls x ≡ held_at ms x
  held_other x d = ap is_some (sym (others x d))

  from_other : (x : ℕ) → (x ≡ a.link.to → ⊥) → from_at ls x ≡ from_at ms x
  from_other x d = ap start_of (sym (others x d))

  -- the link's end, under the labels Q of its start
  given : (Q : ℕ → C) → g.sum (Q (from_at ms a.link.to)) (rise' a.link.to) ≡ g.sum (Q a.link.from) (place a.rise)
  given Q = ap (λ y. g.sum (Q y) (rise' a.link.to)) from_here ∙ ap (g.sum (Q a.link.from)) rise_here

  strict : Lt g (P a.link.to) (g.sum (P (from_at ms a.link.to)) (rise' a.link.to))
  strict = subst (Lt g (P a.link.to)) (here ∙ sym (given P)) higher

  closed' : Closed ms n
  closed' = both (λ v. v < n → from_at ms v < n) (λ p. subst (λ y. y < n) (sym from_here) from_in)
      (λ v d p. subst (λ y. y < n) (from_other v d) (s.closed v p))

  -- the labels before also keep the slack of the links after
  slack_before : Slack g ms rise' n P
  slack_before = both (λ v. v < n → held_at ms v ≡ true → Le g (P v) (g.sum (P (from_at ms v)) (rise' v)))
      (λ p h. lt_le g _ _ strict)
      (λ v d p h. subst₂ (λ y c. Le g (P v) (g.sum (P y) c)) (from_other v d) (sym (rise_other v d)) (s.slack v p (held_other v d ∙ h)))

  pub raised : Sound g place arcs n P' ms
  raised = record {
    above = λ v p. g.leq_trans _ _ _ (s.above v p) (no_lower v);
    least = λ u k. both (λ v. v < n → Le g (P' v) (u v))
        (λ p. subst (λ y. Le g y (u a.link.to)) (sym here)
        (g.leq_trans _ _ _ (g.leq_sum _ _ (place a.rise) (s.least u k a.link.from from_in)) (k.meets a among)))
        (λ v d p. subst (λ y. Le g y (u v)) (sym (elsewhere v d)) (s.least u k v p));
    root = both (λ v. v < n → held_at ms v ≡ false → P' v ≡ g.nil) (λ p h. absurd (both_ways _ h held_here))
        (λ v d p h. elsewhere v d ∙ s.root v p (held_other v d ∙ h));
    rise = rise';
    closed = closed';
    real = both (λ v. v < n → held_at ms v ≡ true → Real g place arcs v (kept_at ms v) (rise' v))
        (λ p h. record { arc = a; among = among; to = refl; is = kept; rises = rise_here })
        (λ v d p h. subst₂ (λ k c. Real g place arcs v k c) (sym (others v d)) (sym (rise_other v d)) (s.real v p (held_other v d ∙ h)));
    slack = both (λ v. v < n → held_at ms v ≡ true → Le g (P' v) (g.sum (P' (from_at ms v)) (rise' v)))
        (λ p h. subst₂ (Le g) (sym here) (sym (given P')) (g.leq_sum _ _ (place a.rise) (no_lower a.link.from)))
        (λ v d p h. subst (λ y. Le g y (g.sum (P' (from_at ms v)) (rise' v))) (sym (elsewhere v d))
        (g.leq_trans _ _ _ (slack_before v p h) (g.leq_sum _ _ (rise' v) (no_lower (from_at ms v)))));
    rises = still_rises g ls ms s.rise rise' a.link.to n P others rise_other closed' slack_before strict s.rises;
  }
