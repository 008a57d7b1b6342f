-- The kept links of a search: cycles among them rise, and without a cycle the way back is short. Assumes nothing.
use Rattle.std.proofs.Common.{◌≡◌, ℕ, zero, suc, ◌+◌, ◌-◌, ◌<◌, ◌≤◌, true, false, ◌⊎◌, List, is_some, Option, sym, refl, ap, ◌∙◌, subst, inl, inr, arith}
use Rattle.std.proofs.lemmas.Bool.{cases_eq, both_ways}
use Rattle.kinds.specs.Group.{Ordered, Le, Lt}
use Rattle.kinds.specs.Laws.{le_from_eq}
use Rattle.verdict.specs.Kept.{iter, from_at, held_at, kept_at, Along, Closed, Grounded, start_of}
use Rattle.verdict.specs.Label.{gain}
use Rattle.kinds.proofs.Groups.{le_hop, lt_hop, hop_lt, lt_grown}
use Rattle.verdict.proofs.Iters.{iter_front, iter_add, iter_inside, pigeonhole}
use Rattle.verdict.specs.declared.link.Origin.{Origin}

module _ {C : Type 0} (g : Ordered C) where
  -- no label is above what the link into its event gives
  abbrev pub Slack : List (Option Origin) → (ℕ → C) → ℕ → (ℕ → C) → Type 0
  Slack ls rise n P = (v : ℕ) → v < n → held_at ls v ≡ true → Le g (P v) (g.sum (P (from_at ls v)) (rise v))

  -- every cycle rises
  abbrev pub Rises : List (Option Origin) → (ℕ → C) → ℕ → Type 0
  Rises ls rise n = (x k : ℕ) → x < n → Along ls x (suc k) → iter (from_at ls) (suc k) x ≡ x → Lt g g.nil (gain g (from_at ls) rise x (suc k))

  pub telescope : (ls : List (Option Origin)) (rise : ℕ → C) (n : ℕ) (P : ℕ → C) → Closed ls n → Slack ls rise n P
      → (x k : ℕ) → x < n → Along ls x k → Le g (P x) (g.sum (P (iter (from_at ls) k x)) (gain g (from_at ls) rise x k))
  telescope ls rise n P closed slack x zero p along = le_from_eq g _ _ (sym (g.sum_nil (P x)))
  telescope ls rise n P closed slack x (suc k) p along =
      le_hop g _ _ _ _ _ (telescope ls rise n P closed slack x k p (λ j q. along j (omega arith)))
      (slack _ (iter_inside (from_at ls) n closed k x p) (along k (omega arith)))

  -- the way back from x, as far as k links, is the same in both
  pub record Same (ls ms : List (Option Origin)) (rise rise' : ℕ → C) (x k : ℕ) : Type 0 where
    pub at : iter (from_at ms) k x ≡ iter (from_at ls) k x
    pub sum : gain g (from_at ms) rise' x k ≡ gain g (from_at ls) rise x k
    pub along : Along ls x k

  -- The links ms are ls with another link into v, which P did not meet.
  module _ (ls ms : List (Option Origin)) (rise rise' : ℕ → C) (v n : ℕ) (P : ℕ → C)
      (others : (x : ℕ) → (x ≡ v → ⊥) → kept_at ms x ≡ kept_at ls x)
      (other_rises : (x : ℕ) → (x ≡ v → ⊥) → rise' x ≡ rise x)
      (closed : Closed ms n) (slack : Slack ms rise' n P)
      (strict : Lt g (P v) (g.sum (P (from_at ms v)) (rise' v))) where
    way : (x k : ℕ) → x < n → Along ms x k → Same ls ms rise rise' x k ⊎ Lt g (P x) (g.sum (P (iter (from_at ms) k x)) (gain g (from_at ms) rise' x k))
    way x zero p along = inl (record { at = refl; sum = refl; along = λ j q. absurd (none j q) })
      where
        none : (j : ℕ) → j < 0 → ⊥
        none j q = omega arith
    way x (suc k) p along =
        let short : Along ms x k = λ j q. along j (omega arith) in
        let y = iter (from_at ms) k x in
        let inside = iter_inside (from_at ms) n closed k x p in
        let held = along k (omega arith) in
        elim (cases_eq y v) [
          | inl e ↦ inr (hop_lt g _ _ _ _ _ (telescope ms rise' n P closed slack x k p short)
              (subst (λ w. Lt g (P w) (g.sum (P (from_at ms w)) (rise' w))) (sym e) strict))
          | inr d ↦ elim (way x k p short) [
            | inl same ↦ inl (record {
              at = ap start_of (others y d) ∙ ap (from_at ls) same.at;
              sum = ap (λ a. g.sum a (gain g (from_at ms) rise' x k)) (other_rises y d ∙ ap rise same.at) ∙ ap (g.sum (rise (iter (from_at ls) k x))) same.sum;
              along = λ j q. elim (cases_eq j k) [
                | inl e ↦ subst (λ i. held_at ls (iter (from_at ls) i x) ≡ true) (sym e) (ap (held_at ls) (sym same.at) ∙ sym (ap is_some (others y d)) ∙ held)
                | inr n ↦ same.along j (omega arith)
              ];
            })
            | inr less ↦ inr (lt_hop g _ _ _ _ _ less (slack y inside held))
          ]
        ]

    -- a cycle now runs through v and rises, or it was there before
    pub still_rises : Rises ls rise n → Rises ms rise' n
    still_rises rises x k p along closes =
        elim (way x (suc k) p along) [
          | inl same ↦ subst (Lt g g.nil) (sym same.sum) (rises x k p same.along (sym same.at ∙ closes))
          | inr less ↦ lt_grown g (P x) _ (subst (λ y. Lt g (P x) (g.sum (P y) (gain g (from_at ms) rise' x (suc k)))) closes less)
        ]

  -- the way back, told from its first link on
  pub gain_front : (from : ℕ → ℕ) (rise : ℕ → C) (x k : ℕ) → gain g from rise x (suc k) ≡ g.sum (gain g from rise (from x) k) (rise x)
  gain_front from rise x zero = g.sum_comm (rise x) g.nil
  gain_front from rise x (suc k) =
      ap (λ y. g.sum (rise y) (gain g from rise x (suc k))) (iter_front from k x)
      ∙ ap (g.sum (rise (iter from k (from x)))) (gain_front from rise x k)
      ∙ sym (g.sum_assoc _ _ _)

-- an event that has no link after k links back has none again before
apart : (ls : List (Option Origin)) (x : ℕ) (w : Grounded ls x) (i j : ℕ) → i < j → j ≤ w.links → iter (from_at ls) i x ≡ iter (from_at ls) j x → ⊥
apart ls x w i j p q e =
    let rest = w.links - j in
    let f = from_at ls in
    let early : iter f (rest + i) x ≡ iter f (rest + j) x = iter_add f rest i x ∙ ap (iter f rest) e ∙ sym (iter_add f rest j x) in
    let last : rest + j ≡ w.links = omega arith in
    let end : held_at ls (iter f (rest + i) x) ≡ false = ap (held_at ls) (early ∙ ap (λ m. iter f m x) last) ∙ w.ends in
    both_ways _ end (w.along (rest + i) (omega arith))

-- the way back to an event without a link passes no event twice
pub grounded_short : (ls : List (Option Origin)) (n x : ℕ) → Closed ls n → x < n → (w : Grounded ls x) → w.links < n
grounded_short ls n x closed p w =
    let few = pigeonhole n (suc w.links) (λ i. iter (from_at ls) i x) (λ i q. iter_inside (from_at ls) n closed i x p)
    (λ i j a b e. apart ls x w i j a (omega arith) e) in
    omega arith
