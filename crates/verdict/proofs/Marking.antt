-- The marks of an event, each at its process. Assumes nothing.
use Rattle.std.proofs.Common.{◌≡◌, ℕ, zero, suc, ◌+◌, ◌<◌, true, false, cond, ◌⊎◌, List, [], ◌∷◌, length, get_or, set, replicate, Some, None, Option, sym, refl, ap, ◌∙◌, subst, inl, inr, arith}
use Rattle.std.proofs.lemmas.Bool.{cases_eq, cases_Bool, cond-true, cond-false}
use Rattle.std.proofs.lemmas.List.{get_or-set_same, get_or-set_other, length-set, length-replicate, get_or-replicate}
use Rattle.std.proofs.lemmas.Option.{none-some, same_Some}
use Rattle.trace.specs.Sound.{has, process_of, Processes, begins_of, ends_of}
use Rattle.trace.specs.declared.parts.Delay.{Delay}
use Rattle.trace.specs.declared.parts.Event.{Event}
use Rattle.verdict.specs.Sweep.{marks_from, marked}

-- a mark of the process q: that of the delay j places on from i
pub record Marks {R : Type 0} (xs : List (Delay R)) (i w q d : ℕ) : Type 0 where
  pub on : ℕ
  pub is : d ≡ i + on
  pub inside : on < length xs
  pub marked : has d w ≡ true
  pub process : process_of xs on ≡ q

module _ {R : Type 0} where
  -- the list with the mark of the delay i, if it has one
  abbrev next : ℕ → Delay R → ℕ → List (Option ℕ) → List (Option ℕ)
  next i x w found = cond (has i w) (set found x.given.process (Some i)) found

  next_length : (i : ℕ) (x : Delay R) (w : ℕ) (found : List (Option ℕ)) → length (next i x w found) ≡ length found
  next_length i x w found = elim (cases_Bool (has i w)) [ inl h ↦ ap length (cond-true _ _ _ h) ∙ length-set found _ _ | inr h ↦ ap length (cond-false _ _ _ h) ]

  module _ (i : ℕ) (x : Delay R) (w q : ℕ) (found : List (Option ℕ)) where
    -- it is at its process,
    next_here : x.given.process < length found → has i w ≡ true → q ≡ x.given.process → get_or (next i x w found) q None ≡ Some i
    next_here p h s =
        ap (λ f. get_or f q None) (cond-true _ _ _ h) ∙ ap (λ k. get_or (set found x.given.process (Some i)) k None) s
        ∙ get_or-set_same found x.given.process (Some i) None p

    -- and elsewhere all is as before
    next_at : ((has i w ≡ true) × (q ≡ x.given.process)) ⊎ (get_or (next i x w found) q None ≡ get_or found q None)
    next_at = elim (cases_Bool (has i w)) [
      | inl h ↦ elim (cases_eq q x.given.process) [
        | inl s ↦ inl (h, s)
        | inr s ↦ inr (ap (λ f. get_or f q None) (cond-true _ _ _ h) ∙ get_or-set_other found x.given.process q (Some i) None s)
      ]
      | inr h ↦ inr (ap (λ f. get_or f q None) (cond-false _ _ _ h))
    ]

  -- what is found at q was found before, or is a mark of q
  found_is : (xs : List (Delay R)) (i w q d : ℕ) (found : List (Option ℕ)) → Processes (length xs) xs → length found ≡ 16
      → get_or (marks_from i xs w found) q None ≡ Some d → (get_or found q None ≡ Some d) ⊎ Marks xs i w q d
  found_is [] i w q d found ps l e = inl e
  found_is (x ∷ xs) i w q d found ps l e =
      elim (found_is xs (suc i) w q d (next i x w found) (λ j p. ps (suc j) (omega arith)) (next_length i x w found ∙ l) e) [
        | inl h ↦ elim (next_at i x w q found) [
          | inl (t, s) ↦
              let same = same_Some d i (sym h ∙ next_here i x w q found (let p = ps 0 (omega arith) in omega arith) t s) in
              inr (record { on = 0; is = omega arith; inside = omega arith; marked = subst (λ k. has k w ≡ true) (sym same) t; process = sym s })
          | inr t ↦ inl (sym t ∙ h)
        ]
        | inr m ↦ inr (record { on = suc m.on; is = let e = m.is in omega arith; inside = let p = m.inside in omega arith; marked = m.marked; process = m.process })
      ]

  -- what was found before is still there, or another mark in its place
  found_stays : (xs : List (Delay R)) (i w q d : ℕ) (found : List (Option ℕ)) → Processes (length xs) xs → length found ≡ 16
      → get_or found q None ≡ Some d → (e : ℕ) × (get_or (marks_from i xs w found) q None ≡ Some e)
  found_stays [] i w q d found ps l h = (d, h)
  found_stays (x ∷ xs) i w q d found ps l h =
      let stays = λ (d : ℕ). found_stays xs (suc i) w q d (next i x w found) (λ j p. ps (suc j) (omega arith)) (next_length i x w found ∙ l) in
      elim (next_at i x w q found) [
        | inl (t, s) ↦ stays i (next_here i x w q found (let p = ps 0 (omega arith) in omega arith) t s)
        | inr t ↦ stays d (t ∙ h)
      ]

  -- where q has a mark, one is found
  finds : (xs : List (Delay R)) (i w q j : ℕ) (found : List (Option ℕ)) → Processes (length xs) xs → length found ≡ 16
      → j < length xs → has (i + j) w ≡ true → process_of xs j ≡ q → (e : ℕ) × (get_or (marks_from i xs w found) q None ≡ Some e)
  finds [] i w q j found ps l p h e = absurd (omega arith)
  finds (x ∷ xs) i w q zero found ps l p h e =
      let t : has i w ≡ true = let z : i + 0 ≡ i = omega arith in subst (λ k. has k w ≡ true) z h in
      found_stays xs (suc i) w q i (next i x w found) (λ k r. ps (suc k) (omega arith)) (next_length i x w found ∙ l)
      (next_here i x w q found (let b = ps 0 (omega arith) in omega arith) t (sym e))
  finds (x ∷ xs) i w q (suc j) found ps l p h e =
      let z : i + suc j ≡ suc i + j = omega arith in
      finds xs (suc i) w q j (next i x w found) (λ k r. ps (suc k) (omega arith)) (next_length i x w found ∙ l) (omega arith) (subst (λ k. has k w ≡ true) z h) e

  marks_long : (xs : List (Delay R)) (i w : ℕ) (found : List (Option ℕ)) → length (marks_from i xs w found) ≡ length found
  marks_long [] i w found = refl
  marks_long (x ∷ xs) i w found = marks_long xs (suc i) w (next i x w found) ∙ next_length i x w found

  pub marked_long : (xs : List (Delay R)) (w : ℕ) → length (marked xs w) ≡ 16
  marked_long xs w = marks_long xs 0 w (replicate 16 None) ∙ length-replicate {A = Option ℕ} 16 None

  -- two marks of one process are one
  abbrev pub Single : List (Delay R) → ℕ → Type 0
  Single xs w = (d e : ℕ) → has d w ≡ true → has e w ≡ true → process_of xs d ≡ process_of xs e → d ≡ e

  module _ (xs : List (Delay R)) (w q : ℕ) (ps : Processes (length xs) xs) where
    abbrev blank : List (Option ℕ)
    blank = replicate 16 None

    long : length blank ≡ 16
    long = length-replicate {A = Option ℕ} 16 None

    pub marked_is : (d : ℕ) → q < 16 → get_or (marked xs w) q None ≡ Some d → (d < length xs) × (has d w ≡ true) × (process_of xs d ≡ q)
    marked_is d p e =
        elim (found_is xs 0 w q d blank ps long e) [
          | inl h ↦ absurd (none-some d (sym (get_or-replicate {A = Option ℕ} 16 q None None p) ∙ h))
          | inr m ↦
              let z : d ≡ m.on = let i = m.is in omega arith in
              (let r = m.inside in omega arith, m.marked, ap (process_of xs) z ∙ m.process)
        ]

    pub marked_some : (d : ℕ) → d < length xs → has d w ≡ true → process_of xs d ≡ q → (e : ℕ) × (get_or (marked xs w) q None ≡ Some e)
    marked_some d p h e = let z : d ≡ 0 + d = omega arith in finds xs 0 w q d blank ps long p (subst (λ k. has k w ≡ true) z h) e

    pub marked_finds : (d : ℕ) → Single xs w → q < 16 → d < length xs → has d w ≡ true → process_of xs d ≡ q → get_or (marked xs w) q None ≡ Some d
    marked_finds d single r p h e =
        let (f, found) = marked_some d p h e in
        let is = marked_is f r found in
        found ∙ ap Some (single f d is.1 h (is.2 ∙ sym e))

    pub marked_none : (d : ℕ) → get_or (marked xs w) q None ≡ None → d < length xs → process_of xs d ≡ q → has d w ≡ false
    marked_none d n p e = elim (cases_Bool (has d w)) [ inl h ↦ (let (f, found) = marked_some d p h e in absurd (none-some f (sym n ∙ found))) | inr h ↦ h ]

-- rows of delays with processes, and events that begin no two delays of one process, and end no two
pub record OneEach {R : Type 0} (xs : List (Delay R)) (es : List Event) : Type 0 where
  pub processes : Processes (length xs) xs
  pub begins : (k : ℕ) → k < length es → Single xs (get_or (begins_of es) k 0)
  pub ends : (k : ℕ) → k < length es → Single xs (get_or (ends_of es) k 0)
