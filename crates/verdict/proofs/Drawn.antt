-- The links that the machines draw are those of the matches. Assumes nothing.
use Rattle.std.proofs.Common.{◌≡◌, ℕ, zero, suc, ◌<◌, ◌≤◌, true, eqb, ◌⊎◌, List, [], ◌∷◌, map, length, get_or, drop, replicate, Some, None, Option, sym, refl, ap, ◌∙◌, subst, inl, inr, arith}
use Rattle.std.proofs.ByRecursion.{has_append_left, has_append_right, has_append_cases}
use Rattle.std.proofs.lemmas.List.{length-replicate, length-drop, get_or-replicate}
use Rattle.std.proofs.lemmas.Bool.{cases_eq, cases_Bool, eqb-true, eq-eqb, cond-true, cond-false}
use Rattle.std.proofs.lemmas.Simd.{length-zip2, get_or-zip2}
use Rattle.std.proofs.lemmas.Option.{none-some, same_Some}
use Rattle.std.specs.List.{filter_map, cons_option, ContainsAt as Has}
use Rattle.kinds.specs.declared.kind.Kind.{Ghosts}
use Rattle.trace.specs.Matching.{Quiet, Matches}
use Rattle.trace.specs.Sound.{has, process_of, begins_of, ends_of}
use Rattle.trace.specs.declared.parts.Delay.{Delay}
use Rattle.trace.specs.declared.parts.Event.{Event}
use Rattle.verdict.specs.Machine.{after, matching}
use Rattle.verdict.specs.Sweep.{marked, marks, ended, afters, gap_arc, limit_arc, limits, limits_at, waits_after, arcs_from, arcs_of}
use Rattle.verdict.specs.declared.link.Arc.{Arc}
use Rattle.verdict.specs.declared.machine.Match.{Match}
use Rattle.verdict.specs.declared.machine.Wait.{Wait}
use Rattle.verdict.specs.declared.machine.Wait.TheVariants.{Idle, Open}
use Rattle.verdict.specs.declared.marks.Marks.{Marks}
use Rattle.verdict.specs.declared.links.Limit.{Limit}
use Rattle.verdict.specs.declared.links.Limit.TheVariants.{Least, Most}
use Rattle.verdict.proofs.Marking.{Single, OneEach, marked_is, marked_finds, marked_long}
use Rattle.verdict.proofs.Sweeping.{has_here, has_later, has_cases}
use Rattle.verdict.proofs.Waits.{same_process, opened, Opens, Knows, takes}

has_none : {X : Type 0} (x : X) → Has [] x → ⊥
has_none x (k, p, e) = omega arith

-- what a function gives of the elements of a list
cons_has : {X : Type 0} (o : Option X) (xs : List X) (x : X) → Has (cons_option o xs) x → (o ≡ Some x) ⊎ Has xs x
cons_has None xs x h = inr h
cons_has (Some y) xs x h = elim (has_cases y x xs h) [ inl e ↦ inl (ap Some e) | inr k ↦ inr k ]

has_cons : {X : Type 0} (o : Option X) (xs : List X) (x : X) → o ≡ Some x → Has (cons_option o xs) x
has_cons o xs x e = subst (λ p. Has (cons_option p xs) x) (sym e) (has_here x xs)

has_past : {X : Type 0} (o : Option X) (xs : List X) (x : X) → Has xs x → Has (cons_option o xs) x
has_past None xs x h = h
has_past (Some y) xs x h = has_later y x xs h

filter_map_has : {X Y : Type 0} (f : X → Option Y) (xs : List X) (d : X) (y : Y) → Has (filter_map f xs) y → (i : ℕ) × (i < length xs) × (f (get_or xs i d) ≡ Some y)
filter_map_has f [] d y h = absurd (has_none y h)
filter_map_has f (x ∷ xs) d y h =
    elim (cons_has (f x) (filter_map f xs) y h) [
      | inl e ↦ (0, omega arith, e)
      | inr k ↦ (let (i, p, e) = filter_map_has f xs d y k in (suc i, omega arith, e))
    ]

has_filter_map : {X Y : Type 0} (f : X → Option Y) (xs : List X) (d : X) (y : Y) (i : ℕ) → i < length xs → f (get_or xs i d) ≡ Some y → Has (filter_map f xs) y
has_filter_map f [] d y i p e = absurd (omega arith)
has_filter_map f (x ∷ xs) d y zero p e = has_cons (f x) (filter_map f xs) y e
has_filter_map f (x ∷ xs) d y (suc i) p e = has_past (f x) (filter_map f xs) y (has_filter_map f xs d y i (omega arith) e)

-- an end matches what is open, if it is of the same delay
matching_is : (w : Wait) (e : Option ℕ) (m : Match) → matching w e ≡ Some m → (w ≡ Open m) × (e ≡ Some m.delay)
matching_is Idle e m h = absurd (none-some m h)
matching_is (Open n) None m h = absurd (none-some m h)
matching_is (Open n) (Some d) m h =
    elim (cases_Bool (eqb n.delay d)) [
      | inl t ↦
          let s : n ≡ m = same_Some n m (sym (cond-true _ _ _ t) ∙ h) in
          (ap Open s, ap Some (sym (eqb-true n.delay d t) ∙ ap (λ x. x.delay) s))
      | inr t ↦ absurd (none-some m (sym (cond-false _ _ _ t) ∙ h))
    ]

matching_finds : (w : Wait) (e : Option ℕ) (m : Match) → w ≡ Open m → e ≡ Some m.delay → matching w e ≡ Some m
matching_finds w e m p q = ap (λ x. matching x e) p ∙ ap (matching (Open m)) q ∙ cond-true _ _ _ (eq-eqb m.delay m.delay refl)

abbrev unmarked : Marks
unmarked = record { end = None; begin = None }

-- what the lists of a process each hold for the process q
module _ {R : Type 0} (xs : List (Delay R)) (e : Event) where
  pub marks_long : length (marks xs e) ≡ 16
  marks_long = length-zip2 _ _ _ (marked_long xs e.ends ∙ sym (marked_long xs e.begins)) ∙ marked_long xs e.ends

  marks_at : (q : ℕ) → q < 16 → get_or (marks xs e) q unmarked ≡ record { end = get_or (marked xs e.ends) q None; begin = get_or (marked xs e.begins) q None }
  marks_at q p = get_or-zip2 _ _ _ q None None unmarked (omega (arith, marked_long xs e.ends)) (omega (arith, marked_long xs e.begins))

  module _ (ws : List Wait) (h : length ws ≡ 16) where
    pub afters_long : (k : ℕ) → length (afters k ws (marks xs e)) ≡ 16
    afters_long k = length-zip2 _ _ _ (h ∙ sym marks_long) ∙ h

    afters_at : (k q : ℕ) → q < 16 → get_or (afters k ws (marks xs e)) q Idle ≡ after (get_or ws q Idle) (get_or (marked xs e.ends) q None) (get_or (marked xs e.begins) q None) k
    afters_at k q p = get_or-zip2 _ _ _ q Idle unmarked Idle (omega arith) (omega (arith, marks_long)) ∙ ap (λ m. after (get_or ws q Idle) m.end m.begin k) (marks_at q p)

    pub ended_long : length (ended ws (marks xs e)) ≡ 16
    ended_long = length-zip2 _ _ _ (h ∙ sym marks_long) ∙ h

    ended_at : (q : ℕ) → q < 16 → get_or (ended ws (marks xs e)) q None ≡ matching (get_or ws q Idle) (get_or (marked xs e.ends) q None)
    ended_at q p = get_or-zip2 _ _ _ q Idle unmarked None (omega arith) (omega (arith, marks_long)) ∙ ap (λ m. matching (get_or ws q Idle) m.end) (marks_at q p)

-- the event k, and the events after it
record Here (es : List Event) (k : ℕ) (e : Event) (rest : List Event) : Type 0 where
  inside : k < length es
  begins : get_or (begins_of es) k 0 ≡ e.begins
  ends : get_or (ends_of es) k 0 ≡ e.ends
  next : drop (suc k) es ≡ rest

here : (es : List Event) (k : ℕ) (e : Event) (rest : List Event) → drop k es ≡ e ∷ rest → Here es k e rest
here [] k e rest h = absurd (let l = sym (length-drop k []) ∙ ap length h in omega arith)
here (x ∷ es) zero e rest h = record {
  inside = omega arith;
  begins = ap (λ l. get_or (begins_of l) 0 0) h;
  ends = ap (λ l. get_or (ends_of l) 0 0) h;
  next = ap (drop 1) h;
}
here (x ∷ es) (suc k) e rest h =
    let t = here es k e rest h in
    record { inside = let p = t.inside in omega arith; begins = t.begins; ends = t.ends; next = t.next }

module _ {W R : Type 0} (kind : Ghosts W R) (xs : List (Delay R)) (on : List ℕ) where
  abbrev arc_of : Limit → ℕ → Option Match → Option (Arc W)
  arc_of l k m = limit_arc kind xs on l k m

  abbrev drawn_by : Limit → ℕ → List Wait → List (Option ℕ) → ℕ → Option (Arc W)
  drawn_by l k ws es q = arc_of l k (matching (get_or ws q Idle) (get_or es q None))

  -- the limits at an event, process by process
  module _ (k : ℕ) (ws : List Wait) (long : length ws ≡ 16) (e : Event) (a : Arc W) where
    abbrev over : List (Option Match)
    over = ended ws (marks xs e)

    limits_has : (l : Limit) → Has (limits kind xs on l k over) a → (q : ℕ) × (q < 16) × (drawn_by l k ws (marked xs e.ends) q ≡ Some a)
    limits_has l h =
        let (q, p, d) = filter_map_has (arc_of l k) over None a h in
        let few : q < 16 = let s = ended_long xs e ws long in omega arith in
        (q, few, ap (arc_of l k) (sym (ended_at xs e ws long q few)) ∙ d)

    has_limits : (l : Limit) (q : ℕ) → q < 16 → drawn_by l k ws (marked xs e.ends) q ≡ Some a → Has (limits kind xs on l k over) a
    has_limits l q p d = has_filter_map (arc_of l k) over None a q (let s = ended_long xs e ws long in omega arith) (ap (arc_of l k) (ended_at xs e ws long q p) ∙ d)

    limits_at_has : Has (limits_at kind xs on k ws e) a → (l : Limit) × ((q : ℕ) × (q < 16) × (drawn_by l k ws (marked xs e.ends) q ≡ Some a))
    limits_at_has h = elim (has_append_cases (limits kind xs on Least k over) _ a h) [ inl p ↦ (Least, limits_has Least p) | inr p ↦ (Most, limits_has Most p) ]

    has_limits_at : (l : Limit) (q : ℕ) → q < 16 → drawn_by l k ws (marked xs e.ends) q ≡ Some a → Has (limits_at kind xs on k ws e) a
    has_limits_at Least q p d = has_append_left _ _ a (has_limits Least q p d)
    has_limits_at Most q p d = has_append_right (limits kind xs on Least k over) _ a (has_limits Most q p d)

  module _ (es : List Event) (one : OneEach xs es) where
    -- the waits of all processes before the event k
    record Ready (k : ℕ) (ws : List Wait) : Type 0 where
      long : length ws ≡ 16
      knows : (q : ℕ) → q < 16 → Knows xs es q k (get_or ws q Idle)

    step : (k : ℕ) (ws : List Wait) (e : Event) (rest : List Event) → Here es k e rest → Ready k ws → Ready (suc k) (waits_after xs k ws e)
    step k ws e rest h r = record {
      long = afters_long xs e ws r.long k;
      knows = λ q p. subst (Knows xs es q (suc k)) (sym (afters_at xs e ws r.long k q p))
          (takes xs es one.processes q k p (one.begins k h.inside) (get_or ws q Idle) _ _
          (ap (λ w. get_or (marked xs w) q None) h.ends) (ap (λ w. get_or (marked xs w) q None) h.begins) (r.knows q p));
    }

    -- a match of the delay d from j to k, and the link of one of its limits
    pub record Limited (a : Arc W) : Type 0 where
      pub limit : Limit
      pub delay : ℕ
      pub begin : ℕ
      pub end : ℕ
      pub declared : delay < length xs
      pub matches : Matches (map (λ x. x.given) xs) es delay begin end
      pub arc : limit_arc kind xs on limit end (Some (record { delay = delay; since = begin })) ≡ Some a

    pub record Gapped (a : Arc W) : Type 0 where
      pub event : ℕ
      pub later : 0 < event
      pub inside : event < length es
      pub arc : gap_arc kind event ≡ a

    matched : (k : ℕ) (ws : List Wait) (e : Event) (rest : List Event) → Here es k e rest → Ready k ws → (l : Limit) (q : ℕ) (a : Arc W) → q < 16
        → drawn_by l k ws (marked xs e.ends) q ≡ Some a → Limited a
    matched k ws e rest h r l q a p d = go (matching (get_or ws q Idle) (get_or (marked xs e.ends) q None)) refl
      where
        go : (o : Option Match) → matching (get_or ws q Idle) (get_or (marked xs e.ends) q None) ≡ o → Limited a
        go None t = absurd (none-some a (ap (arc_of l k) (sym t) ∙ d))
        go (Some m) t =
            let (w, f) = matching_is _ _ m t in
            let o = (r.knows q p).is m w in
            let i = marked_is xs e.ends q one.processes m.delay p f in
            record {
              limit = l;
              delay = m.delay;
              begin = m.since;
              end = k;
              declared = i.0;
              matches = record {
                later = o.before;
                noted = h.inside;
                begins = o.begins;
                ends = ap (λ w. has m.delay w) h.ends ∙ i.1;
                between = λ x b c. subst (λ y. Quiet (map (λ x. x.given) xs) es y x) (sym (same_process xs m.delay ∙ i.2)) (o.quiet x b c);
              };
              arc = ap (arc_of l k) (sym t) ∙ d;
            }

    from_drawn : (k : ℕ) (ws : List Wait) (rest : List Event) → 0 < k → drop k es ≡ rest → Ready k ws → (a : Arc W)
        → Has (arcs_from kind xs on k ws rest) a → Gapped a ⊎ Limited a
    from_drawn k ws [] o h r a p = absurd (has_none a p)
    from_drawn k ws (e ∷ rest) o h r a p =
        let t = here es k e rest h in
        elim (has_cases (gap_arc kind k) a _ p) [
          | inl s ↦ inl (record { event = k; later = o; inside = t.inside; arc = s })
          | inr s ↦ elim (has_append_cases (limits_at kind xs on k ws e) _ a s) [
            | inl u ↦ (let (l, (q, b, d)) = limits_at_has k ws r.long e a u in inr (matched k ws e rest t r l q a b d))
            | inr u ↦ from_drawn (suc k) _ rest (omega arith) t.next (step k ws e rest t r) a u
          ]
        ]

    -- the process of a match that ends at k draws its links
    draws : (k : ℕ) (ws : List Wait) (e : Event) (rest : List Event) → Here es k e rest → Ready k ws → (a : Arc W) (m : Limited a) → m.end ≡ k
        → Has (limits_at kind xs on k ws e) a
    draws k ws e rest h r a m s =
        let d = m.delay in
        let q = process_of xs d in
        let few = one.processes d m.declared in
        let match : Match = record { delay = d; since = m.begin } in
        let opens : Opens xs es q d m.begin k = record {
          before = let p = m.matches.later in omega arith;
          process = refl;
          begins = m.matches.begins;
          quiet = λ i b c. subst (λ y. Quiet (map (λ x. x.given) xs) es y i) (same_process xs d) (m.matches.between i b (omega arith));
        } in
        let ends : has d e.ends ≡ true = sym (ap (λ x. has d (get_or (ends_of es) x 0)) s ∙ ap (λ w. has d w) h.ends) ∙ m.matches.ends in
        let single : Single xs e.ends = subst (Single xs) h.ends (one.ends k h.inside) in
        has_limits_at k ws r.long e a m.limit q few
        (ap (arc_of m.limit k) (matching_finds _ _ match ((r.knows q few).has d m.begin opens) (marked_finds xs e.ends q one.processes d single few m.declared ends refl))
        ∙ ap (λ x. arc_of m.limit x (Some match)) (sym s) ∙ m.arc)

    to_drawn : (k : ℕ) (ws : List Wait) (rest : List Event) → drop k es ≡ rest → Ready k ws → (a : Arc W) (m : Limited a) → k ≤ m.end
        → Has (arcs_from kind xs on k ws rest) a
    to_drawn k ws [] h r a m p = absurd (let l = sym (length-drop k es) ∙ ap length h in let q = m.matches.noted in omega arith)
    to_drawn k ws (e ∷ rest) h r a m p =
        let t = here es k e rest h in
        elim (cases_eq m.end k) [
          | inl s ↦ has_later _ a _ (has_append_left (limits_at kind xs on k ws e) _ a (draws k ws e rest t r a m s))
          | inr s ↦ has_later _ a _ (has_append_right (limits_at kind xs on k ws e) _ a (to_drawn (suc k) _ rest t.next (step k ws e rest t r) a m (omega arith)))
        ]

    to_gaps : (k : ℕ) (ws : List Wait) (rest : List Event) → drop k es ≡ rest → (i : ℕ) → k ≤ i → i < length es
        → Has (arcs_from kind xs on k ws rest) (gap_arc kind i)
    to_gaps k ws [] h i p q = absurd (let l = sym (length-drop k es) ∙ ap length h in omega arith)
    to_gaps k ws (e ∷ rest) h i p q =
        let t = here es k e rest h in
        elim (cases_eq i k) [
          | inl s ↦ subst (λ j. Has (arcs_from kind xs on k ws (e ∷ rest)) (gap_arc kind j)) (sym s) (has_here _ _)
          | inr s ↦ has_later _ _ _ (has_append_right (limits_at kind xs on k ws e) _ _ (to_gaps (suc k) _ rest t.next i (omega arith) q))
        ]

    -- before the first event no process has anything open
    idle : Ready 0 (replicate 16 Idle)
    idle = record {
      long = length-replicate {A = Wait} 16 Idle;
      knows = λ q p. record {
        has = λ d j o. absurd (let l = o.before in omega arith);
        is = λ m e. absurd (never m (sym (get_or-replicate {A = Wait} 16 q Idle Idle p) ∙ e));
      };
    }
      where
        never : (m : Match) → Idle ≡ Open m → ⊥
        never m e = none-some m (ap opened e)

module _ {W R : Type 0} (kind : Ghosts W R) (xs : List (Delay R)) (on : List ℕ) where
  -- the links of a trace are those of neighbours and of matches,
  pub drawn : (es : List Event) (one : OneEach xs es) (a : Arc W) → Has (arcs_of kind xs on es) a
      → Gapped kind xs on es one a ⊎ Limited kind xs on es one a
  drawn [] one a h = absurd (has_none a h)
  drawn (x ∷ es) one a h =
      from_drawn kind xs on (x ∷ es) one 1 _ es (omega arith) refl
      (step kind xs on (x ∷ es) one 0 (replicate 16 Idle) x es (here (x ∷ es) 0 x es refl) (idle kind xs on (x ∷ es) one)) a h

  -- and no others: each match of a delay draws,
  pub draws_limit : (es : List Event) (one : OneEach xs es) (a : Arc W) → Limited kind xs on es one a
      → Has (arcs_of kind xs on es) a
  draws_limit [] one a m = absurd (let p = m.matches.noted in omega arith)
  draws_limit (x ∷ es) one a m =
      to_drawn kind xs on (x ∷ es) one 1 _ es refl
      (step kind xs on (x ∷ es) one 0 (replicate 16 Idle) x es (here (x ∷ es) 0 x es refl) (idle kind xs on (x ∷ es) one)) a m
      (let p = m.matches.later in omega arith)

  -- and so do neighbours
  pub draws_gap : (es : List Event) (one : OneEach xs es) (i : ℕ) → suc i < length es
      → Has (arcs_of kind xs on es) (gap_arc kind (suc i))
  draws_gap [] one i p = absurd (omega arith)
  draws_gap (x ∷ es) one i p = to_gaps kind xs on (x ∷ es) one 1 _ es refl (suc i) (omega arith) p
