-- All links of a trace, event by event. Assumes nothing.
use Rattle.std.proofs.Common.{◌≡◌, ℕ, zero, suc, ◌+◌, ◌-◌, ◌<◌, ◌≤◌, Bool, true, false, cond, eqb, List, [], ◌∷◌, ◌++◌, length, map, get_or, drop, replicate, IfSome, Some, None, Option, refl, ap, ◌∙◌, subst, append_assoc, add-one, arith, drop-cons}
use Rattle.std.proofs.ByRecursion.{has_append_right}
use Rattle.std.specs.List.{slice_get, cons_option, ContainsAt as Has}
use Rattle.std.specs.Option.{option_map, option_and_then}
use Rattle.kinds.specs.declared.kind.Kind.{Ghosts}
use Rattle.trace.specs.declared.parts.Delay.{Delay}
use Rattle.trace.specs.declared.parts.Event.{Event}
use Rattle.verdict.specs.Edge.{Inside, Neighbour}
use Rattle.verdict.specs.Machine.{matching, after}
use Rattle.verdict.proofs.Sweeping.{has_here}
use Rattle.verdict.specs.Schedule.{switched}
use Rattle.verdict.specs.Sweep.{afters, ended, marks, present, gap_arc, limit_of, limit_arc, limits, limits_at, waits_after, arcs_from, arcs_of}
use Rattle.verdict.specs.declared.link.Arc.{Arc}
use Rattle.verdict.specs.declared.link.Bound.TheVariants.{Upper}
use Rattle.verdict.specs.declared.links.Limit.{Limit}
use Rattle.verdict.specs.declared.links.Limit.TheVariants.{Least, Most}
use Rattle.verdict.specs.declared.machine.Match.{Match}
use Rattle.verdict.specs.declared.marks.Marks.{Marks}
use Rattle.verdict.specs.declared.machine.Wait.{Wait}
use Rattle.verdict.specs.declared.machine.Wait.TheVariants.{Idle, Open}

-- what a process has open began before k
Before : ℕ → Wait → Type 0
Before k Idle = Unit {0}
Before k (Open m) = m.since < k

AllBefore : ℕ → List Wait → Type 0
unfolding Before
AllBefore k [] = Unit {0}
AllBefore k (w ∷ ws) = Before k w × AllBefore k ws

after_before : (k : ℕ) (w : Wait) (e b : Option ℕ) → Before k w → Before (suc k) (after w e b k)
unfolding Before
after_before k Idle None None h = tt
after_before k (Open m) None None h = omega arith
after_before k w (Some e) None h = tt
after_before k w None (Some b) h = omega arith
after_before k w (Some e) (Some b) h = omega arith

afters_before : (k : ℕ) (ws : List Wait) (ms : List Marks) → AllBefore k ws → AllBefore (suc k) (afters k ws ms)
unfolding AllBefore
afters_before k [] ms h = tt
afters_before k (w ∷ ws) [] h = tt
afters_before k (w ∷ ws) (m ∷ ms) h = (after_before k w m.end m.begin h.0, afters_before k ws ms h.1)

idle_before : (k n : ℕ) → AllBefore k (replicate n Idle)
unfolding Before AllBefore
idle_before k zero = tt
idle_before k (suc n) = (tt, idle_before k n)

-- a match of what a process has open began before k
MatchBefore : ℕ → Option Match → Type 0
MatchBefore k None = Unit {0}
MatchBefore k (Some m) = m.since < k

match_before : (k : ℕ) (w : Wait) (e : Option ℕ) → Before k w → MatchBefore k (matching w e)
unfolding Before MatchBefore
match_before k Idle e h = tt
match_before k (Open m) None h = tt
match_before k (Open m) (Some d) h = go (eqb m.delay d)
  where
    go : (b : Bool) → MatchBefore k (cond b (Some m) None)
    go true = h
    go false = tt

inside_append : {W : Type 0} (n : ℕ) (ps qs : List (Arc W)) → Inside n ps → Inside n qs → Inside n (ps ++ qs)
inside_append n [] qs h k = k
inside_append n (a ∷ ps) qs h k = (h.0, h.1, inside_append n ps qs h.2 k)

abbrev InsideIf : {W : Type 0} → ℕ → Option (Arc W) → Type 0
InsideIf n o = IfSome o (λ a. (a.link.from < n) × (a.link.to < n))

inside_option : {W : Type 0} (n : ℕ) (o : Option (Arc W)) (ps : List (Arc W)) → InsideIf n o → Inside n ps → Inside n (cons_option o ps)
inside_option n None ps h k = k
inside_option n (Some a) ps h k = (h.0, h.1, k)

module _ {W R : Type 0} (kind : Ghosts W R) (xs : List (Delay R)) (on : List ℕ) where
  arc_inside : (l : Limit) (k n : ℕ) (m : Option Match) → k < n → MatchBefore k m → InsideIf n (limit_arc kind xs on l k m)
  unfolding MatchBefore
  arc_inside l k n None h b = tt
  arc_inside l k n (Some m) h b = go (switched on m.delay) (slice_get xs m.delay)
    where
      upper : (o : Option R) → InsideIf n (option_map (λ r. record { link = record { from = k; to = m.since; by = Upper m.delay }; rise = kind.opposed (kind.weighed r) }) o)
      upper None = tt
      upper (Some r) = (omega arith, omega arith)

      limit : (l : Limit) (x : Delay R) → InsideIf n (limit_of kind l k m x)
      limit Least x = (omega arith, omega arith)
      limit Most x = upper x.most

      go : (c : Bool) (o : Option (Delay R)) → InsideIf n (cond c (option_and_then (limit_of kind l k m) o) None)
      go false o = tt
      go true None = tt
      go true (Some x) = limit l x

  limits_inside : (l : Limit) (k n : ℕ) (ws : List Wait) (ms : List Marks) → k < n → AllBefore k ws → Inside n (limits kind xs on l k (ended ws ms))
  unfolding AllBefore
  limits_inside l k n [] ms h b = tt
  limits_inside l k n (w ∷ ws) [] h b = tt
  limits_inside l k n (w ∷ ws) (m ∷ ms) h b = inside_option n _ _ (arc_inside l k n (matching w m.end) h (match_before k w m.end b.0)) (limits_inside l k n ws ms h b.1)

  limits_at_inside : (k n : ℕ) (ws : List Wait) (e : Event) → k < n → AllBefore k ws → Inside n (limits_at kind xs on k ws e)
  limits_at_inside k n ws e h b = inside_append n _ _ (limits_inside Least k n ws (marks xs e) h b) (limits_inside Most k n ws (marks xs e) h b)

  from_inside : (k n : ℕ) (ws : List Wait) (es : List Event) → 0 < k → k + length es ≤ n → AllBefore k ws → Inside n (arcs_from kind xs on k ws es)
  from_inside k n ws [] z h b = tt
  from_inside k n ws (e ∷ es) z h b =
      (omega arith, omega arith, inside_append n _ _ (limits_at_inside k n ws e (omega arith) b) (from_inside (suc k) n (waits_after xs k ws e) es (omega arith) (omega arith) (afters_before k ws (marks xs e) b)))

  -- every link of a trace joins two of its events
  pub arcs_inside : (es : List Event) → Inside (length es) (arcs_of kind xs on es)
  arcs_inside [] = tt
  arcs_inside (e ∷ es) = from_inside 1 (length (e ∷ es)) _ es (omega arith) (omega arith) (afters_before 0 (replicate 16 Idle) (marks xs e) (idle_before 0 16))

  -- nothing ends where nothing is open
  idle_limits : (l : Limit) (k n : ℕ) (ms : List Marks) → limits kind xs on l k (ended (replicate n Idle) ms) ≡ []
  idle_limits l k zero ms = refl
  idle_limits l k (suc n) [] = refl
  idle_limits l k (suc n) (m ∷ ms) = idle_limits l k n ms

  idle_at : (k n : ℕ) (e : Event) → limits_at kind xs on k (replicate n Idle) e ≡ []
  idle_at k n e = ap (λ r. r ++ limits kind xs on Most k (ended (replicate n Idle) (marks xs e))) (idle_limits Least k n _) ∙ idle_limits Most k n _

  -- processes in which no wait ends give no limits
  limits_present : (l : Limit) (k : ℕ) (ms : List (Option Match)) → limits kind xs on l k (map Some (present ms)) ≡ limits kind xs on l k ms
  limits_present l k [] = refl
  limits_present l k (None ∷ ms) = limits_present l k ms
  limits_present l k (Some m ∷ ms) = ap (cons_option (limit_arc kind xs on l k (Some m))) (limits_present l k ms)

  -- the links from the event k on, once it has taken its marks
  module _ (es : List Event) (k : ℕ) (ws ws' : List Wait) (begun : List Match) (d : Event)
      (over : begun ≡ present (ended ws (marks xs (get_or es k d)))) (next : ws' ≡ waits_after xs k ws (get_or es k d)) where
    abbrev due : Limit → ℕ → List (Arc W)
    due l n = limits kind xs on l n (map Some begun)

    abbrev rest : ℕ → List Wait → List (Arc W)
    rest n v = arcs_from kind xs on n v (drop n es)

    all : (l : Limit) → due l k ≡ limits kind xs on l k (ended ws (marks xs (get_or es k d)))
    all l = ap (λ ms. limits kind xs on l k (map Some ms)) over ∙ limits_present l k (ended ws (marks xs (get_or es k d)))

    pub visited : k < length es → gap_arc kind k ∷ (due Least (k + 1 - 1) ++ (due Most (k + 1 - 1) ++ rest (k + 1) ws')) ≡ rest k ws
    visited h =
        let same : k + 1 - 1 ≡ k = omega arith in
        let more = drop-cons es k d h in
        let assoc = append_assoc (due Least k) (due Most k) (rest (k + 1) ws') in
        let one = add-one k in
        let low = all Least in
        let high = all Most in
        cc

  -- at event 0 nothing ends
  pub arcs_start : (es : List Event) (left : List (Arc W)) → 0 < length es → gap_arc kind 0 ∷ left ≡ arcs_from kind xs on 0 (replicate 16 Idle) es
      → left ≡ arcs_of kind xs on es
  arcs_start [] left h same = absurd (omega arith)
  arcs_start (e ∷ es) left h same = ap (drop 1) same ∙ ap (λ q. q ++ arcs_from kind xs on 1 (waits_after xs 0 (replicate 16 Idle) e) es) (idle_at 0 16 e)

  -- the neighbours' links are among them
  gap_from : (k j : ℕ) (ws : List Wait) (es : List Event) → j < length es → Has (arcs_from kind xs on k ws es) (gap_arc kind (k + j))
  gap_from k j ws [] h = absurd (omega arith)
  gap_from k zero ws (e ∷ es) h = subst (λ n. Has (arcs_from kind xs on k ws (e ∷ es)) (gap_arc kind n)) (omega arith) (has_here _ _)
  gap_from k (suc j) ws (e ∷ es) h =
      has_append_right (gap_arc kind k ∷ limits_at kind xs on k ws e) _ _
      (subst (λ n. Has (arcs_from kind xs on (suc k) (waits_after xs k ws e) es) (gap_arc kind n)) (omega arith) (gap_from (suc k) j _ es (omega arith)))

  gap_among : (es : List Event) (k : ℕ) → 0 < k → k < length es → Has (arcs_of kind xs on es) (gap_arc kind k)
  gap_among [] k z h = absurd (omega arith)
  gap_among (e ∷ es) zero z h = absurd (omega arith)
  gap_among (e ∷ es) (suc k) z h = subst (λ n. Has (arcs_of kind xs on (e ∷ es)) (gap_arc kind n)) (omega arith) (gap_from 1 k _ es (omega arith))

  pub gap_neighbour : (es : List Event) (k : ℕ) → 0 < k → k < length es → Neighbour (arcs_of kind xs on es) k (gap_arc kind k)
  gap_neighbour es k z h = record { to = refl; from = omega arith; among = gap_among es k z h }
