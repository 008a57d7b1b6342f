-- The steps of a search, from its first labels to its answer. Assumes nothing.
use Rattle.std.proofs.Common.{◌≡◌, ℕ, suc, ◌+◌, ◌-◌, ◌*◌, ◌<◌, ◌≤◌, Bool, true, false, ◌⊎◌, List, [], ◌∷◌, ◌++◌, length, get_or, set, is_some, Some, None, Option, MatchOption, sym, ap, ◌∙◌, subst, subst₂, inl, inr, mul-le-mul_right, suc-mul, arith}
use Rattle.std.proofs.lemmas.List.{get_or_default, get_or_append_left, map-set, take-append-le}
use Rattle.std.proofs.lemmas.Option.{MatchOption-at_some}
use Rattle.std.proofs.lemmas.Bool.{cases_lt, both_ways}
use Rattle.std.specs.List.{ContainsAt as Has}
use Rattle.kinds.specs.Group.{Le, Lt}
use Rattle.kinds.specs.Laws.{le_from_eq}
use Rattle.kinds.specs.Rules.{Sums, largest}
use Rattle.kinds.specs.declared.kind.Kind.{Ghosts}
use Rattle.verdict.specs.Edge.{Inside}
use Rattle.verdict.specs.Scratch.{links_of}
use Rattle.verdict.specs.Kept.{held_at, Grounded, First, Written, kept_as, start_of}
use Rattle.verdict.specs.Label.{Sound, Least, Closes}
use Rattle.verdict.specs.Step.{sizes, weight_at, label, Rowed, Raises, Sweeps, Turns, Fresh, Concludes, Modest}
use Rattle.verdict.specs.declared.link.Arc.{Arc}
use Rattle.verdict.specs.declared.link.Kept.{Kept}
use Rattle.verdict.specs.declared.link.Link.{Link}
use Rattle.verdict.specs.declared.link.Origin.{Origin}
use Rattle.verdict.proofs.Cycles.{closes}
use Rattle.verdict.proofs.Lawful.{Laws}
use Rattle.verdict.proofs.Rounds.{settled, Deep, deep_first, deeper, capped}
use Rattle.verdict.proofs.Sweeping.{has_cases}

has_inside : {W : Type 0} (n : ℕ) (arcs : List (Arc W)) → Inside n arcs → (a : Arc W) → Has arcs a → (a.link.from < n) × (a.link.to < n)
has_inside n [] i a (k, p, e) = absurd (omega arith)
has_inside n (b ∷ rest) i a h =
    elim (has_cases b a rest h) [
      | inl e ↦ subst (λ x. (x.link.from < n) × (x.link.to < n)) e (i.0, i.1)
      | inr l ↦ has_inside n rest i.2 a l
    ]

module _ {W R : Type 0} (k : Ghosts W R) (rules : Laws k) where
  abbrev Weight : List R → ℕ → W
  Weight = weight_at k

  abbrev Label : List R → ℕ → k.Time
  Label = label k

  -- the weight that a row gives
  pub weight_read : (times : List R) (v : ℕ) (d : R) (w : W) → v < length times → w ≡ k.weighed (get_or times v d) → w ≡ Weight times v
  weight_read times v d w p e = e ∙ ap k.weighed (get_or_default times v d (k.rowed k.nought) p)

  -- A link is tried: its start has the weight `from` now, and its end the weight `to`.
  module _ (a : Arc W) (times : List R) (ks : List Kept) (from to : W) (start : from ≡ Weight times a.link.from) (end : to ≡ Weight times a.link.to) where
    pub raises : (w : W) (row : R) → k.added from a.rise ≡ Some w → k.group.leq (k.place w) (k.place to) ≡ false → row ≡ k.rowed w
        → Raises k a times (set times a.link.to row) (links_of ks)
        (links_of (set ks a.link.to (record { link = kept_as a.link; stamp = 0 })))
    raises w row e h r = record {
      weight = w;
      sums = subst (λ x. Sums k.group k.place k.size x a.rise w) start
          (MatchOption-at_some (largest < k.size from + k.size a.rise) (λ s. Sums k.group k.place k.size from a.rise s) w e (rules.sums from a.rise));
      higher = subst (λ x. Lt k.group (k.place x) (k.place w)) end h;
      raised = ap (set times a.link.to) r;
      kept = map-set (λ x. x.link) ks a.link.to _;
    }

  -- A search that has made r rounds, each of which raised a label, and found no cycle.
  pub record Searching (arcs : List (Arc W)) (n r : ℕ) (times : List R) (ls : List (Option Origin)) : Type 0 where
    pub sound : Sound k.group k.place arcs n (Label times) ls
    pub deep : Deep k.group k.place arcs n r (Label times)
    pub rows : Rowed k n times
    pub small : (v : ℕ) → v < n → k.size (Weight times v) ≤ r * sizes k.size arcs
    pub near : (r < n) ⊎ (n ≡ 0)

  module _ (arcs : List (Arc W)) (n : ℕ) (inside : Inside n arcs) where
    pub start : (times : List R) (ls : List (Option Origin)) → Fresh k n times ls → Searching arcs n 0 times ls
    start times ls f = record {
      sound = record {
        above = above;
        least = λ u s v p. subst (λ c. Le k.group c (u v)) (sym (zeros v p)) (s.above v p);
        root = λ v p h. zeros v p;
        rise = λ v. k.group.nil;
        closed = λ v p. subst (λ x. x < n) (sym (ap start_of (f.bare v p))) (omega arith);
        real = λ v p h. absurd (none v p h);
        slack = λ v p h. absurd (none v p h);
        rises = λ x k p along h. absurd (none x p (along 0 (omega arith)));
      };
      deep = deep_first k.group k.place arcs n (Label times) above;
      rows = λ v p. f.zeros v (k.rowed k.nought) p ∙ ap k.rowed (sym (weights v p));
      small = λ v p. let s = ap k.size (weights v p) ∙ rules.zero.sized in omega arith;
      near = elim (cases_lt 0 n) [ inl p ↦ inl p | inr p ↦ inr (omega arith) ];
    }
      where
        weights : (v : ℕ) → v < n → Weight times v ≡ k.nought
        weights v p = ap k.weighed (f.zeros v (k.rowed k.nought) p) ∙ rules.row_back k.nought

        zeros : (v : ℕ) → v < n → Label times v ≡ k.group.nil
        zeros v p = ap k.place (weights v p) ∙ rules.zero.placed

        above : (v : ℕ) → v < n → Le k.group k.group.nil (Label times v)
        above v p = le_from_eq k.group _ _ (sym (zeros v p))

        none : (v : ℕ) → v < n → held_at ls v ≡ true → ⊥
        none v p h = both_ways _ (ap is_some (f.bare v p)) h

    module _ (r : ℕ) (times : List R) (ls : List (Option Origin)) (s : Searching arcs n r times ls) where
      -- The next round can start, and has left these labels and links.
      module _ (more : r < n) (times' : List R) (ls' : List (Option Origin)) where
        pub swept : (b : Bool) → Modest k arcs n → (m : ℕ) → m ≡ n → Turns k arcs m times times' ls ls' b → Sweeps k arcs n (r * sizes k.size arcs) times times' ls' b
        swept b modest m same turns = subst (λ x. Turns k arcs x times times' ls ls' b) same turns (r * sizes k.size arcs) (record {
          sound = s.sound;
          rows = s.rows;
          small = s.small;
          room = let e = suc-mul r (sizes k.size arcs) in let l = mul-le-mul_right (sizes k.size arcs) more in omega arith;
        })

        -- it raised a label and left no cycle, so it was not the last
        pub next : Sweeps k arcs n (r * sizes k.size arcs) times times' ls' true → ((v : ℕ) → v < n → Grounded ls' v) → Searching arcs n (suc r) times' ls'
        next round grounded = record {
          sound = round.sound;
          deep = deeper k.group k.place arcs n r (Label times) (Label times') true (λ a h. (has_inside n arcs inside a h).0) s.deep round.round;
          rows = round.rows;
          small = λ v q. let e = suc-mul r (sizes k.size arcs) in let l = round.small v q in omega arith;
          near = elim (cases_lt (suc r) n) [ inl q ↦ inl q | inr q ↦ absurd (last (omega arith)) ];
        }
          where
            last : r ≡ n - 1 → ⊥
            last e = capped k.group k.place arcs n (Label times) (Label times') ls' (subst (λ m. Deep k.group k.place arcs n m (Label times)) e s.deep) round.round round.sound grounded

        -- it raised nothing
        pub settles : Sweeps k arcs n (r * sizes k.size arcs) times times' ls' false → Least k.group k.place arcs n (Label times') × Rowed k n times'
        settles w = (settled k.group k.place arcs n (Label times) (Label times') ls' w.round w.sound, w.rows)

        -- it left a cycle
        pub chained : (x links : ℕ) (rows : List Link) → x < n → First ls' x links → Written ls' x links rows → Sweeps k arcs n (r * sizes k.size arcs) times times' ls' true
            → Closes k.group k.place arcs rows
        chained x links rows p f t w = closes k.group k.place arcs n (Label times') ls' w.sound x links p f.cyclic f.first rows t

      -- without events nothing is owed
      pub over : n ≤ r → Least k.group k.place arcs n (Label times) × Rowed k n times
      over p = elim s.near [
        | inl q ↦ absurd (omega arith)
        | inr e ↦ (
          record {
            solves = record { above = λ v q. absurd (omega arith); meets = λ a h. absurd (let q = (has_inside n arcs inside a h).0 in omega arith) };
            least = λ u t v q. absurd (omega arith);
          },
          s.rows,
        )
      ]

  -- Labels are those of their rows, whatever rows come after these.
  module _ (arcs : List (Arc W)) (n : ℕ) (inside : Inside n arcs) (times more : List R) (long : length times ≡ n) where
    row : (v : ℕ) → v < n → get_or (times ++ more) v (k.rowed k.nought) ≡ get_or times v (k.rowed k.nought)
    row v p = get_or_append_left times more _ v (omega arith)

    same : (v : ℕ) → v < n → Label (times ++ more) v ≡ Label times v
    same v p = ap (λ r. k.place (k.weighed r)) (row v p)

    widened : Least k.group k.place arcs n (Label times) × Rowed k n times → Least k.group k.place arcs n (Label (times ++ more)) × Rowed k n (times ++ more)
    widened (l, r) = (
      record {
        solves = record {
          above = λ v p. subst (Le k.group k.group.nil) (sym (same v p)) (l.solves.above v p);
          meets = λ a h.
              let (from, to) = has_inside n arcs inside a h in
              subst₂ (λ x y. Le k.group (k.group.sum x (k.place a.rise)) y) (sym (same a.link.from from)) (sym (same a.link.to to)) (l.solves.meets a h);
        };
        least = λ u t v p. subst (λ x. Le k.group x (u v)) (sym (same v p)) (l.least u t v p);
      },
      λ v p. row v p ∙ r v p ∙ ap (λ x. k.rowed (k.weighed x)) (sym (row v p)),
    )

    -- what a search concludes of its rows it concludes of the tables that they begin
    pub concluded : (A : Type 0) (B : ℕ → Type 0) (chain past : List Link) (m : ℕ) → m ≤ length chain → (o : Option ℕ) → MatchOption o A (λ l. (l ≤ m) × B l)
        → Concludes k arcs n times chain o → Concludes k arcs n (times ++ more) (chain ++ past) o
    concluded A B chain past m p None h c = widened c
    concluded A B chain past m p (Some l) h c = subst (Closes k.group k.place arcs) (sym (take-append-le l chain past (let q = h.0 in omega arith))) c
