-- A walk back along the kept links that stamps what it passes. Assumes nothing.
use Rattle.std.proofs.Common.{◌≡◌, ℕ, suc, ◌+◌, ◌-◌, ◌<◌, ◌≤◌, true, false, ◌⊎◌, List, Option, sym, refl, ap, ◌∙◌, subst, inl, inr, arith}
use Rattle.std.proofs.lemmas.Bool.{cases_eq, cases_lt}
use Rattle.verdict.specs.Kept.{iter, from_at, held_at, Along, Closed, Grounded, Cyclic, Round, First, Checked}
use Rattle.verdict.proofs.Iters.{iter_add, iter_inside, pigeonhole}
use Rattle.verdict.specs.declared.link.Origin.{Origin}

-- i links of the way back from an event whose rest ends: it ends from any event on it
grounded_before : (ls : List (Option Origin)) (x i p : ℕ) → p ≤ i → Along ls x i → Grounded ls (iter (from_at ls) i x) → Grounded ls (iter (from_at ls) p x)
grounded_before ls x i p q along w = record {
  links = w.links + (i - p);
  along = λ m r. elim (cases_lt (m + p) i) [
    | inl l ↦ ap (held_at ls) (sym (iter_add f m p x)) ∙ along (m + p) l
    | inr l ↦
        let e : m + p ≡ (m + p - i) + i = omega arith in
        ap (held_at ls) (sym (iter_add f m p x) ∙ ap (λ k. iter f k x) e ∙ iter_add f (m + p - i) i x) ∙ w.along (m + p - i) (omega arith)
  ];
  ends =
      let e : w.links + (i - p) + p ≡ w.links + i = omega arith in
      ap (held_at ls) (sym (iter_add f (w.links + (i - p)) p x) ∙ ap (λ k. iter f k x) e ∙ iter_add f w.links i x) ∙ w.ends;
}
  where
    f : ℕ → ℕ
    f = from_at ls

-- After i links back from `start` the walk is at `at`, and has stamped what it has passed.
pub record Walking (ls : List (Option Origin)) (n start i at : ℕ) (stamp : ℕ → ℕ) : Type 0 where
  pub here : at ≡ iter (from_at ls) i start
  pub along : Along ls start i
  pub passed : (j : ℕ) → j < i → stamp (iter (from_at ls) j start) ≡ suc start
  pub others : (v : ℕ) → v < n → (stamp v ≡ 0) ⊎ ((Grounded ls v × (stamp v ≤ start)) ⊎ ((j : ℕ) × (j < i) × (iter (from_at ls) j start ≡ v)))
  pub fresh : (a b : ℕ) → a < b → b < i → iter (from_at ls) a start ≡ iter (from_at ls) b start → ⊥

pub walk_out : (ls : List (Option Origin)) (n start : ℕ) (stamp : ℕ → ℕ) → Checked ls n start stamp → Walking ls n start 0 start stamp
walk_out ls n start stamp c = record {
  here = refl;
  along = λ j q. absurd (none j q);
  passed = λ j q. absurd (none j q);
  others = λ v p. elim (c v p) [ inl h ↦ inl h | inr h ↦ inr (inl h) ];
  fresh = λ a b p q. absurd (none b q);
}
  where
    none : (j : ℕ) → j < 0 → ⊥
    none j q = omega arith

module _ (ls : List (Option Origin)) (n start i at : ℕ) (stamp : ℕ → ℕ) (closed : Closed ls n) (inside : start < n)
    (w : Walking ls n start i at stamp) where
  f : ℕ → ℕ
  f = from_at ls

  -- the events passed are no more than there are
  pub walk_short : i ≤ n
  walk_short = pigeonhole n i (λ j. iter (from_at ls) j start) (λ j q. iter_inside (from_at ls) n closed j start inside) (λ a b p q. w.fresh a b p q)

  pub walk_inside : at < n
  walk_inside = subst (λ x. x < n) (sym w.here) (iter_inside (from_at ls) n closed i start inside)

  -- an event that this walk has stamped is on a cycle
  pub walk_round : stamp at ≡ suc start → Round ls n at
  walk_round s =
      elim (w.others at walk_inside) [
        | inl h ↦ absurd (clash (sym h ∙ s))
        | inr (inl h) ↦ absurd (low h)
        | inr (inr h) ↦ record { inside = walk_inside; links = i - h.0; cyclic = cycle h.0 h.1 h.2; short = let p = walk_short in omega arith }
      ]
    where
      clash : 0 ≡ suc start → ⊥
      clash e = omega arith

      low : Grounded ls at × (stamp at ≤ start) → ⊥
      low h = let p = h.1 in omega arith

      cycle : (j : ℕ) → j < i → iter (from_at ls) j start ≡ at → Cyclic ls at (i - j)
      cycle j q e = record {
        some = omega arith;
        along = λ m r. ap (held_at ls) (moved m) ∙ w.along (m + j) (omega arith);
        closes = let l : i - j + j ≡ i = omega arith in moved (i - j) ∙ ap (λ k. iter (from_at ls) k start) l ∙ sym w.here;
      }
        where
          moved : (m : ℕ) → iter (from_at ls) m at ≡ iter (from_at ls) (m + j) start
          moved m = ap (iter (from_at ls) m) (sym e) ∙ sym (iter_add (from_at ls) m j start)

  -- where the way back from here ends, that from the start does, and all that is stamped is checked
  pub walk_ends : Grounded ls at → Grounded ls start × Checked ls n (suc start) stamp
  walk_ends g = (
    back 0 (omega arith),
    λ v p. elim (w.others v p) [
      | inl h ↦ inl h
      | inr (inl h) ↦ inr (h.0, let q = h.1 in omega arith)
      | inr (inr h) ↦ inr (subst (Grounded ls) h.2 (back h.0 (let q = h.1 in omega arith)), let e = ap stamp (sym h.2) ∙ w.passed h.0 h.1 in omega arith)
    ],
  )
    where
      back : (p : ℕ) → p ≤ i → Grounded ls (iter (from_at ls) p start)
      back p q = grounded_before ls start i p q w.along (subst (Grounded ls) w.here g)

  pub walk_root : held_at ls at ≡ false → Grounded ls at
  walk_root e = record { links = 0; along = λ j q. absurd (none j q); ends = e }
    where
      none : (j : ℕ) → j < 0 → ⊥
      none j q = omega arith

  pub walk_met : (stamp at ≡ 0 → ⊥) → (stamp at ≡ suc start → ⊥) → Grounded ls at
  walk_met a b = elim (w.others at walk_inside) [
    | inl h ↦ absurd (a h)
    | inr (inl h) ↦ h.0
    | inr (inr h) ↦ absurd (b (ap stamp (sym h.2) ∙ w.passed h.0 h.1))
  ]

  -- one link further back
  pub walk_on : (stamp' : ℕ → ℕ) → stamp at ≡ 0 → held_at ls at ≡ true → stamp' at ≡ suc start → ((v : ℕ) → (v ≡ at → ⊥) → stamp' v ≡ stamp v)
      → Walking ls n start (suc i) (from_at ls at) stamp'
  walk_on stamp' clean held mark others = record {
    here = ap (from_at ls) w.here;
    along = λ j q. elim (cases_eq j i) [
      | inl e ↦ ap (λ k. held_at ls (iter (from_at ls) k start)) e ∙ ap (held_at ls) (sym w.here) ∙ held
      | inr d ↦ w.along j (omega arith)
    ];
    passed = λ j q. elim (cases_eq (iter (from_at ls) j start) at) [
      | inl e ↦ ap stamp' e ∙ mark
      | inr d ↦ others _ d ∙ w.passed j (earlier j q d)
    ];
    others = λ v p. elim (cases_eq v at) [
      | inl e ↦ inr (inr (i, omega arith, sym w.here ∙ sym e))
      | inr d ↦ elim (w.others v p) [
        | inl h ↦ inl (others v d ∙ h)
        | inr (inl h) ↦ inr (inl (h.0, let q = h.1 in let e = others v d in omega arith))
        | inr (inr h) ↦ inr (inr (h.0, let q = h.1 in omega arith, h.2))
      ]
    ];
    fresh = λ a b p q e. elim (cases_eq b i) [
      | inl l ↦ new a (omega arith) (e ∙ ap (λ k. iter (from_at ls) k start) l ∙ sym w.here)
      | inr d ↦ w.fresh a b p (omega arith) e
    ];
  }
    where
      earlier : (j : ℕ) → j < suc i → (iter (from_at ls) j start ≡ at → ⊥) → j < i
      earlier j q d = elim (cases_eq j i) [ inl e ↦ absurd (d (ap (λ k. iter (from_at ls) k start) e ∙ sym w.here)) | inr n ↦ omega arith ]

      new : (a : ℕ) → a < i → iter (from_at ls) a start ≡ at → ⊥
      new a q e = let s = sym (w.passed a q) ∙ ap stamp e ∙ clean in omega arith

-- where the way back from x comes to x again after k links, or can't come to it sooner than after n, and has not before
pub first_round : (ls : List (Option Origin)) (n x k : ℕ) → Round ls n x → 0 < k → k ≤ n → (iter (from_at ls) k x ≡ x) ⊎ (k ≡ n)
    → ((j : ℕ) → 0 < j → j < k → iter (from_at ls) j x ≡ x → ⊥) → First ls x k
first_round ls n x k r some short ends none = record {
  cyclic = record {
    some = some;
    along = λ j p. r.cyclic.along j (let q = late in omega arith);
    closes = elim ends [ inl e ↦ e | inr e ↦ (let q = late in let s = r.short in let same : k ≡ r.links = omega arith in ap (λ i. iter (from_at ls) i x) same ∙ r.cyclic.closes) ];
  };
  first = none;
}
  where
    late : k ≤ r.links
    late = elim (cases_lt r.links k) [ inl p ↦ absurd (none r.links r.cyclic.some p r.cyclic.closes) | inr p ↦ omega arith ]

-- where it has not come to x yet, it goes on
pub goes_on : (ls : List (Option Origin)) (n x k : ℕ) → Round ls n x → ((j : ℕ) → 0 < j → j < k → iter (from_at ls) j x ≡ x → ⊥) → (iter (from_at ls) k x ≡ x → ⊥)
    → held_at ls (iter (from_at ls) k x) ≡ true
goes_on ls n x k r none last = r.cyclic.along k late
  where
    late : k < r.links
    late = elim (cases_lt r.links k) [
      | inl p ↦ absurd (none r.links r.cyclic.some p r.cyclic.closes)
      | inr p ↦ elim (cases_eq k r.links) [ inl e ↦ absurd (last (ap (λ i. iter (from_at ls) i x) e ∙ r.cyclic.closes)) | inr d ↦ omega arith ]
    ]
