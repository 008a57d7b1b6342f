-- Why a search ends: settled labels are the least solution, and after as many rounds as events none is raised without a cycle.
-- Assumes nothing.
use Rattle.std.proofs.Common.{◌≡◌, ℕ, zero, suc, ◌-◌, ◌<◌, ◌≤◌, Bool, true, false, List, Option, sym, refl, ap, ◌∙◌, subst, subst₂, arith}
use Rattle.std.specs.List.{ContainsAt as Has}
use Rattle.kinds.specs.Group.{Ordered, Le}
use Rattle.verdict.specs.Kept.{iter, from_at, held_at, Along, Grounded, start_of}
use Rattle.verdict.specs.Label.{gain, Sound, Round, Least}
use Rattle.verdict.specs.declared.link.Arc.{Arc}
use Rattle.kinds.proofs.Groups.{lt_not_le, nil_sum}
use Rattle.verdict.proofs.Iters.{iter_front, iter_inside}
use Rattle.verdict.proofs.Graphs.{telescope, gain_front, grounded_short}
use Rattle.verdict.specs.declared.link.Origin.{Origin}

module _ {W C : Type 0} (g : Ordered C) (place : W → C) (arcs : List (Arc W)) (n : ℕ) where
  -- a round that raises nothing leaves the least solution
  pub settled : (P P' : ℕ → C) (ls : List (Option Origin)) → Round g place arcs n P P' false → Sound g place arcs n P' ls → Least g place arcs n P'
  settled P P' ls r s = record {
    solves = record {
      above = s.above;
      meets = λ a h. subst (λ y. Le g (g.sum y (place a.rise)) (P' a.link.to)) (sym (r.calm refl a.link.from)) (r.tried a h);
    };
    least = s.least;
  }

  -- c is what a walk of k links that ends at v rises by
  pub Reach : ℕ → ℕ → C → Type 0
  Reach zero v c = c ≡ g.nil
  Reach (suc k) v c = (a : Arc W) × Has arcs a × (a.link.to ≡ v) × ((b : C) × Reach k a.link.from b × (c ≡ g.sum b (place a.rise)))

  -- no walk of at most k links rises above the label where it ends
  pub Deep : ℕ → (ℕ → C) → Type 0
  Deep k P = (j : ℕ) → j ≤ k → (v : ℕ) → v < n → (c : C) → Reach j v c → Le g c (P v)

  pub deep_first : (P : ℕ → C) → ((v : ℕ) → v < n → Le g g.nil (P v)) → Deep 0 P
  unfolding Deep Reach
  deep_first P above zero q v p c h = subst (λ y. Le g y (P v)) (sym h) (above v p)
  deep_first P above (suc j) q v p c h = absurd (none j q)
    where
      none : (j : ℕ) → suc j ≤ 0 → ⊥
      none j q = omega arith

  pub deeper : (k : ℕ) (P P' : ℕ → C) (b : Bool) → ((a : Arc W) → Has arcs a → a.link.from < n) → Deep k P → Round g place arcs n P P' b → Deep (suc k) P'
  unfolding Deep Reach
  deeper k P P' b inside d r zero q v p c h = g.leq_trans _ _ _ (d zero (omega arith) v p c h) (r.higher v)
  deeper k P P' b inside d r (suc j) q v p c (a, m, t, (e, h, s)) =
      subst₂ (Le g) (sym s) (ap P' t)
      (g.leq_trans _ _ _ (g.leq_sum _ _ (place a.rise) (d j (omega arith) a.link.from (inside a m) e h)) (r.tried a m))

  -- the way back along kept links is a walk
  walked : (P : ℕ → C) (ls : List (Option Origin)) (s : Sound g place arcs n P ls) (k x : ℕ) → x < n → Along ls x k → Reach k x (gain g (from_at ls) s.rise x k)
  unfolding Reach
  walked P ls s zero x p along = refl
  walked P ls s (suc k) x p along =
      let f = from_at ls in
      let real = s.real x p (along 0 (omega arith)) in
      let start : f x ≡ real.arc.link.from = ap start_of real.is in
      let rest = walked P ls s k (f x) (s.closed x p) (λ j q. subst (λ y. held_at ls y ≡ true) (iter_front f j x) (along (suc j) (omega arith))) in (
        real.arc,
        real.among,
        real.to,
        (
          gain g f s.rise (f x) k,
          subst (λ y. Reach k y (gain g f s.rise (f x) k)) start rest,
          gain_front g f s.rise x k ∙ ap (g.sum (gain g f s.rise (f x) k)) real.rises,
        ),
      )

  -- after as many rounds as there are events, less one, a round that still raises a label leaves a cycle
  pub capped : (P P' : ℕ → C) (ls : List (Option Origin)) → Deep (n - 1) P → Round g place arcs n P P' true → Sound g place arcs n P' ls
      → ((x : ℕ) → x < n → Grounded ls x) → ⊥
  unfolding Deep
  capped P P' ls deep r s grounded =
      let f = from_at ls in
      let (v, p, more) = r.busy refl in
      let w = grounded v p in
      let short = grounded_short ls n v s.closed p w in
      let up = telescope g ls s.rise n P' s.closed s.slack v w.links p w.along in
      let zero-label = s.root _ (root_in v p w) w.ends in
      let high : Le g (P' v) (gain g f s.rise v w.links) = subst (Le g (P' v)) (ap (λ y. g.sum y (gain g f s.rise v w.links)) zero-label ∙ nil_sum g _) up in
      let low = deep w.links (omega arith) v p _ (walked P' ls s w.links v p w.along) in
      lt_not_le g _ _ more (g.leq_trans _ _ _ high low)
    where
      root_in : (v : ℕ) → v < n → (w : Grounded ls v) → iter (from_at ls) w.links v < n
      root_in v p w = iter_inside (from_at ls) n s.closed w.links v p
