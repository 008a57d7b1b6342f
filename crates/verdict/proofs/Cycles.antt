-- A cycle among the kept links is a chain. Assumes nothing.
use Rattle.std.proofs.Common.{◌≡◌, ℕ, zero, suc, ◌+◌, ◌-◌, ◌<◌, ◌≤◌, List, [], ◌∷◌, map, length, Option, sym, refl, ap, ◌∙◌, subst, arith}
use Rattle.std.proofs.lemmas.Option.{same_Some}
use Rattle.std.specs.List.{ContainsAt as Has, AllByRecursion}
use Rattle.kinds.specs.Group.{Ordered, Lt}
use Rattle.verdict.specs.Kept.{iter, from_at, kept_at, Along, Cyclic, Written, kept_as, start_of}
use Rattle.verdict.specs.Label.{gain, Real, Sound, edge_of, Among, Closes}
use Rattle.verdict.specs.Schedule.{Walk, Elsewhere, Distinct, total, Every}
use Rattle.verdict.specs.declared.link.Arc.{Arc}
use Rattle.verdict.specs.declared.link.Link.{Link}
use Rattle.verdict.specs.declared.link.Origin.{Origin}
use Rattle.kinds.proofs.Groups.{neg_nil, neg_sum, neg_below}
use Rattle.verdict.proofs.Iters.{iter_add, iter_inside}

-- kept links with the same parts are the same
same_link : (a r : Link) (v : ℕ) → a.to ≡ v → r.to ≡ v → kept_as a ≡ kept_as r → a ≡ r
same_link a r v p q e = let o = same_Some _ _ e in λ i. record { from = (o i).from; to = (p ∙ sym q) i; by = (o i).by }

module _ {W C : Type 0} (g : Ordered C) (place : W → C) (arcs : List (Arc W)) (n : ℕ) (P : ℕ → C) (ls : List (Option Origin))
    (s : Sound g place arcs n P ls) (x K : ℕ) (inside : x < n) (cyclic : Cyclic ls x K)
    (first : (j : ℕ) → 0 < j → j < K → iter (from_at ls) j x ≡ x → ⊥) where
  below : (k : ℕ) → suc k ≤ K → k < K
  below k q = omega arith

  less : (k : ℕ) → suc k ≤ K → k ≤ K
  less k q = omega arith

  real : (k : ℕ) → k < K → Real g place arcs (iter (from_at ls) k x) (kept_at ls (iter (from_at ls) k x)) (s.rise (iter (from_at ls) k x))
  real k q = s.real _ (iter_inside (from_at ls) n s.closed k x inside) (cyclic.along k q)

  back : (k : ℕ) → k ≤ K → List (Arc W)
  back zero q = []
  back (suc k) q = (real k (below k q)).arc ∷ back k (less k q)

  rows_are : (k : ℕ) (q : k ≤ K) (rows : List Link) → Written ls x k rows → map (λ a. a.link) (back k q) ≡ rows
  unfolding back
  rows_are zero q [] w = refl
  rows_are zero q (r ∷ rs) w = absurd w
  rows_are (suc k) q [] w = absurd w
  rows_are (suc k) q (r ∷ rs) (t, e, w) =
      ap (λ a. a ∷ map (λ a. a.link) (back k (less k q))) (same_link _ r _ (real k (below k q)).to t (sym (real k (below k q)).is ∙ e))
      ∙ ap (λ l. r ∷ l) (rows_are k (less k q) rs w)

  all_among : (k : ℕ) (q : k ≤ K) → AllByRecursion (Has arcs) (back k q)
  unfolding back
  all_among zero q = tt
  all_among (suc k) q = ((real k (below k q)).among, all_among k (less k q))

  edges_among : (k : ℕ) (q : k ≤ K) → Every (Among g place arcs) (map (edge_of g place) (back k q))
  unfolding back
  edges_among zero q = tt
  edges_among (suc k) q = (((real k (below k q)).arc, (real k (below k q)).among, refl), edges_among k (less k q))

  starts : (k : ℕ) (q : k < K) → (real k q).arc.link.from ≡ iter (from_at ls) (suc k) x
  starts k q = sym (ap start_of (real k q).is)

  walks : (k : ℕ) (q : k ≤ K) → Walk (iter (from_at ls) k x) x (map (edge_of g place) (back k q))
  unfolding back
  walks zero q = refl
  walks (suc k) q = (starts k (below k q), subst (λ y. Walk y x (map (edge_of g place) (back k (less k q)))) (sym (real k (below k q)).to) (walks k (less k q)))

  apart : (i j : ℕ) → 0 < i → i < j → j ≤ K → iter (from_at ls) i x ≡ iter (from_at ls) j x → ⊥
  apart i j o p q e =
      let m = K - j in
      let early : iter (from_at ls) (m + i) x ≡ iter (from_at ls) (m + j) x = iter_add (from_at ls) m i x ∙ ap (iter (from_at ls) m) e ∙ sym (iter_add (from_at ls) m j x) in
      let last : m + j ≡ K = omega arith in
      first (m + i) (omega arith) (omega arith) (early ∙ ap (λ r. iter (from_at ls) r x) last ∙ cyclic.closes)

  elsewhere : (k : ℕ) (q : k ≤ K) (j : ℕ) → k < j → j ≤ K → Elsewhere (iter (from_at ls) j x) (map (edge_of g place) (back k q))
  unfolding back
  elsewhere zero q j p r = tt
  elsewhere (suc k) q j p r = (λ e. apart (suc k) j (omega arith) p r (sym (starts k (below k q)) ∙ e), elsewhere k (less k q) j (omega arith) r)

  distinct : (k : ℕ) (q : k ≤ K) → Distinct (map (edge_of g place) (back k q))
  unfolding back
  distinct zero q = tt
  distinct (suc k) q = (subst (λ y. Elsewhere y (map (edge_of g place) (back k (less k q)))) (sym (starts k (below k q))) (elsewhere k (less k q) (suc k) (omega arith) q), distinct k (less k q))

  costs : (k : ℕ) (q : k ≤ K) → total g (map (edge_of g place) (back k q)) ≡ g.neg (gain g (from_at ls) s.rise x k)
  unfolding back
  costs zero q = sym (neg_nil g)
  costs (suc k) q = ap (λ c. g.sum (g.neg c) (total g (map (edge_of g place) (back k (less k q))))) (sym (real k (below k q)).rises)
      ∙ ap (g.sum (g.neg (s.rise (iter (from_at ls) k x)))) (costs k (less k q)) ∙ sym (neg_sum g _ _)

  some_edges : (k : ℕ) (q : k ≤ K) → length (map (edge_of g place) (back k q)) ≡ k
  unfolding back
  some_edges zero q = refl
  some_edges (suc k) q = ap suc (some_edges k (less k q))

  all : K ≤ K
  all = omega arith

  -- the first K links on the way back, where K is the first number after which it comes to x again, are a chain
  pub closes : (rows : List Link) → Written ls x K rows → Closes g place arcs rows
  closes rows w = record {
    links = back K all;
    written = rows_are K all rows w;
    among = all_among K all;
    chain = record {
      start = x;
      some = subst (λ m. 0 < m) (sym (some_edges K all)) cyclic.some;
      closed = subst (λ y. Walk y x (map (edge_of g place) (back K all))) cyclic.closes (walks K all);
      simple = distinct K all;
      links = edges_among K all;
      below = subst (λ c. Lt g c g.nil) (sym (costs K all)) (neg_below g _ rising);
    };
  }
    where
      rising : Lt g g.nil (gain g (from_at ls) s.rise x K)
      rising = go K cyclic.some cyclic.along cyclic.closes
        where
          go : (k : ℕ) → 0 < k → Along ls x k → iter (from_at ls) k x ≡ x → Lt g g.nil (gain g (from_at ls) s.rise x k)
          go zero p a c = absurd (never p)
            where
              never : 0 < 0 → ⊥
              never p = omega arith
          go (suc k) p a c = s.rises x k inside a c
