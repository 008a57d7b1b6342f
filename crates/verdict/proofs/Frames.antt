-- Rows of the tables: which stay, and what the scratch rows keep. Assumes nothing.
use Rattle.std.proofs.Common.{◌≡◌, ℕ, ◌+◌, ◌<◌, ◌≤◌, ◌⊎◌, List, ◌++◌, map, length, get_or, take, drop, set, replicate, Some, None, Option, MatchOption, sym, refl, ap, ◌∙◌, subst, inl, inr, arith, length-set, get_or-set_other, get_or-set_same}
use lib.ListN.{length-map}
use Rattle.std.proofs.Math.Seq.{map-set_same}
use Rattle.std.proofs.lemmas.List.{drop-set-lt, drop_all, drop-append-le, length-append, length-take-le, take-append-drop, map-set, get_or-map, get_or-replicate, length-replicate}
use Rattle.std.proofs.lemmas.Bool.{cases_eq}
use Rattle.kinds.specs.declared.kind.Kind.{Ghosts}
use Rattle.verdict.specs.Frame.{Past}
use Rattle.verdict.specs.Kept.{kept_at, from_at, Closed, start_of}
use Rattle.verdict.specs.Rows.{Same, Stamped}
use Rattle.verdict.specs.Scratch.{links_of, stamp_at}
use Rattle.verdict.specs.declared.link.Kept.{Kept}
use Rattle.verdict.specs.declared.rows.Rows.{Rows}
use Rattle.verdict.specs.declared.link.Origin.{Origin}

module _ {X : Type 0} (n : ℕ) where
  pub past_same : (xs : List X) → Past n xs xs
  past_same xs = record { long = refl; past = refl }

  pub past_then : {xs ys zs : List X} → Past n xs ys → Past n ys zs → Past n xs zs
  past_then p q = record { long = q.long ∙ p.long; past = q.past ∙ p.past }

  pub past_set : (xs : List X) (i : ℕ) (x : X) → i < n → Past n xs (set xs i x)
  past_set xs i x h = record { long = length-set xs i x; past = drop-set-lt n xs i x h }

-- The first n rows have become ys.
module _ {X : Type 0} (n : ℕ) (xs ys : List X) (room : n ≤ length xs) (long : length ys ≡ length (take n xs)) where
  all : length (take n xs) ≡ n
  all = length-take-le n xs room

  -- a change of the first l of them is one of the first l rows
  past_more : (l : ℕ) → l ≤ n → Past l (take n xs) ys → Past l xs (ys ++ drop n xs)
  past_more l h p = let cut = all in record {
    long = length-append ys (drop n xs) ∙ ap (λ m. m + length (drop n xs)) long ∙ sym (length-append (take n xs) (drop n xs)) ∙ ap length (take-append-drop n xs);
    past = drop-append-le l ys (drop n xs) (omega arith) ∙ ap (λ zs. zs ++ drop n xs) p.past ∙ sym (drop-append-le l (take n xs) (drop n xs) (omega arith)) ∙ ap (drop l) (take-append-drop n xs);
  }

  module _ (events : ℕ) (same : n ≡ events) where
    -- the others stay
    pub past_cut : Past events xs (ys ++ drop n xs)
    past_cut = subst (λ m. Past m xs (ys ++ drop n xs)) same
        (let cut = all in past_more n (omega arith) (record { long = long; past = drop_all n ys (omega arith) ∙ sym (drop_all n (take n xs) (omega arith)) }))

    -- what a search leaves of a chain
    pub chain_cut : (m : ℕ) → m ≡ n → (o : Option ℕ) → MatchOption o (ys ≡ take n xs) (λ l. (l ≤ m) × Past l (take n xs) ys)
        → MatchOption o (ys ++ drop n xs ≡ xs) (λ l. (l ≤ events) × Past l xs (ys ++ drop n xs))
    chain_cut m h None e = ap (λ zs. zs ++ drop n xs) e ∙ take-append-drop n xs
    chain_cut m h (Some l) (b, p) = let q : l ≤ n = omega arith in (omega arith, past_more l q p)

module _ {W R : Type 0} {k : Ghosts W R} where
  pub same_same : (t : Rows W R k) → Same t t
  same_same t = record { times = refl; chain = refl; kept = refl; events = refl }

  pub same_then : {t u v : Rows W R k} → Same t u → Same u v → Same t v
  same_then p q = record { times = q.times ∙ p.times; chain = q.chain ∙ p.chain; kept = q.kept ∙ p.kept; events = q.events ∙ p.events }

  pub stamped_same : (t : Rows W R k) → Stamped t t
  stamped_same t = record { same = same_same t; times = refl; chain = refl; links = refl }

  pub stamped_then : {t u v : Rows W R k} → Stamped t u → Stamped u v → Stamped t v
  stamped_then p q = record { same = same_then p.same q.same; times = q.times ∙ p.times; chain = q.chain ∙ p.chain; links = q.links ∙ p.links }

-- a link kept for an event that comes from one of n events
pub closed_set : (n : ℕ) (ks : List Kept) (i : ℕ) (k : Kept) → i < length ks → start_of k.link < n → Closed (links_of ks) n → Closed (links_of (set ks i k)) n
closed_set n ks i k free h old v below = go (cases_eq v i)
  where
    at : (ls : List (Option Origin)) → links_of (set ks i k) ≡ ls → (x : Option Origin) → kept_at ls v ≡ x → start_of x < n → from_at (links_of (set ks i k)) v < n
    at ls e x is p = subst (λ y. y < n) (sym (ap (λ l. from_at l v) e ∙ ap start_of is)) p

    go : (v ≡ i) ⊎ (v ≡ i → ⊥) → from_at (links_of (set ks i k)) v < n
    go (inl e) = at _ (map-set (λ x. x.link) ks i k) k.link
        (ap (kept_at (set (links_of ks) i k.link)) e ∙ get_or-set_same (links_of ks) i k.link None (rw length-map free)) h
    go (inr d) = at _ (map-set (λ x. x.link) ks i k) (kept_at (links_of ks) v) (get_or-set_other (links_of ks) i v k.link None d) (old v below)

-- a stamp changes no link
pub links_stamp : (ks : List Kept) (i s : ℕ) (d : Kept) → links_of (set ks i (record { link = (get_or ks i d).link; stamp = s })) ≡ links_of ks
links_stamp ks i s d = map-set_same (λ x. x.link) ks i _ d refl

-- a row's link
pub kept_row : (ks : List Kept) (i : ℕ) (d : Kept) → i < length ks → kept_at (links_of ks) i ≡ (get_or ks i d).link
kept_row ks i d h = get_or-map (λ x. x.link) ks i d None h

-- rows that all are alike keep what any of them does
pub kept_alike : (n : ℕ) (ks : List Kept) (k : Kept) → ks ≡ replicate n k → (i : ℕ) → i < length ks → kept_at (links_of ks) i ≡ k.link
kept_alike n ks k e i h =
    let low : i < n = let l = ap length e ∙ length-replicate n k in omega arith in
    kept_row ks i k h ∙ ap (λ x. x.link) (ap (λ xs. get_or xs i k) e ∙ get_or-replicate n i k k low)

-- where a kept link comes from
pub from_row : (n : ℕ) (ls : List (Option Origin)) (v : ℕ) (o : Origin) → kept_at ls v ≡ Some o → from_at ls v < n → o.from < n
from_row n ls v o e p = subst (λ x. x < n) (ap start_of e) p

pub stamp_row : (ks : List Kept) (i : ℕ) (d : Kept) → i < length ks → stamp_at ks i ≡ (get_or ks i d).stamp
stamp_row ks i d h = get_or-map (λ x. x.stamp) ks i d 0 h

pub stamp_same : (ks : List Kept) (i : ℕ) (k : Kept) → i < length ks → stamp_at (set ks i k) i ≡ k.stamp
stamp_same ks i k h = ap (λ xs. get_or xs i 0) (map-set (λ x. x.stamp) ks i k) ∙ get_or-set_same (map (λ x. x.stamp) ks) i k.stamp 0 (rw length-map h)

pub stamp_other : (ks : List Kept) (i : ℕ) (k : Kept) (j : ℕ) → (j ≡ i → ⊥) → stamp_at (set ks i k) j ≡ stamp_at ks j
stamp_other ks i k j e = ap (λ xs. get_or xs j 0) (map-set (λ x. x.stamp) ks i k) ∙ get_or-set_other (map (λ x. x.stamp) ks) i j k.stamp 0 e
