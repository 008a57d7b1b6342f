-- For the inner contracts of the search: labels and kept links, over a list of links. Assumes nothing.
use Rattle.std.specs.Prelude.{◌≡◌, ℕ, zero, suc, ◌<◌, Bool, true, false, List, map, Option}
use Rattle.std.specs.List.{ContainsAt as Has, AllByRecursion}
use Rattle.kinds.specs.Group.{Ordered, Le, Lt}
use Rattle.verdict.specs.Kept.{iter, from_at, held_at, kept_at, kept_as, Along, Closed}
use Rattle.verdict.specs.declared.link.Arc.{Arc}
use Rattle.verdict.specs.Schedule.{Edge, Chain}
use Rattle.verdict.specs.declared.link.Link.{Link}
use Rattle.verdict.specs.declared.link.Origin.{Origin}

-- the rises of the first k links on the way back from x, together
abbrev pub gain : {C : Type 0} → Ordered C → (ℕ → ℕ) → (ℕ → C) → ℕ → ℕ → C
gain g from rise x zero = g.nil
gain g from rise x (suc k) = g.sum (rise (iter from k x)) (gain g from rise x k)

module _ {W C : Type 0} (g : Ordered C) (place : W → C) where
  -- the times u meet the link a: its end comes at least its rise after its start
  abbrev pub Meets : (ℕ → C) → Arc W → Type 0
  Meets u a = Le g (g.sum (u a.link.from) (place a.rise)) (u a.link.to)

  -- times that are not below zero and meet all links
  pub record Solves (arcs : List (Arc W)) (n : ℕ) (u : ℕ → C) : Type 0 where
    pub above : (v : ℕ) → v < n → Le g g.nil (u v)
    pub meets : (a : Arc W) → Has arcs a → Meets u a

  -- what is kept for v is one of the links, which rises by c
  pub record Real (arcs : List (Arc W)) (v : ℕ) (kept : Option Origin) (c : C) : Type 0 where
    pub arc : Arc W
    pub among : Has arcs arc
    pub to : arc.link.to ≡ v
    pub is : kept ≡ kept_as arc.link
    pub rises : c ≡ place arc.rise

  -- What holds of the labels P and the kept links ls at every step of a search over n events.
  pub record Sound (arcs : List (Arc W)) (n : ℕ) (P : ℕ → C) (ls : List (Option Origin)) : Type 0 where
    -- no label is below zero, nor above what any solution has
    pub above : (v : ℕ) → v < n → Le g g.nil (P v)
    pub least : (u : ℕ → C) → Solves arcs n u → (v : ℕ) → v < n → Le g (P v) (u v)
    -- an event without a link has the label zero
    pub root : (v : ℕ) → v < n → held_at ls v ≡ false → P v ≡ g.nil
    -- kept links are links, with these rises
    pub rise : ℕ → C
    pub closed : Closed ls n
    pub real : (v : ℕ) → v < n → held_at ls v ≡ true → Real arcs v (kept_at ls v) (rise v)
    -- no label is above what its kept link gives, and every cycle of kept links rises
    pub slack : (v : ℕ) → v < n → held_at ls v ≡ true → Le g (P v) (g.sum (P (from_at ls v)) (rise v))
    pub rises : (x k : ℕ) → x < n → Along ls x (suc k) → iter (from_at ls) (suc k) x ≡ x → Lt g g.nil (gain g (from_at ls) rise x (suc k))

  -- What one round over all links does to the labels: none falls, each link has been tried from where its start was, and
  -- the answer is whether any label was raised.
  pub record Round (arcs : List (Arc W)) (n : ℕ) (P P' : ℕ → C) (raised : Bool) : Type 0 where
    pub higher : (v : ℕ) → Le g (P v) (P' v)
    pub tried : (a : Arc W) → Has arcs a → Le g (g.sum (P a.link.from) (place a.rise)) (P' a.link.to)
    pub calm : raised ≡ false → (v : ℕ) → P' v ≡ P v
    pub busy : raised ≡ true → (v : ℕ) × (v < n) × Lt g (P v) (P' v)

  -- P solves the links, and no other solution has anything less
  pub record Least (arcs : List (Arc W)) (n : ℕ) (P : ℕ → C) : Type 0 where
    pub solves : Solves arcs n P
    pub least : (u : ℕ → C) → Solves arcs n u → (v : ℕ) → v < n → Le g (P v) (u v)

  -- the link of the constraint graph that an arc is
  abbrev pub edge_of : Arc W → Edge C
  edge_of a = record { from = a.link.from; to = a.link.to; cost = g.neg (place a.rise) }

  -- an edge that one of the arcs is
  abbrev pub Among : List (Arc W) → Edge C → Type 0
  Among arcs e = (a : Arc W) × Has arcs a × (edge_of a ≡ e)

  -- rows of a chain table that are a chain of these links, at a cost below zero
  pub record Closes (arcs : List (Arc W)) (rows : List Link) : Type 0 where
    pub links : List (Arc W)
    pub written : map (λ a. a.link) links ≡ rows
    pub among : AllByRecursion (Has arcs) links
    pub chain : Chain g (Among arcs) (map edge_of links)
