-- One round of a search, link by link. Assumes nothing.
use Rattle.std.proofs.Common.{◌≡◌, ℕ, zero, suc, ◌+◌, ◌<◌, ◌≤◌, Bool, true, false, ◌||◌, ◌⊎◌, List, [], ◌∷◌, length, get_or, None, Option, sym, refl, ap, ◌∙◌, subst, subst₂, inl, inr, arith}
use Rattle.std.proofs.lemmas.List.{get_or-set_same, get_or-set_other}
use Rattle.std.proofs.lemmas.Bool.{cases_eq, or_parts, or_cases, false≢true, true≢false}
use Rattle.std.specs.List.{ContainsAt as Has}
use Rattle.kinds.specs.Group.{Le, Lt}
use Rattle.kinds.specs.Laws.{le_refl}
use Rattle.kinds.specs.Rules.{largest}
use Rattle.kinds.specs.declared.kind.Kind.{Ghosts}
use Rattle.verdict.specs.Kept.{kept_at, kept_as}
use Rattle.verdict.specs.Label.{Sound}
use Rattle.verdict.specs.Step.{sizes, weight_at, label, Rowed, Relaxes, Ready, Sweeps}
use Rattle.verdict.specs.declared.link.Arc.{Arc}
use Rattle.kinds.proofs.Groups.{le_lt_lt}
use Rattle.verdict.proofs.Labels.{raised, no_lower}
use Rattle.verdict.specs.declared.link.Origin.{Origin}

pub has_here : {X : Type 0} (a : X) (xs : List X) → Has (a ∷ xs) a
has_here a xs = (0, omega arith, λ d. refl)

pub has_later : {X : Type 0} (a b : X) (xs : List X) → Has xs b → Has (a ∷ xs) b
has_later a b xs (k, p, e) = (suc k, omega arith, e)

pub has_cases : {X : Type 0} (a b : X) (xs : List X) → Has (a ∷ xs) b → (a ≡ b) ⊎ Has xs b
has_cases a b xs (zero, p, e) = inl (e a)
has_cases a b xs (suc k, p, e) = inr (k, omega arith, e)

module _ {W R : Type 0} (k : Ghosts W R) (back : (w : W) → k.weighed (k.rowed w) ≡ w) where
  abbrev Label : List R → ℕ → k.Time
  Label = label k

  abbrev Weight : List R → ℕ → W
  Weight = weight_at k

  -- A round from the labels `first` on that has the links `left` still to try.
  pub record Going (arcs left : List (Arc W)) (n m : ℕ) (first times : List R) (ls : List (Option Origin)) (busy : Bool) : Type 0 where
    pub sound : Sound k.group k.place arcs n (Label times) ls
    pub rows : Rowed k n times
    pub small : (v : ℕ) → v < n → k.size (Weight times v) + sizes k.size left ≤ m + sizes k.size arcs
    pub room : m + sizes k.size arcs ≤ largest
    pub among : (a : Arc W) → Has left a → Has arcs a
    pub higher : (v : ℕ) → Le k.group (Label first v) (Label times v)
    pub tried : (a : Arc W) → Has arcs a → Has left a ⊎ Le k.group (k.group.sum (Label first a.link.from) (k.place a.rise)) (Label times a.link.to)
    pub calm : busy ≡ false → (v : ℕ) → Label times v ≡ Label first v
    pub some : busy ≡ true → (v : ℕ) × (v < n) × Lt k.group (Label first v) (Label times v)

  pub set_out : (arcs : List (Arc W)) (n m : ℕ) (times : List R) (ls : List (Option Origin)) → Ready k arcs n m times ls
      → Going arcs arcs n m times times ls false
  set_out arcs n m times ls r = record {
    sound = r.sound;
    rows = r.rows;
    small = λ v p. let s = r.small v p in omega arith;
    room = r.room;
    among = λ a h. h;
    higher = λ v. le_refl k.group _;
    tried = λ a h. inl h;
    calm = λ e v. refl;
    some = λ e. absurd (false≢true e);
  }

  pub ends : (arcs : List (Arc W)) (n m : ℕ) (first times : List R) (ls : List (Option Origin)) (busy : Bool) → Going arcs [] n m first times ls busy
      → Sweeps k arcs n m first times ls busy
  ends arcs n m first times ls busy s = record {
    round = record {
      higher = s.higher;
      tried = λ a h. elim (s.tried a h) [ inl k ↦ absurd (none a k) | inr k ↦ k ];
      calm = s.calm;
      busy = s.some;
    };
    sound = s.sound;
    rows = s.rows;
    small = λ v p. let q = s.small v p in omega arith;
  }
    where
      none : (a : Arc W) → Has [] a → ⊥
      none a (k, p, e) = omega arith

  pub goes : (arcs rest : List (Arc W)) (n m : ℕ) (a : Arc W) (first times times' : List R) (ls ls' : List (Option Origin)) (busy r : Bool)
      → a.link.from < n → a.link.to < n → n ≤ length times → n ≤ length ls
      → Relaxes k a times times' ls ls' r
      → Going arcs (a ∷ rest) n m first times ls busy → Going arcs rest n m first times' ls' (busy || r)
  goes arcs rest n m a first times times' ls ls' busy false i j p q did s =
      subst₂ (λ t l. Going arcs rest n m first t l (busy || false)) (sym did.same) (sym did.kept) (record {
        sound = s.sound;
        rows = s.rows;
        small = λ v o. let t = s.small v o in omega arith;
        room = s.room;
        among = λ b h. s.among b (has_later a b rest h);
        higher = s.higher;
        tried = λ b h. elim (s.tried b h) [
          | inl l ↦ elim (has_cases a b rest l) [ inl e ↦ inr (subst (λ c. Le k.group (k.group.sum (Label first c.link.from) (k.place c.rise)) (Label times c.link.to)) e met) | inr l ↦ inl l ]
          | inr l ↦ inr l
        ];
        calm = λ e. s.calm (or_parts busy false e).0;
        some = λ e. elim (or_cases busy false e) [ inl h ↦ s.some h | inr h ↦ absurd (false≢true h) ];
      })
    where
      met : Le k.group (k.group.sum (Label first a.link.from) (k.place a.rise)) (Label times a.link.to)
      met = elim did.why [
        | inl h ↦ k.group.leq_trans _ _ _ (k.group.leq_sum _ _ (k.place a.rise) (s.higher a.link.from)) h
        | inr h ↦ absurd (fits h)
      ]
        where
          fits : largest < k.size (Weight times a.link.from) + k.size a.rise → ⊥
          fits h =
              let t = s.small a.link.from i in
              let u = s.room in
              omega arith
  goes arcs rest n m a first times times' ls ls' busy true i j p q did s = record {
    sound = raised k.group k.place arcs n (Label times) (Label times') ls ls' a (s.among a (has_here a rest)) i j here other more kept kept_other s.sound;
    rows = rows;
    small = small;
    room = s.room;
    among = λ b h. s.among b (has_later a b rest h);
    higher = λ v. k.group.leq_trans _ _ _ (s.higher v) (up v);
    tried = λ b h. elim (s.tried b h) [
      | inl l ↦ elim (has_cases a b rest l) [
        | inl e ↦ inr (subst (λ c. Le k.group (k.group.sum (Label first c.link.from) (k.place c.rise)) (Label times' c.link.to)) e
            (subst (Le k.group _) (sym here) (k.group.leq_sum _ _ (k.place a.rise) (s.higher a.link.from))))
        | inr l ↦ inl l
      ]
      | inr l ↦ inr (k.group.leq_trans _ _ _ l (up b.link.to))
    ];
    calm = λ e. absurd (true≢false (or_parts busy true e).1);
    some = λ e. (a.link.to, j, le_lt_lt k.group _ _ _ (s.higher a.link.to) more);
  }
    where
      to : ℕ
      to = a.link.to

      row_here : get_or times' to (k.rowed k.nought) ≡ k.rowed did.weight
      row_here = ap (λ t. get_or t to (k.rowed k.nought)) did.raised ∙ get_or-set_same times to (k.rowed did.weight) (k.rowed k.nought) (omega arith)

      row_other : (x : ℕ) → (x ≡ to → ⊥) → get_or times' x (k.rowed k.nought) ≡ get_or times x (k.rowed k.nought)
      row_other x d = ap (λ t. get_or t x (k.rowed k.nought)) did.raised ∙ get_or-set_other times to x (k.rowed did.weight) (k.rowed k.nought) d

      weight_here : Weight times' to ≡ did.weight
      weight_here = ap k.weighed row_here ∙ back did.weight

      weight_other : (x : ℕ) → (x ≡ to → ⊥) → Weight times' x ≡ Weight times x
      weight_other x d = ap k.weighed (row_other x d)

      rows : Rowed k n times'
      rows v p =
          elim (cases_eq v to) [
            | inl e ↦ subst (λ x. get_or times' x (k.rowed k.nought) ≡ k.rowed (Weight times' x)) (sym e) (row_here ∙ ap k.rowed (sym weight_here))
            | inr d ↦ row_other v d ∙ s.rows v p ∙ ap k.rowed (sym (weight_other v d))
          ]

      here : Label times' to ≡ k.group.sum (Label times a.link.from) (k.place a.rise)
      here = ap k.place weight_here ∙ did.sums.placed

      other : (x : ℕ) → (x ≡ to → ⊥) → Label times' x ≡ Label times x
      other x d = ap k.place (weight_other x d)

      more : Lt k.group (Label times to) (Label times' to)
      more = subst (Lt k.group (Label times to)) (sym (ap k.place weight_here)) did.higher

      kept : kept_at ls' to ≡ kept_as a.link
      kept = ap (λ l. kept_at l to) did.kept ∙ get_or-set_same ls to _ None (omega arith)

      kept_other : (x : ℕ) → (x ≡ to → ⊥) → kept_at ls' x ≡ kept_at ls x
      kept_other x d = ap (λ l. kept_at l x) did.kept ∙ get_or-set_other ls to x _ None d

      up : (v : ℕ) → Le k.group (Label times v) (Label times' v)
      up = no_lower k.group k.place arcs n (Label times) (Label times') ls ls' a (s.among a (has_here a rest)) i j here other more kept kept_other s.sound

      small : (v : ℕ) → v < n → k.size (Weight times' v) + sizes k.size rest ≤ m + sizes k.size arcs
      small v o =
          elim (cases_eq v to) [
            | inl e ↦
                let t = s.small a.link.from i in
                let u = did.sums.sized in
                let w = ap k.size (ap (Weight times') e ∙ weight_here) in
                omega arith
            | inr d ↦
                let t = s.small v o in
                let w = ap k.size (weight_other v d) in
                omega arith
          ]
