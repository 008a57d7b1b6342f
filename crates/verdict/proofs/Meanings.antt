-- What the links that are drawn mean: the links of the trace. Assumes nothing.
use Rattle.std.proofs.Common.{◌≡◌, ℕ, zero, suc, ◌-◌, ◌<◌, true, List, [], ◌∷◌, map, length, Some, None, Option, sym, refl, ap, ◌∙◌, subst, subst₂, inl, inr, arith}
use Rattle.std.proofs.lemmas.Bool.{cases_Bool, cond-true, cond-false}
use Rattle.std.proofs.lemmas.Option.{none-some, same_Some, slice_get-map, slice_get_within}
use Rattle.std.specs.List.{slice_get, ContainsAt as Has, AllByRecursion}
use Rattle.std.specs.Option.{option_map, option_and_then}
use Rattle.kinds.specs.Group.{Le, Lt}
use Rattle.kinds.specs.Laws.{le_refl, le_from_eq, lt_le, lt_sum}
use Rattle.kinds.specs.declared.kind.Kind.{Ghosts}
use Rattle.trace.specs.Plain.{weight_of, upper_weight}
use Rattle.trace.specs.Spells.{Spells}
use Rattle.trace.specs.declared.parts.Declared.{Declared}
use Rattle.trace.specs.declared.parts.Delay.{Delay}
use Rattle.trace.specs.declared.parts.Event.{Event}
use Rattle.verdict.specs.Label.{Solves, Least, edge_of, Closes}
use Rattle.verdict.specs.Right.{Comes, Rows, Forbidden}
use Rattle.verdict.specs.Schedule.{switched, Edge, Wait, Schedule, Earliest, Next, Link, Walk, total, Every}
use Rattle.verdict.specs.Sweep.{gap_arc, limit_of, limit_arc, arcs_of}
use Rattle.verdict.specs.declared.link.Arc.{Arc}
use Rattle.verdict.specs.declared.link.Bound.{Bound}
use Rattle.verdict.specs.declared.link.Bound.TheVariants as bound
use Rattle.verdict.specs.declared.link.Link as row
use Rattle.verdict.specs.declared.machine.Match.{Match}
use Rattle.verdict.specs.declared.links.Limit.{Limit}
use Rattle.verdict.specs.declared.links.Limit.TheVariants.{Least as least, Most as most}
use Rattle.verdict.proofs.Lawful.{Laws}
use Rattle.verdict.proofs.Drawn.{Limited, drawn, draws_limit, draws_gap}
use Rattle.kinds.proofs.Groups.{le_grows, le_move, le_back, le_hop, neg_neg, nil_sum, lt_not_le}
use Rattle.verdict.proofs.Marking.{OneEach}

pub mapped_some : {X Y : Type 0} (f : X → Y) (o : Option X) (y : Y) → option_map f o ≡ Some y → (x : X) × (o ≡ Some x) × (f x ≡ y)
mapped_some f None y e = absurd (none-some y e)
mapped_some f (Some x) y e = (x, refl, same_Some (f x) y e)

pub all_nth : {X : Type 0} (P : X → Type 0) (xs : List X) → AllByRecursion P xs → (d : ℕ) (x : X) → slice_get xs d ≡ Some x → P x
all_nth P [] h d x e = absurd (none-some x e)
all_nth P (y ∷ xs) h zero x e = subst P (same_Some y x e) h.0
all_nth P (y ∷ xs) h (suc d) x e = all_nth P xs h.1 d x e

module _ {W R : Type 0} (kind : Ghosts W R) (xs : List (Delay R)) (on : List ℕ) (k : ℕ) (m : Match) where
  -- the link of a lower limit
  abbrev low : Delay R → Arc W
  low x = record { link = record { from = m.since; to = k; by = bound.Lower m.delay }; rise = kind.weighed x.least }

  abbrev high : R → Arc W
  high r = record { link = record { from = k; to = m.since; by = bound.Upper m.delay }; rise = kind.opposed (kind.weighed r) }

  -- whose delay is on, and has such a limit
  limit_is : (l : Limit) (a : Arc W) → limit_arc kind xs on l k (Some m) ≡ Some a
      → (switched on m.delay ≡ true) × ((x : Delay R) × (slice_get xs m.delay ≡ Some x) × (limit_of kind l k m x ≡ Some a))
  limit_is l a h =
      elim (cases_Bool (switched on m.delay)) [
        | inl s ↦ (s, go (slice_get xs m.delay) (sym (cond-true _ _ _ s) ∙ h))
        | inr s ↦ absurd (none-some a (sym (cond-false _ _ _ s) ∙ h))
      ]
    where
      go : (o : Option (Delay R)) → option_and_then (limit_of kind l k m) o ≡ Some a → (x : Delay R) × (o ≡ Some x) × (limit_of kind l k m x ≡ Some a)
      go None e = absurd (none-some a e)
      go (Some x) e = (x, refl, e)

  is_limit : (l : Limit) (x : Delay R) → switched on m.delay ≡ true → slice_get xs m.delay ≡ Some x
      → limit_arc kind xs on l k (Some m) ≡ limit_of kind l k m x
  is_limit l x s e = cond-true _ _ _ s ∙ ap (option_and_then (limit_of kind l k m)) e

  is_lower : (x : Delay R) → switched on m.delay ≡ true → slice_get xs m.delay ≡ Some x → limit_arc kind xs on least k (Some m) ≡ Some (low x)
  is_lower x s e = is_limit least x s e

  is_upper : (x : Delay R) (r : R) → switched on m.delay ≡ true → slice_get xs m.delay ≡ Some x → x.most ≡ Some r → limit_arc kind xs on most k (Some m) ≡ Some (high r)
  is_upper x r s e f = is_limit most x s e ∙ ap (option_map high) f

module _ {W R : Type 0} (kind : Ghosts W R) (rules : Laws kind)
    (xs : List (Delay R)) (on : List ℕ) (es : List Event) (one : OneEach xs es)
    (spelled : (d : ℕ) (x : Delay R) → slice_get xs d ≡ Some x → Spells kind.limited kind.rowed x) where
  abbrev ds : List Declared
  ds = map (λ x. x.given) xs

  abbrev arcs : List (Arc W)
  arcs = arcs_of kind xs on es

  -- the limits of a row, as weights
  pub least_weight : (d : ℕ) (x : Delay R) → slice_get xs d ≡ Some x → (w : W) × (weight_of kind.limited x.given.lower ≡ Some w) × (kind.weighed x.least ≡ w)
  least_weight d x e =
      let (w, p, q) = mapped_some kind.rowed (weight_of kind.limited x.given.lower) x.least (spelled d x e).least in
      (w, p, ap kind.weighed (sym q) ∙ rules.row_back w)

  pub most_weight : (d : ℕ) (x : Delay R) (r : R) → slice_get xs d ≡ Some x → x.most ≡ Some r → (w : W) × (upper_weight kind.limited x.given.upper ≡ Some w) × (kind.weighed r ≡ w)
  most_weight d x r e f =
      let (w, p, q) = mapped_some kind.rowed (upper_weight kind.limited x.given.upper) r ((spelled d x e).most ∙ f) in
      (w, p, ap kind.weighed (sym q) ∙ rules.row_back w)

  declared : (d : ℕ) (x : Delay R) → slice_get xs d ≡ Some x → slice_get ds d ≡ Some x.given
  declared d x e = slice_get-map (λ x. x.given) xs d ∙ ap (option_map (λ x. x.given)) e

  -- the weight of a delay's limit, and its link
  abbrev weight_in : Limit → Declared → Option W
  weight_in least given = weight_of kind.limited given.lower
  weight_in most given = upper_weight kind.limited given.upper

  abbrev link_in : Limit → ℕ → ℕ → ℕ → W → Arc W
  link_in least d j k w = record { link = record { from = j; to = k; by = bound.Lower d }; rise = w }
  link_in most d j k w = record { link = record { from = k; to = j; by = bound.Upper d }; rise = kind.opposed w }

  -- a limit that is drawn, of a wait of the delay d from the event j to the event k: its row and its weight
  pub record Weighed (a : Arc W) (l : Limit) (d j k : ℕ) : Type 0 where
    pub row : Delay R
    pub waits : Wait kind.group kind.place kind.spacing kind.limited ds es (switched on) d j k row.given
    pub weight : W
    pub weighs : weight_in l row.given ≡ Some weight
    pub is : link_in l d j k weight ≡ a

  pub weighed : (a : Arc W) (t : Limited kind xs on es one a) → Weighed a t.limit t.delay t.begin t.end
  weighed a t =
      let (s, (x, e, is)) = limit_is kind xs on t.end (record { delay = t.delay; since = t.begin }) t.limit a t.arc in
      go x e (record { declared = declared t.delay x e; switched = s; matches = t.matches }) t.limit is
    where
      go : (x : Delay R) → slice_get xs t.delay ≡ Some x → Wait kind.group kind.place kind.spacing kind.limited ds es (switched on) t.delay t.begin t.end x.given
          → (l : Limit) → limit_of kind l t.end (record { delay = t.delay; since = t.begin }) x ≡ Some a → Weighed a l t.delay t.begin t.end
      go x e wait least is =
          let (w, p, q) = least_weight t.delay x e in
          record { row = x; waits = wait; weight = w; weighs = p; is = ap (link_in least t.delay t.begin t.end) (sym q) ∙ same_Some _ a is }
      go x e wait most is =
          let (r, o, same) = mapped_some (high kind xs on t.end (record { delay = t.delay; since = t.begin })) x.most a is in
          let (w, p, q) = most_weight t.delay x r e o in
          record { row = x; waits = wait; weight = w; weighs = p; is = ap (link_in most t.delay t.begin t.end) (sym q) ∙ same }

  -- the links that are drawn are links of the trace
  pub comes : (a : Arc W) → Has arcs a → Comes kind ds es (switched on) a.link.by (edge_of kind.group kind.place a)
  comes a h =
      elim (drawn kind xs on es one a h) [
        | inl t ↦ subst (λ a. Comes kind ds es (switched on) a.link.by (edge_of kind.group kind.place a)) t.arc (gap t.event t.later t.inside)
        | inr t ↦ let w = weighed a t in subst (λ a. Comes kind ds es (switched on) a.link.by (edge_of kind.group kind.place a)) w.is (limit_comes t.delay t.begin t.end w.row w.waits w.weight t.limit w.weighs)
      ]
    where
      gap : (k : ℕ) → 0 < k → k < length es → Next kind.group kind.place kind.spacing kind.limited ds es (switched on) (edge_of kind.group kind.place (gap_arc kind k))
      gap k o p = record { inside = omega arith; to = omega arith; cost = refl }

      limit_comes : (d j k : ℕ) (x : Delay R) → Wait kind.group kind.place kind.spacing kind.limited ds es (switched on) d j k x.given → (w : W) (l : Limit) → weight_in l x.given ≡ Some w
          → Comes kind ds es (switched on) (link_in l d j k w).link.by (edge_of kind.group kind.place (link_in l d j k w))
      limit_comes d j k x wait w least p = (record { delay = d; given = x.given; limit = w; waits = wait; weight = p; cost = refl }, refl)
      limit_comes d j k x wait w most p = (record { delay = d; given = x.given; limit = w; waits = wait; weight = p; cost = ap kind.group.neg (rules.opposes w).placed ∙ neg_neg kind.group (kind.place w) }, refl)

  -- a link of the trace, met by a schedule
  held : (u : ℕ → kind.Time) → Schedule kind.group kind.place kind.spacing kind.limited ds es (switched on) u → (by : Bound) (l : Edge kind.Time) → Comes kind ds es (switched on) by l
      → Le kind.group (u l.from) (kind.group.sum (u l.to) l.cost)
  held u s bound.Gap l n = subst₂ (λ t c. Le kind.group (u l.from) (kind.group.sum (u t) c)) (sym n.to) (sym n.cost) (le_move kind.group _ _ _ (s.gaps l.from n.inside))
  held u s (bound.Lower d) l (n, e) = subst (λ c. Le kind.group (u l.from) (kind.group.sum (u l.to) c)) (sym n.cost)
      (le_move kind.group _ _ _ (s.lowers n.delay l.from l.to n.given n.limit n.waits n.weight))
  held u s (bound.Upper d) l (n, e) = subst (λ c. Le kind.group (u l.from) (kind.group.sum (u l.to) c)) (sym n.cost)
      (s.uppers n.delay l.to l.from n.given n.limit n.waits n.weight)

  above_gap : Le kind.group kind.group.nil (kind.place kind.spacing)
  above_gap = lt_le kind.group _ _ rules.spacing_above

  -- a schedule solves the links that are drawn
  pub solves : (u : ℕ → kind.Time) → Schedule kind.group kind.place kind.spacing kind.limited ds es (switched on) u → Solves kind.group kind.place arcs (length es) u
  solves u s = record {
    above = above;
    meets = λ a h. subst (λ c. Le kind.group (kind.group.sum (u a.link.from) c) (u a.link.to)) (neg_neg kind.group (kind.place a.rise))
        (le_back kind.group _ _ _ (held u s a.link.by (edge_of kind.group kind.place a) (comes a h)));
  }
    where
      above : (v : ℕ) → v < length es → Le kind.group kind.group.nil (u v)
      above zero p = le_from_eq kind.group _ _ (sym (s.start p))
      above (suc v) p = kind.group.leq_trans _ _ _ (above v (omega arith)) (kind.group.leq_trans _ _ _ (le_grows kind.group (u v) (kind.place kind.spacing) above_gap) (s.gaps v p))

  module _ (P : ℕ → kind.Time) (s : Least kind.group kind.place arcs (length es) P) where
    gap_met : (i : ℕ) → suc i < length es → Le kind.group (kind.group.sum (P i) (kind.place kind.spacing)) (P (suc i))
    gap_met i p =
        let e : suc i - 1 ≡ i = omega arith in
        subst (λ j. Le kind.group (kind.group.sum (P j) (kind.place kind.spacing)) (P (suc i))) e
        (s.solves.meets (gap_arc kind (suc i)) (draws_gap kind xs on es one i p))

    -- each event comes no sooner than event 0,
    rising : (v : ℕ) → v < length es → Le kind.group (P 0) (P v)
    rising zero p = le_refl kind.group (P 0)
    rising (suc v) p = kind.group.leq_trans _ _ _ (rising v (omega arith))
        (kind.group.leq_trans _ _ _ (le_grows kind.group (P v) (kind.place kind.spacing) above_gap) (gap_met v p))

    shifted : (v : ℕ) → kind.Time
    shifted v = kind.group.sum (P v) (kind.group.neg (P 0))

    slides : (a c z : kind.Time) → kind.group.sum (kind.group.sum a z) c ≡ kind.group.sum (kind.group.sum a c) z
    slides a c z = kind.group.sum_assoc a z c ∙ ap (kind.group.sum a) (kind.group.sum_comm z c) ∙ sym (kind.group.sum_assoc a c z)

    -- so the times less that of event 0 solve the links too, and event 0 is at zero
    pub starts : 0 < length es → P 0 ≡ kind.group.nil
    unfolding shifted
    starts p = kind.group.leq_antisym _ _
        (subst (Le kind.group (P 0)) (kind.group.sum_neg (P 0)) (s.least shifted (record {
          above = λ v q. subst (λ y. Le kind.group y (shifted v)) (kind.group.sum_neg (P 0)) (kind.group.leq_sum _ _ (kind.group.neg (P 0)) (rising v q));
          meets = λ a h. subst (λ y. Le kind.group y (shifted a.link.to)) (sym (slides _ _ _)) (kind.group.leq_sum _ _ (kind.group.neg (P 0)) (s.solves.meets a h));
        }) 0 p))
        (s.solves.above 0 p)

    waited : (d j k : ℕ) (given : Declared) → Wait kind.group kind.place kind.spacing kind.limited ds es (switched on) d j k given → (x : Delay R) × (slice_get xs d ≡ Some x) × (x.given ≡ given)
    waited d j k given w = mapped_some (λ x. x.given) (slice_get xs d) given (sym (slice_get-map (λ x. x.given) xs d) ∙ w.declared)

    pub schedules : Schedule kind.group kind.place kind.spacing kind.limited ds es (switched on) P
    schedules = record {
      start = starts;
      gaps = gap_met;
      lowers = λ d j k given w wait e.
          let (x, n, is) = waited d j k given wait in
          let (v, p, q) = least_weight d x n in
          let same : v ≡ w = same_Some v w (sym p ∙ ap (λ z. weight_of kind.limited z.lower) is ∙ e) in
          let m : Match = record { delay = d; since = j } in
          let a = low kind xs on k m x in
          let met = s.solves.meets a (draws_limit kind xs on es one a (record {
            limit = least;
            delay = d;
            begin = j;
            end = k;
            declared = slice_get_within xs d x n;
            matches = wait.matches;
            arc = is_lower kind xs on k m x wait.switched n;
          })) in
          subst (λ z. Le kind.group (kind.group.sum (P j) (kind.place z)) (P k)) (q ∙ same) met;
      uppers = λ d j k given w wait e.
          let (x, n, is) = waited d j k given wait in
          let most_is : Some (kind.rowed w) ≡ x.most = ap (option_map kind.rowed) (sym (ap (λ z. upper_weight kind.limited z.upper) is ∙ e)) ∙ (spelled d x n).most in
          let m : Match = record { delay = d; since = j } in
          let a = high kind xs on k m (kind.rowed w) in
          let met = s.solves.meets a (draws_limit kind xs on es one a (record {
            limit = most;
            delay = d;
            begin = j;
            end = k;
            declared = slice_get_within xs d x n;
            matches = wait.matches;
            arc = is_upper kind xs on k m x (kind.rowed w) wait.switched n (sym most_is);
          })) in
          let cost : kind.group.neg (kind.place (kind.opposed (kind.weighed (kind.rowed w)))) ≡ kind.place w = ap kind.group.neg (rules.opposes _).placed ∙ neg_neg kind.group _ ∙ ap kind.place (rules.row_back w) in
          subst (λ c. Le kind.group (P k) (kind.group.sum (P j) c)) cost (le_move kind.group _ _ _ met);
    }

    pub earliest : Earliest kind.group kind.place kind.spacing kind.limited ds es (switched on) P
    earliest = record { schedule = schedules; least = λ u k. s.least u (solves u k) }

  -- links that a schedule meets, one after the other
  along : (u : ℕ → kind.Time) → Schedule kind.group kind.place kind.spacing kind.limited ds es (switched on) u → (ls : List (Arc W)) → AllByRecursion (Has arcs) ls → (a b : ℕ)
      → Walk a b (map (edge_of kind.group kind.place) ls) → Le kind.group (u a) (kind.group.sum (u b) (total kind.group (map (edge_of kind.group kind.place) ls)))
  along u s [] h a b w = subst (λ y. Le kind.group (u a) (kind.group.sum (u y) kind.group.nil)) w (le_from_eq kind.group _ _ (sym (kind.group.sum_nil (u a))))
  along u s (x ∷ ls) (h, hs) a b (f, w) =
      subst₂ (λ y c. Le kind.group (u y) (kind.group.sum (u b) c)) f (kind.group.sum_comm _ _)
      (le_hop kind.group _ _ _ _ _ (held u s x.link.by (edge_of kind.group kind.place x) (comes x h)) (along u s ls hs x.link.to b w))

  rows : (ls : List (Arc W)) → AllByRecursion (Has arcs) ls → Rows kind ds es (switched on) (map (λ a. a.link) ls) (map (edge_of kind.group kind.place) ls)
  rows [] h = tt
  rows (x ∷ ls) (h, hs) = (record { from = refl; to = refl; by = comes x h }, rows ls hs)

  linked : (by : Bound) (l : Edge kind.Time) → Comes kind ds es (switched on) by l → Link kind.group kind.place kind.spacing kind.limited ds es (switched on) l
  linked bound.Gap l n = inl n
  linked (bound.Lower d) l (n, e) = inr (inl n)
  linked (bound.Upper d) l (n, e) = inr (inr n)

  all_links : (ls : List (Arc W)) → AllByRecursion (Has arcs) ls → Every (Link kind.group kind.place kind.spacing kind.limited ds es (switched on)) (map (edge_of kind.group kind.place) ls)
  all_links [] h = tt
  all_links (x ∷ ls) (h, hs) = (linked _ _ (comes x h), all_links ls hs)

  -- a chain of drawn links is a chain of the trace, which no schedule survives
  pub forbidden : (rs : List row.Link) → Closes kind.group kind.place arcs rs → Forbidden kind ds es (switched on) rs
  forbidden rs c = record {
    none = λ (u, s). lt_not_le kind.group _ _ (subst₂ (Lt kind.group) (kind.group.sum_comm _ (u c.chain.start)) (nil_sum kind.group _) (lt_sum kind.group _ _ (u c.chain.start) c.chain.below))
        (along u s c.links c.among c.chain.start c.chain.start c.chain.closed);
    links = map (edge_of kind.group kind.place) c.links;
    chain = record {
      start = c.chain.start;
      some = c.chain.some;
      closed = c.chain.closed;
      simple = c.chain.simple;
      links = all_links c.links c.among;
      below = c.chain.below;
    };
    written = subst (λ r. Rows kind ds es (switched on) r (map (edge_of kind.group kind.place) c.links)) c.written (rows c.links c.among);
  }
