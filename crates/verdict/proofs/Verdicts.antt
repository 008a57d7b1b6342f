-- What a search over the links of a trace finds is right of the trace. Assumes nothing.
use Rattle.std.proofs.Common.{get_or, ◌≡◌, ℕ, suc, ◌<◌, ◌≤◌, Bool, List, map, length, Some, None, Option, sym, ap, ◌∙◌, subst, subst₂, mul-le-mul, arith}
use Rattle.std.proofs.lemmas.List.{get_or_default}
use Rattle.std.specs.List.{AllByRecursion}
use Rattle.kinds.specs.Group.{Le}
use Rattle.kinds.specs.declared.kind.Kind.{Ghosts}
use Rattle.trace.specs.Matching.{Matches}
use Rattle.trace.specs.Sound.{Processes}
use Rattle.trace.specs.Spells.{Spells}
use Rattle.trace.specs.Tally.{Settled, Settles}
use Rattle.trace.specs.declared.parts.Declared.{Declared}
use Rattle.trace.specs.declared.parts.Delay.{Delay}
use Rattle.trace.specs.declared.parts.Event.{Event}
use Rattle.verdict.specs.Right.{Finds, Right, Timed}
use Rattle.verdict.specs.Step as step
use Rattle.verdict.specs.Step.{Modest, label, weight_at}
use Rattle.verdict.specs.Schedule.{switched, Earliest}
use Rattle.verdict.specs.Sweep.{arcs_of}
use Rattle.verdict.specs.declared.tables.Tables.{Tables}
use Rattle.verdict.specs.declared.verdict.Verdict.TheVariants.{Consistent}
use Rattle.verdict.proofs.Lawful.{Laws}
use Rattle.verdict.proofs.Marking.{Single, OneEach}
use Rattle.verdict.proofs.Meanings.{all_nth, earliest, forbidden}
use Rattle.verdict.proofs.Sizing.{arcs_small}
use Rattle.verdict.proofs.Waits.{same_process}

-- the same of the rows of delays as of the delays given
single : {R : Type 0} (xs : List (Delay R)) (w : ℕ) → Settled (map (λ x. x.given) xs) w → Single xs w
single xs w s d e h i p = s.apart d e h i (same_process xs d ∙ p ∙ sym (same_process xs e))

module _ {W R : Type 0} (kind : Ghosts W R) (rules : Laws kind)
    (xs : List (Delay R)) (on : List ℕ) (es : List Event) (ps : Processes (length xs) xs)
    (marks : Settles (map (λ x. x.given) xs) es) (spelled : AllByRecursion (Spells kind.limited kind.rowed) xs) where
  one : OneEach xs es
  one = record { processes = ps; begins = λ k p. single xs _ (marks.begins k p); ends = λ k p. single xs _ (marks.ends k p) }

  -- no sum of a search is too large
  pub modest : length es ≤ 512 → Modest kind (arcs_of kind xs on es) (length es)
  modest few =
      mul-le-mul few (arcs_small kind rules xs on es one (all_nth (Spells kind.limited kind.rowed) xs spelled) few)

  pub finds : (t : Tables W R) (o : Option ℕ) → length es ≤ length t.times.now
      → step.Concludes kind (arcs_of kind xs on es) (length es) t.times.now t.chain.now o
      → Finds kind (map (λ x. x.given) xs) es (switched on) t o
  finds t None long (s, rows) = record {
    time = weight_at kind t.times.now;
    written = λ i d p. get_or_default t.times.now i d (kind.rowed kind.nought) (omega arith) ∙ rows i p;
    earliest = earliest kind rules xs on es one (all_nth (Spells kind.limited kind.rowed) xs spelled)
        (label kind t.times.now) s;
  }
  finds t (Some l) long s =
      forbidden kind rules xs on es one (all_nth (Spells kind.limited kind.rowed) xs spelled) _ s

module _ {W R : Type 0} (kind : Ghosts W R) (back : (w : W) → kind.weighed (kind.rowed w) ≡ w)
    (ds : List Declared) (es : List Event) (on : ℕ → Bool) where
  -- times that agree at every event are the earliest alike
  same_times : (t u : ℕ → kind.Time) → ((i : ℕ) → i < length es → t i ≡ u i) → Earliest kind.group kind.place kind.spacing kind.limited ds es on t → Earliest kind.group kind.place kind.spacing kind.limited ds es on u
  same_times t u e s = record {
    schedule = record {
      start = λ h. sym (e 0 h) ∙ s.schedule.start h;
      gaps = λ i h. subst₂ (λ a b. Le kind.group (kind.group.sum a (kind.place kind.spacing)) b) (e i (omega arith)) (e (suc i) h) (s.schedule.gaps i h);
      lowers = λ d j k given w x y. subst₂ (λ a b. Le kind.group (kind.group.sum a (kind.place w)) b) (e j (before x.matches)) (e k x.matches.noted) (s.schedule.lowers d j k given w x y);
      uppers = λ d j k given w x y. subst₂ (λ a b. Le kind.group b (kind.group.sum a (kind.place w))) (e j (before x.matches)) (e k x.matches.noted) (s.schedule.uppers d j k given w x y);
    };
    least = λ v h i p. subst (λ a. Le kind.group a (v i)) (e i p) (s.least v h i p);
  }
    where
      before : {d j k : ℕ} → Matches ds es d j k → j < length es
      before m = omega (arith, m.later, m.noted)

  -- rows of weights that are the earliest times, read as weights, whatever is read past the table's end
  pub times_read : (past : R) (times : List R) → Timed kind ds es on times
      → Earliest kind.group kind.place kind.spacing kind.limited ds es on (λ i. kind.place (kind.weighed (get_or times i past)))
  times_read past times x =
      same_times (λ i. kind.place (x.time i)) _ (λ i p. sym (ap kind.place (ap kind.weighed (x.written i past p) ∙ back (x.time i)))) x.earliest

  -- and as the verdict has them
  pub timed_right : (t : Tables W R) → Timed kind ds es on t.times.now → Right kind ds es on t Consistent
  timed_right t x = times_read _ t.times.now x
