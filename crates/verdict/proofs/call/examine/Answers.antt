use Rattle.std.proofs.Common.{◌≤◌, map, length, sym, refl, ap, subst, subst₂, arith}
use Rattle.std.specs.List.{AllByRecursion}
use Rattle.trace.specs.Spells.{Spells}
use Rattle.trace.specs.Tally.{Settles}
use Rattle.verdict.specs.Answer.{Enough}
use Rattle.verdict.specs.Right.{Finds}
use Rattle.verdict.specs.Schedule.{switched}
use Rattle.verdict.proofs.Verdicts.{modest, finds}
use Rattle.verdict.proofs.call.examine.Given
use Rattle.verdict.proofs.call.examine.Goals as goal
use Rattle.verdict.proofs.call.examine.Goals.{then-tables-count-via-then-tables-count, then-tables-count-via-else-tables-count+then-tables-count-2, then-tables-count-via-else-tables-count+else-tables-count-2+then-tables-count-3, then-tables-count-via-else-tables-count+else-tables-count-2+else-tables-count-3+then-on-delays}

pub returns-clause-right : goal.returns-clause-right
returns-clause-right g c =
    let k = g.K.Kind in
    let rules = g.met.K.Kind.rules in
    let u = c.search.new.tables in
    let bytes = c.args.on.now in
    let found = c.search.result in
    let xs = c.delays-delays.result.now in
    let es = c.events-events.result.now in
    let delays = c.delays-delays.ensures.rows in
    let events = c.events-events.ensures.rows in
    let long : length es ≤ length u.times.now = omega (arith, c.search.ensures.rows.times.long, c.if-tables-count.false) in
    let marks : Settles (map (λ x. x.given) xs) es = subst₂ (λ ys fs. Settles (map (λ x. x.given) ys) fs) (sym delays) (sym events) c.events-events.ensures.settled in
    let rows : AllByRecursion (Spells k.limited k.rowed) xs = subst (AllByRecursion (Spells k.limited k.rowed)) (sym delays) c.args.trace.now.spelled in
    let owned = c.delays-delays.ensures.owned in
    subst₂ (λ ys fs. Finds k (map (λ x. x.given) ys) fs (switched bytes) u found.chain) delays events
    (finds k rules xs bytes es owned marks rows u found.chain long
    (c.search.ensures.concludes (modest k rules xs bytes es owned marks rows c.events-events.ensures.few)))

-- something is too short
abbrev lacks : (g : Given.Over) (c : goal.Joined-then-tables-count g) → Enough (length c.events-events.result.now) (length c.delays-delays.result.now) c.args.on.now c.args.tables.now → ⊥
lacks g c e = elim c.then-tables-count.branch [
  | then-tables-count-via-then-tables-count w ↦ omega (arith, e.tables.times)
  | then-tables-count-via-else-tables-count+then-tables-count-2 w ↦ omega (arith, e.tables.chain)
  | then-tables-count-via-else-tables-count+else-tables-count-2+then-tables-count-3 w ↦ omega (arith, e.tables.scratch)
  | then-tables-count-via-else-tables-count+else-tables-count-2+else-tables-count-3+then-on-delays w ↦ omega (arith, e.delays)
]

pub returns-then-tables-count-clause-rows : goal.returns-then-tables-count-clause-rows
returns-then-tables-count-clause-rows g c = record {
  lacks = λ e. lacks g c (subst₂ (λ m d. Enough m d c.args.on.now c.args.tables.now) (sym (ap length c.events-events.ensures.rows)) (sym (ap length c.delays-delays.ensures.rows)) e);
  times = refl;
  chain = refl;
  scratch = refl;
}
