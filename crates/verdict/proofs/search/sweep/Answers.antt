use Rattle.std.proofs.Common.{◌≡◌, ◌≤◌, [], ◌∷◌, ◌++◌, length, drop, ◌∙◌, subst, arith}
use lib.ListN.{length-map}
use Rattle.std.proofs.lemmas.Iterator.{YieldsList}
use Rattle.verdict.specs.Edge.{Inside}
use Rattle.verdict.specs.Scratch.{links_of}
use Rattle.verdict.proofs.Frames.{same_then}
use Rattle.verdict.proofs.Handed.{road, handed, none_left}
use Rattle.verdict.proofs.Sweeping.{Going, goes, ends}
use Rattle.verdict.proofs.search.sweep.Given
use Rattle.verdict.proofs.search.sweep.Goals as goal
use Rattle.verdict.proofs.search.sweep.Goals.{In-Some, After-next}

-- the loop takes the links of the source, in their order
way : (g : Given.Over) (c : After-next g) → YieldsList g.S.Links.Iterator.next_gives (λ x. x) c.into_iter-arc-iterator.result (g.S.Source.all c.args.source.now)
way g c = road g.S.Links.Iterator.next_gives (g.S.Source.all c.args.source.now) c.into_iter-arc-iterator.ensures.into_iter_gives c.links-arc-items.ensures.all

-- the link that comes is the first of those left,
first_left : (g : Given.Over) (c : In-Some g) → let arcs = g.S.Source.all c.args.source.now in let a = c.in-Some.arc in drop (length c.loop-arc.yielded) arcs ≡ a ∷ drop (length (c.loop-arc.yielded ++ (a ∷ []))) arcs
first_left g c = handed (way g (goal.at.In-Some g c).After-next) c.loop-arc.yielded _ c.loop-arc.yielded_by _ _ c.in-Some.arc c.in-Some.is c.next.ensures.steps

-- and lies among the events, as those after it do
in_range : (g : Given.Over) (c : In-Some g) → let a = c.in-Some.arc in Inside (length c.args.rows.now.kept.now) (a ∷ drop (length (c.loop-arc.yielded ++ (a ∷ []))) (g.S.Source.all c.args.source.now))
in_range g c = subst (Inside (length c.args.rows.now.kept.now)) (first_left g c) c.loop-arc.invariant.1

pub relax-raised-requires : goal.relax-raised-requires
relax-raised-requires g c =
    let inside = in_range g (goal.at.relax-raised-requires g c).In-Some in
    let long = c.loop-arc.invariant.0.events in
    (omega (arith, inside.0), omega (arith, inside.1))

pub loop-arc-preserved : goal.loop-arc-preserved
loop-arc-preserved g c =
    let k = g.S.Weight.Kind in
    let back = g.met.S.Weight.Kind.rules.row_back in
    let n = length c.args.rows.now.kept.now in
    let arcs = g.S.Source.all c.args.source.now in
    let first = c.args.rows.now.times.now in
    let t = c.loop-arc.rows in
    let u = c.relax-raised.new.self in
    let at = (goal.at.loop-arc-preserved g c).In-Some in
    let inside = in_range g at in
    let long = c.loop-arc.invariant.0.events in
    let rows : n ≤ length t.times.now = omega (arith, t.labels) in
    let kept : n ≤ length (links_of t.kept.now) = rw length-map (omega arith) in (
      same_then c.loop-arc.invariant.0 c.relax-raised.ensures.same,
      inside.2,
      λ m r. goes k back arcs _ n m c.in-Some.arc first t.times.now u.times.now (links_of t.kept.now) (links_of u.kept.now) _ _
          inside.0 inside.1 rows kept c.relax-raised.ensures.relaxes
          (subst (λ left. Going k back arcs left n m first t.times.now (links_of t.kept.now) c.loop-arc.raised) (first_left g at) (c.loop-arc.invariant.2 m r)),
      c.relax-raised.ensures.chain ∙ c.loop-arc.invariant.3,
    )

pub returns-clause-round : goal.returns-clause-round
returns-clause-round g c =
    let k = g.S.Weight.Kind in
    let back = g.met.S.Weight.Kind.rules.row_back in
    let arcs = g.S.Source.all c.args.source.now in
    let first = c.args.rows.now.times.now in
    let n = length c.args.rows.now.kept.now in
    let t = c.loop-arc.rows in
    let over = none_left (way g (goal.at.returns-clause-round g c).After-next) c.loop-arc.yielded _ c.loop-arc.yielded_by _ _ c.in-None.is c.next.ensures.steps in
    λ m r. ends k back arcs n m first t.times.now (links_of t.kept.now) _
    (subst (λ left. Going k back arcs left n m first t.times.now (links_of t.kept.now) c.loop-arc.raised) over (c.loop-arc.invariant.2 m r))
