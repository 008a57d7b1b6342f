use Rattle.std.proofs.Common.{◌++◌, drop, sym, ◌∙◌, subst, arith}
use Rattle.std.proofs.lemmas.List.{length-take-le}
use Rattle.verdict.specs.Edge.{Inside}
use Rattle.verdict.specs.Frame.{Holds}
use Rattle.verdict.specs.Step.{Concludes, Modest}
use Rattle.verdict.proofs.Frames.{past_cut, chain_cut}
use Rattle.verdict.proofs.Searching.{concluded}
use Rattle.verdict.proofs.search.search.Goals as goal

pub returns-clause-rows : goal.returns-clause-rows
returns-clause-rows g c =
    let n = c.events-events.result in
    let same = c.events-events.ensures.value in
    let t = c.args.tables.now in
    let r = c.rounds.new in
    let held = subst (λ m. Holds m t) (sym same) c.requires in
    let kept = length-take-le n t.scratch.now held.scratch in
    record {
      rounds = omega (arith, c.rounds.ensures.rounds);
      times = past_cut n t.times.now r.times held.times c.rounds.auto.times _ same;
      scratch = past_cut n t.scratch.now r.kept held.scratch c.rounds.auto.kept _ same;
      chain = chain_cut n t.chain.now r.chain held.chain c.rounds.auto.chain _ same _ kept _ c.rounds.ensures.chain;
    }

pub returns-clause-concludes : goal.returns-clause-concludes
returns-clause-concludes g c = λ modest.
    let k = g.S.Weight.Kind in
    let arcs = g.S.Source.all c.args.source.now in
    let n = c.events-events.result in
    let t = c.args.tables.now in
    let r = c.rounds.new in
    let same = c.events-events.ensures.value in
    let times = length-take-le n t.times.now (omega (arith, c.requires.times)) in
    let chain = length-take-le n t.chain.now (omega (arith, c.requires.chain)) in
    let kept = length-take-le n t.scratch.now (omega (arith, c.requires.scratch)) in
    let all = kept ∙ same in
    subst (λ m. Concludes k arcs m (r.times ++ drop n t.times.now) (r.chain ++ drop n t.chain.now) c.rounds.result.chain) all
    (concluded k g.met.S.Weight.Kind.rules arcs _ (subst (λ m. Inside m arcs) (sym all) c.events-events.ensures.inside) r.times _ (c.rounds.auto.times ∙ times ∙ sym kept)
    _ _ r.chain _ _ (omega (arith, c.rounds.auto.chain)) _ c.rounds.ensures.chain (c.rounds.ensures.concludes (subst (Modest k arcs) (sym all) modest)))
