use Rattle.std.proofs.Common.{◌≡◌, suc, ◌+◌, ◌-◌, ◌*◌, Bool, true, false, length, take, None, sym, ◌∙◌, subst, subst₂, arith, rules}
use Rattle.verdict.specs.Kept.{First, Written}
use Rattle.verdict.specs.Label.{Closes}
use Rattle.verdict.specs.Scratch.{links_of}
use Rattle.verdict.specs.Step.{sizes, Concludes, Fresh, Modest, Turns, Sweeps}
use Rattle.verdict.proofs.Frames.{same_same, same_then}
use Rattle.verdict.proofs.Searching.{Searching, start, swept, next, settles, chained, over}
use Rattle.verdict.proofs.search.rounds.Given
use Rattle.verdict.proofs.search.rounds.Goals as goal
use Rattle.verdict.proofs.search.rounds.Goals.{After-sweep, In_default}

-- a round that could start
round_is : (g : Given.Over) (c : After-sweep g) (b : Bool)
    → let k = g.S.Weight.Kind in let arcs = g.S.Source.all c.args.source.now in let n = length c.args.kept.now in let t = c.loop-round.rows in let u = c.sweep.new.rows in
    Modest k arcs n → Turns k arcs (length t.kept.now) t.times.now u.times.now (links_of t.kept.now) (links_of u.kept.now) b
    → Sweeps k arcs n ((c.loop-round.round - 1) * sizes k.size arcs) t.times.now u.times.now (links_of u.kept.now) b
round_is g c b modest turns =
    swept g.S.Weight.Kind g.met.S.Weight.Kind.rules (g.S.Source.all c.args.source.now) (length c.args.kept.now) c.requires.0 (c.loop-round.round - 1) _ _ (c.loop-round.invariant.2 modest)
    (omega (arith, c.new-rows.ensures.events)) _ _ b modest _ (c.loop-round.invariant.0.events ∙ c.new-rows.ensures.events) turns

-- a round that raised a label and left no cycle
later : (g : Given.Over) (c : In_default g)
    → let k = g.S.Weight.Kind in let arcs = g.S.Source.all c.args.source.now in let n = length c.args.kept.now in let w = c.find.new.self in
    Modest k arcs n → Searching k g.met.S.Weight.Kind.rules arcs n c.loop-round.round w.times.now (links_of w.kept.now)
later g c modest =
    let k = g.S.Weight.Kind in
    let rules = g.met.S.Weight.Kind.rules in
    let arcs = g.S.Source.all c.args.source.now in
    let n = length c.args.kept.now in
    let round = c.loop-round.round in
    let stamps = c.find.ensures.stamps in
    let events = c.new-rows.ensures.events in
    let one : suc (round - 1) ≡ round = omega arith in
    let long = c.sweep.ensures.same.events ∙ c.loop-round.invariant.0.events ∙ events in
    subst (λ r. Searching k rules arcs n r c.find.new.self.times.now (links_of c.find.new.self.kept.now)) one
    (subst₂ (Searching k rules arcs n (suc (round - 1))) (sym stamps.times) (sym stamps.links)
    (next k rules arcs n c.requires.0 (round - 1) _ _ (c.loop-round.invariant.2 modest) (omega arith) _ _
    (round_is g (goal.at.In_default g c).After-sweep true modest c.if-not-sweep.ensures.round) (λ v p. c.in_default.ensures.found v (omega arith))))

pub loop-round-init : goal.loop-round-init
loop-round-init g c =
    let k = g.S.Weight.Kind in
    let rows = c.new-rows.result in (
      same_same _,
      c.new-rows.ensures.room,
      λ _. start k g.met.S.Weight.Kind.rules (g.S.Source.all c.args.source.now) (length c.args.kept.now) c.requires.0 _ _
          (subst (λ n. Fresh k n rows.times.now (links_of rows.kept.now)) c.new-rows.ensures.events c.new-rows.ensures.fresh),
    )

pub returns-then-not-sweep-clause-concludes : goal.returns-then-not-sweep-clause-concludes
returns-then-not-sweep-clause-concludes g c = λ modest.
    let k = g.S.Weight.Kind in
    let arcs = g.S.Source.all c.args.source.now in
    let n = length c.args.kept.now in
    let events = c.new-rows.ensures.events in
    subst (λ times. Concludes k arcs n times c.args.chain.now None) (search rules)
    (settles k g.met.S.Weight.Kind.rules arcs n c.requires.0 (c.loop-round.round - 1) _ _ (c.loop-round.invariant.2 modest) (omega arith) _ _
    (round_is g (goal.at.returns-then-not-sweep-clause-concludes g c).After-sweep false modest c.if-not-sweep.ensures.round))

pub returns-in-Some-clause-concludes : goal.returns-in-Some-clause-concludes
returns-in-Some-clause-concludes g c = λ modest.
    let k = g.S.Weight.Kind in
    let arcs = g.S.Source.all c.args.source.now in
    let n = length c.args.kept.now in
    let links = c.write-links.result in
    let on = c.in-Some.on in
    let found = c.in-Some.ensures.found in
    let stamps = c.find.ensures.stamps in
    let wrote = c.write-links.ensures in
    let events = c.new-rows.ensures.events in
    let long = c.sweep.ensures.same.events ∙ c.loop-round.invariant.0.events ∙ events in
    subst (λ chain. Closes k.group k.place arcs (take links chain)) (search rules)
    (chained k g.met.S.Weight.Kind.rules arcs n c.requires.0 (c.loop-round.round - 1) _ _ (c.loop-round.invariant.2 modest) (omega arith) _ _
    on links _ (omega (arith, found.inside))
    (subst (λ l. First l on links) stamps.links wrote.first)
    (subst (λ l. Written l on links (take links c.write-links.new.self.chain.now)) stamps.links wrote.written)
    (round_is g (goal.at.returns-in-Some-clause-concludes g c).After-sweep true modest c.if-not-sweep.ensures.round))

pub loop-round-preserved : goal.loop-round-preserved
loop-round-preserved g c =
    let inv = c.loop-round.invariant in
    let stamps = c.find.ensures.stamps in
    let same : c.loop-round.round ≡ c.loop-round.round + 1 - 1 = omega arith in (
      same_then inv.0 (same_then c.sweep.ensures.same stamps.same),
      stamps.chain ∙ c.sweep.ensures.chain ∙ inv.1,
      λ modest. subst (λ r. Searching g.S.Weight.Kind g.met.S.Weight.Kind.rules (g.S.Source.all c.args.source.now) (length c.args.kept.now) r c.find.new.self.times.now (links_of c.find.new.self.kept.now)) same
          (later g (goal.at.loop-round-preserved g c).In_default modest),
    )

pub returns-clause-concludes : goal.returns-clause-concludes
returns-clause-concludes g c = λ modest.
    let events = c.new-rows.ensures.events in
    subst (λ times. Concludes g.S.Weight.Kind (g.S.Source.all c.args.source.now) (length c.args.kept.now) times c.args.chain.now None) (search rules)
    (over _ _ _ _ c.requires.0 _ _ _ (c.loop-round.invariant.2 modest) (omega arith))

pub returns-in_default-clause-concludes : goal.returns-in_default-clause-concludes
returns-in_default-clause-concludes g c = λ modest.
    let events = c.new-rows.ensures.events in
    subst (λ times. Concludes g.S.Weight.Kind (g.S.Source.all c.args.source.now) (length c.args.kept.now) times c.args.chain.now None) (search rules)
    (over _ _ _ _ c.requires.0 _ _ _ (later g (goal.at.returns-in_default-clause-concludes g c).In_default modest) (omega arith))
