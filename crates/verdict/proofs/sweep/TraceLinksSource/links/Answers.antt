use Rattle.std.proofs.Common.{◌<◌, length, sym, arith}
use Rattle.std.proofs.lemmas.Bool.{eqb-false}
use Rattle.std.proofs.lemmas.Iterator.Consumers.{YieldsList-from_first}
use Rattle.verdict.specs.Sweep.{left}
use Rattle.verdict.proofs.Arcs.{arcs_start}
use Rattle.verdict.proofs.sweep.TraceLinksSource.links.Goals as goal

pub returns-clause-all : goal.returns-clause-all
returns-clause-all g c =
    let k = g.K.Kind in
    let s = c.args.self.now in
    let some : 0 < length s.events.now = omega (arith, eqb-false _ _ (sym c.if-is_empty.ensures)) in
    (YieldsList-from_first (λ x. x) (left k) _ (arcs_start k s.delays.now s.on.now s.events.now (left k c.visit.new.self) some c.visit.ensures)).runs
