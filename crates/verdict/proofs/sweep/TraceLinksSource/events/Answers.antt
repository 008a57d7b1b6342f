use Rattle.verdict.proofs.Arcs.{arcs_inside}
use Rattle.verdict.proofs.sweep.TraceLinksSource.events.Goals as goal

pub returns-clause-inside : goal.returns-clause-inside
returns-clause-inside g c =
    let k = g.K.Kind in
    let s = c.args.self.now in
    arcs_inside k s.delays.now s.on.now s.events.now
