use Rattle.std.proofs.Common.{sym, subst, arith}
use Rattle.verdict.specs.Edge.{Neighbour}
use Rattle.verdict.specs.Sweep.{arcs_of}
use Rattle.verdict.proofs.Arcs.{gap_neighbour}
use Rattle.verdict.proofs.sweep.TraceLinksSource.neighbour.Goals as goal

pub returns : goal.returns
returns g c low high =
    let k = g.K.Kind in
    let s = c.args.self.now in
    subst (Neighbour (arcs_of k s.delays.now s.on.now s.events.now) c.args.event) (sym (c.gap.ensures (omega (arith, s.short))))
    (gap_neighbour k s.delays.now s.on.now s.events.now c.args.event low high)
