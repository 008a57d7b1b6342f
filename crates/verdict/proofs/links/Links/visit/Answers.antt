use Rattle.std.proofs.Common.{◌∙◌, ap}
use Rattle.trace.specs.declared.parts.Event.{Event}
use Rattle.verdict.specs.Sweep.{ended as ended_in, afters, present}
use Rattle.verdict.proofs.Arcs.{visited}
use Rattle.verdict.proofs.links.Links.visit.Goals as goal

pub returns : goal.returns
returns g c =
    let k = g.K.Kind in
    let s = c.args.self.now in
    let none : Event = record { begins = 0; ends = 0 } in
    let marks = c.marks-marks.ensures in
    visited k s.trace.delays.now s.trace.on.now s.trace.events.now s.event s.waits c.advance-self.new.waits _ none
    (c.advance-self.ensures.ended ∙ ap (λ ms. present (ended_in s.waits ms)) marks) (c.advance-self.ensures.waits ∙ ap (afters s.event s.waits) marks) c.requires
