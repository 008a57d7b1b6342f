use Rattle.std.proofs.Common.{subst}
use Rattle.trace.specs.State.{plain_of}
use Rattle.verdict.specs.Right.{Finds}
use Rattle.verdict.specs.Schedule.{switched}
use Rattle.verdict.proofs.Verdicts.{timed_right}
use Rattle.verdict.proofs.call.decide.Goals as goal

pub returns-in-None-clause-times : goal.returns-in-None-clause-times
returns-in-None-clause-times g c =
    let p = plain_of c.args.trace.now in
    subst (Finds g.K.Kind p.delays p.events (switched c.args.on.now) c.examine.new.tables) c.in-None.is c.in_ok-found.ensures.right

pub returns-in-None-clause-right : goal.returns-in-None-clause-right
returns-in-None-clause-right g c =
    let p = plain_of c.args.trace.now in
    timed_right g.K.Kind g.met.K.Kind.rules.row_back p.delays p.events (switched c.args.on.now) c.examine.new.tables (returns-in-None-clause-times g c)
