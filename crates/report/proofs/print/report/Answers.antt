use Rattle.std.proofs.Common.{Ok, Err, sym, subst, rules}
use lib.ListN.{length-replicate}
use Rattle.std.proofs.lemmas.Result.{IfOk-weaker}
use Rattle.trace.specs.State.{plain_of}
use Rattle.report.specs.Judges.{JudgesIn}
use Rattle.report.proofs.Tellings.{gives, told}
use Rattle.report.proofs.print.report.Goals as goal

pub returns-in-Err : goal.returns-in-Err
returns-in-Err g c =
    let k = g.K.Kind in
    let q = plain_of c.read.new.trace in
    let read = gives k.group k.place k.spacing k.limited k.coded c.args.book.now _ q _ _ (Err c.in-Err.why)
    c.open-trace.ensures.plainly (search (rules, length-replicate)) (search (rules, length-replicate)) c.in-Err.ensures.reads in
    IfOk-weaker c.refused.result _ _ (λ r e. subst (JudgesIn k.group k.place k.spacing k.limited k.coded c.args.book.now) (sym e) (q, read)) c.refused.ensures

pub returns : goal.returns
returns g c =
    let k = g.K.Kind in
    let q = plain_of c.read.new.trace in
    let read = gives k.group k.place k.spacing k.limited k.coded c.args.book.now _ q _ _ (Ok tt)
    c.open-trace.ensures.plainly (search (rules, length-replicate)) (search (rules, length-replicate)) c.in-Ok.ensures.reads in
    told k.group k.place k.spacing k.limited k.coded c.args.book.now q _ read c.in_ok-judge-in-Ok.ensures
