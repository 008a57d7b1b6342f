use Rattle.std.proofs.Common.{sym, subst}
use Rattle.std.proofs.lemmas.Result.{IfOk-weaker}
use Rattle.book.specs.Trailer.{kind_in}
use Rattle.report.specs.Judges.{Judges}
use Rattle.report.proofs.Tellings.{refused_as}
use Rattle.report.proofs.print.judge_book.Goals as goal

pub returns-in-Err : goal.returns-in-Err
returns-in-Err c =
    let book = c.args.book.now in
    IfOk-weaker c.refused.result _ _ (λ r e. subst (Judges book) (sym e) (refused_as (kind_in book) book c.in-Err.why c.in-Err.ensures)) c.refused.ensures
