use Rattle.std.proofs.Common.{sym, subst}
use Rattle.book.specs.Trailer.{kind_in}
use Rattle.report.specs.Told.{Told}
use Rattle.report.proofs.Tellings.{told_as}
use Rattle.report.proofs.print.print_book.Goals as goal

pub returns : goal.returns
returns c =
    let book = c.args.book.now in
    subst (Told book) (sym c.err.ensures.value) (told_as (kind_in book) book c.in_ok-judge_book.field-0 c.in_ok-judge_book.ensures)
