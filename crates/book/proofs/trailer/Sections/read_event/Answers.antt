use Rattle.std.proofs.Common.{Some, sym, refl, ◌∙◌, ap}
use Rattle.std.proofs.lemmas.Result.{err_from_is_err_and}
use Rattle.trace.specs.Plain.{at_most, with_event, event_of}
use Rattle.trace.specs.State.{plain_of}
use Rattle.book.proofs.Events.{marks_are, event_misshaped, event_noted}
use Rattle.book.proofs.trailer.Sections.read_event.Goals as goal

pub returns-in_err-marks-clause-enters : goal.returns-in_err-marks-clause-enters
returns-in_err-marks-clause-enters g c =
    let k = g.K.Kind in
    let p = err_from_is_err_and c.from_residual-in_err-marks.result c.from_residual-in_err-marks.ensures.1 in
    let told = c.in_err-marks.ensures in
    rw (p.1, p.2) (event_misshaped c.in_ok-spelled.spelled.now c.args.self.now.book.now c.args.place c.in_ok-spelled.ensures k.limited (at_most k.group k.place) (plain_of c.args.trace.now) told.0 ∙ ap Some (sym told.1), refl)

pub returns-in_err-note-clause-enters : goal.returns-in_err-note-clause-enters
returns-in_err-note-clause-enters g c =
    let k = g.K.Kind in
    let p = err_from_is_err_and c.from_residual-in_err-note.result c.from_residual-in_err-note.ensures.1 in
    let read = c.in_ok-marks.ensures in
    let told = c.in_err-note.ensures.plainly in
    rw (p.1, p.2) (event_noted c.in_ok-spelled.spelled.now c.args.self.now.book.now c.args.place c.in_ok-spelled.ensures k.limited (at_most k.group k.place) (plain_of c.args.trace.now) read.0 _ (c.as_slice.ensures ∙ read.1) _ told.0, told.1)

pub returns-clause-enters : goal.returns-clause-enters
returns-clause-enters g c =
    let k = g.K.Kind in
    let spelled = c.in_ok-spelled.spelled.now in
    let book = c.args.self.now.book.now in
    let p = plain_of c.args.trace.now in
    let s = c.in_ok-spelled.ensures in
    let read = c.in_ok-marks.ensures in
    let told = c.in_ok-note.ensures.plainly in (
      event_noted spelled book c.args.place s k.limited (at_most k.group k.place) p read.0 _ (c.as_slice.ensures ∙ read.1) _ told.0,
      told.1 ∙ ap (λ ms. with_event p (event_of ms)) (marks_are spelled book c.args.place s _ (c.as_slice.ensures ∙ read.1)),
    )
