use Rattle.std.proofs.Common.{take, refl, ap, ◌∙◌, take_all}
use Rattle.std.proofs.lemmas.List.{drop_all}
use Rattle.std.proofs.lemmas.Result.{err_from_is_err_and}
use Rattle.trace.specs.State.{plain_of}
use Rattle.trace.specs.Plain.{begun, ended, word, first_offence}
use Rattle.trace.specs.declared.parts.Mark.TheVariants.{Begin, End}
use Rattle.trace.proofs.Tallies.{tally_none, begun_begin, begun_end, ended_begin, ended_end, marks_more, offence_none, offence_some}
use Rattle.trace.proofs.table.Trace.gather.Goals as goal
use Rattle.trace.proofs.table.Trace.gather.Goals.{in-Begin+in_ok-take-in-Begin, in-End+in_ok-take-in-End}

pub loop-mark-init : goal.loop-mark-init
loop-mark-init g c = (refl, tally_none _, tally_none _)

pub returns-in_err-take-in-Begin : goal.returns-in_err-take-in-Begin
returns-in_err-take-in-Begin g c =
    let p = err_from_is_err_and c.from_residual.result c.from_residual.ensures.1 in
    let ds = (plain_of c.args.self.now).delays in
    rw (p.1, p.2) (c.loop-mark.invariant.0 ∙ offence_some ds c.args.marks.now c.loop-mark.mark-index (Begin c.in-Begin.number) c.loop-mark-test.true c.in-Begin.is _ (c.in_err-take-in-Begin.ensures (begun (take c.loop-mark.mark-index c.args.marks.now)) c.loop-mark.invariant.1))

pub returns-in_err-take-in-End : goal.returns-in_err-take-in-End
returns-in_err-take-in-End g c =
    let p = err_from_is_err_and c.from_residual-in_err-take-in-End.result c.from_residual-in_err-take-in-End.ensures.1 in
    let ds = (plain_of c.args.self.now).delays in
    rw (p.1, p.2) (c.loop-mark.invariant.0 ∙ offence_some ds c.args.marks.now c.loop-mark.mark-index (End c.in-End.number) c.loop-mark-test.true c.in-End.is _ (c.in_err-take-in-End.ensures (ended (take c.loop-mark.mark-index c.args.marks.now)) c.loop-mark.invariant.2))

pub loop-mark-preserved : goal.loop-mark-preserved
loop-mark-preserved g c =
    let ds = (plain_of c.args.self.now).delays in
    let ms = c.args.marks.now in
    let i = c.loop-mark.mark-index in
    let in-marks = c.loop-mark-test.true in
    elim c.match-mark.branch [
      | in-Begin+in_ok-take-in-Begin w ↦
          let d = w.in-Begin.number in
          let more = marks_more ds ms i (Begin d) in-marks w.in-Begin.is in
          let took = w.in_ok-take-in-Begin.ensures (begun (take i ms)) c.loop-mark.invariant.1 in (
            c.loop-mark.invariant.0 ∙ offence_none ds ms i (Begin d) in-marks w.in-Begin.is took.0,
            rw (w.begun-is, more, begun_begin (take i ms) d) took.1,
            rw (w.ended-is, more, ended_begin (take i ms) d) c.loop-mark.invariant.2,
          )
      | in-End+in_ok-take-in-End w ↦
          let d = w.in-End.number in
          let more = marks_more ds ms i (End d) in-marks w.in-End.is in
          let took = w.in_ok-take-in-End.ensures (ended (take i ms)) c.loop-mark.invariant.2 in (
            c.loop-mark.invariant.0 ∙ offence_none ds ms i (End d) in-marks w.in-End.is took.0,
            rw (w.begun-is, more, begun_end (take i ms) d) c.loop-mark.invariant.1,
            rw (w.ended-is, more, ended_end (take i ms) d) took.1,
          )
    ]

pub returns : goal.returns
returns g c =
    let all = take_all c.loop-mark.mark-index c.args.marks.now c.loop-mark-test.false in
    let none = drop_all c.loop-mark.mark-index c.args.marks.now c.loop-mark-test.false in
    record {
      passed = c.loop-mark.invariant.0 ∙ ap (first_offence _ _) none;
      event = λ i. record { begins = (c.loop-mark.invariant.1.word_is ∙ ap (λ ms. word (begun ms)) all) i; ends = (c.loop-mark.invariant.2.word_is ∙ ap (λ ms. word (ended ms)) all) i };
      begins = c.loop-mark.invariant.1.settled;
      ends = c.loop-mark.invariant.2.settled;
    }
