use Rattle.std.proofs.Common.{◌<◌, sym, ap, ◌∙◌, subst, arith}
use Rattle.trace.specs.Plain.{at_most}
use Rattle.trace.specs.State.{plain_of}
use Rattle.book.specs.Entries.{Accepted}
use Rattle.book.specs.Layout.{event_next}
use Rattle.book.specs.Trailer.{count_of_events}
use Rattle.book.proofs.Readings.{event_place_more, event_accepted, event_stopped}
use Rattle.book.proofs.trailer.Sections.read_events.Goals as goal

pub loop-init : goal.loop-init
loop-init g c =
    let k = g.K.Kind in
    let s = c.args.self.now in
    record {
      place = s.events_begin;
      accepted = λ p before. subst (λ n. Accepted k.limited (at_most k.group k.place) s.book.now p n (plain_of c.args.trace.now)) (omega arith) before;
    }

pub returns-in-Err : goal.returns-in-Err
returns-in-Err g c =
    let k = g.K.Kind in
    let s = c.args.self.now in
    let i = c.loop.counter in
    let old = c.loop.invariant in
    let told = c.in-Err.ensures.enters in
    let more : i < count_of_events s.book.now = omega (arith, s.events_are) in
    λ p before. event_stopped k.limited (at_most k.group k.place) s.book.now p i _ c.loop.place old.place (old.accepted p before) c.in-Err.fault _ _ more c.at.ensures told.0 told.1

pub loop-preserved : goal.loop-preserved
loop-preserved g c =
    let k = g.K.Kind in
    let book = c.args.self.now.book.now in
    let i = c.loop.counter in
    let old = c.loop.invariant in
    let told = c.in-Ok.ensures in
    record {
      place = told.next ∙ ap (event_next book) old.place ∙ sym (event_place_more book i);
      accepted = λ p before. event_accepted k.limited (at_most k.group k.place) book p i _ c.loop.place old.place (old.accepted p before) _ told.enters.0 told.enters.1;
    }
