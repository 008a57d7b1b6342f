use Rattle.trace.specs.Plain.{at_most}
use Rattle.trace.specs.State.{plain_of}
use Rattle.book.proofs.Readings.{accepted_none, delay_accepted, delay_stopped}
use Rattle.book.proofs.trailer.Sections.read_delays.Goals as goal

pub loop-index-init : goal.loop-index-init
loop-index-init g c =
    let k = g.K.Kind in
    accepted_none k.limited (at_most k.group k.place) _ _

pub returns-in-Err : goal.returns-in-Err
returns-in-Err g c =
    let k = g.K.Kind in
    let s = c.args.self.now in
    let told = c.in-Err.ensures in
    delay_stopped k.limited (at_most k.group k.place) s.book.now (plain_of c.args.trace.now) c.loop-index.index _ s.delays.now s.delays_are c.loop-index-test.true c.loop-index.invariant s.delays_at c.in-Err.fault _ _ s.delays_begin c.at.ensures told.0 told.1

pub loop-index-preserved : goal.loop-index-preserved
loop-index-preserved g c =
    let k = g.K.Kind in
    let s = c.args.self.now in
    let told = c.in_default.ensures in
    delay_accepted k.limited (at_most k.group k.place) s.book.now (plain_of c.args.trace.now) c.loop-index.index _ s.delays.now s.delays_are c.loop-index-test.true c.loop-index.invariant _ told.0 told.1
