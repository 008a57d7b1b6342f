use Rattle.std.proofs.Common.{rules}
use Rattle.trace.specs.Plain.{at_most}
use Rattle.trace.specs.State.{plain_of}
use Rattle.book.specs.Entries.{Reads}
use Rattle.book.proofs.Keeping.{grown_none, grown_stopped, grown_reads}
use Rattle.book.proofs.read.read.Goals as goal

pub returns-in_err-sections-clause-keeps : goal.returns-in_err-sections-clause-keeps
returns-in_err-sections-clause-keeps g c = grown_none _

pub returns-in_err-read_delays-clause-keeps : goal.returns-in_err-read_delays-clause-keeps
returns-in_err-read_delays-clause-keeps g c =
    let k = g.K.Kind in
    grown_stopped k.limited (at_most k.group k.place) c.in_ok-sections.sections.book.now _ _ _ _ c.in_err-read_delays.ensures

pub returns : goal.returns
returns g c =
    let k = g.K.Kind in
    let leq = at_most k.group k.place in
    let book = c.args.book.now in
    let p = plain_of c.args.trace.now in
    let q = plain_of c.read_events.new.trace in
    let reads : Reads k.limited leq book k.coded p c.read_events.result q = search rules in
    record { keeps = grown_reads k.limited leq book p k.coded c.read_events.result q reads; reads = reads }
