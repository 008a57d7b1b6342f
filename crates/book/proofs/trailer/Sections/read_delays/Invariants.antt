use Rattle.trace.specs.Plain.{at_most}
use Rattle.trace.specs.State.{plain_of}
use Rattle.book.specs.Entries.{Accepted}
use Rattle.book.proofs.trailer.Sections.read_delays.Given as goal

-- the entries so far are accepted
abbrev pub invariant-loop-index : goal.invariant-loop-index
invariant-loop-index g l =
    let k = g.K.Kind in
    Accepted k.limited (at_most k.group k.place) l.self.book.now (plain_of l.initial.trace) l.index (plain_of l.trace)
