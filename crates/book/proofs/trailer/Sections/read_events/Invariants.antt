use Rattle.std.proofs.Common.{◌≡◌, ◌+◌}
use Rattle.trace.specs.Plain.{Plain, at_most}
use Rattle.trace.specs.State.{plain_of}
use Rattle.book.specs.Entries.{Accepted, event_place}
use Rattle.book.specs.Trailer.{count_of_delays}
use Rattle.book.proofs.trailer.Sections.read_events.Given as goal

-- the place of the next event, and that the events so far are accepted, if the delays were
abbrev pub invariant-loop : goal.invariant-loop
invariant-loop g l =
    let k = g.K.Kind in
    let book = l.self.book.now in
    let accepted = Accepted k.limited (at_most k.group k.place) book in
    record {
      place : l.place ≡ event_place book l.counter;
      accepted : (p : Plain) → accepted p (count_of_delays book) (plain_of l.initial.trace) → accepted p (count_of_delays book + l.counter) (plain_of l.trace);
    }
