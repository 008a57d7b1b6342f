use Rattle.std.proofs.Common.{◌≡◌, ◌-◌, ap, ◌∙◌, arith, rules}
use Rattle.book.specs.Trailer.{start_in, delays_back, events_back, delays_in, count_of_delays, count_of_events}
use Rattle.book.proofs.Parts.{delay_entries, trailer_read}
use Rattle.book.proofs.trailer.Sections.find.Goals as goal
use Rattle.book.proofs.trailer.Sections.find.Goals.{After-from_be_bytes-event_count}

-- the numbers that were read are those that the trailer tells
told : (c : After-from_be_bytes-event_count) → let book = c.args.book.now in
    (c.from_be_bytes-delays.result ≡ delays_back book) × (c.from_be_bytes-events.result ≡ events_back book) × (c.from_be_bytes-delay_count.result ≡ count_of_delays book) × (c.from_be_bytes-event_count.result ≡ count_of_events book)
told c =
    let read = trailer_read c.args.book.now c.bytes_at.result c.bytes_at-2.result c.bytes_at-3.result c.bytes_at-4.result c.bytes_at.ensures c.bytes_at-2.ensures c.bytes_at-3.ensures c.bytes_at-4.ensures in
    (c.from_be_bytes-delays.ensures ∙ read.0, c.from_be_bytes-events.ensures ∙ read.1, c.from_be_bytes-delay_count.ensures ∙ read.2, c.from_be_bytes-event_count.ensures ∙ read.3)

pub invariant_of-result-clause-delays_are : goal.invariant_of-result-clause-delays_are
invariant_of-result-clause-delays_are c =
    let book = c.args.book.now in
    let t = told (goal.at.invariant_of-result-clause-delays_are c).After-from_be_bytes-event_count in
    let begins : start_in book - c.from_be_bytes-delays.result ≡ delays_in book = ap (λ n. start_in book - n) t.0 in
    delay_entries book _ _ _ begins t.2 (omega arith) (c.as_chunks.ensures.front, c.as_chunks.ensures.front_len)

pub returns-then-delay_count-gt-MOST_DELAYS : goal.returns-then-delay_count-gt-MOST_DELAYS
returns-then-delay_count-gt-MOST_DELAYS c = let t = told (goal.at.returns-then-delay_count-gt-MOST_DELAYS c).After-from_be_bytes-event_count in search rules

pub returns : goal.returns
returns c = let t = told (goal.at.returns c).After-from_be_bytes-event_count in search rules
