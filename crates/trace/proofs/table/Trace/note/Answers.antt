use Rattle.std.proofs.Common.{◌<◌, length, sym}
use Rattle.std.proofs.lemmas.List.{take_more_set}
use Rattle.trace.proofs.Notes.{settles_noted}
use Rattle.trace.proofs.Tables.{free_row}
use Rattle.trace.proofs.table.Trace.note.Goals as goal

pub invariant_of-self-clause-settled : goal.invariant_of-self-clause-settled
invariant_of-self-clause-settled g c =
    let t = c.args.self.now in
    let e = c.in_ok-event.event in
    let got = c.in_ok-event.ensures in
    let told = c.push.ensures in
    let free : t.events.used < length t.events.rows.now = free_row _ _ 512 (sym c.if-is_full.ensures) in
    rw (told.rows, told.used, take_more_set t.events.rows.now t.events.used e free) (settles_noted _ _ e t.settled got.begins got.ends)
