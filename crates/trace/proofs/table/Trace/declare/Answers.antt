use Rattle.std.proofs.Common.{◌<◌, length, sym, arith}
use Rattle.std.proofs.lemmas.List.{map_push, take_more_set}
use Rattle.trace.specs.Spells.{Spells}
use Rattle.trace.specs.declared.parts.Delay.{Delay}
use Rattle.trace.proofs.Notes.{settles_more}
use Rattle.trace.proofs.Tables.{all_pushed, processes_more, free_row}
use Rattle.trace.proofs.table.Trace.declare.Goals as goal

pub invariant_of-self : goal.invariant_of-self
invariant_of-self g c =
    let k = g.K.Kind in
    let t = c.args.self.now in
    let row = c.in_ok-row.row in
    let free : t.delays.used < length t.delays.rows.now = free_row _ _ 64 (sym c.if-is_full.ensures) in
    let low : row.given.process < 16 = rw c.in_ok-row.ensures.1 (omega arith) in
    let told = c.push.ensures in
    record {
      owned = rw (told.rows, told.used) (processes_more _ _ row free low t.owned);
      settled = rw (told.rows, told.used, take_more_set t.delays.rows.now t.delays.used row free, map_push {X = Delay _} (λ x. x.given)) (settles_more _ row.given _ t.settled);
      spelled = rw (told.rows, told.used) (all_pushed (Spells k.limited k.rowed) _ _ row free c.in_ok-row.ensures.2 t.spelled);
    }
