use Rattle.std.proofs.Common.{◌≡◌, ℕ, length, ap, ◌∙◌, arith}
use lib.ListN.{length-map, length-replicate}
use Rattle.std.proofs.lemmas.List.{length-take-le}
use Rattle.trace.specs.State.{plain_of, delay_rows_of, event_rows_of}
use Rattle.report.proofs.Switches.{says}
use Rattle.report.proofs.print.decided.Goals as goal

-- every table has room for 512 events, and there is a byte for each of 64 delays
pub unreachable-requires : goal.unreachable-requires
unreachable-requires g c =
    let t = c.args.trace.now in
    let events : length (event_rows_of t) ≡ t.events.used = length-take-le t.events.used t.events.rows.now t.events.few.0 in
    let delays : length (delay_rows_of t) ≡ t.delays.used = length-take-le t.delays.used t.delays.rows.now t.delays.few.0 in
    let bytes = ap length c.requires.ones ∙ length-replicate {A = ℕ} 64 1 in
    c.in-Err.ensures.rows.lacks (record {
      tables = record { times = omega (arith, t.events.few); chain = omega (arith, t.events.few); scratch = omega (arith, t.events.few) };
      delays = omega (arith, t.delays.few);
    })

pub returns-clause-says : goal.returns-clause-says
returns-clause-says g c =
    let t = c.args.trace.now in
    let delays : length (plain_of t).delays ≡ t.delays.used = length-map _ _ ∙ length-take-le t.delays.used t.delays.rows.now t.delays.few.0 in
    says g.K.Kind (plain_of t) 64 c.args.on.now c.decide.new.tables c.in-Ok.verdict (omega (arith, t.delays.few)) c.requires.ones c.in-Ok.ensures.right
