use Rattle.trace.proofs.Notes.{processes_taken}
use Rattle.trace.proofs.table.Trace.delays.Goals as goal

pub returns-clause-owned : goal.returns-clause-owned
returns-clause-owned g c =
    let t = c.args.self.now in
    rw c.as_slice.ensures (processes_taken t.delays.rows.now t.delays.used t.delays.few.0 t.owned)
