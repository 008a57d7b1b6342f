use Rattle.std.proofs.Common.{◌≤◌, set, sym, ◌∙◌, subst, arith}
use Rattle.std.proofs.lemmas.List.{length-set}
use Rattle.verdict.specs.Kept.{kept_as, Closed}
use Rattle.verdict.specs.Scratch.{links_of}
use Rattle.verdict.specs.declared.link.Kept.{Kept}
use Rattle.verdict.proofs.Frames.{closed_set}
use Rattle.verdict.proofs.Searching.{weight_read, raises}
use Rattle.verdict.proofs.rows.Rows.relax.Goals as goal

pub invariant_of-self-2 : goal.invariant_of-self-2
invariant_of-self-2 g c =
    let t = c.args.self.now in
    let l = c.args.arc.link in
    let row : Kept = record { link = kept_as l; stamp = 0 } in
    let long = length-set t.kept.now l.to row in
    record {
      few = subst (λ n. n ≤ 512) (sym long) t.few;
      labels = length-set t.times.now l.to c.to_row.result ∙ t.labels ∙ sym long;
      room = t.room ∙ sym long;
      closed = subst (Closed (links_of (set t.kept.now l.to row))) (sym long) (closed_set _ t.kept.now l.to row c.requires.1 c.requires.0 t.closed);
    }

pub returns-clause-relaxes : goal.returns-clause-relaxes
returns-clause-relaxes g c =
    let k = g.K.Kind in
    let rules = g.met.K.Kind.rules in
    let times = c.args.self.now.times.now in
    let a = c.args.arc in
    let same = c.args.self.now.labels in
    let read = weight_read k rules times in
    raises k rules a times _ c.from_row-from.result c.from_row.result
    (read a.link.from _ _ (omega (arith, same, c.requires)) c.from_row-from.ensures)
    (read a.link.to _ _ (omega (arith, same, c.requires)) c.from_row.ensures)
    c.in-Some.label c.to_row.result (sym c.add.ensures ∙ c.in-Some.is) (sym c.if-at_most.ensures) c.to_row.ensures
