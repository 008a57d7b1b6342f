use Rattle.std.proofs.Common.{sym, subst, subst₂, inl, inr, arith}
use Rattle.std.proofs.lemmas.Bool.{cases_eq}
use Rattle.verdict.specs.Scratch.{stamp_at}
use Rattle.verdict.specs.Kept.{Checked, Grounded}
use Rattle.verdict.proofs.Frames.{stamped_then}
use Rattle.verdict.proofs.rows.Rows.find.Goals as goal

pub walk-requires : goal.walk-requires
walk-requires g c =
    let so = c.loop-start.invariant.0 in
    let events = c.unstamp.auto.kept in (
      omega (arith, so.same.events, c.loop-start-test.true),
      subst₂ (λ ls n. Checked ls n c.loop-start.start (stamp_at c.loop-start.self.kept.now)) (sym so.links) (sym so.same.events) c.loop-start.invariant.1,
    )

pub loop-start-preserved : goal.loop-start-preserved
loop-start-preserved g c =
    let so = c.loop-start.invariant.0 in
    let found = c.in_default.ensures.found in (
      stamped_then so c.in_default.ensures.stamps,
      λ v p. elim (found.1 v (omega (arith, so.same.events))) [ inl h ↦ inl h | inr (w, h) ↦ inr (subst (λ ls. Grounded ls v) so.links w, omega arith) ],
      λ v p. elim (cases_eq v c.loop-start.start) [
        | inl e ↦ subst (λ ls. Grounded ls v) so.links (subst (Grounded _) (sym e) found.0)
        | inr d ↦ c.loop-start.invariant.2 v (omega arith)
      ],
    )
