use Rattle.std.proofs.Common.{◌<◌, length, sym, ap, subst, arith}
use Rattle.verdict.specs.Kept.{start_of}
use Rattle.verdict.proofs.Frames.{kept_alike}
use Rattle.verdict.proofs.rows.Rows.new.Goals as goal

pub invariant_of-result-clause-closed : goal.invariant_of-result-clause-closed
invariant_of-result-clause-closed g c = λ v p.
    subst (λ x. x < length c.fill.new.self) (sym (ap start_of (kept_alike _ _ _ (c.fill.ensures.after (λ y h. h)) v p))) (omega arith)

pub returns-clause-fresh : goal.returns-clause-fresh
returns-clause-fresh g c = record {
  zeros = λ i d h. c.clear.ensures.zeros i d (omega arith);
  bare = kept_alike _ _ _ (c.fill.ensures.after (λ y h. h));
}
