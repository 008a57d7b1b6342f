use Rattle.std.proofs.Common.{◌<◌, ◌≢◌, length, ◌∙◌, below_more, arith}
use Rattle.verdict.proofs.Frames.{links_stamp, stamp_same, stamp_other}
use Rattle.verdict.proofs.cycle.unstamp.Goals as goal

pub loop-row-preserved : goal.loop-row-preserved
loop-row-preserved c =
    let inv = c.loop-row.invariant in
    let i = c.loop-row.row-index in
    let free : i < length c.loop-row.kept = omega arith in (
      links_stamp _ _ _ _ ∙ inv.0,
      below_more _ _ (λ v p. stamp_other _ i _ v (let d : v ≢ i = omega arith in d) ∙ inv.1 v p) (stamp_same _ i _ free),
    )
