use Rattle.std.proofs.Common.{◌-◌, ◌≤◌, length, sym, refl, ap, ◌∙◌, arith}
use Rattle.verdict.specs.Kept.{held_at, kept_at, start_of}
use Rattle.verdict.specs.Scratch.{links_of}
use Rattle.verdict.proofs.Frames.{past_set, past_then, from_row}
use Rattle.verdict.proofs.Written.{one_back, one_written, all_written}
use Rattle.verdict.proofs.rows.Rows.write.Goals as goal

pub back-link-requires : goal.back-link-requires
back-link-requires g c =
    let inv = c.loop-row.invariant in
    let links = c.around-links.result in
    let ls = links_of c.args.self.now.kept.now in (
      inv.0,
      ap (λ k. held_at (links_of k) c.loop-row.at) inv.3 ∙ ap (held_at ls) inv.5 ∙ c.around-links.ensures.first.cyclic.along (links - c.loop-row.row) (omega arith),
    )

pub loop-row-preserved : goal.loop-row-preserved
loop-row-preserved g c =
    let inv = c.loop-row.invariant in
    let t = c.loop-row.self in
    let ls = links_of c.args.self.now.kept.now in
    let links = c.around-links.result in
    let at = c.loop-row.at in
    let row = ap (λ k. kept_at (links_of k) at) (sym inv.3) ∙ c.back-link.ensures in
    let long : links ≤ length t.chain.now = omega (arith, t.room, ap length inv.3, c.around-links.ensures.bound) in
    let below = c.loop-row-test.true in (
      from_row _ _ at _ c.back-link.ensures (t.closed at inv.0),
      past_then _ inv.1 (past_set _ _ _ _ (omega arith)),
      inv.2,
      inv.3,
      omega arith,
      sym (ap start_of row) ∙ one_back ls c.args.on links t.chain.now c.loop-row.row at below inv.4 long inv.5,
      one_written ls c.args.on links t.chain.now c.loop-row.row at below inv.4 long inv.5 _ refl row inv.6,
      record { times = inv.7.times; chain = inv.7.chain; kept = inv.7.kept; events = inv.7.events },
    )

pub returns-clause-written : goal.returns-clause-written
returns-clause-written g c = all_written (links_of c.args.self.now.kept.now) c.args.on c.around-links.result c.loop-row.self.chain.now c.loop-row.row c.loop-row-test.false c.loop-row.invariant.6
