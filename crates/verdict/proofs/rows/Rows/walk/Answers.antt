use Rattle.std.proofs.Common.{◌+◌, ◌≤◌, length, get_or, None, sym, refl, ◌∙◌, ap, is_some, subst, subst₂, arith}
use Rattle.std.proofs.lemmas.List.{length-set}
use Rattle.verdict.specs.Kept.{Closed}
use Rattle.verdict.specs.declared.link.Kept.{Kept}
use Rattle.verdict.proofs.Frames.{stamped_then, links_stamp}
use Rattle.verdict.proofs.Stamps.{Walked, round_at, met_at, root_at, on_at}
use Rattle.verdict.proofs.Walks.{walk_short, walk_inside}
use Rattle.verdict.proofs.rows.Rows.walk.Given
use Rattle.verdict.proofs.rows.Rows.walk.Goals as goal
use Rattle.verdict.proofs.rows.Rows.walk.Goals.{In-loop}

pub invariant_of-self : goal.invariant_of-self
invariant_of-self g c =
    let t = c.loop.self in
    let blank : Kept = record { link = None; stamp = 0 } in
    let row : Kept = record { link = (get_or t.kept.now c.loop.at blank).link; stamp = c.args.start + 1 } in
    let long = length-set t.kept.now c.loop.at row in
    record {
      few = subst (λ n. n ≤ 512) (sym long) t.few;
      labels = t.labels ∙ sym long;
      room = t.room ∙ sym long;
      closed = subst₂ Closed (sym (links_stamp t.kept.now c.loop.at (c.args.start + 1) blank)) (sym long) t.closed;
    }

walked : (g : Given.Over) (c : In-loop g) → let ks = c.args.self.now.kept.now in Walked ks c.loop.self.kept.now (length ks) c.args.start c.loop.counter c.loop.at
walked g c =
    let inv = c.loop.invariant in
    record { closed = c.args.self.now.closed; inside = c.requires.0; links = inv.1.links; long = inv.1.same.events; walks = inv.2 }

pub returns-then-kept-stamp-clause-found : goal.returns-then-kept-stamp-clause-found
returns-then-kept-stamp-clause-found g c = round_at _ (walked g (goal.at.returns-then-kept-stamp-clause-found g c).In-loop) c.if-kept-stamp.true

pub returns-in_err-link-clause-found : goal.returns-in_err-link-clause-found
returns-in_err-link-clause-found g c = rw c.from_residual.ensures (root_at _ (walked g (goal.at.returns-in_err-link-clause-found g c).In-loop) (ap is_some c.in_err-link.was))

pub returns-then-kept-ne0-clause-found : goal.returns-then-kept-ne0-clause-found
returns-then-kept-ne0-clause-found g c = met_at _ (walked g (goal.at.returns-then-kept-ne0-clause-found g c).In-loop) c.if-kept-ne0.true c.if-kept-stamp.false

pub returns-else-kept-ne0 : goal.returns-else-kept-ne0
returns-else-kept-ne0 g c =
    let w = walked g (goal.at.returns-else-kept-ne0 g c).In-loop in
    let on = on_at _ w _ c.in_ok-link.was c.if-kept-ne0.false in
    let short = walk_short _ _ _ _ _ _ w.closed w.inside on in
    absurd (omega arith)

pub loop-preserved : goal.loop-preserved
loop-preserved g c =
    let w = walked g (goal.at.loop-preserved g c).In-loop in
    let on = on_at _ w _ c.in_ok-link.was c.if-kept-ne0.false in (
      walk_inside _ _ _ _ _ _ w.closed w.inside on,
      stamped_then c.loop.invariant.1 (record {
        same = record { times = refl; chain = refl; kept = refl; events = length-set _ _ _ };
        times = refl;
        chain = refl;
        links = links_stamp _ _ _ _;
      }),
      on,
    )
