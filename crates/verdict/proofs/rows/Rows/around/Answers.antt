use Rattle.std.proofs.Common.{◌≡◌, suc, ◌+◌, sym, refl, ap, ◌∙◌, inl, inr, arith}
use Rattle.std.proofs.lemmas.Bool.{cases_eq}
use Rattle.verdict.specs.Scratch.{links_of}
use Rattle.verdict.specs.Kept.{from_at, held_at, iter, start_of}
use Rattle.verdict.proofs.Frames.{from_row}
use Rattle.verdict.proofs.Walks.{first_round, goes_on}
use Rattle.verdict.proofs.rows.Rows.around.Goals as goal

pub back-at-requires : goal.back-at-requires
back-at-requires g c = (c.requires.inside, c.requires.cyclic.along 0 c.requires.cyclic.some)

pub back-at-requires-in-loop-links : goal.back-at-requires-in-loop-links
back-at-requires-in-loop-links g c =
    let inv = c.loop-links.invariant in
    (inv.0, ap (held_at (links_of c.args.self.now.kept.now)) inv.2 ∙ goes_on _ _ _ _ c.requires inv.3 (λ e. c.if-at-on.false (inv.2 ∙ e)))

pub loop-links-preserved : goal.loop-links-preserved
loop-links-preserved g c =
    let inv = c.loop-links.invariant in
    let f = from_at (links_of c.args.self.now.kept.now) in
    let next : suc c.loop-links.links ≡ c.loop-links.links + 1 = omega arith in (
      from_row _ _ c.loop-links.at _ c.back-at-in-loop-links.ensures (c.args.self.now.closed _ inv.0),
      omega arith,
      sym (ap start_of c.back-at-in-loop-links.ensures) ∙ ap f inv.2 ∙ ap (λ i. iter f i c.args.on) next,
      λ j p q e. elim (cases_eq j c.loop-links.links) [
        | inl s ↦ c.if-at-on.false (inv.2 ∙ ap (λ i. iter f i c.args.on) (sym s) ∙ e)
        | inr d ↦ inv.3 j p (omega arith) e
      ],
    )

pub returns-then-at-on-clause-first : goal.returns-then-at-on-clause-first
returns-then-at-on-clause-first g c = first_round _ _ _ _ c.requires c.loop-links.invariant.1 (omega arith) (inl (sym c.loop-links.invariant.2 ∙ c.if-at-on.true)) c.loop-links.invariant.3

pub returns-clause-first : goal.returns-clause-first
returns-clause-first g c = first_round _ _ _ _ c.requires (omega arith) (omega arith) (inr refl) (λ j p q. c.loop-links.invariant.3 j p (omega arith))
