use Rattle.std.proofs.Common.{◌≡◌, ℕ, length, drop}
use Rattle.verdict.specs.Edge.{Inside}
use Rattle.verdict.specs.Rows.{Same}
use Rattle.verdict.specs.Scratch.{links_of}
use Rattle.verdict.specs.Step.{Ready}
use Rattle.verdict.proofs.Sweeping.{Going}
use Rattle.verdict.proofs.search.sweep.Given as goal

-- the links left lie among the events, and the round is under way
abbrev pub invariant-loop-arc : goal.invariant-loop-arc
invariant-loop-arc g l =
    let k = g.S.Weight.Kind in
    let n = length l.initial.rows.kept.now in
    let arcs = g.S.Source.all l.source in
    let left = drop (length l.yielded) arcs in
    let first = l.initial.rows.times.now in
    Same l.initial.rows l.rows
    × Inside n left
    × ((m : ℕ) → Ready k arcs n m first (links_of l.initial.rows.kept.now)
    → Going k g.met.S.Weight.Kind.rules.row_back arcs left n m first l.rows.times.now (links_of l.rows.kept.now) l.raised)
    × (l.rows.chain.now ≡ l.initial.rows.chain.now)
