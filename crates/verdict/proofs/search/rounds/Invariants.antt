use Rattle.std.proofs.Common.{◌≡◌, ◌-◌, length}
use Rattle.verdict.specs.Rows.{Same}
use Rattle.verdict.specs.Scratch.{links_of}
use Rattle.verdict.specs.Step.{Modest}
use Rattle.verdict.proofs.Searching.{Searching}
use Rattle.verdict.proofs.search.rounds.Given as goal

-- the chain's rows are as before, and, where no sum is too large, the search is under way
abbrev pub invariant-loop-round : goal.invariant-loop-round
invariant-loop-round g l =
    let k = g.S.Weight.Kind in
    let arcs = g.S.Source.all l.source in
    let n = length l.fn.kept in
    Same l.initial.rows l.rows
    × (l.rows.chain.now ≡ l.fn.chain)
    × (Modest k arcs n
    → Searching k g.met.S.Weight.Kind.rules arcs n (l.round - 1) l.rows.times.now (links_of l.rows.kept.now))
