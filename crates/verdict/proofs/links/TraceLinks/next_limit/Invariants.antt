use Rattle.std.proofs.Common.{◌≡◌, ℕ, Some, map, drop}
use Rattle.verdict.specs.Sweep.{limits}
use Rattle.verdict.proofs.links.TraceLinks.next_limit.Given as goal

-- no limit was handed out so far
abbrev pub invariant-loop-done : goal.invariant-loop-done
invariant-loop-done g l =
    let k = g.K.Kind in
    let arcs = λ (n : ℕ). limits k l.self.delays.now l.self.on.now l.which l.event (map Some (drop n l.ended)) in
    arcs l.initial.next ≡ arcs l.done
