use Rattle.std.proofs.Common.{◌≡◌, ◌-◌, List, [], ◌∷◌, ◌++◌, sym, ap, ap₂, ◌∙◌, arith}
use Rattle.std.proofs.lemmas.List.{drop_all}
use Rattle.verdict.specs.Sweep.{left, arcs_from}
use Rattle.verdict.proofs.Handed.{goes}
use Rattle.verdict.proofs.sweep.LinksIterator.next.Given
use Rattle.verdict.proofs.sweep.LinksIterator.next.Goals as goal
use Rattle.verdict.proofs.sweep.LinksIterator.next.Goals.{After-before-last}

-- no lower limit is left
module _ {A : Type 0} {low low' high : List A} (rest : List A) (none : (low ≡ []) × (low' ≡ [])) where
  -- and the next is an upper one,
  second : {high' : List A} (x : A) → high ≡ x ∷ high' → low ++ (high ++ rest) ≡ x ∷ (low' ++ (high' ++ rest))
  second {high' = high'} x h = ap₂ (λ a b. a ++ (b ++ rest)) none.0 h ∙ sym (ap (λ a. x ∷ (a ++ (high' ++ rest))) none.1)

  -- or no upper one is
  neither : high ≡ [] → low ++ (high ++ rest) ≡ rest
  neither h = ap₂ (λ a b. a ++ (b ++ rest)) none.0 h

-- the limits that are left are those of the event before
last : (g : Given.Over) (c : After-before-last g) → c.before-last.result ≡ c.args.self.now.event - 1
last g c = c.before-last.ensures (omega (arith, c.args.self.now.near))

pub returns-in-Some-next_limit : goal.returns-in-Some-next_limit
returns-in-Some-next_limit g c =
    let k = g.K.Kind in
    let s = c.args.self.now in
    let past = last g (goal.at.returns-in-Some-next_limit g c).After-before-last in
    let steps : left k s ≡ c.in-Some-next_limit.arc ∷ left k (record { trace = s.trace; ended = s.ended; count = s.count; lowers = c.next_limit.new.next; uppers = c.next_limit-2.new.next; event = s.event; waits = s.waits; few = s.few; near = s.near }) =
    second _ (rw past at c.in_default.ensures) _ (rw past at c.in-Some-next_limit.ensures) in
    record { steps = steps; goes = goes (left k) s _ _ steps }

pub returns-then-self-clause-steps : goal.returns-then-self-clause-steps
returns-then-self-clause-steps g c =
    let k = g.K.Kind in
    let s = c.args.self.now in
    let past = last g (goal.at.returns-then-self-clause-steps g c).After-before-last in
    let low = rw past at c.in_default.ensures in
    let high = rw past at c.in_default-next_limit.ensures in
    let over = ap (arcs_from k s.trace.delays.now s.trace.on.now s.event s.waits) (drop_all s.event s.trace.events.now c.if-self.true) in
    (neither _ low high.0 ∙ over, neither _ (low.1, low.0) high.1 ∙ over)

pub returns : goal.returns
returns g c =
    let k = g.K.Kind in
    let s = c.args.self.now in
    let past = last g (goal.at.returns g c).After-before-last in
    let steps : left k s ≡ c.gap-arc.result ∷ left k c.visit.new.self =
    neither _ (rw past at c.in_default.ensures) (rw past at c.in_default-next_limit.ensures).0
    ∙ sym (ap (λ a. a ∷ left k c.visit.new.self) (c.gap-arc.ensures (omega (arith, s.near))) ∙ c.visit.ensures) in
    record { steps = steps; goes = goes (left k) s _ _ steps }
