use Rattle.std.proofs.Common.{◌≡◌, ℕ, Bool, Some, Option, MatchOption, sym, refl, ap, ◌∙◌}
use Rattle.std.proofs.lemmas.Option.{slice_get_read}
use Rattle.std.specs.Option.{option_map}
use Rattle.trace.specs.State.{plain_of, delay_rows_of}
use Rattle.verdict.specs.Cost.{cost_of}
use Rattle.verdict.specs.Right.{Comes}
use Rattle.verdict.specs.Schedule.{Edge}
use Rattle.verdict.proofs.Prices.{cost_lower, cost_upper, priced}
use Rattle.verdict.proofs.call.cost.Given
use Rattle.verdict.proofs.call.cost.Goals as goal
use Rattle.verdict.proofs.call.cost.Goals.{After-delays-delays}

-- what the rows that were read say is the link's cost
told : (g : Given.Over) (c : After-delays-delays g) (r : Option g.row.K.Denot) → r ≡ cost_of g.K.Kind c.delays-delays.result.now c.args.by
    → let p = plain_of c.args.trace.now in record {
      value : r ≡ cost_of g.K.Kind (delay_rows_of c.args.trace.now) c.args.by;
      priced : (on : ℕ → Bool) (l : Edge g.K.Kind.Time) → Comes g.K.Kind p.delays p.events on c.args.by l → MatchOption r ⊥ (λ w. g.K.Kind.place w ≡ l.cost);
    }
told g c r e =
    let value = e ∙ ap (λ rows. cost_of g.K.Kind rows c.args.by) c.delays-delays.ensures.rows in
    record { value = value; priced = λ on l. priced g.K.Kind g.met.K.Kind.rules _ c.args.trace.now.spelled _ on c.args.by l _ value }

pub returns-in_ok-delay-in-Lower : goal.returns-in_ok-delay-in-Lower
returns-in_ok-delay-in-Lower g c =
    let k = g.K.Kind in
    let h = c.in_ok-delay-in-Lower.ensures.lookup in
    let read = slice_get_read c.delays-delays.result.now _ c.in-Lower.number c.in_ok-delay-in-Lower.delay.now refl h.3.0 h.1 in
    told g (goal.at.returns-in_ok-delay-in-Lower g c).After-delays-delays _
    (ap Some (c.opposite-in-Lower.ensures ∙ ap k.opposed c.from_row.ensures) ∙ sym (cost_lower k _ _ _ _ c.in-Lower.is read))

pub returns-in_ok-delay-in-Upper-2 : goal.returns-in_ok-delay-in-Upper-2
returns-in_ok-delay-in-Upper-2 g c =
    let k = g.K.Kind in
    let h = c.in_ok-delay-in-Upper.ensures.lookup in
    let read = slice_get_read c.delays-delays.result.now _ c.in-Upper.number c.in_ok-delay-in-Upper.delay.now refl h.3.0 h.1 in
    told g (goal.at.returns-in_ok-delay-in-Upper-2 g c).After-delays-delays _
    (ap Some c.from_row-in-Upper.ensures ∙ sym (cost_upper k _ _ _ _ c.in-Upper.is read ∙ ap (option_map k.weighed) c.in_ok-delay-in-Upper-2.was))
