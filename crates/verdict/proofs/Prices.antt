-- What the cost call answers is the cost of the link. Assumes nothing.
use Rattle.std.proofs.Common.{◌≡◌, ℕ, Bool, List, map, Some, Option, sym, ap, ◌∙◌, subst, MatchOption}
use Rattle.std.proofs.lemmas.Option.{same_Some, slice_get-map}
use Rattle.std.specs.List.{slice_get, AllByRecursion}
use Rattle.std.specs.Option.{option_map}
use Rattle.kinds.specs.declared.kind.Kind.{Ghosts}
use Rattle.trace.specs.Plain.{weight_of, upper_weight}
use Rattle.trace.specs.Spells.{Spells}
use Rattle.trace.specs.declared.parts.Declared.{Declared}
use Rattle.trace.specs.declared.parts.Delay.{Delay}
use Rattle.trace.specs.declared.parts.Event.{Event}
use Rattle.verdict.specs.Cost.{cost_of, most_of}
use Rattle.verdict.specs.Right.{Comes}
use Rattle.verdict.specs.Schedule.{Edge}
use Rattle.verdict.specs.declared.link.Bound.{Bound}
use Rattle.verdict.specs.declared.link.Bound.TheVariants.{Gap, Lower, Upper}
use Rattle.verdict.proofs.Lawful.{Laws}
use Rattle.verdict.proofs.Meanings.{mapped_some, all_nth}

-- costs of limits, from the row that was read
module _ {W R : Type 0} (kind : Ghosts W R) (xs : List (Delay R)) (by : Bound) (d : ℕ) (o : Option (Delay R)) where
  pub cost_lower : by ≡ Lower d → slice_get xs d ≡ o → cost_of kind xs by ≡ option_map (λ x. kind.opposed (kind.weighed x.least)) o
  cost_lower b r = ap (cost_of kind xs) b ∙ ap (option_map (λ x. kind.opposed (kind.weighed x.least))) r

  pub cost_upper : by ≡ Upper d → slice_get xs d ≡ o → cost_of kind xs by ≡ most_of kind.weighed o
  cost_upper b r = ap (cost_of kind xs) b ∙ ap (most_of kind.weighed) r

module _ {W R : Type 0} (kind : Ghosts W R) (rules : Laws kind)
    (xs : List (Delay R)) (spelled : AllByRecursion (Spells kind.limited kind.rowed) xs) (es : List Event) (on : ℕ → Bool) where
  abbrev Costs : kind.Time → Option W → Type 0
  Costs c r = MatchOption r ⊥ (λ w. kind.place w ≡ c)

  -- the row of a delay that is declared
  row_of : (d : ℕ) (given : Declared) → slice_get (map (λ x. x.given) xs) d ≡ Some given → (x : Delay R) × (slice_get xs d ≡ Some x) × (x.given ≡ given)
  row_of d given e = mapped_some (λ x. x.given) (slice_get xs d) given (sym (slice_get-map (λ x. x.given) xs d) ∙ e)

  cost_is : (by : Bound) (l : Edge kind.Time) → Comes kind (map (λ x. x.given) xs) es on by l → Costs l.cost (cost_of kind xs by)
  cost_is Gap l n = (rules.opposes kind.spacing).placed ∙ sym n.cost
  cost_is (Lower d) l (n, e) =
      let (x, here, given) = row_of n.delay n.given n.waits.declared in
      let least = same_Some (kind.rowed n.limit) x.least (
      sym (ap (option_map kind.rowed) (ap (λ z. weight_of kind.limited z.lower) given ∙ n.weight)) ∙ (all_nth (Spells kind.limited kind.rowed) xs spelled n.delay x here).least) in
      subst (λ i. Costs l.cost (option_map (λ y. kind.opposed (kind.weighed y.least)) (slice_get xs i))) e
      (subst (λ o. Costs l.cost (option_map (λ y. kind.opposed (kind.weighed y.least)) o)) (sym here)
      ((rules.opposes (kind.weighed x.least)).placed ∙ ap (λ r. kind.group.neg (kind.place (kind.weighed r))) (sym least) ∙ ap (λ w. kind.group.neg (kind.place w)) (rules.row_back n.limit) ∙ sym n.cost))
  cost_is (Upper d) l (n, e) =
      let (x, here, given) = row_of n.delay n.given n.waits.declared in
      let most = sym (ap (option_map kind.rowed) (ap (λ z. upper_weight kind.limited z.upper) given ∙ n.weight)) ∙ (all_nth (Spells kind.limited kind.rowed) xs spelled n.delay x here).most in
      subst (λ i. Costs l.cost (most_of kind.weighed (slice_get xs i))) e
      (subst (λ o. Costs l.cost (most_of kind.weighed o)) (sym here)
      (subst (λ o. Costs l.cost (option_map kind.weighed o)) most (ap kind.place (rules.row_back n.limit) ∙ sym n.cost)))

  pub priced : (by : Bound) (l : Edge kind.Time) (r : Option W) → r ≡ cost_of kind xs by
      → Comes kind (map (λ x. x.given) xs) es on by l → Costs l.cost r
  priced by l r e h = subst (Costs l.cost) (sym e) (cost_is by l h)
