-- When a row of a delay table spells the limits of its delay. Assumes nothing.
use Rattle.std.specs.Prelude.{◌≡◌, ℕ, List, Some, Option}
use Rattle.std.specs.Coded.{Coded, Coded-set, coded_option}
use Rattle.std.specs.List.{AllByRecursion, AllByRecursion-prop}
use Rattle.std.specs.Option.{option_map}
use Rattle.trace.specs.Plain.{weight_of, upper_weight}
use Rattle.trace.specs.declared.parts.Delay.{Delay}

-- a row of a delay as given, with its limits as rows of weights
pub record Spells {W R : Type 0} (limited : ℕ → ℕ → Option W) (rowed : W → R) (row : Delay R) : Type 0 where
  pub least : option_map rowed (weight_of limited row.given.lower) ≡ Some row.least
  pub most : option_map rowed (upper_weight limited row.given.upper) ≡ row.most

-- each of the rows is such a row
abbrev pub AllSpell : {W R : Type 0} → (ℕ → ℕ → Option W) → (W → R) → List (Delay R) → Type 0
AllSpell limited rowed rows = AllByRecursion (Spells limited rowed) rows

-- A fact that a struct holds has at most one proof, since equations between rows have.
pub spells_prop : {W R : Type 0} (code : Coded R) (limited : ℕ → ℕ → Option W) (rowed : W → R) (row : Delay R) → IsProp (Spells limited rowed row)
spells_prop code limited rowed row a b = λ i. record {
  least = Coded-set (coded_option code) _ _ a.least b.least i;
  most = Coded-set (coded_option code) _ _ a.most b.most i;
}

pub all_spell_prop : {W R : Type 0} (code : Coded R) (limited : ℕ → ℕ → Option W) (rowed : W → R) (rows : List (Delay R)) → IsProp (AllSpell limited rowed rows)
all_spell_prop code limited rowed rows = AllByRecursion-prop (Spells limited rowed) (spells_prop code limited rowed) rows
