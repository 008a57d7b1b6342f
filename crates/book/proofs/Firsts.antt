-- Refusals in their order. Assumes nothing.
use Rattle.std.proofs.Common.{◌≡◌, ℕ, Bool, true, false, cond, List, [], ◌∷◌, Some, None, Option, refl, ap, arith}
use Rattle.trace.specs.Plain.{first_of, or_else}

module _ {F : Type 0} where
  pub first_here : (b : Bool) (f : F) (rest : List (Bool × F)) → b ≡ true → first_of ((b, f) ∷ rest) ≡ Some f
  first_here b f rest h = ap (λ x. cond x (Some f) (first_of rest)) h

  pub first_past : (b : Bool) (f : F) (rest : List (Bool × F)) → b ≡ false → first_of ((b, f) ∷ rest) ≡ first_of rest
  first_past b f rest h = ap (λ x. cond x (Some f) (first_of rest)) h

  pub else_none : (o g : Option F) → o ≡ None → or_else o g ≡ g
  else_none o g h = ap (λ x. or_else x g) h

  -- one check alone
  pub only_some : (b : Bool) (x f : F) → first_of ((b, x) ∷ []) ≡ Some f → (b ≡ true) × (f ≡ x)
  only_some true x f h = (refl, cc)
  only_some false x f h = let z : ◌≡◌ {A = ℕ} 0 1 = cc in absurd (omega arith)

  pub only_none : (b : Bool) (x : F) → first_of ((b, x) ∷ []) ≡ None → b ≡ false
  only_none true x h = let z : ◌≡◌ {A = ℕ} 0 1 = cc in absurd (omega arith)
  only_none false x h = refl
