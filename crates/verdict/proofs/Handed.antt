-- The items that an iterator hands out. Assumes nothing.
use Rattle.std.proofs.Common.{◌≡◌, suc, List, [], ◌∷◌, ◌++◌, length, drop, Some, None, Option, sym, ap, ◌∙◌, arith, drop-cons}
use Rattle.std.proofs.lemmas.Iterator.{YieldsList}
use Rattle.std.proofs.lemmas.Iterator.Consumers.{YieldsList-turn, YieldsList-end, YieldsList-at}
use Rattle.std.proofs.lemmas.List.{drop_all, length_push}
use Rattle.std.specs.Iterator.{Yields, AlwaysYields, MakesProgress, item_count}

-- one item fewer is left
pub goes : {S A : Type 0} (rest : S → List A) (s t : S) (x : A) → rest s ≡ x ∷ rest t → MakesProgress (λ _. Unit {0}) (item_count rest) s (Some x) t
goes rest s t x e = record { on = λ _. (tt, tt, let l = ap length e in omega arith); keeps = tt; rests = λ _. tt }

-- a loop over them begins with all
pub road : {S A : Type 0} (steps : S → Option A → S → Type 0) (all : List A) {s t : S} → s ≡ t → AlwaysYields steps (λ x. x) t all → YieldsList steps (λ x. x) s all
road steps all same e = YieldsList-at same (record { runs = e })

module _ {S A : Type 0} {steps : S → Option A → S → Type 0} {s : S} {all : List A} (way : YieldsList steps (λ x. x) s all)
    (xs : List A) (t : S) (y : Yields steps s xs t) where
  -- the item that comes is the first of those left
  pub handed : (r : Option A) (u : S) (x : A) → r ≡ Some x → steps t r u → drop (length xs) all ≡ x ∷ drop (length (xs ++ x ∷ [])) all
  handed r u x is step =
      let p = YieldsList-turn way xs t y r u x is step in
      let more : suc (length xs) ≡ length (xs ++ x ∷ []) = omega (arith, length_push xs x) in
      drop-cons all (length xs) x p.0 ∙ ap (λ z. z ∷ drop (suc (length xs)) all) (sym p.1) ∙ ap (λ n. x ∷ drop n all) more

  -- where none comes, none is left
  pub none_left : (r : Option A) (u : S) → r ≡ None → steps t r u → drop (length xs) all ≡ []
  none_left r u is step = drop_all (length xs) all (let p = YieldsList-end way xs t y r u is step in omega arith)
