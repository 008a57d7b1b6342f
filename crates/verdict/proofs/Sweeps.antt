-- The links of a trace as a round takes them. Assumes nothing.
use Rattle.std.proofs.Common.{◌≡◌, ℕ, zero, suc, ◌+◌, ◌/◌, ◌^◌, ◌<◌, cond, List, [], ◌∷◌, ◌++◌, map, length, get_or, take, drop, set, Some, Option, sym, ap, ◌∙◌, inl, inr, refl, add-one, arith, drop-cons}
use lib.Lanes.{zip2}
use lib.Bits.{bit_and}
use Rattle.std.proofs.Math.Seq.{map-set_same}
use Rattle.std.proofs.lemmas.Bool.{cases_Bool, eq-eqb, ne_eqb, cond-true, cond-false}
use Rattle.std.proofs.lemmas.List.{map-set}
use Rattle.std.proofs.lemmas.Nat.Bits.{shr_and_one}
use Rattle.trace.specs.Sound.{has}
use Rattle.trace.specs.declared.parts.Delay.{Delay}
use Rattle.verdict.specs.Sweep.{marks_from}
use Rattle.verdict.specs.declared.marks.Marks.{Marks}

-- the delay at place i, and those after it
pub marks_more : {R : Type 0} (xs : List (Delay R)) (i w : ℕ) (found : List (Option ℕ)) (x : Delay R) → i < length xs → x ≡ get_or xs i x
    → marks_from i (drop i xs) w found ≡ marks_from (i + 1) (drop (i + 1) xs) w (cond (has i w) (set found x.given.process (Some i)) found)
marks_more xs i w found x h e =
    ap (λ ys. marks_from i ys w found) (drop-cons xs i x h ∙ ap (λ y. y ∷ drop (suc i) xs) (sym e))
    ∙ ap (λ n. marks_from n (drop n xs) w (cond (has i w) (set found x.given.process (Some i)) found)) (sym (add-one i))

-- a mark, by the bit that was tested
pub bit_set : (w d : ℕ) (o : Option ℕ) → bit_and (w / 2 ^ d) 1 ≡ 1 → Some d ≡ cond (has d w) (Some d) o
bit_set w d o e = sym (cond-true _ _ _ (eq-eqb _ _ (sym (shr_and_one w d) ∙ e)))

pub bit_clear : (w d : ℕ) (o : Option ℕ) → (bit_and (w / 2 ^ d) 1 ≡ 1 → ⊥) → o ≡ cond (has d w) (Some d) o
bit_clear w d o n = sym (cond-false _ _ _ (ne_eqb _ _ (λ e. n (shr_and_one w d ∙ e))))

-- the ends, or the begins, with the mark of the delay at place i
module _ {R : Type 0} (side : Marks → Option ℕ) (xs : List (Delay R)) (i w : ℕ) (found found' : List Marks) (x : Delay R) (m d : Marks)
    (set_there : found' ≡ set found x.given.process m) (is : side m ≡ cond (has i w) (Some i) (side (get_or found x.given.process d))) where
  side_set : map side found' ≡ cond (has i w) (set (map side found) x.given.process (Some i)) (map side found)
  side_set = ap (map side) set_there ∙ elim (cases_Bool (has i w)) [
    | inl t ↦ map-set side found x.given.process m ∙ ap (set (map side found) x.given.process) (is ∙ cond-true _ _ _ t) ∙ sym (cond-true _ _ _ t)
    | inr t ↦ map-set_same side found x.given.process m d (is ∙ cond-false _ _ _ t) ∙ sym (cond-false _ _ _ t)
  ]

  pub side_more : i < length xs → x ≡ get_or xs i x → marks_from (i + 1) (drop (i + 1) xs) w (map side found') ≡ marks_from i (drop i xs) w (map side found)
  side_more h e = ap (marks_from (i + 1) (drop (i + 1) xs) w) side_set ∙ sym (marks_more xs i w (map side found) x h e)

-- two lists taken together, with one element more of each
pub zip_more : {X Y Z : Type 0} (h : X → Y → Z) (p : ℕ) (xs : List X) (ys : List Y) (x : X) (y : Y) → p < length xs → p < length ys
    → zip2 h (take (suc p) xs) (take (suc p) ys) ≡ zip2 h (take p xs) (take p ys) ++ h (get_or xs p x) (get_or ys p y) ∷ []
zip_more h p [] ys x y i j = absurd (omega arith)
zip_more h p (a ∷ xs) [] x y i j = absurd (omega arith)
zip_more h zero (a ∷ xs) (b ∷ ys) x y i j = refl
zip_more h (suc p) (a ∷ xs) (b ∷ ys) x y i j = ap (λ r. h a b ∷ r) (zip_more h p xs ys x y (omega arith) (omega arith))
