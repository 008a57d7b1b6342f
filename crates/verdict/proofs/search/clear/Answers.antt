use Rattle.std.proofs.Common.{◌≡◌, ℕ, ◌<◌, List, [], ◌∷◌, ◌++◌, length, get_or, refl, ap, ◌∙◌, inl, inr, rules, arith}
use Rattle.std.proofs.Math.Seq.{get_or-append_seam}
use Rattle.std.proofs.lemmas.Bool.{cases_lt}
use Rattle.std.proofs.lemmas.Fn.{chained_keeps}
use Rattle.std.proofs.lemmas.List.{get_or_append_left, length-append, length-take-le}
use Rattle.verdict.proofs.Frames.{past_cut}
use Rattle.verdict.proofs.search.clear.Goals as goal

-- values that are all z, and one more
last_more : {X : Type 0} (z : X) (xs : List X) (x : X) → x ≡ z → ((i : ℕ) (d : X) → i < length xs → get_or xs i d ≡ z)
    → (i : ℕ) (d : X) → i < length (xs ++ x ∷ []) → get_or (xs ++ x ∷ []) i d ≡ z
last_more z xs x e all i d p =
    let long = length-append xs (x ∷ []) in
    elim (cases_lt i (length xs)) [
      | inl h ↦ get_or_append_left xs (x ∷ []) d i h ∙ all i d h
      | inr h ↦ let at : i ≡ length xs = omega arith in ap (λ j. get_or (xs ++ x ∷ []) j d) at ∙ get_or-append_seam xs x [] d ∙ e
    ]

pub returns : goal.returns
returns g c =
    let times = c.args.times.now in
    let first = c.fill_with.new.self in
    let zero = c.to_row-zero.result in
    let cut = length-take-le c.args.events times c.requires in
    let (last, runs) = c.fill_with.ensures.ran in
    let all = (chained_keeps _ (λ xs q. (q.0.now ≡ zero) × ((i : ℕ) (d : g.row.K-Row.Denot) → i < length xs → get_or xs i d ≡ zero))
    (λ xs q x v (same, all) step.
    let is : x ≡ q.0.now = search rules in
    let still : v.0.now ≡ q.0.now = search rules in
    (still ∙ same, last_more _ xs x (is ∙ same) all))
    _ _ _ (refl, λ i d p. absurd (omega arith)) runs).1 in
    record {
      rows = past_cut c.args.events times first c.requires c.fill_with.ensures.len _ refl;
      zeros = λ i d h. get_or_append_left first _ d i (omega (arith, c.fill_with.ensures.len)) ∙ all i d (omega (arith, c.fill_with.ensures.len)) ∙ c.to_row-zero.ensures ∙ ap g.K.Kind.rowed c.zero.ensures;
    }
