-- Writing the links of a way back into a table, the last of them first. Assumes nothing.
use Rattle.std.proofs.Common.{◌≡◌, ℕ, zero, suc, ◌+◌, ◌-◌, ◌<◌, ◌≤◌, List, ◌∷◌, length, take, drop, set, Option, sym, ap, ◌∙◌, subst, subst₂, arith, length-take}
use Rattle.std.proofs.Math.Seq.{take-set-lt}
use Rattle.std.proofs.lemmas.List.{drop-set, drop_all, length-take-le}
use Rattle.verdict.specs.Kept.{iter, from_at, kept_at, Written, kept_as}
use Rattle.verdict.specs.declared.link.Link.{Link}
use Rattle.verdict.specs.declared.link.Origin.{Origin}

-- a row written before the rows that are written
take_set : {X : Type 0} (xs : List X) (i m : ℕ) (x : X) → i < m → m ≤ length xs → drop i (take m (set xs i x)) ≡ x ∷ drop (i + 1) (take m xs)
take_set xs i m x p q = ap (drop i) (take-set-lt m xs i x p) ∙ drop-set (take m xs) i x (let l = length-take-le m xs q in omega arith)

module _ (ls : List (Option Origin)) (x : ℕ) (links : ℕ) (xs : List Link) where
  pub none_written : Written ls x (links - links) (drop links (take links xs))
  none_written =
      let none : 0 ≡ links - links = omega arith in
      subst₂ (Written ls x) none (sym (drop_all links (take links xs) (let l = length-take links xs in omega arith))) tt

  pub none_back : x ≡ iter (from_at ls) (links - links) x
  none_back = let none : 0 ≡ links - links = omega arith in ap (λ k. iter (from_at ls) k x) none

  module _ (row at : ℕ) (some : 0 < row) (inside : row ≤ links) (long : links ≤ length xs) (here : at ≡ iter (from_at ls) (links - row) x) where
    count : suc (links - row) ≡ links - (row - 1)
    count = omega arith

    pub one_back : from_at ls at ≡ iter (from_at ls) (links - (row - 1)) x
    one_back = ap (from_at ls) here ∙ ap (λ k. iter (from_at ls) k x) count

    pub one_written : (l : Link) → l.to ≡ at → kept_at ls at ≡ kept_as l → Written ls x (links - row) (drop row (take links xs))
        → Written ls x (links - (row - 1)) (drop (row - 1) (take links (set xs (row - 1) l)))
    one_written l to kept w =
        let next : row - 1 + 1 ≡ row = omega arith in
        let rows = take_set xs (row - 1) links l (omega arith) long ∙ ap (λ r. l ∷ drop r (take links xs)) next in
        subst₂ (Written ls x) count (sym rows) (to ∙ here, ap (kept_at ls) (sym here) ∙ kept, w)

  pub all_written : (row : ℕ) → row ≤ 0 → Written ls x (links - row) (drop row (take links xs)) → Written ls x links (take links xs)
  all_written zero p w = let all : links - 0 ≡ links = omega arith in subst (λ k. Written ls x k (take links xs)) all w
  all_written (suc row) p w = absurd (omega arith)
