-- The marks of an event entry. Assumes nothing.
use Rattle.std.proofs.Common.{◌≡◌, ℕ, zero, suc, ◌+◌, ◌*◌, ◌<◌, ◌≤◌, true, false, leb, Some, None, ◌⊎◌, List, [], ◌∷◌, ◌++◌, sym, ap, ◌∙◌, inl, inr, add-one, arith}
use Rattle.std.proofs.lemmas.Bool.{and_left, and_right, and_from, cases_eq, le-leb, lt-leb, ltb-true, ltb-false}
use Rattle.trace.specs.declared.parts.Mark.{Mark}
use Rattle.book.specs.Entries.{mark_misshapen}
use Rattle.book.specs.declared.fault.Fault.{Fault}
use Rattle.book.specs.declared.fault.Fault.TheVariants.{Shape}
use Rattle.book.proofs.Firsts.{only_some, only_none}
use Rattle.book.proofs.Parts.{mark_part}
use Rattle.book.specs.Layout.{byte_at, mark_spelled, marks_spelled, marks_shaped, marks_fit, PartOf}

module _ (book : List ℕ) (at : ℕ) where
  marks_more : (n : ℕ) → marks_spelled (n + 1) book at ≡ marks_spelled n book at ++ (mark_spelled book (at + 2 * n) ∷ [])
  marks_more n = ap (λ k. marks_spelled k book at) (add-one n)

  shaped_more : (n : ℕ) → marks_shaped n book at ≡ true → byte_at book (at + 2 * n) ≤ 1 → marks_shaped (n + 1) book at ≡ true
  shaped_more n h k = ap (λ m. marks_shaped m book at) (add-one n) ∙ and_from _ _ h (le-leb _ _ k)

  -- one mark of another shape is enough
  shaped_not : (k n : ℕ) → k < n → 1 < byte_at book (at + 2 * k) → marks_shaped n book at ≡ false
  shaped_not k zero h b = absurd (omega arith)
  shaped_not k (suc n) h b = go (λ l. shaped_not k n l b) (cases_eq k n)
    where
      go : (k < n → marks_shaped n book at ≡ false) → (k ≡ n) ⊎ (k ≡ n → ⊥) → marks_shaped (suc n) book at ≡ false
      go old (inl e) = and_right _ _ (ap (λ m. leb (byte_at book (at + 2 * m)) 1) (sym e) ∙ lt-leb _ _ b)
      go old (inr e) = and_left _ _ (old (omega arith))

-- the two bytes of one mark, among the bytes of some
module _ (spelled two : List ℕ) (i : ℕ) (same : PartOf 2 two spelled (2 * i)) where
  side : byte_at two 0 ≡ byte_at spelled (0 + 2 * i)
  side = same 0 (omega arith) ∙ ap (byte_at spelled) (omega arith)

  pub spelled_push : (ms : List Mark) (m : Mark) → ms ≡ marks_spelled i spelled 0 → m ≡ mark_spelled two 0 → ms ++ (m ∷ []) ≡ marks_spelled (i + 1) spelled 0
  spelled_push ms m old e =
      let here : mark_spelled two 0 ≡ mark_spelled spelled (0 + 2 * i) = mark_part 2 two spelled (2 * i) same 0 (omega arith) ∙ ap (mark_spelled spelled) (omega arith) in
      ap (λ xs. xs ++ (m ∷ [])) old ∙ ap (λ x. marks_spelled i spelled 0 ++ (x ∷ [])) (e ∙ here) ∙ sym (marks_more spelled 0 i)

  pub shaped_push : marks_shaped i spelled 0 ≡ true → mark_misshapen two 0 ≡ None → marks_shaped (i + 1) spelled 0 ≡ true
  shaped_push old fit = shaped_more spelled 0 i old (omega (arith, side, ltb-false _ _ (only_none _ _ fit)))

  pub shaped_stop : (n : ℕ) (f : Fault) → i < n → mark_misshapen two 0 ≡ Some f → (marks_fit n spelled 0 ≡ false) × (f ≡ Shape)
  shaped_stop n f h told =
      let t = only_some _ _ _ told in
      (and_right _ _ (shaped_not spelled 0 i n h (omega (arith, side, ltb-true _ _ t.0))), t.1)
