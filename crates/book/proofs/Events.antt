-- An event entry that ends where the trailer begins, or before. Assumes nothing.
use Rattle.std.proofs.Common.{◌≡◌, ℕ, ◌+◌, ◌*◌, ◌/◌, Bool, true, false, not, ltb, leb, ◌&&◌, List, [], ◌∷◌, length, Some, Option, sym, ap, ◌∙◌, arith}
use Rattle.std.specs.Option.{option_map}
use Rattle.std.proofs.lemmas.Bool.{le-ltb}
use Rattle.trace.specs.Plain.{Plain, note_refusal, first_of, or_else}
use Rattle.trace.specs.declared.parts.Mark.{Mark}
use Rattle.trace.specs.declared.parts.Refusal.{Refusal}
use Rattle.book.specs.Entries.{event, event_misshapen, entry_fault, Spelling}
use Rattle.book.specs.Layout.{byte_at, event_next, event_marks, event_shaped, marks_spelled, marks_fit}
use Rattle.book.specs.Trailer.{start_in}
use Rattle.book.specs.declared.fault.Fault.TheVariants.{Section, Shape, Trace}
use Rattle.book.proofs.Firsts.{first_here, first_past, else_none}
use Rattle.book.proofs.Parts.{marks_part}

module _ (spelled book : List ℕ) (at : ℕ) (s : Spelling spelled book at) where
  half : length spelled / 2 ≡ byte_at book at
  half = omega (arith, s.long)

  pub marks_are : (marks : List Mark) → marks ≡ marks_spelled (length spelled / 2) spelled 0 → marks ≡ event_marks book at
  marks_are marks e = e ∙ ap (λ n. marks_spelled n spelled 0) half ∙ (marks_part (2 * byte_at book at) spelled book (at + 1) s.same (byte_at book at) (omega arith)).0

  shape_is : (b : Bool) → marks_fit (length spelled / 2) spelled 0 ≡ b → event_shaped book at ≡ b
  shape_is b h =
      ap (λ x. leb (byte_at book at) 32 && x) (sym (marks_part (2 * byte_at book at) spelled book (at + 1) s.same (byte_at book at) (omega arith)).1)
      ∙ ap (λ n. marks_fit n spelled 0) (sym half)
      ∙ h

  past_end : event_misshapen (start_in book) book at ≡ first_of ((not (event_shaped book at), Shape) ∷ [])
  past_end = first_past (ltb (start_in book) (event_next book at)) Section ((not (event_shaped book at), Shape) ∷ []) (le-ltb _ _ s.inside)

  module _ {W : Type 0} (limited : ℕ → ℕ → Option W) (leq : W → W → Bool) (p : Plain) where
    pub event_misshaped : marks_fit (length spelled / 2) spelled 0 ≡ false → entry_fault limited leq book p (event at) ≡ Some Shape
    event_misshaped h =
        ap (λ o. or_else o (option_map Trace (note_refusal p (event_marks book at)))) (past_end ∙ first_here (not (event_shaped book at)) Shape [] (ap not (shape_is false h)))

    pub event_noted : marks_fit (length spelled / 2) spelled 0 ≡ true → (marks : List Mark) → marks ≡ marks_spelled (length spelled / 2) spelled 0 → (o : Option Refusal) → note_refusal p marks ≡ o → entry_fault limited leq book p (event at) ≡ option_map Trace o
    event_noted h marks e o told =
        else_none (event_misshapen (start_in book) book at) _ (past_end ∙ first_past (not (event_shaped book at)) Shape [] (ap not (shape_is true h)))
        ∙ ap (λ ms. option_map Trace (note_refusal p ms)) (sym (marks_are marks e))
        ∙ ap (option_map Trace) told
