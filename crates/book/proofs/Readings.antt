-- Taking the entries of a book one by one. Assumes nothing.
use Rattle.std.proofs.Common.{◌≡◌, ℕ, ◌+◌, ◌-◌, ◌<◌, Bool, cond, not, List, [], ◌∷◌, Some, None, Option, sym, refl, ap, ◌∙◌, add-one, add_assoc, subst, get_or, length, ◌*◌, arith, below_more}
use Rattle.std.proofs.lemmas.Bool.{lt-ltb, le-ltb}
use Rattle.std.specs.Option.{option_map}
use Rattle.trace.specs.Plain.{Plain, declare_refusal, with_delay, first_of, or_else}
use Rattle.book.specs.Entries.{Entry, delay, event, entry, place_of, delay_misshapen, delay_place, event_place, entry_count, entry_fault, with_entry, with_entries, Accepted, Stopped}
use Rattle.book.specs.Layout.{delay_at, event_next, PartOf}
use Rattle.book.specs.Trailer.{refused, delays_in, count_of_delays, count_of_events, DelayEntries}
use Rattle.book.specs.declared.fault.Fault.{Fault}
use Rattle.book.specs.declared.fault.Refused.{Refused}
use Rattle.book.specs.declared.fault.Fault.TheVariants.{Shape, Trace}
use Rattle.book.proofs.Parts.{delay_part, delay_shape}

module _ (book : List ℕ) where
  entry_delay : (k : ℕ) → k < count_of_delays book → entry book k ≡ delay (delay_place book k)
  entry_delay k h = ap (λ b. cond b (delay (delay_place book k)) (event (event_place book (k - count_of_delays book)))) (lt-ltb k (count_of_delays book) h)

  entry_event : (k : ℕ) → entry book (count_of_delays book + k) ≡ event (event_place book k)
  entry_event k =
      let n : ℕ = count_of_delays book in
      ap (λ b. cond b (delay (delay_place book (n + k))) (event (event_place book (n + k - n)))) (le-ltb (n + k) n (omega arith))
      ∙ ap (λ m. event (event_place book m)) (omega arith)

  pub event_place_more : (k : ℕ) → event_place book (k + 1) ≡ event_next book (event_place book k)
  event_place_more k = ap (event_place book) (add-one k)

module _ {W : Type 0} (limited : ℕ → ℕ → Option W) (leq : W → W → Bool) (book : List ℕ) (p : Plain) where
  pub accepted_none : Accepted limited leq book p 0 p
  accepted_none = record { each = λ k h. absurd (omega arith); made = refl }

  module _ (n : ℕ) (q : Plain) (before : Accepted limited leq book p n q) (e : Entry) (here : entry book n ≡ e) where
    here_fault : entry_fault limited leq book (with_entries limited leq book p n) (entry book n) ≡ entry_fault limited leq book q e
    here_fault = ap (λ x. entry_fault limited leq book x (entry book n)) (sym before.made) ∙ ap (entry_fault limited leq book q) here

    accepted_more : (q' : Plain) → entry_fault limited leq book q e ≡ None → q' ≡ with_entry limited leq book q e → Accepted limited leq book p (n + 1) q'
    accepted_more q' none next = record {
      each = below_more _ _ before.each (here_fault ∙ none);
      made =
          next
          ∙ ap (with_entry limited leq book q) (sym here)
          ∙ ap (λ x. with_entry limited leq book x (entry book n)) before.made
          ∙ sym (ap (with_entries limited leq book p) (add-one n));
    }

    stopped_here : (total : ℕ) (fault : Fault) (q' : Plain) → n < total → entry_fault limited leq book q e ≡ Some fault → q' ≡ q → Stopped limited leq book p total (refused fault (place_of e)) q'
    stopped_here total fault q' h some same = record {
      number = n;
      among = h;
      before = record { each = before.each; made = same ∙ before.made };
      refusal = ap (λ x. entry_fault limited leq book x (entry book n)) same ∙ ap (entry_fault limited leq book q) here ∙ some;
      at = ap place_of (sym here);
    }

-- A delay entry that was cut out of a book.
module _ {W : Type 0} (limited : ℕ → ℕ → Option W) (leq : W → W → Bool) (part book : List ℕ) (at : ℕ) (same : PartOf 20 part book at) (p : Plain) where
  fault_part : entry_fault limited leq part p (delay 0) ≡ entry_fault limited leq book p (delay at)
  fault_part =
      ap (λ b. or_else (first_of ((not b, Shape) ∷ [])) (option_map Trace (declare_refusal limited leq p (delay_at part 0)))) (delay_shape 20 part book at same (omega arith))
      ∙ ap (λ d. or_else (delay_misshapen book at) (option_map Trace (declare_refusal limited leq p d))) (delay_part 20 part book at same (omega arith))

  next_part : with_entry limited leq part p (delay 0) ≡ with_entry limited leq book p (delay at)
  next_part = ap (with_delay p) (delay_part 20 part book at same (omega arith))

module _ {W : Type 0} (limited : ℕ → ℕ → Option W) (leq : W → W → Bool) (book : List ℕ) (p : Plain) (k : ℕ) (q : Plain) where
  -- the delay after the first k, of entries that were cut out of the book
  module _ (entries : List (List ℕ)) (are : DelayEntries entries book) (inside : k < length entries) (before : Accepted limited leq book p k q) where
    among : k < count_of_delays book
    among = omega (arith, are.0)

    pub delay_accepted : (q' : Plain) → entry_fault limited leq (get_or entries k []) q (delay 0) ≡ None → q' ≡ with_entry limited leq (get_or entries k []) q (delay 0) → Accepted limited leq book p (k + 1) q'
    delay_accepted q' none next =
        accepted_more limited leq book p k q before (delay (delay_place book k)) (entry_delay book k among) q'
        (sym (fault_part limited leq _ book _ (are.1 k inside) q) ∙ none) (next ∙ next_part limited leq _ book _ (are.1 k inside) q)

    pub delay_stopped : (at : ℕ) (fault : Fault) (why : Refused) (q' : Plain) → at ≡ delays_in book → why ≡ refused fault (at + 20 * k) → entry_fault limited leq (get_or entries k []) q (delay 0) ≡ Some fault → q' ≡ q → Stopped limited leq book p (count_of_delays book) why q'
    delay_stopped at fault why q' begins e some same =
        rw (e, begins)
        (stopped_here limited leq book p k q before (delay (delay_place book k)) (entry_delay book k among) (count_of_delays book) fault q' among (sym (fault_part limited leq _ book _ (are.1 k inside) q) ∙ some) same)

  -- the event after the delays and the first k events
  module _ (at : ℕ) (place : at ≡ event_place book k) (before : Accepted limited leq book p (count_of_delays book + k) q) where
    here : entry book (count_of_delays book + k) ≡ event at
    here = entry_event book k ∙ ap event (sym place)

    pub event_accepted : (q' : Plain) → entry_fault limited leq book q (event at) ≡ None → q' ≡ with_entry limited leq book q (event at) → Accepted limited leq book p (count_of_delays book + (k + 1)) q'
    event_accepted q' none next =
        subst (λ n. Accepted limited leq book p n q') (add_assoc (count_of_delays book) k 1) (accepted_more limited leq book p _ q before (event at) here q' none next)

    pub event_stopped : (fault : Fault) (why : Refused) (q' : Plain) → k < count_of_events book → why ≡ refused fault at → entry_fault limited leq book q (event at) ≡ Some fault → q' ≡ q → Stopped limited leq book p (entry_count book) why q'
    event_stopped fault why q' more e some same =
        rw e (stopped_here limited leq book p _ q before (event at) here (entry_count book) fault q' (omega arith) some same)
