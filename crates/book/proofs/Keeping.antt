-- Each entry that is read keeps what was there. Assumes nothing.
use Rattle.std.proofs.Common.{◌≡◌, ℕ, zero, suc, Bool, List, [], ◌∷◌, ◌++◌, Some, None, Ok, Err, Option, Result, MatchOption, sym, refl, ap, ◌∙◌, subst}
use Rattle.std.proofs.lemmas.List.{append-nil, append_assoc}
use Rattle.kinds.specs.declared.kind.Kind.{Ghosts}
use Rattle.trace.specs.Plain.{Plain, with_delay, with_event}
use Rattle.trace.specs.State.{plain_of}
use Rattle.trace.specs.declared.parts.Declared.{Declared}
use Rattle.trace.specs.declared.parts.Event.{Event}
use Rattle.trace.specs.declared.table.Trace.{Trace}
use Rattle.book.specs.Entries.{Entry, delay, event, entry, entry_count, with_entry, with_entries, Accepted, Stopped, Taken, Reads}
use Rattle.book.specs.Kept.{Grown}
use Rattle.book.specs.Trailer.{trailer_refusal}
use Rattle.book.specs.declared.fault.Refused.{Refused}

pub grown_none : (p : Plain) → Grown p p
grown_none p = record { delays_added = []; events_added = []; delay_rows = refl; event_rows = refl; delays = sym (append-nil _); events = sym (append-nil _) }

grown_more : (p q s : Plain) → Grown p q → Grown q s → Grown p s
grown_more p q s a b = record {
  delays_added = a.delays_added ++ b.delays_added;
  events_added = a.events_added ++ b.events_added;
  delay_rows = b.delay_rows ∙ a.delay_rows;
  event_rows = b.event_rows ∙ a.event_rows;
  delays = b.delays ∙ ap (λ xs. xs ++ b.delays_added) a.delays ∙ append_assoc p.delays a.delays_added b.delays_added;
  events = b.events ∙ ap (λ xs. xs ++ b.events_added) a.events ∙ append_assoc p.events a.events_added b.events_added;
}

grown_delay : (p : Plain) (d : Declared) → Grown p (with_delay p d)
grown_delay p d = record { delays_added = d ∷ []; events_added = []; delay_rows = refl; event_rows = refl; delays = refl; events = sym (append-nil _) }

grown_event : (p : Plain) (e : Event) → Grown p (with_event p e)
grown_event p e = record { delays_added = []; events_added = e ∷ []; delay_rows = refl; event_rows = refl; delays = sym (append-nil _); events = refl }

-- the plain trace that a trace holds, with nothing more, with a delay or with an event
module _ {W R : Type 0} {kind : Ghosts W R} (t t' : Trace W R kind) where
  keeps_grown : (q : Plain) → plain_of t' ≡ q → Grown (plain_of t) q → Grown (plain_of t) (plain_of t')
  keeps_grown q e g = subst (Grown (plain_of t)) (sym e) g

  pub keeps_same : plain_of t' ≡ plain_of t → Grown (plain_of t) (plain_of t')
  keeps_same e = keeps_grown _ e (grown_none (plain_of t))

  pub keeps_event : (e : Event) → plain_of t' ≡ with_event (plain_of t) e → Grown (plain_of t) (plain_of t')
  keeps_event e p = keeps_grown _ p (grown_event (plain_of t) e)

  pub keeps_delay : (d : Declared) → plain_of t' ≡ with_delay (plain_of t) d → Grown (plain_of t) (plain_of t')
  keeps_delay d p = keeps_grown _ p (grown_delay (plain_of t) d)

module _ {W : Type 0} (limited : ℕ → ℕ → Option W) (leq : W → W → Bool) (book : List ℕ) (p : Plain) where
  grown_entry : (e : Entry) (q : Plain) → Grown q (with_entry limited leq book q e)
  grown_entry (delay at) q = grown_delay q _
  grown_entry (event at) q = grown_event q _

  grown_entries : (n : ℕ) → Grown p (with_entries limited leq book p n)
  grown_entries zero = grown_none p
  grown_entries (suc n) = grown_more _ _ _ (grown_entries n) (grown_entry (entry book n) _)

  grown_accepted : (n : ℕ) (q : Plain) → Accepted limited leq book p n q → Grown p q
  grown_accepted n q a = subst (Grown p) (sym a.made) (grown_entries n)

  pub grown_stopped : (total : ℕ) (f : Refused) (q : Plain) → Stopped limited leq book p total f q → Grown p q
  grown_stopped total f q s = grown_accepted s.number q s.before

  grown_taken : (total : ℕ) (r : Result (Unit {0}) Refused) (q : Plain) → Taken limited leq book p total r q → Grown p q
  grown_taken total (Ok x) q a = grown_accepted total q a
  grown_taken total (Err f) q s = grown_stopped total f q s

  -- whatever is read
  pub grown_reads : (kind : ℕ) (r : Result (Unit {0}) Refused) (q : Plain) → Reads limited leq book kind p r q → Grown p q
  grown_reads kind r q h = go (trailer_refusal kind book) h
    where
      go : (o : Option Refused) → MatchOption o (Taken limited leq book p (entry_count book) r q) (λ f. (r ≡ Err f) × (q ≡ p)) → Grown p q
      go None a = grown_taken _ r q a
      go (Some f) (e, same) = subst (Grown p) (sym same) (grown_none p)
