-- Reading into an empty trace. Assumes nothing.
use Rattle.std.proofs.Common.{◌≡◌, ℕ, zero, suc, ◌-◌, not, eqb, List, [], ◌∷◌, length, Some, Ok, Err, Option, Result, sym, refl, ap, ◌∙◌, subst, MatchOption}
use Rattle.kinds.specs.Fine.{instants, fine_place, fine_gap, fine_limit}
use Rattle.kinds.specs.Group.{Ordered}
use Rattle.kinds.specs.Twin.{twin_place, twin_gap, twin_limit}
use Rattle.kinds.specs.Whole.{integers, whole_place, whole_gap, whole_limit}
use Rattle.trace.specs.Plain.{Plain, opened, at_most, first_of, or_else}
use Rattle.book.specs.Entries.{Reads, Taken, entry_count}
use Rattle.book.specs.Trailer.{end_refusal, kind_in, misplaced, start_in, trailer_refusal, refused}
use Rattle.book.specs.declared.fault.Fault.TheVariants.{Kind, Section}
use Rattle.book.specs.declared.fault.Refused.{Refused}
use Rattle.verdict.specs.declared.verdict.Verdict.{Verdict}
use Rattle.std.specs.Result.{result_err}
use Rattle.report.specs.Judges.{Gives, JudgesIn, JudgesAs, Says}
use Rattle.report.specs.Told.{ToldIn, ToldAs}

module _ {W C : Type 0} (group : Ordered C) (place : W → C) (spacing : W) (limited : ℕ → ℕ → Option W) (coded : ℕ) (book : List ℕ) where
  -- a trace that was opened on tables of so many rows
  pub gives : (p q : Plain) (n m : ℕ) (r : Result (Unit {0}) Refused)
      → p ≡ opened n m → n ≡ 64 → m ≡ 512 → Reads limited (at_most group place) book coded p r q → Gives group place spacing limited coded book r q
  gives p q n m r h d e reads =
      subst (λ y. Reads limited (at_most group place) book coded y r q) (h ∙ ap (λ k. opened k m) d ∙ ap (opened 64) e) reads

  -- what is said of the trace that was read is told of the book
  pub told : (q : Plain) (v : Verdict) → Gives group place spacing limited coded book (Ok tt) q → Says group place spacing limited q v
      → JudgesIn group place spacing limited coded book (Ok v)
  told q v reads says = (q, reads, says)

  -- what refuses a book of whatever kind refuses it in each
  pub refused_in : (why : Refused) → end_refusal book ≡ Some why → JudgesIn group place spacing limited coded book (Err why)
  refused_in why h =
      let first : trailer_refusal coded book ≡ Some why = ap (λ o. or_else o (
      first_of ((not (eqb (kind_in book) coded), refused Kind (length book - 4)) ∷ (misplaced book, refused Section (start_in book)) ∷ []))) h in (
        opened 64 512,
        subst
            (λ o. MatchOption o (Taken limited (at_most group place) book (opened 64 512) (entry_count book) (Err why) (opened 64 512)) (λ f. (◌≡◌ {A = Result (Unit {0}) Refused} (Err why) (Err f)) × (opened 64 512 ≡ opened 64 512)))
            (sym first) (refl, refl),
      )

  -- what is judged of the book tells whether it is refused, and how
  pub told_in : (r : Result Verdict Refused) → JudgesIn group place spacing limited coded book r → ToldIn limited (at_most group place) coded book (result_err r)
  told_in (Err why) j = j
  told_in (Ok v) (q, reads, says) = (q, reads)

pub refused_as : (k : ℕ) (book : List ℕ) (why : Refused) → end_refusal book ≡ Some why → JudgesAs k book (Err why)
refused_as zero book why h = refused_in integers whole_place whole_gap whole_limit 0 book why h
refused_as (suc zero) book why h = refused_in instants fine_place fine_gap fine_limit 1 book why h
refused_as (suc (suc k)) book why h = refused_in integers twin_place twin_gap twin_limit 2 book why h

pub told_as : (k : ℕ) (book : List ℕ) (r : Result Verdict Refused) → JudgesAs k book r → ToldAs k book (result_err r)
told_as zero book r j = told_in integers whole_place whole_gap whole_limit 0 book r j
told_as (suc zero) book r j = told_in instants fine_place fine_gap fine_limit 1 book r j
told_as (suc (suc k)) book r j = told_in integers twin_place twin_gap twin_limit 2 book r j
