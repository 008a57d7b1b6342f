-- What a report answers of a book: how it is refused, or whether the trace that it spells has a schedule. Assumes nothing.
use Rattle.std.specs.Prelude.{ℕ, zero, suc, true, List, Ok, Err, Option, Result}
use Rattle.kinds.specs.Fine.{instants, fine_place, fine_gap, fine_limit}
use Rattle.kinds.specs.Group.{Ordered}
use Rattle.kinds.specs.Twin.{twin_place, twin_gap, twin_limit}
use Rattle.kinds.specs.Whole.{integers, whole_place, whole_gap, whole_limit}
use Rattle.trace.specs.Plain.{Plain, at_most, opened}
use Rattle.verdict.specs.Schedule.{Admits}
use Rattle.verdict.specs.declared.verdict.Verdict.{Verdict}
use Rattle.verdict.specs.declared.verdict.Verdict.TheVariants as verdict
use Rattle.book.specs.Entries.{Reads}
use Rattle.book.specs.Trailer.{kind_in}
use Rattle.book.specs.declared.fault.Refused.{Refused}

-- Of a kind with this group, place of a weight, gap and limits.
module _ {W C : Type 0} (group : Ordered C) (place : W → C) (spacing : W) (limited : ℕ → ℕ → Option W) where
  -- with every delay on, the trace q admits a schedule
  abbrev pub Possible : Plain → Type 0
  Possible q = Admits group place spacing limited q.delays q.events (λ _. true)

  -- what a verdict on the trace q with every delay on says
  abbrev pub Says : Plain → Verdict → Type 0
  Says q verdict.Consistent = Possible q
  Says q (verdict.Conflict l) = Possible q → ⊥

  module _ (coded : ℕ) (book : List ℕ) where
    -- reading the book into an empty trace of 64 delays and 512 events answers r and gives q
    abbrev pub Gives : Result (Unit {0}) Refused → Plain → Type 0
    Gives r q = Reads limited (at_most group place) book coded (opened 64 512) r q

    -- Reading the book is refused so; or it gives a trace that, with every delay on, admits a schedule, or admits none.
    abbrev pub JudgesIn : Result Verdict Refused → Type 0
    JudgesIn (Err why) = (q : Plain) × Gives (Err why) q
    JudgesIn (Ok v) = (q : Plain) × Gives (Ok tt) q × Says q v

-- the same in the kind of that number
abbrev pub JudgesAs : ℕ → List ℕ → Result Verdict Refused → Type 0
JudgesAs zero book r = JudgesIn integers whole_place whole_gap whole_limit 0 book r
JudgesAs (suc zero) book r = JudgesIn instants fine_place fine_gap fine_limit 1 book r
JudgesAs (suc (suc k)) book r = JudgesIn integers twin_place twin_gap twin_limit 2 book r

-- and in the book's own kind
abbrev pub Judges : List ℕ → Result Verdict Refused → Type 0
Judges book r = JudgesAs (kind_in book) book r
