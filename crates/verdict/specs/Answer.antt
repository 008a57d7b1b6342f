-- Which rows a verdict may change, and when it is refused. Assumes nothing.
use Rattle.std.specs.Prelude.{◌≡◌, ℕ, ◌<◌, ◌≤◌, List, length, Result, MatchResult, slice_index_or}
use Rattle.kinds.specs.declared.kind.Kind.{Ghosts}
use Rattle.trace.specs.State.{delay_rows_of, event_rows_of}
use Rattle.trace.specs.declared.table.Trace.{Trace}
use Rattle.verdict.specs.Frame.{Holds, Past, Searches}
use Rattle.verdict.specs.declared.found.Found.{Found}
use Rattle.verdict.specs.declared.tables.Tables.{Tables}
use Rattle.verdict.specs.declared.verdict.Refusal.{Refusal}
use Rattle.verdict.specs.declared.verdict.Verdict.{Verdict}
use Rattle.verdict.specs.declared.verdict.Verdict.TheVariants.{Consistent, Conflict}

-- every table has a row for each of n events, and there is a byte for each of d delays
pub record Enough {W R : Type 0} (n d : ℕ) (bytes : List ℕ) (t : Tables W R) : Type 0 where
  pub tables : Holds n t
  pub delays : d ≤ length bytes

-- `zero` in each of the first n rows
abbrev pub Zeros : {R : Type 0} → R → ℕ → List R → Type 0
Zeros {R = R} zero n xs = (i : ℕ) (d : R) → i < n → slice_index_or xs i d ≡ zero

-- Consistent: the chain table is as before. Conflict: of its rows only the first l, at most n, may differ, and every event's
-- time is `zero`. What these rows and the earliest times are is said by `Right`.
abbrev pub Leaves : {W R : Type 0} → R → ℕ → Tables W R → Tables W R → Verdict → Type 0
Leaves zero n t t' Consistent = t'.chain.now ≡ t.chain.now
Leaves zero n t t' (Conflict l) = (l ≤ n) × Past l t.chain.now t'.chain.now × Zeros zero n t'.times.now

-- An answer: rows past the last event stay.
pub record Answers {W R : Type 0} (zero : R) (n d : ℕ) (bytes : List ℕ) (t t' : Tables W R) (v : Verdict) : Type 0 where
  pub enough : Enough n d bytes t
  pub times : Past n t.times.now t'.times.now
  pub scratch : Past n t.scratch.now t'.scratch.now
  pub leaves : Leaves zero n t t' v

-- A refusal: something is too short, and nothing has changed.
pub record Refuses {W R : Type 0} (n d : ℕ) (bytes : List ℕ) (t t' : Tables W R) : Type 0 where
  pub lacks : Enough n d bytes t → ⊥
  pub times : t'.times.now ≡ t.times.now
  pub chain : t'.chain.now ≡ t.chain.now
  pub scratch : t'.scratch.now ≡ t.scratch.now

-- A verdict on a trace, with these bytes for its delays.
module _ {W R : Type 0} {kind : Ghosts W R} (trace : Trace W R kind) (bytes : List ℕ) (t t' : Tables W R) where
  abbrev pub Decides : Result Verdict Refusal → Type 0
  Decides r = MatchResult r
      (λ v. Answers (kind.rowed kind.nought) (length (event_rows_of trace)) (length (delay_rows_of trace)) bytes t t' v)
      (λ f. Refuses (length (event_rows_of trace)) (length (delay_rows_of trace)) bytes t t')

  -- The same for the search alone.
  abbrev pub Examines : Result Found Refusal → Type 0
  Examines r = MatchResult r
      (λ f. Enough (length (event_rows_of trace)) (length (delay_rows_of trace)) bytes t × Searches (length (event_rows_of trace)) t t' f)
      (λ f. Refuses (length (event_rows_of trace)) (length (delay_rows_of trace)) bytes t t')
