-- What a trace holds in its tables. Assumes nothing.
use Rattle.std.specs.Prelude.{◌≡◌, ℕ, cond, List, map, length, take, is_ok, Result, MatchResult, slice_set}
use Rattle.kinds.specs.declared.kind.Kind.{Ghosts}
use Rattle.trace.specs.Plain.{Plain, event_of}
use Rattle.trace.specs.Spells.{Spells}
use Rattle.trace.specs.declared.parts.Declared.{Declared}
use Rattle.trace.specs.declared.parts.Delay.{Delay}
use Rattle.trace.specs.declared.parts.Event.{Event}
use Rattle.trace.specs.declared.parts.Mark.{Mark}
use Rattle.trace.specs.declared.parts.Refusal.{Refusal}
use Rattle.trace.specs.declared.table.Trace.{Trace}

-- the rows in use
abbrev pub delay_rows_of : {W R : Type 0} {k : Ghosts W R} → Trace W R k → List (Delay R)
delay_rows_of t = take t.delays.used t.delays.rows.now

abbrev pub event_rows_of : {W R : Type 0} {k : Ghosts W R} → Trace W R k → List Event
event_rows_of t = take t.events.used t.events.rows.now

-- the plain trace in tables of which so many rows are in use
abbrev pub plain : {R : Type 0} → List (Delay R) → ℕ → List Event → ℕ → Plain
plain delays declared events noted = record {
  delay_rows = length delays;
  event_rows = length events;
  delays = map (λ x. x.given) (take declared delays);
  events = take noted events;
}

-- the plain trace that a trace holds
abbrev pub plain_of : {W R : Type 0} {k : Ghosts W R} → Trace W R k → Plain
plain_of t = plain t.delays.rows.now t.delays.used t.events.rows.now t.events.used

-- Of the tables, an accepted delay writes the row that comes next, and nothing else changes.
pub record Declares {W R : Type 0} {k : Ghosts W R} (t : Trace W R k) (d : Declared) (r : Result (Unit {0}) Refusal) (t' : Trace W R k) : Type 0 where
  pub rows : MatchResult r (λ _. (row : Delay R) × (row.given ≡ d) × Spells k.limited k.rowed row × (t'.delays.rows.now ≡ slice_set t.delays.rows.now t.delays.used row)) (λ _. t'.delays.rows.now ≡ t.delays.rows.now)
  pub events : t'.events.rows.now ≡ t.events.rows.now

-- An accepted event likewise.
pub record Notes {W R : Type 0} {k : Ghosts W R} (t : Trace W R k) (marks : List Mark) (r : Result (Unit {0}) Refusal) (t' : Trace W R k) : Type 0 where
  pub rows : t'.events.rows.now ≡ cond (is_ok r) (slice_set t.events.rows.now t.events.used (event_of marks)) t.events.rows.now
  pub delays : t'.delays.rows.now ≡ t.delays.rows.now
