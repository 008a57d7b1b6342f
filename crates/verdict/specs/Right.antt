-- What a verdict says of a trace: the clauses `right` and `times` of `decide`, and `right` of `examine`. Assumes nothing.
use Rattle.std.specs.Prelude.{◌≡◌, ℕ, ◌<◌, Bool, List, [], ◌∷◌, length, take, Some, None, Option, slice_index_or}
use Rattle.kinds.specs.declared.kind.Kind.{Ghosts}
use Rattle.trace.specs.declared.parts.Declared.{Declared}
use Rattle.trace.specs.declared.parts.Event.{Event}
use Rattle.verdict.specs.Schedule as schedule
use Rattle.verdict.specs.Schedule.{Edge, Admits, Earliest, Next, Link, Chain}
use Rattle.verdict.specs.declared.link.Bound.{Bound}
use Rattle.verdict.specs.declared.link.Bound.TheVariants.{Gap, Lower, Upper}
use Rattle.verdict.specs.declared.link.Link as row
use Rattle.verdict.specs.declared.tables.Tables.{Tables}
use Rattle.verdict.specs.declared.verdict.Verdict.{Verdict}
use Rattle.verdict.specs.declared.verdict.Verdict.TheVariants.{Consistent, Conflict}

-- Of a kind, the delays and the events of a trace, and the delays for which `on` is true. It stands beside the clause `rows`,
-- which has the refusal, the rows that stay, the zeros of a conflict and the bound on a chain's length.
module _ {W R : Type 0} (kind : Ghosts W R) (ds : List Declared) (es : List Event) (on : ℕ → Bool) where
  -- a link comes from a bound: neighbours, or that limit of that delay
  abbrev pub Comes : Bound → Edge kind.Time → Type 0
  Comes Gap l = Next kind.group kind.place kind.spacing kind.limited ds es on l
  Comes (Lower d) l = (x : schedule.Lower kind.group kind.place kind.spacing kind.limited ds es on l) × (x.delay ≡ d)
  Comes (Upper d) l = (x : schedule.Upper kind.group kind.place kind.spacing kind.limited ds es on l) × (x.delay ≡ d)

  -- a row of the chain table is a link: its events, and what it comes from
  pub record Row (r : row.Link) (l : Edge kind.Time) : Type 0 where
    pub from : r.from ≡ l.from
    pub to : r.to ≡ l.to
    pub by : Comes r.by l

  abbrev pub Rows : List row.Link → List (Edge kind.Time) → Type 0
  Rows [] [] = Unit {0}
  Rows [] (l ∷ ls) = ⊥
  Rows (r ∷ rs) [] = ⊥
  Rows (r ∷ rs) (l ∷ ls) = Row r l × Rows rs ls

  -- there is no schedule, and the rows are a chain that shows it: its cost is below zero (a negative cycle)
  pub record Forbidden (rows : List row.Link) : Type 0 where
    pub none : Admits kind.group kind.place kind.spacing kind.limited ds es on → ⊥
    pub links : List (Edge kind.Time)
    pub chain : Chain kind.group (Link kind.group kind.place kind.spacing kind.limited ds es on) links
    pub written : Rows rows links

  -- What a verdict (on timing consistency) says. Consistent: the times written are the earliest. Conflict: the delays that are
  -- on admit no schedule, and the chain written shows it.
  abbrev pub Right : Tables W R → Verdict → Type 0
  Right t Consistent = Earliest kind.group kind.place kind.spacing kind.limited ds es on (λ i. kind.place (kind.weighed (slice_index_or t.times.now i (kind.rowed kind.nought))))
  Right t (Conflict l) = Forbidden (take l t.chain.now)

  -- The rows of the events are those of weights, and these are the earliest times.
  pub record Timed (rows : List R) : Type 0 where
    pub time : ℕ → W
    pub written : (i : ℕ) (d : R) → i < length es → slice_index_or rows i d ≡ kind.rowed (time i)
    pub earliest : Earliest kind.group kind.place kind.spacing kind.limited ds es on (λ i. kind.place (time i))

  -- a consistent verdict's rows are such
  abbrev pub Times : Tables W R → Verdict → Type 0
  Times t Consistent = Timed t.times.now
  Times t (Conflict l) = Unit {0}

  -- What a search finds: such rows, or a chain of so many rows.
  abbrev pub Finds : Tables W R → Option ℕ → Type 0
  Finds t None = Timed t.times.now
  Finds t (Some l) = Forbidden (take l t.chain.now)
