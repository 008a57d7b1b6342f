-- Schedules with all bytes 1 are schedules with every delay on. Assumes nothing.
use Rattle.std.proofs.Common.{◌≡◌, ℕ, ◌<◌, ◌≤◌, Bool, true, not, eqb, List, length, get_or, replicate, Option, refl, ap, ◌∙◌, arith}
use lib.ListN.{get_or-replicate}
use Rattle.std.proofs.lemmas.Option.{slice_get_within}
use Rattle.kinds.specs.Group.{Ordered}
use Rattle.kinds.specs.declared.kind.Kind.{Ghosts}
use Rattle.trace.specs.Plain.{Plain}
use Rattle.trace.specs.declared.parts.Declared.{Declared}
use Rattle.trace.specs.declared.parts.Event.{Event}
use Rattle.verdict.specs.Right.{Right}
use Rattle.verdict.specs.Schedule.{Wait, Schedule}
use Rattle.verdict.specs.Schedule.{switched}
use Rattle.verdict.specs.declared.tables.Tables.{Tables}
use Rattle.verdict.specs.declared.verdict.Verdict.{Verdict}
use Rattle.verdict.specs.declared.verdict.Verdict.TheVariants.{Consistent, Conflict}
use Rattle.report.specs.Judges.{Says}

module _ {W C : Type 0} (group : Ordered C) (place : W → C) (spacing : W) (limited : ℕ → ℕ → Option W) where
  -- where every delay that is on by `on` is on by `more` too, a schedule with `more` is one with `on`
  fewer : (ds : List Declared) (es : List Event) (on more : ℕ → Bool) → ((d : ℕ) → d < length ds → on d ≡ true → more d ≡ true)
      → (t : ℕ → C) → Schedule group place spacing limited ds es more t → Schedule group place spacing limited ds es on t
  fewer ds es on more h t s =
      let wait : (d j k : ℕ) (given : Declared) → Wait group place spacing limited ds es on d j k given → Wait group place spacing limited ds es more d j k given =
      λ d j k given w. record { declared = w.declared; switched = h d (slice_get_within ds d given w.declared) w.switched; matches = w.matches } in
      record {
        start = s.start;
        gaps = s.gaps;
        lowers = λ d j k given w x. s.lowers d j k given w (wait d j k given x);
        uppers = λ d j k given w x. s.uppers d j k given w (wait d j k given x);
      }

-- a right verdict with n bytes 1, for no more than n delays, says what one with every delay on has to
pub says : {W R : Type 0} (kind : Ghosts W R) (q : Plain) (n : ℕ) (bytes : List ℕ) (t : Tables W R) (v : Verdict)
    → length q.delays ≤ n → bytes ≡ replicate n 1 → Right kind q.delays q.events (switched bytes) t v
    → Says kind.group kind.place kind.spacing kind.limited q v
says kind q n bytes t Consistent few ones r =
    (_, fewer kind.group kind.place kind.spacing kind.limited q.delays q.events (λ _. true) (switched bytes) (λ d h _. ap (λ b. not (eqb b 0)) (ap (λ xs. get_or xs d 0) ones ∙ get_or-replicate n d 1 0 (omega arith))) _ r.schedule)
says kind q n bytes t (Conflict l) few ones r =
    λ a. r.none (a.0, fewer kind.group kind.place kind.spacing kind.limited q.delays q.events (switched bytes) (λ _. true) (λ _ _ _. refl) a.0 a.1)
