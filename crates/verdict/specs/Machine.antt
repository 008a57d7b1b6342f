-- What a process does with its marks at an event. Assumes nothing.
use Rattle.std.specs.Prelude.{ℕ, cond, Some, None, Option, ◌==◌}
use Rattle.verdict.specs.declared.machine.Match.{Match}
use Rattle.verdict.specs.declared.machine.Wait.{Wait}
use Rattle.verdict.specs.declared.machine.Wait.TheVariants.{Idle, Open}

-- an end matches the begin that is open, if it is of the same delay
abbrev pub matching : Wait → Option ℕ → Option Match
matching Idle end = None
matching (Open m) None = None
matching (Open m) (Some d) = cond (m.delay == d) (Some m) None

-- a begin opens its delay; an end alone leaves nothing open; without a mark all stays
abbrev pub after : Wait → Option ℕ → Option ℕ → ℕ → Wait
after w None None k = w
after w (Some e) None k = Idle
after w end (Some d) k = Open (record { delay = d; since = k })
