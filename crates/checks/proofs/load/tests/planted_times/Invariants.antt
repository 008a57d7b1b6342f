-- Each event so far came at most 8 ticks after the one before.
use Rattle.std.proofs.Common.{◌*◌, ◌≤◌}
use Rattle.checks.proofs.load.tests.planted_times.Given as goal

abbrev pub invariant-loop-next : goal.invariant-loop-next
invariant-loop-next l = l.time ≤ 8 * l.next-index
