-- What stays whatever is read. Assumes nothing.
use Rattle.std.specs.Prelude.{◌≡◌, List, ◌++◌}
use Rattle.trace.specs.Plain.{Plain}
use Rattle.trace.specs.declared.parts.Declared.{Declared}
use Rattle.trace.specs.declared.parts.Event.{Event}

-- Delays and events are added after those that were there, and the tables are as large as before.
pub record Grown (p q : Plain) : Type 0 where
  pub delays_added : List Declared
  pub events_added : List Event
  pub delay_rows : q.delay_rows ≡ p.delay_rows
  pub event_rows : q.event_rows ≡ p.event_rows
  pub delays : q.delays ≡ p.delays ++ delays_added
  pub events : q.events ≡ p.events ++ events_added
