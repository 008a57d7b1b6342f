-- For the inner contracts of the search: the links of a trace in the order in which a round takes them. Assumes nothing.
use Rattle.std.specs.Prelude.{ℕ, suc, ◌-◌, cond, List, [], ◌∷◌, ◌++◌, map, take, drop, replicate, Some, None, Option, slice_set}
use lib.Lanes.{zip2}
use Rattle.std.specs.List.{slice_get, filter_map}
use Rattle.std.specs.Option.{option_map, option_and_then}
use Rattle.kinds.specs.declared.kind.Kind.{Ghosts}
use Rattle.trace.specs.Sound.{has}
use Rattle.trace.specs.declared.parts.Delay.{Delay}
use Rattle.trace.specs.declared.parts.Event.{Event}
use Rattle.verdict.specs.Machine.{matching, after}
use Rattle.verdict.specs.Schedule.{switched}
use Rattle.verdict.specs.declared.link.Arc.{Arc}
use Rattle.verdict.specs.declared.link.Bound.TheVariants.{Gap, Lower, Upper}
use Rattle.verdict.specs.declared.links.Limit.{Limit}
use Rattle.verdict.specs.declared.links.Limit.TheVariants.{Least, Most}
use Rattle.verdict.specs.declared.links.Links.{Links}
use Rattle.verdict.specs.declared.machine.Match.{Match}
use Rattle.verdict.specs.declared.machine.Wait.{Wait}
use Rattle.verdict.specs.declared.machine.Wait.TheVariants.{Idle}
use Rattle.verdict.specs.declared.marks.Marks.{Marks}

-- the delays that a word marks, each at its process, from the delay i on
abbrev pub marks_from : {R : Type 0} → ℕ → List (Delay R) → ℕ → List (Option ℕ) → List (Option ℕ)
marks_from i [] w found = found
marks_from i (x ∷ xs) w found = marks_from (suc i) xs w (cond (has i w) (slice_set found x.given.process (Some i)) found)

abbrev pub marked : {R : Type 0} → List (Delay R) → ℕ → List (Option ℕ)
marked xs w = marks_from 0 xs w (replicate 16 None)

-- the marks of an event, process by process
abbrev pub marks : {R : Type 0} → List (Delay R) → Event → List Marks
marks xs e = zip2 (λ end begin. record { end = end; begin = begin }) (marked xs e.ends) (marked xs e.begins)

-- with these marks: the begins of the waits that end, and what each process has open after the event k
abbrev pub ended : List Wait → List Marks → List (Option Match)
ended ws ms = zip2 (λ w m. matching w m.end) ws ms

-- the waits that end, in order, and nothing for the other processes
abbrev pub present : List (Option Match) → List Match
present ms = filter_map (λ m. m) ms

abbrev pub afters : ℕ → List Wait → List Marks → List Wait
afters k ws ms = zip2 (λ w m. after w m.end m.begin k) ws ms

abbrev pub waits_after : {R : Type 0} → List (Delay R) → ℕ → List Wait → Event → List Wait
waits_after xs k ws e = afters k ws (marks xs e)

module _ {W R : Type 0} (kind : Ghosts W R) where
  -- the link from the event before k
  abbrev pub gap_arc : ℕ → Arc W
  gap_arc k = record { link = record { from = k - 1; to = k; by = Gap }; rise = kind.spacing }

  -- the link of a limit of a delay, for a match of it that ends at the event k
  abbrev pub limit_of : Limit → ℕ → Match → Delay R → Option (Arc W)
  limit_of Least k m x = Some (record { link = record { from = m.since; to = k; by = Lower m.delay }; rise = kind.weighed x.least })
  limit_of Most k m x = option_map (λ r. record { link = record { from = k; to = m.since; by = Upper m.delay }; rise = kind.opposed (kind.weighed r) }) x.most

  module _ (xs : List (Delay R)) (on : List ℕ) where
    -- the same, if a wait ends and its delay is on
    abbrev pub limit_arc : Limit → ℕ → Option Match → Option (Arc W)
    limit_arc l k None = None
    limit_arc l k (Some m) = cond (switched on m.delay) (option_and_then (limit_of l k m) (slice_get xs m.delay)) None

    -- the links of one limit of each wait that ends at the event k
    abbrev pub limits : Limit → ℕ → List (Option Match) → List (Arc W)
    limits l k ms = filter_map (limit_arc l k) ms

    -- all lower limits come before any upper limit
    abbrev pub limits_at : ℕ → List Wait → Event → List (Arc W)
    limits_at k ws e = limits Least k (ended ws (marks xs e)) ++ limits Most k (ended ws (marks xs e))

    -- all links of the events from k on, before which the processes have ws open
    abbrev pub arcs_from : ℕ → List Wait → List Event → List (Arc W)
    arcs_from k ws [] = []
    arcs_from k ws (e ∷ es) = gap_arc k ∷ (limits_at k ws e ++ arcs_from (suc k) (waits_after xs k ws e) es)

    -- all links of a trace: event 0 has no neighbour before it, and no wait ends at it
    abbrev pub arcs_of : List Event → List (Arc W)
    arcs_of [] = []
    arcs_of (e ∷ es) = arcs_from 1 (waits_after xs 0 (replicate 16 Idle) e) es

-- the links that a round has still to take
abbrev pub left : {W R : Type 0} (k : Ghosts W R) → Links W R k → List (Arc W)
left k s =
    let due = limits k s.trace.delays.now s.trace.on.now in
    let rest = arcs_from k s.trace.delays.now s.trace.on.now s.event s.waits (drop s.event s.trace.events.now) in
    let some = λ (n : ℕ). map Some (drop n (take s.count s.ended)) in
    due Least (s.event - 1) (some s.lowers) ++ (due Most (s.event - 1) (some s.uppers) ++ rest)
