-- What the links of a trace cost. Assumes nothing.
use Rattle.std.specs.Prelude.{List, Some, None, Option}
use Rattle.std.specs.List.{slice_get}
use Rattle.std.specs.Option.{option_map}
use Rattle.kinds.specs.declared.kind.Kind.{Ghosts}
use Rattle.trace.specs.declared.parts.Delay.{Delay}
use Rattle.verdict.specs.declared.link.Bound.{Bound}
use Rattle.verdict.specs.declared.link.Bound.TheVariants.{Gap, Lower, Upper}

-- the weight of an upper limit, where the delay is there and has one
abbrev pub most_of : {W R : Type 0} → (R → W) → Option (Delay R) → Option W
most_of weighed None = None
most_of weighed (Some x) = option_map weighed x.most

-- Of a kind, and the rows of delays. Neighbours: minus the gap; a lower limit: minus the limit; an upper limit: the limit.
abbrev pub cost_of : {W R : Type 0} → Ghosts W R → List (Delay R) → Bound → Option W
cost_of kind xs Gap = Some (kind.opposed kind.spacing)
cost_of kind xs (Lower d) = option_map (λ x. kind.opposed (kind.weighed x.least)) (slice_get xs d)
cost_of kind xs (Upper d) = most_of kind.weighed (slice_get xs d)
