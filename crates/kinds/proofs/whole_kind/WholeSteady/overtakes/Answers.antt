use Rattle.kinds.proofs.Steadies.{overtakes}
use Rattle.kinds.proofs.whole_kind.WholeSteady.overtakes.Goals as goal

pub returns : goal.returns
returns c a b h = overtakes a.ticks b.ticks h
