use Rattle.kinds.specs.Twin.{twin_place}
use Rattle.kinds.proofs.Steadies.{overtakes}
use Rattle.kinds.proofs.twin_kind.TwinSteady.overtakes.Goals as goal

pub returns : goal.returns
returns c a b h = overtakes (twin_place a) (twin_place b) h
