use Rattle.std.proofs.Common.{arith}
use Rattle.std.proofs.lemmas.Int.{ints}
use Rattle.kinds.specs.Twins.{twin_parts}
use Rattle.kinds.proofs.Normals.{twin_cycles}
use Rattle.kinds.proofs.twin_kind.TwinKind.opposite.Goals as goal

pub returns : goal.returns
returns c =
    let few = twin_cycles c.args.self in
    twin_parts _ _ (omega arith) (omega (arith, ints))
