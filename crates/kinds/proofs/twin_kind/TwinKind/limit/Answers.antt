use Rattle.std.proofs.Common.{◌/◌, ◌%◌, ap, arith}
use Rattle.std.proofs.lemmas.Int.{ints}
use Rattle.kinds.specs.Checks.{made_some}
use Rattle.kinds.specs.Twins.{twin_parts}
use Rattle.kinds.proofs.twin_kind.TwinKind.limit.Goals as goal

pub returns : goal.returns
returns c =
    let turns = ap (λ n. c.args.first / n) c.from-3.ensures in
    made_some _ _ _ (omega arith) (λ h. twin_parts _ _ (ap (λ n. c.args.first % n) c.from.ensures) (omega (arith, ints)))
