use Rattle.std.proofs.Common.{arith, w64, SFits, rules}
use Rattle.kinds.proofs.Normals.{twin_adds, twin_both}
use Rattle.kinds.proofs.twin_kind.TwinKind.add.Goals as goal

pub returns : goal.returns
returns c =
    let fits : SFits w64 c.carried-crystal.result.1 = search rules in
    twin_adds c.args.self c.args.other _ (omega arith)
    (twin_both c.args.self c.args.other c.carried-crystal.result fits c.carried-crystal.ensures.same)
