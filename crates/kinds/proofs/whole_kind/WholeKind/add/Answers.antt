use Rattle.std.proofs.Common.{arith}
use Rattle.std.proofs.lemmas.Int.{ints}
use Rattle.kinds.specs.Checks.{made_some}
use Rattle.kinds.specs.Wholes.{whole_path}
use Rattle.kinds.proofs.whole_kind.WholeKind.add.Goals as goal

pub returns : goal.returns
returns c = made_some _ _ _ (omega (arith, ints)) (λ h. whole_path _ _ (omega (arith, ints)))
