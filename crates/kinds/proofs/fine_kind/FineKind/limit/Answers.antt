use Rattle.std.proofs.Common.{refl, arith}
use Rattle.std.proofs.lemmas.Int.{ints}
use Rattle.kinds.specs.Checks.{made_some}
use Rattle.kinds.specs.Fines.{fine_path}
use Rattle.kinds.proofs.fine_kind.FineKind.limit.Goals as goal

pub returns : goal.returns
returns c = made_some _ _ _ (omega arith) (λ h. fine_path _ _ (omega (arith, ints)) refl)
