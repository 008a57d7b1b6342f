-- The numbers of the refusals. Assumes nothing.
use Rattle.std.specs.Prelude.{ℕ}
use Rattle.verdict.specs.declared.verdict.Refusal.{Refusal}
use Rattle.verdict.specs.declared.verdict.Refusal.TheVariants.{Short}

abbrev pub code : Refusal → ℕ
code Short = 31
