-- The reader's refusals: their numbers, and those that carry the trace's. Assumes nothing.
use Rattle.std.specs.Prelude.{◌≡◌, ℕ, List, ◌++◌, codes}
use Rattle.std.specs.Fmt.{decimal}
use Rattle.book.specs.declared.fault.Fault.{Fault}
use Rattle.book.specs.declared.fault.Fault.TheVariants.{Size, Tag, Kind, Section, Shape, Trace}
use Rattle.book.specs.declared.fault.Refused.{Refused}
use Rattle.trace.specs.Plain as plain
use Rattle.trace.specs.declared.parts.Refusal.{Refusal}

abbrev pub code : Fault → ℕ
code Size = 1
code Tag = 2
code Kind = 3
code Section = 4
code Shape = 5
code (Trace r) = plain.code r

-- a refusal of the trace, carried whole
abbrev pub Carries : Refusal → Fault → Type 0
Carries refusal fault = fault ≡ Trace refusal

-- how a refusal is printed: the fault's number, and the place
abbrev pub shown : Refused → List ℕ
shown r = codes "refused " ++ decimal (code r.fault) ++ codes " " ++ decimal r.place
