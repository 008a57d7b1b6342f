-- The law of a kind, of all its ghost members together. Assumes nothing.
use Rattle.kinds.specs.Rules.{Rules}
use Rattle.kinds.specs.declared.kind.Kind.{Ghosts}

abbrev pub Laws : {W R : Type 0} → Ghosts W R → Type 0
Laws kind = Rules kind.group kind.place kind.size kind.nought kind.added kind.opposed kind.spacing kind.limited kind.weighed kind.rowed
