-- For the inner contracts of the search: what its steps leave of its rows. Assumes nothing.
use Rattle.std.specs.Prelude.{◌≡◌, length}
use Rattle.kinds.specs.declared.kind.Kind.{Ghosts}
use Rattle.verdict.specs.Scratch.{links_of}
use Rattle.verdict.specs.declared.rows.Rows.{Rows}

-- the rows are those that were lent, and as many
pub record Same {W R : Type 0} {k : Ghosts W R} (t t' : Rows W R k) : Type 0 where
  pub times : t'.times.ghost_name ≡ t.times.ghost_name
  pub chain : t'.chain.ghost_name ≡ t.chain.ghost_name
  pub kept : t'.kept.ghost_name ≡ t.kept.ghost_name
  pub events : length t'.kept.now ≡ length t.kept.now

-- only stamps may have changed
pub record Stamped {W R : Type 0} {k : Ghosts W R} (t t' : Rows W R k) : Type 0 where
  pub same : Same t t'
  pub times : t'.times.now ≡ t.times.now
  pub chain : t'.chain.now ≡ t.chain.now
  pub links : links_of t'.kept.now ≡ links_of t.kept.now
