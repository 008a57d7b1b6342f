-- Which rows of the lent tables stay. Assumes nothing.
use Rattle.std.specs.Prelude.{◌≡◌, ℕ, ◌≤◌, List, length, drop, MatchOption}
use Rattle.verdict.specs.declared.found.Found.{Found}
use Rattle.verdict.specs.declared.tables.Tables.{Tables}

-- a table whose rows from n on are as before
pub record Past {X : Type 0} (n : ℕ) (xs ys : List X) : Type 0 where
  pub long : length ys ≡ length xs
  pub past : drop n ys ≡ drop n xs

-- every table has a row for each of n events
pub record Holds {W R : Type 0} (n : ℕ) (t : Tables W R) : Type 0 where
  pub times : n ≤ length t.times.now
  pub chain : n ≤ length t.chain.now
  pub scratch : n ≤ length t.scratch.now

-- the tables are the slices that were lent, and no others
pub record Lent {W R : Type 0} (t t' : Tables W R) : Type 0 where
  pub times : t'.times.ghost_name ≡ t.times.ghost_name
  pub chain : t'.chain.ghost_name ≡ t.chain.ghost_name
  pub scratch : t'.scratch.ghost_name ≡ t.scratch.ghost_name

-- Which rows a search over n events leaves as they are: those past the events, and the chain table past a chain's rows.
pub record Searches {W R : Type 0} (n : ℕ) (t t' : Tables W R) (r : Found) : Type 0 where
  pub rounds : r.rounds ≤ n
  pub times : Past n t.times.now t'.times.now
  pub scratch : Past n t.scratch.now t'.scratch.now
  pub chain : MatchOption r.chain (t'.chain.now ≡ t.chain.now) (λ l. (l ≤ n) × Past l t.chain.now t'.chain.now)
