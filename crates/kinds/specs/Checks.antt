-- What a test lets through, where its fact holds and where it does not. Assumes nothing.
use Rattle.std.specs.Prelude.{◌≡◌, Some, MatchOption}
use Rattle.std.proofs.Common.{ap}
use Rattle.kinds.specs.Checked.{some_if, weight_if}

pub made_some : {P W : Type 0} (d : Dec P) (made : P → W) (w : W) → P → ((h : P) → w ≡ made h) → Some w ≡ some_if d made
made_some (yes h) made w p e = ap Some (e h)
made_some (no h) made w p e = absurd (h p)

-- what holds where nothing is made, and of every weight that is made
pub made_cases : {P W : Type 0} (d : Dec P) (made : P → W) (N : Type 0) (Q : W → Type 0) → (¬ P → N) → ((h : P) → Q (made h)) → MatchOption (some_if d made) N Q
made_cases (yes h) made N Q n q = q h
made_cases (no h) made N Q n q = n h

pub weight_some : {P W : Type 0} (d : Dec P) (made : P → W) (zero w : W) → P → ((h : P) → w ≡ made h) → w ≡ weight_if d made zero
weight_some (yes h) made zero w p e = e h
weight_some (no h) made zero w p e = absurd (h p)
