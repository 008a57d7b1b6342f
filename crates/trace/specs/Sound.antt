-- What every trace keeps, whatever its kind. Assumes nothing.
use Rattle.std.specs.Prelude.{ℕ, ◌/◌, ◌%◌, ◌^◌, ◌<◌, ◌≤◌, Bool, List, map, ◌==◌, slice_index_or}
use Rattle.trace.specs.declared.parts.Delay.{Delay}
use Rattle.trace.specs.declared.parts.Event.{Event}

-- bit d of a word: whether the set that the word stands for has d
abbrev pub has : ℕ → ℕ → Bool
has d w = w / 2 ^ d % 2 == 1

-- a count stays within its table and under the number that a trace allows
abbrev pub Few : ℕ → ℕ → ℕ → Type 0
Few count rows most = (count ≤ rows) × (count ≤ most)

-- the processes of a table of delays, and 16, which no process is, past its end
abbrev pub process_of : {R : Type 0} → List (Delay R) → ℕ → ℕ
process_of xs d = slice_index_or (map (λ x. x.given.process) xs) d 16

abbrev pub Processes : {R : Type 0} → ℕ → List (Delay R) → Type 0
Processes count xs = (d : ℕ) → d < count → process_of xs d < 16

-- the words of the begins, and of the ends, of a table of events
abbrev pub begins_of : List Event → List ℕ
begins_of es = map (λ e. e.begins) es

abbrev pub ends_of : List Event → List ℕ
ends_of es = map (λ e. e.ends) es
