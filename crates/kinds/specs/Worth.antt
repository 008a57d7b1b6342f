-- Time counted by two clocks, in a unit that both are whole numbers of. Assumes nothing.
use Rattle.std.specs.Prelude.{◌≡◌, ℕ, ◌+◌, ◌*◌, ℤ, pos, ◌+ℤ◌, ◌*ℤ◌}

-- p units for each tick c of the first clock, and q units for each tick k of the second
abbrev pub worth : ℕ → ℕ → ℕ → ℤ → ℤ
worth p q c k = pos (p * c) +ℤ pos q *ℤ k

-- p and q have no common part: some number of p is one more than some number of q
abbrev pub Coprime : ℕ → ℕ → Type 0
Coprime p q = (u v : ℕ) × (p * u ≡ q * v + 1)
