-- What a test lets through: the sums, the limits and the rows of a kind. Assumes nothing.
use Rattle.std.specs.Prelude.{Some, None, Option}

-- two facts, decided one after the other
abbrev pub both : {P Q : Type 0} → Dec P → Dec Q → Dec (P × Q)
both (yes h) (yes k) = yes (h, k)
both (yes h) (no k) = no (λ b. k b.1)
both (no h) d = no (λ b. h b.0)

-- a weight where the fact holds, and nothing where it does not
abbrev pub some_if : {P W : Type 0} → Dec P → (P → W) → Option W
some_if (yes h) made = Some (made h)
some_if (no h) made = None

-- a weight where the fact holds, and zero where it does not
abbrev pub weight_if : {P W : Type 0} → Dec P → (P → W) → W → W
weight_if (yes h) made zero = made h
weight_if (no h) made zero = zero
