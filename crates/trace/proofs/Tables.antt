-- What the tables of a trace hold, and what the calls' tests say of the plain trace. Assumes nothing.
use Rattle.std.proofs.Common.{leb-false, ◌≡◌, ℕ, ◌+◌, ◌<◌, false, ◌≢◌, ◌⊎◌, List, length, get_or, take, set, ap, ◌∙◌, inl, inr, arith, get_or-set_other, get_or-set_same}
use lib.ListN.{length-map}
use Rattle.std.proofs.ByRecursion.{All-push}
use Rattle.std.proofs.lemmas.List.{map-set, take_more_set}
use Rattle.std.proofs.lemmas.Bool.{or_parts, cases_eq}
use Rattle.std.specs.List.{AllByRecursion}
use Rattle.trace.specs.Plain.{full}
use Rattle.trace.specs.Sound.{Processes, process_of}
use Rattle.trace.specs.declared.parts.Delay.{Delay}

-- a table that is not full has a row that is not in use
pub free_row : (n rows most : ℕ) → full n rows most ≡ false → n < rows
free_row n rows most e = leb-false rows n (or_parts _ _ e).0

-- what holds of the rows in use, and of it, holds of them all then
pub all_pushed : {A : Type 0} (P : A → Type 0) (xs : List A) (n : ℕ) (x : A) → n < length xs → P x → AllByRecursion P (take n xs) → AllByRecursion P (take (n + 1) (set xs n x))
all_pushed P xs n x h p old = rw (take_more_set xs n x h) (All-push P (take n xs) x old p)

module _ {R : Type 0} (xs : List (Delay R)) (n : ℕ) (row : Delay R) where
  -- the process of a delay that was there stays, and the new one has its row's
  pub process_other : (d : ℕ) → d ≢ n → process_of (set xs n row) d ≡ process_of xs d
  process_other d h = ap (λ ps. get_or ps d 16) (map-set (λ x. x.given.process) xs n row) ∙ get_or-set_other _ n d _ 16 h

  pub process_new : n < length xs → process_of (set xs n row) n ≡ row.given.process
  process_new h = ap (λ ps. get_or ps n 16) (map-set (λ x. x.given.process) xs n row) ∙ get_or-set_same _ n _ 16 (rw length-map h)

  pub processes_more : n < length xs → row.given.process < 16 → Processes n xs → Processes (n + 1) (set xs n row)
  processes_more h p old d k = go (cases_eq d n)
    where
      go : (d ≡ n) ⊎ (d ≡ n → ⊥) → process_of (set xs n row) d < 16
      go (inl e) = rw (e, process_new h) p
      go (inr e) = rw (process_other d e) (old d (omega arith))
