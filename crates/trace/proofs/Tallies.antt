-- Gathering the marks of an event. Assumes nothing.
use Rattle.std.proofs.Common.{◌≡◌, ℕ, zero, suc, ◌+◌, ◌^◌, ◌<◌, ◌≤◌, Bool, true, false, ◌||◌, eqb, ◌⊎◌, List, [], ◌∷◌, ◌++◌, map, length, get_or, take, drop, set, replicate, Some, None, sym, refl, ap, ◌∙◌, subst, inl, inr, add-one, length-set, drop-cons, get_or-set_other, get_or-set_same, pow_pos}
use lib.Bits.{bit_or}
use lib.Pow.{pow-lt}
use Rattle.std.proofs.Math.Bool.{or-false}
use Rattle.std.proofs.lemmas.Nat.{or_lt}
use Rattle.std.proofs.lemmas.List.{get_or-map, take_more}
use Rattle.std.proofs.lemmas.List.Sums.{fold_push}
use Rattle.std.proofs.lemmas.Bool.{le-leb, lt-leb, cases_eq, eq-eqb, ne_eqb, or_left, or_right, both_ways}
use Rattle.trace.proofs.Words.{has_either, has_none}
use Rattle.trace.specs.Plain.{process_in, of_process, word, mark_refusal, first_of, or_else, offence, first_offence, begun, ended}
use Rattle.trace.specs.Sound.{has, process_of}
use Rattle.trace.specs.Tally.{Tallies}
use Rattle.trace.specs.declared.parts.Declared.{Declared}
use Rattle.trace.specs.declared.parts.Delay.{Delay}
use Rattle.trace.specs.declared.parts.Mark.{Mark}
use Rattle.trace.specs.declared.parts.Mark.TheVariants.{Begin, End}
use Rattle.trace.specs.declared.parts.Refusal.{Refusal}
use Rattle.trace.specs.declared.parts.Refusal.TheVariants.{NoDelay}
use Rattle.trace.specs.declared.side.Side.{Side}

-- the processes of a table's rows are those of the delays as given
given_processes : {R : Type 0} (xs : List (Delay R)) → map (λ x. x.process) (map (λ x. x.given) xs) ≡ map (λ x. x.given.process) xs
given_processes [] = refl
given_processes (x ∷ xs) = ap (λ ps. x.given.process ∷ ps) (given_processes xs)

pub process_given : {R : Type 0} (xs : List (Delay R)) (d : ℕ) → process_in (map (λ x. x.given) xs) d ≡ process_of xs d
process_given xs d = ap (λ ps. get_or ps d 16) (given_processes xs)

pub process_row : {R : Type 0} (xs : List (Delay R)) (d : ℕ) (row : Delay R) → d < length xs → row ≡ get_or xs d row → process_of xs d ≡ row.given.process
process_row xs d row h e = get_or-map (λ x. x.given.process) xs d row 16 h ∙ ap (λ x. x.given.process) (sym e)

-- what refuses a mark
module _ (second : Refusal) (ds : List Declared) (ns : List ℕ) (d : ℕ) where
  pub unknown_mark : length ds ≤ d → mark_refusal second ds ns d ≡ Some NoDelay
  unknown_mark h = ap (λ x. first_of ((x, NoDelay) ∷ (of_process ds (process_in ds d) ns, second) ∷ [])) (le-leb (length ds) d h)

  known_mark : (b : Bool) → d < length ds → of_process ds (process_in ds d) ns ≡ b → mark_refusal second ds ns d ≡ first_of ((b, second) ∷ [])
  known_mark b h e =
      ap (λ x. first_of ((x, NoDelay) ∷ (of_process ds (process_in ds d) ns, second) ∷ [])) (lt-leb (length ds) d h)
      ∙ ap (λ x. first_of ((false, NoDelay) ∷ (x, second) ∷ [])) e

  pub second_mark : d < length ds → of_process ds (process_in ds d) ns ≡ true → mark_refusal second ds ns d ≡ Some second
  second_mark h e = known_mark true h e

  pub fresh_mark : d < length ds → of_process ds (process_in ds d) ns ≡ false → mark_refusal second ds ns d ≡ None
  fresh_mark h e = known_mark false h e

-- one delay more among those of a process
of_process_push : (ds : List Declared) (q : ℕ) (ns : List ℕ) (d : ℕ) → of_process ds q (ns ++ (d ∷ [])) ≡ (of_process ds q ns || eqb (process_in ds d) q)
of_process_push ds q [] d = or-false (eqb (process_in ds d) q)
of_process_push ds q (n ∷ ns) d = go (eqb (process_in ds n) q) (of_process_push ds q ns d)
  where
    go : (b : Bool) → of_process ds q (ns ++ (d ∷ [])) ≡ (of_process ds q ns || eqb (process_in ds d) q) → (b || of_process ds q (ns ++ (d ∷ []))) ≡ ((b || of_process ds q ns) || eqb (process_in ds d) q)
    go true e = refl
    go false e = e

module _ (ds : List Declared) (ns : List ℕ) (d : ℕ) (s t : Side) (old : Tallies ds ns s)
    (declared : d < length ds) (low : process_in ds d < 16) (fresh : of_process ds (process_in ds d) ns ≡ false)
    (words : t.word ≡ bit_or s.word (2 ^ d)) (flags : t.processes ≡ set s.processes (process_in ds d) true) where
  more_word : t.word ≡ word (ns ++ (d ∷ []))
  more_word = words ∙ ap (λ w. bit_or w (2 ^ d)) old.word_is ∙ sym (fold_push (λ w e. bit_or w (2 ^ e)) 0 ns d)

  more_flags : (q : ℕ) → q < 16 → get_or t.processes q false ≡ of_process ds q (ns ++ (d ∷ []))
  more_flags q h = ap (λ ps. get_or ps q false) flags ∙ go (cases_eq q (process_in ds d))
    where
      there : process_in ds d < length s.processes
      there = rw old.long low

      go : (q ≡ process_in ds d) ⊎ (q ≡ process_in ds d → ⊥) → get_or (set s.processes (process_in ds d) true) q false ≡ of_process ds q (ns ++ (d ∷ []))
      go (inl e) = rw e (get_or-set_same s.processes (process_in ds d) true false there ∙ sym (of_process_push ds (process_in ds d) ns d ∙ or_right (of_process ds (process_in ds d) ns) _ (eq-eqb (process_in ds d) (process_in ds d) refl)))
      go (inr e) = get_or-set_other s.processes (process_in ds d) q true false e ∙ old.processes_is q h
          ∙ sym (of_process_push ds q ns d ∙ ap (λ b. of_process ds q ns || b) (ne_eqb (process_in ds d) q (λ k. e (sym k))) ∙ or-false (of_process ds q ns))

  -- no delay of the process was there
  none_there : (e : ℕ) → has e s.word ≡ true → process_in ds e ≡ process_in ds d → ⊥
  none_there e h k = both_ways (of_process ds (process_in ds d) ns) fresh (subst (λ q. of_process ds q ns ≡ true) k (old.inside e h))

  more_apart : (a b : ℕ) → has a t.word ≡ true → has b t.word ≡ true → process_in ds a ≡ process_in ds b → a ≡ b
  more_apart a b h k e = go (has_either d a s.word (subst (λ w. has a w ≡ true) words h)) (has_either d b s.word (subst (λ w. has b w ≡ true) words k))
    where
      go : (a ≡ d) ⊎ (has a s.word ≡ true) → (b ≡ d) ⊎ (has b s.word ≡ true) → a ≡ b
      go (inl p) (inl q) = p ∙ sym q
      go (inl p) (inr q) = absurd (none_there b q (sym e ∙ ap (process_in ds) p))
      go (inr p) (inl q) = absurd (none_there a p (e ∙ ap (process_in ds) q))
      go (inr p) (inr q) = old.settled.apart a b p q e

  more_inside : (e : ℕ) → has e t.word ≡ true → of_process ds (process_in ds e) (ns ++ (d ∷ [])) ≡ true
  more_inside e h = of_process_push ds (process_in ds e) ns d ∙ go (has_either d e s.word (subst (λ w. has e w ≡ true) words h))
    where
      go : (e ≡ d) ⊎ (has e s.word ≡ true) → (of_process ds (process_in ds e) ns || eqb (process_in ds d) (process_in ds e)) ≡ true
      go (inl p) = or_right _ _ (eq-eqb _ _ (ap (process_in ds) (sym p)))
      go (inr p) = or_left _ _ (old.inside e p)

  pub tally_more : Tallies ds (ns ++ (d ∷ [])) t
  tally_more = record {
    long = ap length flags ∙ length-set s.processes (process_in ds d) true ∙ old.long;
    word_is = more_word;
    processes_is = more_flags;
    settled = record { known = rw words (or_lt (length ds) s.word (2 ^ d) old.settled.known (pow-lt declared)); apart = more_apart };
    inside = more_inside;
  }

-- a side that has taken nothing
flags_none : (n q : ℕ) → get_or (replicate n false) q false ≡ false
flags_none zero q = refl
flags_none (suc n) zero = refl
flags_none (suc n) (suc q) = flags_none n q

pub tally_none : (ds : List Declared) → Tallies ds [] (record { word = 0; processes = replicate 16 false })
tally_none ds = record {
  long = refl;
  word_is = refl;
  processes_is = λ q h. flags_none 16 q;
  settled = record { known = pow_pos (length ds); apart = λ d e h. absurd (both_ways (has d 0) (has_none d) h) };
  inside = λ d h. absurd (both_ways (has d 0) (has_none d) h);
}

-- the delays that one mark more begins and ends
pub begun_begin : (ms : List Mark) (d : ℕ) → begun (ms ++ (Begin d ∷ [])) ≡ begun ms ++ (d ∷ [])
begun_begin [] d = refl
begun_begin (Begin e ∷ ms) d = ap (λ ns. e ∷ ns) (begun_begin ms d)
begun_begin (End e ∷ ms) d = begun_begin ms d

pub begun_end : (ms : List Mark) (d : ℕ) → begun (ms ++ (End d ∷ [])) ≡ begun ms
begun_end [] d = refl
begun_end (Begin e ∷ ms) d = ap (λ ns. e ∷ ns) (begun_end ms d)
begun_end (End e ∷ ms) d = begun_end ms d

pub ended_begin : (ms : List Mark) (d : ℕ) → ended (ms ++ (Begin d ∷ [])) ≡ ended ms
ended_begin [] d = refl
ended_begin (Begin e ∷ ms) d = ended_begin ms d
ended_begin (End e ∷ ms) d = ap (λ ns. e ∷ ns) (ended_begin ms d)

pub ended_end : (ms : List Mark) (d : ℕ) → ended (ms ++ (End d ∷ [])) ≡ ended ms ++ (d ∷ [])
ended_end [] d = refl
ended_end (Begin e ∷ ms) d = ended_end ms d
ended_end (End e ∷ ms) d = ap (λ ns. e ∷ ns) (ended_end ms d)

-- the mark at place i, and those after it
module _ (ds : List Declared) (ms : List Mark) (i : ℕ) (m : Mark) (inside : i < length ms) (at : get_or ms i (Begin 0) ≡ m) where
  pub marks_more : take (i + 1) ms ≡ take i ms ++ (m ∷ [])
  marks_more = take_more ms i (Begin 0) inside ∙ ap (λ x. take i ms ++ (x ∷ [])) at

  offence_at : first_offence ds (take i ms) (drop i ms) ≡ or_else (offence ds (take i ms) m) (first_offence ds (take (i + 1) ms) (drop (i + 1) ms))
  offence_at =
      ap (first_offence ds (take i ms)) (drop-cons ms i (Begin 0) inside ∙ ap (λ x. x ∷ drop (suc i) ms) at)
      ∙ ap (λ b. or_else (offence ds (take i ms) m) (first_offence ds b (drop (suc i) ms))) (sym marks_more)
      ∙ ap (λ k. or_else (offence ds (take i ms) m) (first_offence ds (take (i + 1) ms) (drop k ms))) (sym (add-one i))

  pub offence_none : offence ds (take i ms) m ≡ None → first_offence ds (take i ms) (drop i ms) ≡ first_offence ds (take (i + 1) ms) (drop (i + 1) ms)
  offence_none e = offence_at ∙ ap (λ x. or_else x (first_offence ds (take (i + 1) ms) (drop (i + 1) ms))) e

  pub offence_some : (f : Refusal) → offence ds (take i ms) m ≡ Some f → first_offence ds (take i ms) (drop i ms) ≡ Some f
  offence_some f e = offence_at ∙ ap (λ x. or_else x (first_offence ds (take (i + 1) ms) (drop (i + 1) ms))) e
