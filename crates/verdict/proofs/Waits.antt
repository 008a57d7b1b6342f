-- What a process has open before an event: the machine against the definition of a match. Assumes nothing.
use Rattle.std.proofs.Common.{◌≡◌, ℕ, zero, suc, ◌<◌, true, ◌⊎◌, List, [], ◌∷◌, map, length, get_or, Some, None, Option, sym, refl, ap, ◌∙◌, subst, inl, inr, arith}
use Rattle.std.proofs.lemmas.Bool.{cases_eq, both_ways}
use Rattle.std.proofs.lemmas.Option.{none-some, same_Some}
use Rattle.trace.specs.Matching.{begins_at, Quiet}
use Rattle.trace.specs.Plain.{process_in}
use Rattle.trace.specs.Sound.{process_of, Processes, begins_of, ends_of}
use Rattle.trace.specs.declared.parts.Delay.{Delay}
use Rattle.trace.specs.declared.parts.Event.{Event}
use Rattle.verdict.specs.Machine.{after}
use Rattle.verdict.specs.Sweep.{marked}
use Rattle.verdict.specs.declared.machine.Match.{Match}
use Rattle.verdict.specs.declared.machine.Wait.{Wait}
use Rattle.verdict.specs.declared.machine.Wait.TheVariants.{Idle, Open}
use Rattle.verdict.proofs.Marking.{Single, marked_is, marked_finds, marked_none}

pub same_process : {R : Type 0} (xs : List (Delay R)) (d : ℕ) → process_in (map (λ x. x.given) xs) d ≡ process_of xs d
same_process [] d = refl
same_process (x ∷ xs) zero = refl
same_process (x ∷ xs) (suc d) = same_process xs d

pub process_inside : {R : Type 0} (xs : List (Delay R)) (d q : ℕ) → q < 16 → process_of xs d ≡ q → d < length xs
process_inside [] d q p e = absurd (let k : 16 ≡ q = e in omega arith)
process_inside (x ∷ xs) zero q p e = omega arith
process_inside (x ∷ xs) (suc d) q p e = let h = process_inside xs d q p e in omega arith

abbrev pub opened : Wait → Option Match
opened Idle = None
opened (Open m) = Some m

-- a begin opens its delay, whatever was open and whatever ends
open_is : (w : Wait) (e : Option ℕ) (f k : ℕ) → Some (record { delay = f; since = k }) ≡ opened (after w e (Some f) k)
open_is w None f k = refl
open_is w (Some x) f k = refl

same_open : (w : Wait) (e : Option ℕ) (f k d j : ℕ) → f ≡ d → k ≡ j → after w e (Some f) k ≡ Open (record { delay = d; since = j })
same_open w None f k d j p q = λ i. Open (record { delay = p i; since = q i })
same_open w (Some x) f k d j p q = λ i. Open (record { delay = p i; since = q i })

-- The begin of the delay d at the event j is open before the event k: its process q has no mark between them.
pub record Opens {R : Type 0} (xs : List (Delay R)) (es : List Event) (q d j k : ℕ) : Type 0 where
  pub before : j < k
  pub process : process_of xs d ≡ q
  pub begins : begins_at es j d ≡ true
  pub quiet : (i : ℕ) → j < i → i < k → Quiet (map (λ x. x.given) xs) es q i

-- a wait that says just what the process q has open before the event k
pub record Knows {R : Type 0} (xs : List (Delay R)) (es : List Event) (q k : ℕ) (w : Wait) : Type 0 where
  pub has : (d j : ℕ) → Opens xs es q d j k → w ≡ Open (record { delay = d; since = j })
  pub is : (m : Match) → w ≡ Open m → Opens xs es q m.delay m.since k

module _ {R : Type 0} (xs : List (Delay R)) (es : List Event) (ps : Processes (length xs) xs) (q k : ℕ) (few : q < 16)
    (one_begin : Single xs (get_or (begins_of es) k 0)) where
  nothing : (d : ℕ) → begins_at es k d ≡ true → process_of xs d ≡ q → get_or (marked xs (get_or (begins_of es) k 0)) q None ≡ None → ⊥
  nothing d h p n = both_ways _ (marked_none xs _ q ps d n (process_inside xs d q few p) p) h

  -- no mark of q is found, so q is quiet
  quiet : get_or (marked xs (get_or (ends_of es) k 0)) q None ≡ None → get_or (marked xs (get_or (begins_of es) k 0)) q None ≡ None → Quiet (map (λ x. x.given) xs) es q k
  quiet e b d p =
      let s = sym (same_process xs d) ∙ p in
      (marked_none xs _ q ps d b (process_inside xs d q few s) s, marked_none xs _ q ps d e (process_inside xs d q few s) s)

  -- the event k is the last, or an earlier one with nothing of q at k
  last : (d j : ℕ) → Opens xs es q d j (suc k) → ((j ≡ k) × (begins_at es k d ≡ true)) ⊎ (Opens xs es q d j k × Quiet (map (λ x. x.given) xs) es q k)
  last d j o = elim (cases_eq j k) [
    | inl e ↦ inl (e, subst (λ i. begins_at es i d ≡ true) e o.begins)
    | inr n ↦
        let p = o.before in
        let l : j < k = omega arith in
        inr (record { before = l; process = o.process; begins = o.begins; quiet = λ i a b. o.quiet i a (omega arith) }, o.quiet k l (omega arith))
  ]

  -- a process takes its marks at the event k
  pub takes : (w : Wait) (e b : Option ℕ) → get_or (marked xs (get_or (ends_of es) k 0)) q None ≡ e → get_or (marked xs (get_or (begins_of es) k 0)) q None ≡ b
      → Knows xs es q k w → Knows xs es q (suc k) (after w e b k)
  takes w None None h i s = record {
    has = λ d j o. elim (last d j o) [
      | inl (a, c) ↦ absurd (nothing d c o.process i)
      | inr (a, c) ↦ s.has d j a
    ];
    is = λ m e.
        let o = s.is m e in
        record {
          before = let p = o.before in omega arith;
          process = o.process;
          begins = o.begins;
          quiet = λ x a c. elim (cases_eq x k) [ inl t ↦ subst (Quiet (map (λ x. x.given) xs) es q) (sym t) (quiet h i) | inr n ↦ o.quiet x a (omega arith) ];
        };
  }
  takes w (Some f) None h i s = record {
    has = λ d j o. elim (last d j o) [
      | inl (a, c) ↦ absurd (nothing d c o.process i)
      | inr (a, c) ↦
          let t = marked_is xs _ q ps f few h in
          absurd (both_ways _ (c f (same_process xs f ∙ t.2)).1 t.1)
    ];
    is = λ m e. absurd (none-some m (ap opened e));
  }
  takes w e (Some f) h i s = record {
    has = λ d j o. elim (last d j o) [
      | inl (a, c) ↦
          let t = same_Some f d (sym i ∙ marked_finds xs _ q ps d one_begin few (process_inside xs d q few o.process) c o.process) in
          same_open w e f k d j t (sym a)
      | inr (a, c) ↦ absurd (both_ways _ (c f (same_process xs f ∙ (marked_is xs _ q ps f few i).2)).0 (marked_is xs _ q ps f few i).1)
    ];
    is = λ m t. subst (λ n. Opens xs es q n.delay n.since (suc k)) (same_Some _ m (open_is w e f k ∙ ap opened t)) (record {
      before = omega arith;
      process = (marked_is xs _ q ps f few i).2;
      begins = (marked_is xs _ q ps f few i).1;
      quiet = λ x a b. absurd (gone x a b);
    });
  }
    where
      gone : (x : ℕ) → k < x → x < suc k → ⊥
      gone x a b = omega arith
