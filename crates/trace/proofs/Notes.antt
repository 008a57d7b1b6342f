-- What every trace keeps, with a delay or an event more. Assumes nothing.
use Rattle.std.proofs.Common.{◌≡◌, ℕ, ◌^◌, ◌<◌, ◌≤◌, ◌⊎◌, true, List, [], ◌∷◌, ◌++◌, map, length, get_or, take, sym, ap, ◌∙◌, subst, inl, inr, add-one, arith, get_or-take}
use lib.ListN.{length-map}
use Rattle.std.proofs.Math.Seq.{get_or-append_seam}
use Rattle.std.proofs.lemmas.Bool.{cases_lt}
use Rattle.std.proofs.lemmas.List.{take-map, map_push, length-append, length-take-le, get_or_append_left}
use Rattle.trace.proofs.Words.{has_below}
use Rattle.trace.specs.Plain.{process_in}
use Rattle.trace.specs.Sound.{Processes, process_of, has}
use Rattle.trace.specs.Tally.{Settled, Settles}
use Rattle.trace.specs.declared.parts.Declared.{Declared}
use Rattle.trace.specs.declared.parts.Delay.{Delay}
use Rattle.trace.specs.declared.parts.Event.{Event}

-- the rows in use hold what the table holds there
column_taken : {A : Type 0} (f : A → ℕ) (n : ℕ) (xs : List A) (k : ℕ) (past : ℕ) → k < n → get_or (map f (take n xs)) k past ≡ get_or (map f xs) k past
column_taken f n xs k past h = ap (λ ps. get_or ps k past) (sym (take-map f n xs)) ∙ get_or-take n (map f xs) k past h

module _ {R : Type 0} (xs : List (Delay R)) (n : ℕ) (inside : n ≤ length xs) where
  process_taken : (d : ℕ) → d < n → process_of (take n xs) d ≡ process_of xs d
  process_taken d h = column_taken (λ x. x.given.process) n xs d 16 h

  pub processes_taken : Processes n xs → Processes (length (take n xs)) (take n xs)
  processes_taken old d h = let k : d < n = subst (λ m. d < m) (length-take-le n xs inside) h in rw (process_taken d k) (old d k)

-- one delay more
module _ (ds : List Declared) (d : Declared) where
  process_stays : (e : ℕ) → e < length ds → process_in (ds ++ (d ∷ [])) e ≡ process_in ds e
  process_stays e h = ap (λ ps. get_or ps e 16) (map_push (λ x. x.process) ds d) ∙ get_or_append_left (map (λ x. x.process) ds) (d.process ∷ []) 16 e (rw length-map h)

  settled_more : (w : ℕ) → Settled ds w → Settled (ds ++ (d ∷ [])) w
  settled_more w s =
      let inside = λ (e : ℕ) (h : has e w ≡ true). has_below e (length ds) w s.known h in
      record {
        known = subst (λ n. w < 2 ^ n) (sym (length-append ds (d ∷ []) ∙ add-one (length ds))) (let p = s.known in omega arith);
        apart = λ e f h k same. s.apart e f h k (sym (process_stays e (inside e h)) ∙ same ∙ process_stays f (inside f k));
      }

  pub settles_more : (es : List Event) → Settles ds es → Settles (ds ++ (d ∷ [])) es
  settles_more es s = record { begins = λ k h. settled_more _ (s.begins k h); ends = λ k h. settled_more _ (s.ends k h) }

-- one event more
module _ (ds : List Declared) (es : List Event) (e : Event) where
  side_noted : (f : Event → ℕ) → ((k : ℕ) → k < length es → Settled ds (get_or (map f es) k 0)) → Settled ds (f e)
      → (k : ℕ) → k < length (es ++ (e ∷ [])) → Settled ds (get_or (map f (es ++ (e ∷ []))) k 0)
  side_noted f old new k h = rw (map_push f es e) (go (cases_lt k (length es)))
    where
      go : (k < length es) ⊎ (length es ≤ k) → Settled ds (get_or (map f es ++ (f e ∷ [])) k 0)
      go (inl p) = rw (get_or_append_left (map f es) (f e ∷ []) 0 k (rw length-map p)) (old k p)
      go (inr p) =
          let last : k ≡ length (map f es) = rw length-map (omega (arith, length-append es (e ∷ []))) in
          rw (last, get_or-append_seam (map f es) (f e) [] 0) new

  pub settles_noted : Settles ds es → Settled ds e.begins → Settled ds e.ends → Settles ds (es ++ (e ∷ []))
  settles_noted s b n = record { begins = side_noted (λ x. x.begins) s.begins b; ends = side_noted (λ x. x.ends) s.ends n }
