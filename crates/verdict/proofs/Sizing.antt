-- How large the links of a trace are, all together. Assumes nothing.
use Rattle.std.proofs.Common.{◌≡◌, ℕ, suc, ◌*◌, ◌^◌, ◌≤◌, List, [], ◌∷◌, ◌++◌, length, replicate, IfSome, Some, None, Option, sym, subst, inl, inr, arith}
use Rattle.std.proofs.lemmas.List.{length-append, length-replicate}
use Rattle.std.proofs.lemmas.Option.{none-some}
use Rattle.std.specs.List.{slice_get, filter_map, cons_option, ContainsAt as Has}
use Rattle.kinds.specs.Rules.{modest}
use Rattle.kinds.specs.declared.kind.Kind.{Ghosts}
use Rattle.trace.specs.Plain.{weight_of, upper_weight}
use Rattle.trace.specs.Spells.{Spells}
use Rattle.trace.specs.declared.parts.Delay.{Delay}
use Rattle.trace.specs.declared.parts.Event.{Event}
use Rattle.trace.specs.declared.parts.Pair.{Pair}
use Rattle.verdict.specs.Step.{sizes}
use Rattle.verdict.specs.Sweep.{marks, ended, limit_arc, limits, waits_after, arcs_from, arcs_of}
use Rattle.verdict.specs.declared.link.Arc.{Arc}
use Rattle.verdict.specs.declared.machine.Wait.{Wait}
use Rattle.verdict.specs.declared.machine.Wait.TheVariants.{Idle}
use Rattle.verdict.specs.declared.links.Limit.{Limit}
use Rattle.verdict.specs.declared.links.Limit.TheVariants.{Least, Most}
use Rattle.verdict.proofs.Drawn.{drawn, afters_long, ended_long}
use Rattle.verdict.proofs.Lawful.{Laws}
use Rattle.verdict.proofs.Marking.{OneEach}
use Rattle.verdict.proofs.Meanings.{Weighed, weighed}
use Rattle.verdict.proofs.Sweeping.{has_here, has_later}

sizes_few : {W : Type 0} (size : W → ℕ) (ls : List (Arc W)) → ((a : Arc W) → Has ls a → size a.rise ≤ 2 ^ 36) → sizes size ls ≤ 2 ^ 36 * length ls
sizes_few size [] h = omega arith
sizes_few size (a ∷ ls) h =
    let p = h a (has_here a ls) in
    let q = sizes_few size ls (λ b k. h b (has_later a b ls k)) in
    omega arith

cons_few : {X : Type 0} (o : Option X) (xs : List X) → length (cons_option o xs) ≤ suc (length xs)
cons_few None xs = omega arith
cons_few (Some x) xs = omega arith

filter_map_few : {X Y : Type 0} (f : X → Option Y) (xs : List X) → length (filter_map f xs) ≤ length xs
filter_map_few f [] = omega arith
filter_map_few f (x ∷ xs) = let p = cons_few (f x) (filter_map f xs) in let q = filter_map_few f xs in omega arith

module _ {W R : Type 0} (kind : Ghosts W R) (xs : List (Delay R)) (on : List ℕ) where
  arcs_few : (k : ℕ) (ws : List Wait) (es : List Event) → length ws ≡ 16 → length (arcs_from kind xs on k ws es) ≤ 33 * length es
  arcs_few k ws [] h = omega arith
  arcs_few k ws (e ∷ es) h =
      let over = ended ws (marks xs e) in
      let lows = limits kind xs on Least k over in
      let highs = limits kind xs on Most k over in
      let rest = arcs_from kind xs on (suc k) (waits_after xs k ws e) es in
      let p = filter_map_few (limit_arc kind xs on Least k) over in
      let q = filter_map_few (limit_arc kind xs on Most k) over in
      let l = ended_long xs e ws h in
      let r = arcs_few (suc k) (waits_after xs k ws e) es (afters_long xs e ws h k) in
      let s = length-append (lows ++ highs) rest in
      let t = length-append lows highs in
      omega arith

  arcs_of_few : (es : List Event) → length (arcs_of kind xs on es) ≤ 33 * length es
  arcs_of_few [] = omega arith
  arcs_of_few (e ∷ es) =
      let r = arcs_few 1 (waits_after xs 0 (replicate 16 Idle) e) es (afters_long xs e (replicate 16 Idle) (length-replicate {A = Wait} 16 Idle) 0) in
      omega arith

module _ {W R : Type 0} (kind : Ghosts W R) (rules : Laws kind)
    (xs : List (Delay R)) (on : List ℕ) (es : List Event) (one : OneEach xs es)
    (spelled : (d : ℕ) (x : Delay R) → slice_get xs d ≡ Some x → Spells kind.limited kind.rowed x) where
  limit_small : (p : Pair) (w : W) → weight_of kind.limited p ≡ Some w → kind.size w ≤ modest
  limit_small p w e = subst (λ o. IfSome o (λ w. kind.size w ≤ modest)) e (rules.limit_modest p.first p.second)

  upper_small : (o : Option Pair) (w : W) → upper_weight kind.limited o ≡ Some w → kind.size w ≤ modest
  upper_small None w e = absurd (none-some w e)
  upper_small (Some p) w e = limit_small p w e

  arc_small : (a : Arc W) → Has (arcs_of kind xs on es) a → kind.size a.rise ≤ modest
  arc_small a h =
      elim (drawn kind xs on es one a h) [
        | inl t ↦ subst (λ a. kind.size a.rise ≤ modest) t.arc rules.spacing_modest
        | inr t ↦ let w = weighed kind rules xs on es one spelled a t in go t.limit w
      ]
    where
      go : {d j k : ℕ} (l : Limit) → Weighed kind rules xs on es one spelled a l d j k → kind.size a.rise ≤ modest
      go Least w = subst (λ a. kind.size a.rise ≤ modest) w.is (limit_small w.row.given.lower w.weight w.weighs)
      go Most w = subst (λ a. kind.size a.rise ≤ modest) w.is (subst (λ n. n ≤ modest) (sym (rules.opposes w.weight).sized) (upper_small w.row.given.upper w.weight w.weighs))

  -- all links of a trace of at most 512 events
  pub arcs_small : length es ≤ 512 → sizes kind.size (arcs_of kind xs on es) ≤ 2 ^ 51
  arcs_small few =
      let p = sizes_few kind.size (arcs_of kind xs on es) arc_small in
      let q = arcs_of_few kind xs on es in
      omega arith
