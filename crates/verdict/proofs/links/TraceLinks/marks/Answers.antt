use Rattle.std.proofs.Common.{◌≡◌, ℕ, Option, ◌<◌, cond, length, get_or, map, set, Some, None, sym, ap, ◌∙◌, subst, length-set, refl}
use Rattle.std.proofs.lemmas.List.{drop_all, map-id}
use Rattle.std.proofs.lemmas.Simd.{zip2_of_maps}
use Rattle.trace.proofs.Tallies.{process_row}
use Rattle.trace.specs.Sound.{has}
use Rattle.verdict.specs.Sweep.{marks_from}
use Rattle.verdict.specs.declared.marks.Marks.{Marks}
use Rattle.verdict.proofs.Sweeps.{bit_set, bit_clear, side_more}
use Rattle.verdict.proofs.links.TraceLinks.marks.Goals as goal
use Rattle.verdict.proofs.links.TraceLinks.marks.Goals.{then-event-number-eq1, else-event-number-eq1, then-event-number-eq1-2, else-event-number-eq1-2}

pub bounds-found-delay : goal.bounds-found-delay
bounds-found-delay g c =
    let n = c.loop-number.number in
    subst (λ p. p < 16) (process_row c.args.self.now.delays.now n c.delay-item.result c.loop-number-test.true c.delay-item.is) (c.args.self.now.owned n c.loop-number-test.true)

pub loop-number-preserved : goal.loop-number-preserved
loop-number-preserved g c =
    let xs = c.args.self.now.delays.now in
    let n = c.loop-number.number in
    let e = c.args.event in
    let found = c.loop-number.found in
    let x = c.delay-item.result in
    let p = x.given.process in
    let none : Marks = record { end = None; begin = None } in
    let old = get_or found p none in
    let m = c.if-event-number-eq1.marks in
    let first : (m.end ≡ cond (has n e.ends) (Some n) old.end) × (m.begin ≡ old.begin) = elim c.if-event-number-eq1.branch [
      | then-event-number-eq1 v ↦ (ap (λ k. k.end) v.marks-is ∙ bit_set e.ends n old.end v.if-event-number-eq1.true, ap (λ k. k.begin) v.marks-is)
      | else-event-number-eq1 v ↦ (ap (λ k. k.end) v.marks-is ∙ bit_clear e.ends n old.end v.if-event-number-eq1.false, ap (λ k. k.begin) v.marks-is)
    ] in
    let second : (k : Marks) × (c.if-event-number-eq1-2.found ≡ set found p k) × (k.end ≡ m.end) × (k.begin ≡ cond (has n e.begins) (Some n) m.begin) = elim c.if-event-number-eq1-2.branch [
      | then-event-number-eq1-2 v ↦ (record { end = m.end; begin = Some n }, v.found-is, refl, bit_set e.begins n m.begin v.if-event-number-eq1-2.true)
      | else-event-number-eq1-2 v ↦ (m, v.found-is, refl, bit_clear e.begins n m.begin v.if-event-number-eq1-2.false)
    ] in
    let (k, is, end, begin) = second in
    record {
      long = ap length is ∙ length-set found p k ∙ c.loop-number.invariant.long;
      ends = side_more (λ m. m.end) xs n e.ends found _ x k none is (end ∙ first.0) c.loop-number-test.true c.delay-item.is ∙ c.loop-number.invariant.ends;
      begins = side_more (λ m. m.begin) xs n e.begins found _ x k none is (begin ∙ ap (cond (has n e.begins) (Some n)) first.1) c.loop-number-test.true c.delay-item.is ∙ c.loop-number.invariant.begins;
    }

pub returns : goal.returns
returns g c =
    let n = c.loop-number.number in
    let found = c.loop-number.found in
    let none = drop_all n c.args.self.now.delays.now c.loop-number-test.false in
    let side = λ (side : Marks → Option ℕ) (w : ℕ). ap (λ xs. marks_from n xs w (map side found)) none in
    sym (zip2_of_maps (λ end begin. record { end = end; begin = begin }) (λ m. m.end) (λ m. m.begin) found
    (sym c.loop-number.invariant.ends ∙ side (λ m. m.end) c.args.event.ends) (sym c.loop-number.invariant.begins ∙ side (λ m. m.begin) c.args.event.begins) ∙ map-id found)
