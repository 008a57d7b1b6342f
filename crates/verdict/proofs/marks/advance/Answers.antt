use Rattle.std.proofs.Common.{◌≡◌, ◌+◌, ◌<◌, [], ◌∷◌, ◌++◌, length, get_or, take, drop, suc, None, Some, Option, sym, ap, ap₂, ◌∙◌, add-one, arith, rules, length-set, drop-cons, slice_set}
use Rattle.std.proofs.lemmas.List.{append-nil, take_more_set, drop-set-lt}
use Rattle.std.proofs.lemmas.List.Elements.{filter_map-append}
use Rattle.verdict.specs.Machine.{after, matching}
use Rattle.verdict.specs.Sweep.{afters, ended as ended_in, present}
use Rattle.verdict.specs.declared.machine.Match.{Match}
use Rattle.verdict.specs.declared.machine.Wait.{Wait}
use Rattle.verdict.specs.declared.machine.Wait.TheVariants.{Idle}
use Rattle.verdict.specs.declared.marks.Marks.{Marks}
use Rattle.verdict.proofs.Sweeps.{zip_more}
use Rattle.verdict.proofs.marks.advance.Goals as goal
use Rattle.verdict.proofs.marks.advance.Goals.{in-Some, in_default}

pub loop-process-preserved : goal.loop-process-preserved
loop-process-preserved c =
    let p = c.loop-process.process in
    let n = c.loop-process.count in
    let ws = c.args.waits.now in
    let now = c.loop-process.waits in
    let es = c.loop-process.ended in
    let ms = c.args.marks.now in
    let old = c.loop-process.invariant in
    let none : Marks = record { end = None; begin = None } in
    let m = get_or ms p none in
    let ends = λ (w : Wait) (m : Marks). matching w m.end in
    let opens = λ (w : Wait) (m : Marks). after w m.end m.begin c.args.event in
    let i : p < length ws = omega (arith, c.loop-process-test.true, c.told-waits) in
    let j : p < length ms = omega (arith, c.loop-process-test.true, c.told-marks) in
    let k : p < length now = omega (arith, c.loop-process-test.true, old.wide) in
    let room : n < length es = omega (arith, c.loop-process-test.true, old.few, old.long) in
    let next = add-one p in
    let same = sym (drop-cons now p Idle k) ∙ old.others ∙ drop-cons ws p Idle i in
    let wait : get_or now p Idle ≡ get_or ws p Idle = ap (λ zs. get_or zs 0 Idle) same in
    let before = ended_in (take p ws) (take p ms) in
    let so_far : (o : Option Match) → c.ends.result ≡ o → present (ended_in (take (p + 1) ws) (take (p + 1) ms)) ≡ present before ++ present (o ∷ []) =
    λ o is. ap (λ k. present (ended_in (take k ws) (take k ms))) next ∙ ap present (zip_more ends p ws ms Idle none i j)
    ∙ filter_map-append (λ m. m) before _ ∙ ap (λ o. present before ++ present (o ∷ [])) (sym (c.ends.ensures ∙ ap (λ w. ends w m) wait) ∙ is) in
    record {
      long = elim c.match-ends.branch [
        | in-Some w ↦ ap length w.ended-is ∙ length-set es n w.in-Some.begun ∙ old.long
        | in_default w ↦ ap length w.ended-is ∙ old.long
      ];
      wide = length-set now p c.then.result ∙ old.wide;
      few = elim c.match-ends.branch [ in-Some w ↦ omega (arith, w.count-is, old.few) | in_default w ↦ omega (arith, w.count-is, old.few) ];
      ended = elim c.match-ends.branch [
        | in-Some w ↦
            ap₂ take w.count-is w.ended-is ∙ take_more_set es n w.in-Some.begun room
            ∙ ap (λ xs. xs ++ w.in-Some.begun ∷ []) old.ended ∙ sym (so_far (Some w.in-Some.begun) w.in-Some.is)
        | in_default w ↦
            ap₂ take w.count-is w.ended-is ∙ old.ended ∙ sym (append-nil (present before)) ∙ sym (so_far None (search (rules, w.in_default)))
      ];
      taken =
          take_more_set now p c.then.result k ∙ ap₂ (λ xs w. xs ++ w ∷ []) old.taken (c.then.ensures ∙ ap (λ w. opens w m) wait)
          ∙ sym (zip_more opens p ws ms Idle none i j) ∙ ap (λ k. afters c.args.event (take k ws) (take k ms)) (sym next);
      others =
          ap (λ k. drop k (slice_set now p c.then.result)) next ∙ drop-set-lt (suc p) now p c.then.result (omega arith)
          ∙ ap (drop 1) same ∙ ap (λ k. drop k ws) (sym next);
    }
