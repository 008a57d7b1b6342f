use Rattle.std.proofs.Common.{◌≡◌, ℕ, ◌<◌, ◌≤◌, Bool, true, false, List, map, length, get_or, set, sym, refl, ap, ◌∙◌, subst, arith}
use lib.ListN.{length-map}
use Rattle.std.proofs.lemmas.Bool.{not-true, not-false}
use Rattle.std.proofs.lemmas.Result.{IfErr-at_err, err_from_is_err_and}
use Rattle.std.specs.Option.{ok_or}
use Rattle.std.specs.Slice.{IsItemAt}
use Rattle.trace.specs.Plain.{of_process, process_in}
use Rattle.trace.specs.Sound.{Processes, process_of}
use Rattle.trace.specs.State.{delay_rows_of}
use Rattle.trace.specs.Tally.{Tallies}
use Rattle.trace.specs.declared.parts.Declared.{Declared}
use Rattle.trace.specs.declared.parts.Delay.{Delay}
use Rattle.trace.specs.declared.parts.Refusal.TheVariants.{NoDelay}
use Rattle.trace.specs.declared.side.Side.{Side}
use Rattle.trace.proofs.Tallies.{unknown_mark, second_mark, fresh_mark, tally_more, process_given, process_row}
use Rattle.trace.proofs.table.Trace.take.Given
use Rattle.trace.proofs.table.Trace.take.Goals as goal
use Rattle.trace.proofs.table.Trace.take.Goals.{In_ok-delay}

-- the row of delay n, in a table whose delays have processes
record Row {R : Type 0} (xs : List (Delay R)) (n : ℕ) (row : Delay R) : Type 0 where
  inside : n < length xs
  is : row ≡ get_or xs n row
  owned : Processes (length xs) xs
  few : length xs ≤ 64

module _ {R : Type 0} {xs : List (Delay R)} {n : ℕ} {row : Delay R} (here : Row xs n row) where
  abbrev ds : List Declared
  ds = map (λ x. x.given) xs

  process_is : process_of xs n ≡ row.given.process
  process_is = process_row xs n row here.inside here.is

  low : row.given.process < 16
  low = subst (λ p. p < 16) process_is (here.owned n here.inside)

  declared : n < length ds
  declared = rw length-map here.inside

  given_is : process_in ds n ≡ row.given.process
  given_is = process_given xs n ∙ process_is

  -- whether a delay of its process was there
  flag_is : (ns : List ℕ) (s : Side) (b : Bool) → Tallies ds ns s → get_or s.processes row.given.process false ≡ b → of_process ds (process_in ds n) ns ≡ b
  flag_is ns s b old e = ap (λ p. of_process ds p ns) given_is ∙ sym (old.processes_is row.given.process low) ∙ e

row_is : (g : Given.Over) (c : In_ok-delay g) → Row (delay_rows_of c.args.self.now) c.args.number c.in_ok-delay.delay.now
row_is g c =
    let h = subst (IsItemAt c.delays.result.now c.args.number) c.in_ok-delay.ensures.ok_part c.get.ensures.lookup in
    subst (λ xs. Row xs c.args.number c.in_ok-delay.delay.now) c.delays.ensures.rows (record { inside = h.3.0; is = h.1; owned = c.delays.ensures.owned; few = c.delays.ensures.few })

pub returns-in_err-delay : goal.returns-in_err-delay
returns-in_err-delay g c ns old =
    let p = err_from_is_err_and c.from_residual.result c.from_residual.ensures.1 in
    let h = subst (IsItemAt c.delays.result.now c.args.number) c.in_err-delay.ensures.ok_part c.get.ensures.lookup in
    let no_delay : p.0 ≡ NoDelay = p.2 ∙ IfErr-at_err (λ f. f ≡ NoDelay) (sym (c.in_err-delay.ensures.value ∙ ap (λ o. ok_or o NoDelay) c.in_err-delay.ensures.ok_part)) refl in
    rw (p.1, no_delay) (unknown_mark c.args.second _ ns c.args.number (rw length-map (subst (λ xs. length xs ≤ c.args.number) c.delays.ensures.rows h.3)))

pub add-requires : goal.add-requires
add-requires g c =
    let here = row_is g (goal.at.add-requires g c).In_ok-delay in
    (low here, omega (arith, here.inside, here.few))

pub returns-then-not-add : goal.returns-then-not-add
returns-then-not-add g c ns old =
    let here = row_is g (goal.at.returns-then-not-add g c).In_ok-delay in
    second_mark c.args.second _ ns c.args.number (declared here) (flag_is here ns c.args.side.now true old (not-false _ (sym c.if-not-add.ensures.fresh)))

pub returns : goal.returns
returns g c ns old =
    let here = row_is g (goal.at.returns g c).In_ok-delay in
    let fresh = flag_is here ns c.args.side.now false old (not-true _ (sym c.if-not-add.ensures.fresh)) in
    let process = given_is here in (
      fresh_mark c.args.second _ ns c.args.number (declared here) fresh,
      tally_more _ ns c.args.number c.args.side.now _ old (declared here) (rw process (low here)) fresh c.if-not-add.ensures.word (c.if-not-add.ensures.processes ∙ ap (λ p. set c.args.side.now.processes p true) (sym process)),
    )
