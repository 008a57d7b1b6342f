use Rattle.std.proofs.Common.{◌≡◌, ◌/◌, ◌<◌, ◌∙◌, length, length-set, arith, rules}
use Rattle.std.proofs.lemmas.List.{take_more_set}
use Rattle.std.proofs.lemmas.Result.{err_from_is_err_and}
use Rattle.book.proofs.Parts.{chunk_part}
use Rattle.book.proofs.Shapes.{shaped_stop, shaped_push, spelled_push}
use Rattle.book.proofs.marks.Marks.read.Goals as goal

pub returns-in_err-items : goal.returns-in_err-items
returns-in_err-items c =
    let p = err_from_is_err_and c.from_residual.result c.from_residual.ensures.1 in
    let spelled = c.args.spelled.now in
    let i = c.loop-index.index in
    let inside : i < length spelled / 2 = omega (arith, c.as_chunks.ensures.front_len) in
    rw (p.1, p.2) (shaped_stop spelled _ i (chunk_part 2 _ (length spelled / 2) i spelled _ c.as_chunks.ensures.front inside) (length spelled / 2) _ inside c.in_err-items.ensures)

pub returns : goal.returns
returns c =
    let end : c.loop-index.index ≡ length c.args.spelled.now / 2 = omega (arith, c.as_chunks.ensures.front_len) in
    search rules

pub loop-index-preserved : goal.loop-index-preserved
loop-index-preserved c =
    let spelled = c.args.spelled.now in
    let i = c.loop-index.index in
    let items = c.loop-index.items in
    let old = c.loop-index.invariant in
    let told = c.in_ok-items.ensures in
    let inside : i < length spelled / 2 = omega (arith, c.as_chunks.ensures.front_len) in
    let room : i < length items = omega (arith, old.long) in
    let same = chunk_part 2 _ (length spelled / 2) i spelled _ c.as_chunks.ensures.front inside in
    record {
      shaped = shaped_push spelled _ i same old.shaped told.0;
      long = length-set items i _ ∙ old.long;
      held = take_more_set items i _ room ∙ spelled_push spelled _ i same _ _ old.held told.1;
    }
