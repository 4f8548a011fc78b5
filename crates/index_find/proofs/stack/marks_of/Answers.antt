use Rattle.std.proofs.Common.{◌+◌, ◌<◌, ◌≤◌, List, Bool, length, take, sym, subst, arith}
use Rattle.index_find.proofs.Placed.{ArePlaced, placed_next, word_marks}
use Rattle.index_find.proofs.stack.marks_of.Goals as goal

pub loop-place-preserved : goal.loop-place-preserved
loop-place-preserved c =
    let places = c.files_with-place-items.result.now in
    let i = c.loop-place.place-index in
    let inside : i < length places = omega arith in
    subst (λ (m : List Bool). ArePlaced (length c.args.index.now.paths) m (take (i + 1) places)) (sym c.mark.ensures)
    (placed_next (length c.args.index.now.paths) i c.loop-place.marks places inside (c.files_with-place-items.ensures.within i 0 inside) c.loop-place.invariant)

pub returns : goal.returns
returns c =
    let places = c.files_with-place-items.result.now in
    let all : length places ≤ c.loop-place.place-index = omega arith in
    word_marks c.args.index.now c.args.word.now c.loop-place.marks places c.loop-place.place-index all c.files_with-place-items.ensures c.loop-place.invariant
