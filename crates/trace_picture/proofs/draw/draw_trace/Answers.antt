use Rattle.std.proofs.Common.{ℕ, ◌≤◌, List, length, replicate, refl, arith}
use Rattle.std.proofs.lemmas.List.{length-replicate}
use Rattle.trace_picture.proofs.draw.draw_trace.Goals as goal

-- said of any number of bytes, since counting so many takes long
enough : (n : ℕ) → 500000 ≤ n → 500000 ≤ length (let bytes : List ℕ = replicate n 0 in bytes)
enough n h = rw length-replicate h

large : 500000 ≤ 501760
large = omega arith

pub draw_by-requires-clause-large : goal.draw_by-requires-clause-large
draw_by-requires-clause-large g c = enough 501760 large

pub returns-clause-later : goal.returns-clause-later
returns-clause-later g c = c.draw_by.ensures.later

pub slice_bounds-draw_by-end : goal.slice_bounds-draw_by-end
slice_bounds-draw_by-end g c = refl
