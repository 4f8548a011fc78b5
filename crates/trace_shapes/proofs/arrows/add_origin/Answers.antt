use Rattle.std.proofs.Common.{◌++◌, take, ap, ◌∙◌}
use Rattle.std.specs.Prelude.{codes}
use Rattle.trace_shapes.specs.Shapes.{with_number}
use Rattle.trace_shapes.proofs.Added.{added_two}
use Rattle.trace_shapes.proofs.arrows.add_origin.Goals as goal

pub returns-clause-text : goal.returns-clause-text
returns-clause-text c =
    let o = c.args.o.now in
    let mid = take c.add_with_number-at.result c.add_with_number-at.new.buf in
    added_two (take c.args.at c.args.buf.now) mid _ (with_number (codes "'><title>event ") o.place) (with_number (codes " of t") o.thread.0) c.add_with_number-at.ensures.text
    (c.add_with_number.ensures.text ∙ ap (λ n. mid ++ with_number (codes " of t") n) c.from.ensures)
