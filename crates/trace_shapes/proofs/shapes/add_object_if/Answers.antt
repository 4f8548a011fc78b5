use Rattle.std.proofs.Common.{[], ◌++◌, take, ap, sym, ◌∙◌, append-nil}
use Rattle.std.proofs.lemmas.Bool.{cond-true, cond-false}
use Rattle.trace_board.specs.Marks.{marks}
use Rattle.trace_shapes.specs.Looks.{has_number}
use Rattle.trace_shapes.specs.Shapes.{object_text}
use Rattle.trace_shapes.proofs.shapes.add_object_if.Goals as goal

pub returns-then-has_number-clause-text : goal.returns-then-has_number-clause-text
returns-then-has_number-clause-text c =
    let old = take c.args.at c.args.buf.now in
    let e = c.args.e.now in
    let has = sym (c.has_number.ensures ∙ ap (λ m. has_number m.mark) c.requires.same) ∙ c.if-has_number.true in
    c.add_object.ensures.text ∙ ap (λ x. old ++ x) (sym (cond-true (has_number (marks e).mark) (object_text c.args.band.now c.args.place e) [] has))

pub returns-else-has_number-clause-text : goal.returns-else-has_number-clause-text
returns-else-has_number-clause-text c =
    let old = take c.args.at c.args.buf.now in
    let e = c.args.e.now in
    let hasnt = sym (c.has_number.ensures ∙ ap (λ m. has_number m.mark) c.requires.same) ∙ c.if-has_number.false in
    sym (append-nil old) ∙ ap (λ x. old ++ x) (sym (cond-false (has_number (marks e).mark) (object_text c.args.band.now c.args.place e) [] hasnt))
