use Rattle.std.proofs.Common.{◌≡◌, ◌++◌, take, arith, append_assoc, ap, ◌∙◌}
use Rattle.trace_core.specs.Text.{newline, event_line}
use Rattle.trace_shapes.specs.Shapes.{line_of}
use Rattle.trace_shapes.proofs.Added.{cut_last}
use Rattle.trace_shapes.proofs.tags.add_line.Goals as goal

pub returns-clause-text : goal.returns-clause-text
unfolding line_of
returns-clause-text c =
    let e = c.args.e.now in
    let n = c.args.place in
    let same : event_line n e ≡ line_of n e ++ newline = simp append_assoc in
    cut_last c.add_event-end.new.buf (take c.args.at c.args.buf.now) (line_of n e) c.add_event-end.result 10 (omega (arith, c.add_event-end.ensures.near, c.add_event-end.auto.buf)) (c.add_event-end.ensures.text ∙ ap (λ l. take c.args.at c.args.buf.now ++ l) same)
