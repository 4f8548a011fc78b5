use Rattle.std.proofs.Common.{refl, sym, subst, []}
use Rattle.std.specs.List.{All}
use Rattle.std.proofs.lemmas.List.Elements.{recursion_from_All}
use Rattle.larch_actions.specs.declared.event.Layout.{Layout}
use Rattle.larch_actions.specs.Layout.{HasNames}
use Rattle.trace_core.specs.Text.{ReadsAs, trace_text}
use Rattle.command_line.specs.Tasks.{options_of}
use Rattle.command_endings.specs.Changes.{change_of}
use Rattle.command_endings.specs.Printing.{Prints}
use Rattle.firefly.specs.Looks.{look_of, looks_of}
use Rattle.command_endings.specs.declared.status.Status.TheVariants.{Done}
use Rattle.firefly.proofs.Indexed.{no_error, no_trace, same_error, trace_printed}
use Rattle.firefly.proofs.trace_command.run_trace.Goals as goal

pub print_trace-status-requires-clause-traced : goal.print_trace-status-requires-clause-traced
print_trace-status-requires-clause-traced g c κs within =
    let run = c.in-Ok.ensures.run in
    let w = run.traced refl in
    (w.0, w.1, recursion_from_All (HasNames c.in-Ok.closed.layout) w.0 (subst (λ (l : Layout). All (HasNames l) w.0) (sym run.layout) w.2.names))

pub returns-in-Ok-clause-answers : goal.returns-in-Ok-clause-answers
returns-in-Ok-clause-answers g c =
    let look = look_of g.S.Tree.tree g.S.Tree.may_fail g.S.Tree.calls g.S.Tree.faults in
    let out = change_of g.O.Sink.held g.O.Sink.faults c.args.out.now c.print_trace-status.new.out in
    let run = c.in-Ok.ensures.run in
    let w = run.traced refl in
    let bytes = trace_text c.in-Ok.closed.layout w.0 [] in
    let printed = subst (λ n. Prints bytes Done out (change_of g.N.Sink.held g.N.Sink.faults n c.print_trace-status.new.notes) c.print_trace-status.result) c.in-Ok.ensures.quiet (c.print_trace-status.ensures.printed w.0 w.1) in
    trace_printed (options_of c.args.options.now) (looks_of look c.args.trees.now) (looks_of look c.index_by.new.trees) out (change_of g.N.Sink.held g.N.Sink.faults c.args.notes.now c.print_trace-status.new.notes) bytes c.print_trace-status.result
    (record {
      events = w.0;
      trace = record { reads = subst (λ (l : Layout). ReadsAs bytes l w.0 []) run.layout (c.print_trace-status.ensures.reads w.0 w.1); closed = w.2.closed };
      piece = c.in-Ok.piece;
      is_index = c.in-Ok.ensures.is_index;
      none_rose = c.in-Ok.ensures.none_rose;
      once = c.in-Ok.ensures.once;
      work = c.in-Ok.ensures.work w.0 w.1;
    })
    printed

pub returns-in-Err-clause-answers : goal.returns-in-Err-clause-answers
returns-in-Err-clause-answers g c =
    let look = look_of g.S.Tree.tree g.S.Tree.may_fail g.S.Tree.calls g.S.Tree.faults in
    let out = change_of g.O.Sink.held g.O.Sink.faults c.args.out.now c.args.out.now in
    let notes = change_of g.N.Sink.held g.N.Sink.faults c.args.notes.now c.index_by.new.notes in
    no_trace (options_of c.args.options.now) (looks_of look c.args.trees.now) (looks_of look c.index_by.new.trees) out notes c.in-Err.status c.in-Err.ensures.refused (refl, refl)

pub returns-in-Ok-clause-kept : goal.returns-in-Ok-clause-kept
returns-in-Ok-clause-kept g c = λ n. c.in-Ok.ensures.kept (λ e. no_error e)

pub returns-in-Err-clause-kept : goal.returns-in-Err-clause-kept
returns-in-Err-clause-kept g c = λ n. c.in-Err.ensures.kept (λ e. n (same_error e))
