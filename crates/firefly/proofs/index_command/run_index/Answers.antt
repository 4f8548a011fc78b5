use Rattle.std.proofs.Common.{refl, subst}
use Rattle.command_line.specs.Tasks.{options_of}
use Rattle.index_print.specs.Text.{index_text}
use Rattle.command_endings.specs.Changes.{change_of}
use Rattle.command_endings.specs.Printing.{Prints}
use Rattle.firefly.specs.Looks.{look_of, looks_of}
use Rattle.command_endings.specs.declared.status.Status.TheVariants.{Done}
use Rattle.firefly.proofs.Indexed.{index_printed, no_error, no_index, same_error}
use Rattle.firefly.proofs.index_command.run_index.Goals as goal

pub returns-in-Ok-clause-answers : goal.returns-in-Ok-clause-answers
returns-in-Ok-clause-answers g c =
    let look = look_of g.S.Tree.tree g.S.Tree.may_fail g.S.Tree.calls g.S.Tree.faults in
    let out = change_of g.O.Sink.held g.O.Sink.faults c.args.out.now c.print-status.new.out in
    let piece = c.in-Ok.piece in
    let printed = subst (λ n. Prints (index_text piece) Done out (change_of g.N.Sink.held g.N.Sink.faults n c.print-status.new.notes) c.print-status.result) c.in-Ok.ensures.quiet c.print-status.ensures in
    index_printed (options_of c.args.options.now) (looks_of look c.args.trees.now) (looks_of look c.index_by.new.trees) out (change_of g.N.Sink.held g.N.Sink.faults c.args.notes.now c.print-status.new.notes) piece c.print-status.result
    c.in-Ok.ensures.is_index c.in-Ok.ensures.none_rose c.in-Ok.ensures.once printed

pub returns-in-Err-clause-answers : goal.returns-in-Err-clause-answers
returns-in-Err-clause-answers g c =
    let look = look_of g.S.Tree.tree g.S.Tree.may_fail g.S.Tree.calls g.S.Tree.faults in
    let out = change_of g.O.Sink.held g.O.Sink.faults c.args.out.now c.args.out.now in
    let notes = change_of g.N.Sink.held g.N.Sink.faults c.args.notes.now c.index_by.new.notes in
    no_index (options_of c.args.options.now) (looks_of look c.args.trees.now) (looks_of look c.index_by.new.trees) out notes c.in-Err.status c.in-Err.ensures.refused (refl, refl)

pub returns-in-Ok-clause-kept : goal.returns-in-Ok-clause-kept
returns-in-Ok-clause-kept g c = λ n. c.in-Ok.ensures.kept (λ e. no_error e)

pub returns-in-Err-clause-kept : goal.returns-in-Err-clause-kept
returns-in-Err-clause-kept g c = λ n. c.in-Err.ensures.kept (λ e. n (same_error e))
