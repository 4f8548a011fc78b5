use Rattle.std.proofs.Common.{ap, inl, refl, ◌∙◌}
use Rattle.trace_check.specs.declared.checker.Verdict.TheVariants as verdict
use Rattle.command_endings.specs.Changes.{change_of}
use Rattle.command_check.specs.VerdictEndings.{status_of}
use Rattle.command_check.proofs.Found.{found_by, legal_printed, printed, reported_answers, legal_read, illegal_read}
use Rattle.command_check.proofs.command.run_check.Goals as goal

pub returns-in-Legal-clause-answers : goal.returns-in-Legal-clause-answers
returns-in-Legal-clause-answers g c =
    let input = change_of g.I.Source.left g.I.Source.faults c.args.input.now c.check.new.input in
    let out = change_of g.O.Sink.held g.O.Sink.faults c.args.out.now c.print.new.out in
    let notes = change_of g.N.Sink.held g.N.Sink.faults c.args.notes.now c.print.new.notes in
    legal_printed input out notes c.in-Legal.summary c.as_str.result.now c.print.result c.in-Legal.ensures.just (c.as_str.ensures.value ∙ c.legal.ensures) c.print.ensures

pub returns-in-Legal-clause-exact : goal.returns-in-Legal-clause-exact
returns-in-Legal-clause-exact g c = λ bytes v reported mine other f.
    found_by c.print.result (verdict.Legal c.in-Legal.summary) v (c.in-Legal.ensures.exact bytes v reported (legal_read _) other f) (printed _ _ _ _ _ c.print.ensures)

pub returns-in-Illegal-clause-exact : goal.returns-in-Illegal-clause-exact
returns-in-Illegal-clause-exact g c = λ bytes v reported mine other f.
    found_by c.print-in-Illegal.result (verdict.Illegal c.in-Illegal.place c.in-Illegal.why) v (c.in-Illegal.ensures.exact bytes v reported (illegal_read _ _) other f) (printed _ _ _ _ _ c.print-in-Illegal.ensures)

pub returns-in_default-clause-answers : goal.returns-in_default-clause-answers
returns-in_default-clause-answers g c =
    let input = change_of g.I.Source.left g.I.Source.faults c.args.input.now c.check.new.input in
    let out = change_of g.O.Sink.held g.O.Sink.faults c.args.out.now c.args.out.now in
    let notes = change_of g.N.Sink.held g.N.Sink.faults c.args.notes.now c.ends_by.new.notes in
    reported_answers input out notes c.check.result c.ends_by.result c.in_default.not-Legal c.in_default.not-Illegal c.check.ensures.just (refl, refl) c.ends_by.ensures.notes c.ends_by.ensures.status

pub returns-in_default-clause-exact : goal.returns-in_default-clause-exact
returns-in_default-clause-exact g c = λ bytes v reported mine other f.
    found_by c.ends_by.result c.check.result v (c.check.ensures.exact bytes v reported (λ e. mine (c.ends_by.ensures.status ∙ ap status_of e)) other f) (inl c.ends_by.ensures.status)
