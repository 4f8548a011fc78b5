use Rattle.std.proofs.Common.{sym, ◌∙◌}
use Rattle.script_text.specs.Drafts.{allowed}
use Rattle.script_text.proofs.Choice.{some_found}
use Rattle.script_text.proofs.parse.is_some.Goals as goal

pub returns-then-may_stand : goal.returns-then-may_stand
returns-then-may_stand c =
    some_found (allowed c.args.draft.now c.args.place) c.loop-value.value c.args.bound c.loop-value-test.true (sym c.may_stand.ensures ∙ c.if-may_stand.true)
