use Rattle.std.proofs.Common.{sym, ◌∙◌}
use Rattle.script_text.specs.Drafts.{allowed}
use Rattle.script_text.specs.NextLine.{this_number}
use Rattle.script_text.proofs.Choice.{below_ok, below_more}
use Rattle.script_text.proofs.Parsed.{this_is}
use Rattle.script_text.proofs.parse.tried_number.Goals as goal

pub returns-in-Err-More : goal.returns-in-Err-More
returns-in-Err-More c =
    let may = allowed c.args.draft.now c.args.place in
    let n = c.loop-value.value in
    let read = rw c.in-Err-More.field-0-is at c.in-Err-More.ensures in
    below_more (this_number may c.args.stop) c.args.bytes.now n c.args.bound c.loop-value.invariant
    (this_is may c.args.stop n c.args.bytes.now (sym c.may_stand.ensures ∙ c.if-may_stand.true) ∙ read) c.loop-value-test.true

pub returns-in-Ok : goal.returns-in-Ok
returns-in-Ok c =
    let may = allowed c.args.draft.now c.args.place in
    let n = c.loop-value.value in
    below_ok (this_number may c.args.stop) c.args.bytes.now n c.args.bound (n, c.in-Ok.rest.now) c.loop-value.invariant
    (this_is may c.args.stop n c.args.bytes.now (sym c.may_stand.ensures ∙ c.if-may_stand.true) ∙ c.in-Ok.ensures) c.loop-value-test.true
