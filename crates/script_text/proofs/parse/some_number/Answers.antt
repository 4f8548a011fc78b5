use Rattle.std.proofs.Common.{sym, ◌∙◌, arith}
use Rattle.exact_text.proofs.Numbers.{number_at-found}
use Rattle.script_text.specs.Drafts.{allowed}
use Rattle.script_text.proofs.Parsed.{some_is}
use Rattle.script_text.proofs.parse.some_number.Goals as goal

pub may_stand-requires-clause-at : goal.may_stand-requires-clause-at
may_stand-requires-clause-at c =
    let f = number_at-found 0 c.args.bound c.args.stop (omega (arith, c.requires.few)) c.args.bytes.now c.in-Ok.rest.now c.in-Ok.value c.in-Ok.ensures in
    c.requires.at c.in-Ok.value f.0.1

pub returns-then-may_stand : goal.returns-then-may_stand
returns-then-may_stand c =
    some_is (allowed c.args.draft.now c.args.place) c.args.bound c.args.stop c.in-Ok.value c.args.bytes.now c.in-Ok.rest.now c.requires.few c.requires.stop c.in-Ok.ensures (sym c.may_stand.ensures ∙ c.if-may_stand.true)
