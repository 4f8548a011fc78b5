use Rattle.std.proofs.Common.{◌∙◌, ap, Some}
use Rattle.std.specs.Option.{option_copied}
use Rattle.index_text.proofs.Begun.{left_is}
use Rattle.index_text.proofs.long.left_of.Goals as goal

pub returns-then-begins : goal.returns-then-begins
returns-then-begins c =
    let l = left_is c.args.begun.now c.in-Some.text.now c.after.result.now c.if-begins.ensures c.if-begun-text.true c.after.ensures in
    (ap option_copied c.in-Some.is ∙ ap Some l.0, l.1)
