use Rattle.std.proofs.Common.{subst, arith}
use Rattle.std.specs.Option.{option_copied}
use Rattle.std.specs.Str.{IsUtf8}
use Rattle.index_text.specs.Escapes.{Unescapes}
use Rattle.index_text.specs.Long.{IsLeft}
use Rattle.index_text.proofs.Begun.{settles, some_map}
use Rattle.index_text.proofs.long.characters.Goals as goal

pub returns-in-Ok : goal.returns-in-Ok
returns-in-Ok c =
    let last = option_copied c.args.last in
    let bytes = c.args.bytes.now in
    let out = c.unescape.new.out.items in
    let u = subst (Unescapes bytes out) c.in-Whole.is c.in_ok-unescape.ensures in
    let text = subst IsUtf8 c.deref.ensures.value c.in-Ok.ensures.cases.1 in
    some_map c.left_of.result
    (λ left is. settles last (option_copied left) bytes out c.line_end.result (omega arith) c.line_end.ensures.keys u.0 text (subst (λ l. IsLeft last l (option_copied left)) c.deref-in-Ok.ensures.value is))
    c.left_of.ensures
