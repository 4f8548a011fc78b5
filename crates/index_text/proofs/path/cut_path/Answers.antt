use Rattle.std.proofs.Common.{◌≡◌, ◌∙◌, ap, sym, subst, Some, IfOk}
use Rattle.std.specs.Option.{option_copied}
use Rattle.index_text.specs.Lines.{is_path_prefix}
use Rattle.index_text.specs.Escapes.{Unescapes}
use Rattle.index_text.proofs.path.cut_path.Goals as goal

pub returns-in_ok-push-in-Open : goal.returns-in_ok-push-in-Open
returns-in_ok-push-in-Open c =
    let u = subst (Unescapes c.args.bytes.now c.unescape.new.out.items) c.in-Open.is c.in_ok-unescape.ensures in
    let e = u.1 ∙ ap Some (sym c.in_ok-push-in-Open.ensures.items) in
    subst (λ o. IfOk c.may_be.result (λ b. b ≡ is_path_prefix (option_copied c.args.last) o)) (sym e) c.may_be.ensures

pub returns-in-Whole : goal.returns-in-Whole
returns-in-Whole c =
    let u = subst (Unescapes c.args.bytes.now c.unescape.new.out.items) c.in-Whole.is c.in_ok-unescape.ensures in
    subst (λ o. IfOk c.may_be-in-Whole.result (λ b. b ≡ is_path_prefix (option_copied c.args.last) o)) (sym u.1) c.may_be-in-Whole.ensures

pub returns-in-Broken : goal.returns-in-Broken
returns-in-Broken c =
    let u = subst (Unescapes c.args.bytes.now c.unescape.new.out.items) c.in-Broken.is c.in_ok-unescape.ensures in
    sym (ap (is_path_prefix (option_copied c.args.last)) u.1)
