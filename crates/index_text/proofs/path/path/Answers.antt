use Rattle.std.proofs.Common.{◌≡◌, ◌∙◌, arith, sym, subst, take, true, false, Some}
use Rattle.std.specs.Option.{option_copied}
use Rattle.index_text.specs.Lines.{is_path}
use Rattle.index_text.specs.Escapes.{Unescapes}
use Rattle.index_text.proofs.Keyed.{path_more, path_gone, path_read, path_refused, path_none}
use Rattle.index_text.proofs.path.path.Goals as goal

pub returns-in-Ok-true : goal.returns-in-Ok-true
returns-in-Ok-true c = path_more (option_copied c.args.last) c.args.bytes.now c.line_end-end.result (omega arith) c.line_end-end.ensures.keys (sym c.in-Ok-true.field-0-test ∙ c.in-Ok-true.ensures)

pub returns-in-Ok-false : goal.returns-in-Ok-false
returns-in-Ok-false c = path_gone (option_copied c.args.last) c.args.bytes.now c.line_end-end.result (omega arith) c.line_end-end.ensures.keys (sym c.in-Ok-false.field-0-test ∙ c.in-Ok-false.ensures)

pub returns-then-good : goal.returns-then-good
returns-then-good c =
    let u = subst (Unescapes (take c.line_end-end.result c.args.bytes.now) c.unescape.new.out.items) c.in-Ok-Whole.field-0-is c.in-Ok-Whole.ensures in
    let g = subst (λ l. true ≡ is_path (option_copied c.args.last) (Some l)) c.deref.ensures.value c.if-good.ensures in
    path_read (option_copied c.args.last) c.args.bytes.now c.line_end-end.result (omega arith) c.line_end-end.ensures.keys (c.line_end-end.ensures.ends (omega arith)) c.unescape.new.out.items u.0 g

pub returns-else-good : goal.returns-else-good
returns-else-good c =
    let u = subst (Unescapes (take c.line_end-end.result c.args.bytes.now) c.unescape.new.out.items) c.in-Ok-Whole.field-0-is c.in-Ok-Whole.ensures in
    let g = subst (λ l. false ≡ is_path (option_copied c.args.last) (Some l)) c.deref.ensures.value c.if-good.ensures in
    path_refused (option_copied c.args.last) c.args.bytes.now c.line_end-end.result (omega arith) c.line_end-end.ensures.keys (c.line_end-end.ensures.ends (omega arith)) c.unescape.new.out.items u.0 g

pub returns-in-Ok-Open : goal.returns-in-Ok-Open
returns-in-Ok-Open c =
    let u = subst (Unescapes (take c.line_end-end.result c.args.bytes.now) c.unescape.new.out.items) c.in-Ok-Open.field-0-is c.in-Ok-Open.ensures in
    path_none (option_copied c.args.last) c.args.bytes.now c.line_end-end.result (omega arith) c.line_end-end.ensures.keys (c.line_end-end.ensures.ends (omega arith)) u.0

pub returns-in-Ok-Broken : goal.returns-in-Ok-Broken
returns-in-Ok-Broken c =
    let u = subst (Unescapes (take c.line_end-end.result c.args.bytes.now) c.unescape.new.out.items) c.in-Ok-Broken.field-0-is c.in-Ok-Broken.ensures in
    path_none (option_copied c.args.last) c.args.bytes.now c.line_end-end.result (omega arith) c.line_end-end.ensures.keys (c.line_end-end.ensures.ends (omega arith)) u.0
