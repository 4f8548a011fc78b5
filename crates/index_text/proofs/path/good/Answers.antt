use Rattle.std.proofs.Common.{sym, refl, true}
use Rattle.std.proofs.lemmas.Str.{is_utf8-from_IsUtf8}
use Rattle.index_text.proofs.Bytes.{path_test, path_test_none, false_text, not_empty}
use Rattle.index_text.proofs.path.good.Goals as goal

pub returns-in-Ok : goal.returns-in-Ok
returns-in-Ok c =
    let p = c.args.path.now in
    path_test _ p (not_empty p c.if-is_empty.ensures) true c.above.result (sym (is_utf8-from_IsUtf8 p c.in-Ok.ensures.cases.1)) c.above.ensures refl

pub returns-in-Err : goal.returns-in-Err
returns-in-Err c = path_test_none _ c.args.path.now (false_text c.args.path.now c.in-Err.ensures.cases.0)
