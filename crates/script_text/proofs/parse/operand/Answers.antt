use Rattle.std.proofs.Common.{sym, subst, arith}
use Rattle.exact_text.proofs.Numbers.{number_at-found}
use Rattle.script_text.specs.declared.table.Operand.{Operand}
use Rattle.script_text.specs.Table.{IsSmall}
use Rattle.script_text.proofs.parse.operand.Goals as goal

pub returns-in-Ok-number-clause-small : goal.returns-in-Ok-number-clause-small
returns-in-Ok-number-clause-small c =
    let f = number_at-found 0 1000001 c.args.stop (omega arith) c.args.bytes.now c.in-Ok-number.rest.now c.in-Ok-number.value c.in-Ok-number.ensures in
    subst (λ (k : Operand). IsSmall k c.from-in-Ok-number.result) (sym c.in-Amount.is) (omega (arith, f.0.1, c.from-in-Ok-number.ensures))
