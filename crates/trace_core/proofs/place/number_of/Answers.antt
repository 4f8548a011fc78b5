use Rattle.std.proofs.Common.{drop, length-drop, arith}
use Rattle.trace_core.proofs.UsualTexts.{bytes_from, drop_bytes}
use Rattle.trace_core.proofs.Spelling.{little_below}
use Rattle.trace_core.proofs.place.number_of.Goals as goal

pub overflow_mul-number : goal.overflow_mul-number
overflow_mul-number c =
    let rest = drop c.loop-at.at c.args.bytes.now in
    let b = little_below rest 7 (drop_bytes c.loop-at.at c.args.bytes.now (bytes_from c.args.bytes.now (λ i. omega (arith, c.type_inv.bytes i)))) (omega (arith, length-drop c.loop-at.at c.args.bytes.now)) in
    omega (arith, b, c.loop-at.invariant.same)

pub overflow_add-number : goal.overflow_add-number
overflow_add-number c =
    let rest = drop c.loop-at.at c.args.bytes.now in
    let b = little_below rest 7 (drop_bytes c.loop-at.at c.args.bytes.now (bytes_from c.args.bytes.now (λ i. omega (arith, c.type_inv.bytes i)))) (omega (arith, length-drop c.loop-at.at c.args.bytes.now)) in
    omega (arith, b, c.loop-at.invariant.same)
