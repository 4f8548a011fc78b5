use Rattle.std.proofs.Common.{arith}
use Rattle.std.proofs.lemmas.Bool.{eqb-true}
use Rattle.trace_core.proofs.UsualTexts.{same_word}
use Rattle.trace_core.proofs.usual.word.has_two.Goals as goal

pub returns : goal.returns
returns c = λ h.
    same_word c.args.bytes.now c.args.word.now c.args.at 2 c.two.result c.two-2.result c.requires (omega arith) (λ i. omega (arith, c.type_inv.bytes i)) (λ i. omega (arith, c.fits-word i)) (eqb-true c.two.result c.two-2.result h)
    c.two.ensures c.two-2.ensures
