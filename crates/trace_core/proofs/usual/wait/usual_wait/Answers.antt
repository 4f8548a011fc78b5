use Rattle.std.proofs.Common.{[], ◌∷◌, refl}
use Rattle.trace_core.proofs.UsualTexts.{both_names}
use Rattle.trace_core.proofs.usual.wait.usual_wait.Goals as goal

pub returns-clause-wait : goal.returns-clause-wait
returns-clause-wait c =
    let m = c.in_ok-m.ensures.name in
    let n = c.in_ok-c.ensures.name in
    record { mutex = m.below; cond = n.below; text = both_names c.in_ok-m.m.value c.in_ok-c.c.value (c.args.stop ∷ []) m.text (c.if-not-has_byte.ensures refl) n.text }
