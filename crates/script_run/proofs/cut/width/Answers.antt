use Rattle.std.proofs.Common.{◌≡◌, ◌-◌, ◌+◌, map, Some, sym, ap, ◌∙◌, arith}
use Rattle.std.specs.Prelude.{slice_get}
use Rattle.script_run.proofs.Putting.{number_at, none_more}
use Rattle.script_run.specs.Slots.{slot_number}
use Rattle.script_run.proofs.cut.width.Goals as goal

pub returns-then-number-who-clause-at : goal.returns-then-number-who-clause-at
returns-then-number-who-clause-at c =
    let back : c.loop-at.at + 1 - 1 ≡ c.loop-at.at = omega arith in
    ap (slice_get (map slot_number c.args.slots.now)) back ∙ (number_at c.args.slots.now c.loop-at.at c.index-slots-at.result (omega arith) c.index-slots-at.is ∙ ap (λ n. Some n) (sym c.number.ensures ∙ c.if-number-who.true))

pub loop-at-preserved : goal.loop-at-preserved
loop-at-preserved c =
    none_more c.args.slots.now c.loop-at.at c.index-slots-at.result c.args.who.0 (omega arith) c.index-slots-at.is (λ e. c.if-number-who.false (c.number.ensures ∙ e)) c.loop-at.invariant
