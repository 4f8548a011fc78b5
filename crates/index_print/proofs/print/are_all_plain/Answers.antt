use Rattle.std.proofs.Common.{◌<◌, arith, length, refl, sym}
use Rattle.std.proofs.lemmas.List.{take_all}
use Rattle.index_print.proofs.Plain.{one_more}
use Rattle.index_print.proofs.print.are_all_plain.Goals as goal

pub loop-at-preserved : goal.loop-at-preserved
loop-at-preserved c =
    let below : c.loop-at.at < length c.args.piece.now.paths = omega (arith, c.loop-at-test.true, c.files-at-end.ensures) in
    record { seen = one_more c.args.piece.now.paths c.loop-at.at below c.loop-at.invariant.seen (rw (← c.path.ensures) (sym c.if-not-is_plain.ensures)) }

pub returns : goal.returns
returns c =
    (λ _. rw (take_all c.loop-at.at c.args.piece.now.paths (omega (arith, c.loop-at-test.false, c.files-at-end.ensures))) at c.loop-at.invariant.seen, λ _. refl)
