use Rattle.std.proofs.Common.{lit<, [], ◌≡◌, ◌≤◌, arith, refl, sym, subst, ◌∙◌}
use Rattle.std.proofs.lemmas.Option.{same_Some}
use Rattle.sum_uses.specs.Sums.{added}
use Rattle.test_package.proofs.untils.works_when.Goals as goal

pub alert_locked_when-answer-requires-clause-lacks : goal.alert_locked_when-answer-requires-clause-lacks
alert_locked_when-answer-requires-clause-lacks g c κs within = c.requires.idle.lacks 0 (lit< tt)

pub alert_locked_when-answer-requires-clause-share : goal.alert_locked_when-answer-requires-clause-share
alert_locked_when-answer-requires-clause-share g c κs within = ([], c.requires.idle.share)

pub alert_locked_when-answer-requires-clause-stays : goal.alert_locked_when-answer-requires-clause-stays
alert_locked_when-answer-requires-clause-stays g c κs within = λ x s own fit.
    let e = same_Some [] s (sym c.requires.idle.share ∙ own) in
    record { rises = omega arith; alike = refl; others = λ k ne. refl; small = subst (λ r. added 0 r ≤ 100000000000) e (omega arith) }
