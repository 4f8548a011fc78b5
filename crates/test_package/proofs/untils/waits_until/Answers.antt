use Rattle.std.proofs.Common.{lit<, [], ◌≡◌, ◌≤◌, Some, arith, refl, sym, subst, ◌∙◌}
use Rattle.std.proofs.lemmas.Option.{same_Some}
use Rattle.nub.proofs.Holding.{fits_any}
use Rattle.sum_uses.specs.Sums.{IsAbove, added}
use Rattle.test_package.proofs.untils.waits_until.Goals as goal

pub acquire-got-requires-clause-rest : goal.acquire-got-requires-clause-rest
acquire-got-requires-clause-rest g c κs within = c.requires.idle.rest

pub acquire-got-requires-clause-lacks : goal.acquire-got-requires-clause-lacks
acquire-got-requires-clause-lacks g c κs within = c.requires.idle.lacks 0 (lit< tt)

pub alert_wait_until-outcome-requires-clause-share : goal.alert_wait_until-outcome-requires-clause-share
alert_wait_until-outcome-requires-clause-share g c κs within = ([], c.acquire-got.ensures.share ∙ c.requires.idle.share)

pub alert_wait_until-outcome-requires-clause-fits : goal.alert_wait_until-outcome-requires-clause-fits
alert_wait_until-outcome-requires-clause-fits g c κs within = λ s own.
    let n = c.args.me.now.number in
    let has = c.acquire-got.ensures.holding n [] c.requires.idle in
    fits_any (λ w m x t s. IsAbove m x s) c.args.pkg.now n 0 [] c.acquire-got.result c.acquire-got.result c.acquire-got.new.me has.0 has.1 s own

pub alert_wait_until-outcome-requires-clause-stays : goal.alert_wait_until-outcome-requires-clause-stays
alert_wait_until-outcome-requires-clause-stays g c κs within = λ x s own fit.
    let e = same_Some [] s (sym (c.acquire-got.ensures.share ∙ c.requires.idle.share) ∙ own) in
    record { rises = omega arith; alike = refl; others = λ k ne. refl; small = subst (λ r. added 0 r ≤ 100000000000) e (omega arith) }

pub release-requires-clause-may : goal.release-requires-clause-may
release-requires-clause-may g c κs within =
    let got = c.acquire-got.ensures in
    let waited = c.alert_wait_until-outcome.ensures in (
      c.alert_wait_until-outcome.result.1,
      waited.holds,
      λ w s world share.
          let e = same_Some [] s (sym (waited.share ∙ (got.share ∙ c.requires.idle.share)) ∙ share) in
          record { rises = omega arith; alike = refl; others = λ k ne. refl; small = subst (λ r. added 0 r ≤ 100000000000) e (omega arith) },
    )

pub returns : goal.returns
returns g c =
    let n = c.args.me.now.number in
    let took = c.acquire-got.ensures.holding n [] c.requires.idle in
    let has = c.alert_wait_until-outcome.ensures.holding n [] c.acquire-got.result took.0 in
    c.release.ensures.idle n [] c.alert_wait_until-outcome.result.1 has.0
