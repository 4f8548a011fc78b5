use Rattle.std.proofs.Common.{[], ◌≤◌, Some, None, arith, refl, ap, sym, subst, ◌∙◌, slice_set}
use Rattle.std.proofs.lemmas.List.{set-set}
use Rattle.std.proofs.lemmas.Option.{same_Some}
use Rattle.atomic_table.proofs.Lists.{set_again}
use Rattle.sum_uses.specs.Sums.{added}
use Rattle.test_condition.proofs.kept_mutex.pass.Goals as goal

pub release-requires-clause-may : goal.release-requires-clause-may
release-requires-clause-may g c κs within =
    let got = c.acquire-got.ensures in (
      c.acquire-got.result,
      got.holds,
      λ w s world share.
          let e = same_Some [] s (sym (got.share ∙ c.requires.first.1) ∙ share) in
          record { rises = omega arith; alike = refl; others = λ k ne. refl; small = subst (λ r. added c.args.m.0 r ≤ 100000000000) e (omega arith) },
    )

pub returns-clause-same : goal.returns-clause-same
returns-clause-same g c =
    let got = c.acquire-got.ensures.same in
    let ended = c.release.ensures.same in
    record { number = ended.number ∙ got.number; world = ended.world ∙ got.world }

pub returns-clause-held : goal.returns-clause-held
returns-clause-held g c =
    let m = c.args.m.0 in
    let old = c.args.me.now.held in
    c.release.ensures.held ∙ (ap (λ h. slice_set h m None) c.acquire-got.ensures.held ∙ (set-set old m (Some c.acquire-got.result) None ∙ set_again old m None c.requires.lacks))

pub returns-clause-share : goal.returns-clause-share
returns-clause-share g c =
    let got = c.acquire-got.ensures in
    let first = c.requires.first in
    c.release.ensures.share tt [] c.acquire-got.result (got.same.world ∙ first.0) (got.share ∙ first.1) got.holds ∙ sym first.1
