use Rattle.std.proofs.Common.{[], ◌≡◌, ◌≤◌, Some, None, arith, refl, ap, sym, subst, ◌∙◌, slice_set}
use Rattle.std.proofs.lemmas.List.{set-set}
use Rattle.std.proofs.lemmas.Option.{same_Some}
use Rattle.atomic_table.proofs.Lists.{set_again}
use Rattle.nub.proofs.Users.{idle_again}
use Rattle.sum_uses.specs.Sums.{added}
use Rattle.test_condition.proofs.kept_mutex.wait_once.Goals as goal

pub acquire-got-requires-clause-rest : goal.acquire-got-requires-clause-rest
acquire-got-requires-clause-rest g c κs within = c.requires.idle.rest

pub acquire-got-requires-clause-lacks : goal.acquire-got-requires-clause-lacks
acquire-got-requires-clause-lacks g c κs within = c.requires.idle.lacks c.args.own.0 c.requires.named.0

pub wait-again-requires-clause-may : goal.wait-again-requires-clause-may
wait-again-requires-clause-may g c κs within =
    let own = c.args.own.0 in
    let got = c.acquire-got.ensures in (
      c.acquire-got.result,
      got.holds,
      λ w s world share.
          let e = same_Some [] s (sym (got.share ∙ c.requires.idle.share) ∙ share) in
          record { rises = omega arith; alike = refl; others = λ k ne. refl; small = subst (λ r. added own r ≤ 100000000000) e (omega arith) },
    )

pub release-requires-clause-may : goal.release-requires-clause-may
release-requires-clause-may g c κs within =
    let own = c.args.own.0 in
    let got = c.acquire-got.ensures in
    let waited = c.wait-again.ensures in
    let idle = c.requires.idle in (
      c.wait-again.result,
      waited.holds,
      λ w s world share.
          let kept = waited.share tt [] c.acquire-got.result (got.same.world ∙ idle.world) (got.share ∙ idle.share) got.holds in
          let e = same_Some [] s (sym kept ∙ share) in
          record { rises = omega arith; alike = refl; others = λ k ne. refl; small = subst (λ r. added own r ≤ 100000000000) e (omega arith) },
    )

pub returns : goal.returns
returns g c =
    let own = c.args.own.0 in
    let old = c.args.me.now in
    let idle = c.requires.idle in
    let n = old.number in
    let got = c.acquire-got.ensures in
    let waited = c.wait-again.ensures in
    let ended = c.release.ensures in
    let again = c.wait-again.result in
    let lacks = idle.lacks own c.requires.named.0 in
    let held = ended.held ∙ (ap (λ h. slice_set h own None) (waited.held ∙ (ap (λ h. slice_set h own (Some again)) got.held ∙ set-set old.held own (Some c.acquire-got.result) (Some again))) ∙ (set-set old.held own (Some again) None ∙ set_again old.held own None lacks)) in
    let kept = waited.share tt [] c.acquire-got.result (got.same.world ∙ idle.world) (got.share ∙ idle.share) got.holds in
    idle_again c.args.pkg.now n [] [] old c.release.new.me idle ended.rest
    (record { number = ended.same.number ∙ (waited.same.number ∙ got.same.number); world = ended.same.world ∙ (waited.same.world ∙ got.same.world) })
    held
    (ended.share tt [] again (waited.same.world ∙ (got.same.world ∙ idle.world)) kept waited.holds)
