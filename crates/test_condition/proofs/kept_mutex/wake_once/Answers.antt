use Rattle.std.proofs.Common.{[], ◌≤◌, Some, None, arith, refl, ap, sym, subst, ◌∙◌, slice_set}
use lib.ListN.{get_elem?}
use Rattle.std.proofs.lemmas.List.{set-set}
use Rattle.std.proofs.lemmas.Option.{same_Some}
use Rattle.atomic_table.proofs.Lists.{set_again, set_else}
use Rattle.nub.proofs.Users.{idle_again}
use Rattle.sum_uses.specs.Sums.{added}
use Rattle.test_condition.proofs.kept_mutex.wake_once.Goals as goal

pub acquire-got-requires-clause-rest : goal.acquire-got-requires-clause-rest
acquire-got-requires-clause-rest g c κs within = c.requires.idle.rest

pub acquire-got-requires-clause-lacks : goal.acquire-got-requires-clause-lacks
acquire-got-requires-clause-lacks g c κs within = c.requires.idle.lacks c.args.kept.0 c.requires.kept.0

-- the other mutex isn't the one that is kept
pub pass-requires-clause-lacks : goal.pass-requires-clause-lacks
pass-requires-clause-lacks g c =
    let own = c.args.own.0 in
    ap (λ h. get_elem? h own) c.acquire-got.ensures.held ∙ (set_else c.args.me.now.held c.args.kept.0 own (Some c.acquire-got.result) c.requires.apart ∙ c.requires.idle.lacks own c.requires.named.0)

pub pass-requires-clause-first : goal.pass-requires-clause-first
pass-requires-clause-first g c = let got = c.acquire-got.ensures in (got.same.world ∙ c.requires.idle.world, got.share ∙ c.requires.idle.share)

pub release-requires-clause-may : goal.release-requires-clause-may
release-requires-clause-may g c κs within =
    let kept = c.args.kept.0 in
    let got = c.acquire-got.ensures in
    let passed = c.pass.ensures in
    let woken = c.signal.ensures in (
      c.acquire-got.result,
      ap (λ h. get_elem? h kept) (woken.held ∙ passed.held) ∙ got.holds,
      λ w s world share.
          let e = same_Some [] s (sym (woken.share ∙ (passed.share ∙ (got.share ∙ c.requires.idle.share))) ∙ share) in
          record { rises = omega arith; alike = refl; others = λ k ne. refl; small = subst (λ r. added kept r ≤ 100000000000) e (omega arith) },
    )

pub returns : goal.returns
returns g c =
    let kept = c.args.kept.0 in
    let old = c.args.me.now in
    let idle = c.requires.idle in
    let got = c.acquire-got.ensures in
    let passed = c.pass.ensures in
    let woken = c.signal.ensures in
    let ended = c.release.ensures in
    let held = ended.held ∙ (ap (λ h. slice_set h kept None) (woken.held ∙ (passed.held ∙ got.held)) ∙ (set-set old.held kept (Some c.acquire-got.result) None ∙ set_again old.held kept None (idle.lacks kept c.requires.kept.0))) in
    let world = woken.same.world ∙ (passed.same.world ∙ (got.same.world ∙ idle.world)) in
    let share = woken.share ∙ (passed.share ∙ (got.share ∙ idle.share)) in
    let holds = ap (λ h. get_elem? h kept) (woken.held ∙ passed.held) ∙ got.holds in
    idle_again c.args.pkg.now old.number [] [] old c.release.new.me idle ended.rest
    (record {
      number = ended.same.number ∙ (woken.same.number ∙ (passed.same.number ∙ got.same.number));
      world = ended.same.world ∙ (woken.same.world ∙ (passed.same.world ∙ got.same.world));
    })
    held
    (ended.share tt [] c.acquire-got.result world share holds)
