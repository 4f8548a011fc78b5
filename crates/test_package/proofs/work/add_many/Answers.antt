use Rattle.std.proofs.Common.{◌≡◌, ◌≤◌, ◌+◌, [], refl, rules, arith, ap, sym, ◌∙◌}
use Rattle.std.proofs.lemmas.Option.{same_Some}
use Rattle.nub.proofs.Users.{idle_done}
use Rattle.sum_uses.specs.Sums.{added, grown}
use Rattle.sum_uses.proofs.Adding.{adding_grows, added_own}
use Rattle.test_package.proofs.work.add_many.Goals as goal

pub loop-i-init : goal.loop-i-init
loop-i-init g c = ([], c.requires.idle, refl)

pub locked-requires-clause-callable : goal.locked-requires-clause-callable
locked-requires-clause-callable g c κs within = λ x fits l r n same here.
    let own = c.loop-i.invariant in
    let small = (fits tt own.0 own.1.world own.1.share).small in
    omega arith

pub locked-requires-clause-may : goal.locked-requires-clause-may
locked-requires-clause-may g c κs within = λ x y r w s world share fits returns.
    let own = c.loop-i.invariant in
    let same : own.0 ≡ s = same_Some own.0 s (sym own.1.share ∙ share) in
    let now : added c.args.m.0 s ≡ c.loop-i._i = ap (added c.args.m.0) (sym same) ∙ own.2 in
    let up : y ≡ x + 1 = search rules in
    let few = c.requires.few in
    let loop = c.loop-i-test.true in
    adding_grows c.args.m.0 x y s (omega arith) (omega arith)

pub loop-i-preserved : goal.loop-i-preserved
loop-i-preserved g c =
    let own = c.loop-i.invariant in
    let m = c.args.m.0 in
    let answer = c.locked.ensures.idle c.args.me.number own.0 own.1 in
    let x = answer.0 in
    let y = answer.1 in
    let returns = answer.2 in
    let up : y ≡ x + 1 = search rules in
    let more = added_own m x y own.0 in
    let now = own.2 in
    (grown m x y own.0, answer.4, omega arith)

pub returns : goal.returns
returns g c = idle_done c.args.pkg.now c.args.me.number c.loop-i.invariant.0 c.loop-i.me c.loop-i.invariant.1
