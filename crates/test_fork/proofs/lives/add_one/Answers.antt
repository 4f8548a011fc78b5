use Rattle.std.proofs.Common.{◌≡◌, ◌≤◌, ◌+◌, [], rules, arith, ap, sym, ◌∙◌}
use Rattle.std.proofs.lemmas.Option.{same_Some}
use Rattle.nub.proofs.Users.{idle_done}
use Rattle.sum_uses.specs.Sums.{added, grown}
use Rattle.sum_uses.proofs.Adding.{adding_grows}
use Rattle.test_fork.proofs.lives.add_one.Goals as goal

pub locked-requires-clause-callable : goal.locked-requires-clause-callable
locked-requires-clause-callable g c κs within = λ x fits l r n same here.
    let own = c.requires.idle in
    let small = (fits tt [] own.world own.share).small in
    omega arith

pub locked-requires-clause-may : goal.locked-requires-clause-may
locked-requires-clause-may g c κs within = λ x y r w s world share fits returns.
    let own = c.requires.idle in
    let same : [] ≡ s = same_Some [] s (sym own.share ∙ share) in
    let now : added 0 s ≡ 0 = ap (added 0) (sym same) in
    let up : y ≡ x + 1 = search rules in
    adding_grows 0 x y s (omega arith) (omega arith)

pub returns : goal.returns
returns g c =
    let answer = c.locked.ensures.idle c.args.me.number [] c.requires.idle in
    idle_done c.args.pkg.now c.args.me.number (grown 0 answer.0 answer.1 []) c.locked.new.me answer.4
