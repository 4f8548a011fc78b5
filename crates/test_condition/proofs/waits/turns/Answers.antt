use Rattle.std.proofs.Common.{◌≡◌, ◌+◌, [], refl, arith, ap, sym, ◌∙◌}
use Rattle.std.proofs.lemmas.Option.{same_Some}
use Rattle.nub.proofs.Users.{idle_done}
use Rattle.sum_uses.specs.Sums.{added, grown}
use Rattle.sum_uses.proofs.Adding.{added_own}
use Rattle.test_condition.proofs.waits.turns.Goals as goal

pub loop-i-init : goal.loop-i-init
loop-i-init g c = ([], c.requires.idle, refl)

pub take_turn-requires-clause-idle : goal.take_turn-requires-clause-idle
take_turn-requires-clause-idle g c = let own = c.loop-i.invariant in (c.args.me.number, own.0, own.1)

pub take_turn-requires-clause-few : goal.take_turn-requires-clause-few
take_turn-requires-clause-few g c = λ s share.
    let own = c.loop-i.invariant in
    let m = c.args.turn.mutex.0 in
    let now : added m s ≡ c.loop-i._i = ap (added m) (sym (same_Some own.0 s (sym own.1.share ∙ share))) ∙ own.2 in
    let loop = c.loop-i-test.true in
    omega arith

pub loop-i-preserved : goal.loop-i-preserved
loop-i-preserved g c =
    let own = c.loop-i.invariant in
    let m = c.args.turn.mutex.0 in
    let x = c.take_turn.result in
    let more = added_own m x (x + 1) own.0 in
    let now = own.2 in
    (grown m x (x + 1) own.0, c.take_turn.ensures.idle c.args.me.number own.0 own.1, omega arith)

pub returns : goal.returns
returns g c = idle_done c.args.pkg.now c.args.me.number c.loop-i.invariant.0 c.loop-i.me c.loop-i.invariant.1
