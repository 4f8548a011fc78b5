use Rattle.std.proofs.Common.{◌≡◌, ◌+◌, ◌-◌, ◌≤◌, suc, [], ◌∷◌, ◌++◌, length, nat_lt, sym, ap, subst, ◌∙◌, arith, lit<}
use Rattle.std.specs.List.{IsFirstBest}
use Rattle.lock_order.proofs.Members.{pigeons}
use Rattle.lock_order.proofs.Walks.{IsTurning, turning_starts, turns, turned_whole}
use Rattle.lock_order.proofs.cycle.turn.Goals as goal

pub loop-init : goal.loop-init
loop-init c =
    let k = c.args.graph.now in
    let ms = c.args.circle.now.items in
    let n = c.place_of_least-turns.result in
    let all : n - 0 ≡ n = omega arith in
    let best : IsFirstBest nat_lt ms (length ms) n = subst (λ l. IsFirstBest nat_lt l (length l) n) c.as_slice.ensures.value c.place_of_least-turns.ensures in
    subst (IsTurning k ms) (sym all) (turning_starts k ms n c.requires best)

pub push-requires : goal.push-requires
push-requires c =
    let few : length c.loop.circle.items ≤ 64 = pigeons 64 c.loop.circle.items c.loop.invariant.circle.distinct c.loop.invariant.circle.low in
    (lit< tt, omega (arith, c.remove-m.ensures.len))

pub loop-preserved : goal.loop-preserved
loop-preserved c =
    let k = c.args.graph.now in
    let ms = c.loop.circle.items in
    let m = c.remove-m.result in
    let left = c.place_of_least-turns.result - (c.loop.counter + 1) in
    let more : c.place_of_least-turns.result - c.loop.counter ≡ suc left = omega arith in
    let now : IsTurning k ms (suc left) = subst (IsTurning k ms) more c.loop.invariant in
    subst (λ l. IsTurning k l left) (sym (c.push.ensures.items ∙ ap (λ l. l ++ m ∷ []) c.remove-m.ensures.items)) (turns k ms m left now c.remove-m.ensures.value)

pub returns : goal.returns
returns c =
    let k = c.args.graph.now in
    let ms = c.loop.circle.items in
    let none_left : c.place_of_least-turns.result - c.loop.counter ≡ 0 = omega arith in
    record { circle = c.loop.invariant.circle; least = turned_whole k ms (subst (IsTurning k ms) none_left c.loop.invariant) }
