use Rattle.std.proofs.Common.{◌≡◌, ◌+◌, ◌*◌, length, rules, arith, ap, ◌∙◌}
use Rattle.sum_uses.proofs.Adding.{adding_grows}
use Rattle.bench_workloads.specs.Workloads.{HasMade, HasWorked}
use Rattle.bench_workloads.proofs.Crewing.{at_end, said, two_more, worked_more}
use Rattle.bench_workloads.proofs.additions.add_many.Goals as goal

pub locked-requires-clause-callable : goal.locked-requires-clause-callable
locked-requires-clause-callable g c κs within = λ x fits l r n same here.
    let own = c.loop-i.invariant in
    let small = (fits tt own.share own.idle.world own.idle.share).small in
    omega arith

pub locked-requires-clause-may : goal.locked-requires-clause-may
locked-requires-clause-may g c κs within = λ x y r w s world share fits returns.
    let now = said c.args.shared.now c.args.me.number c.loop-i._i (HasMade (2 * c.loop-i._i)) c.loop-i.me c.loop-i.invariant s share in
    let up : y ≡ x + 1 = search rules in
    let loop = c.loop-i-test.true in
    adding_grows 0 x y s (omega arith) (omega arith)

pub loop-i-preserved : goal.loop-i-preserved
loop-i-preserved g c =
    let n = c.args.me.number in
    let i = c.loop-i._i in
    let own = c.loop-i.invariant in
    let answer = c.locked.ensures.idle n own.share own.idle in
    let returns = answer.2 in
    let up : answer.1 ≡ answer.0 + 1 = search rules in
    let made = own.is in
    let two = ap length c.locked.ensures.event.mine ∙ two_more c.loop-i.me.mine _ _ in
    worked_more c.args.shared.now n i (HasMade (2 * i)) c.loop-i.me own (HasMade (2 * (i + 1))) answer.0 answer.1 c.locked.new.me up answer.4 (omega arith)
