use Rattle.std.proofs.Common.{◌<◌, ◌≤◌, ◌∙◌, arith, length, sym}
use Rattle.nub_rule.proofs.Ordering.{read-at}
use Rattle.nub.proofs.Numbered.{counted_all, counted_else, counted_here}
use Rattle.nub.proofs.coming_back.times_ended.Goals.{then-number, else-number}
use Rattle.nub.proofs.coming_back.times_ended.Goals as goal

pub loop-i-preserved : goal.loop-i-preserved
loop-i-preserved g c =
    let n = c.args.number in
    let xs = c.args.ended.now.items in
    let i = c.loop-i.i in
    let low : i < length xs = omega (arith, c.loop-i-test.true, c.len-i-end.ensures, c.args.ended.now.ok.0) in
    let at = read-at xs i c.index.result.now low c.index.ensures in elim c.if-number.branch [
      | then-number w ↦ counted_here n xs i c.index.result.now c.loop-i.count c.if-number.count at (sym c.number.ensures ∙ w.if-number.true) w.count-is c.loop-i.invariant
      | else-number w ↦ counted_else n xs i c.index.result.now c.loop-i.count c.if-number.count at (λ e. w.if-number.false (c.number.ensures ∙ e)) w.count-is c.loop-i.invariant
    ]

pub returns : goal.returns
returns g c =
    let xs = c.args.ended.now.items in
    let end : length xs ≤ c.loop-i.i = omega (arith, c.loop-i-test.false, c.len-i-end.ensures, c.args.ended.now.ok.0) in
    counted_all c.args.number xs c.loop-i.i c.loop-i.count end c.loop-i.invariant.0
