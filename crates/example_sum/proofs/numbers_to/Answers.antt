use Rattle.std.proofs.Common.{◌≡◌, ◌+◌, sum, rules, arith, ap, ◌∙◌}
use Rattle.std.proofs.lemmas.List.Sums.{sum_by_push}
use Rattle.example_sum.proofs.numbers_to.Goals as goal

pub loop-i-preserved : goal.loop-i-preserved
loop-i-preserved c =
    let before = c.loop-i.invariant in
    let low = c.loop-i-test.true in
    let last = c.ranges.last.fits in
    let is : c.from.result ≡ c.loop-i.i = search rules in
    let more : sum c.push.new.self.items ≡ sum c.loop-i.numbers.items + (c.from.result + 1) = ap sum c.in_ok-push.ensures.items ∙ sum_by_push (λ x. x) c.loop-i.numbers.items (c.from.result + 1) in
    omega arith
