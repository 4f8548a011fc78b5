use Rattle.std.proofs.Common.{◌<◌, ◌≤◌, ◌∙◌, ap, arith, length, sym}
use lib.ListN.{get_elem?}
use Rattle.nub_rule.proofs.Each.{at_within}
use Rattle.nub_rule.proofs.Ordering.{looked-more, none-yet, place-some, read-at}
use Rattle.nub_rule.proofs.forked.place_in_ended.Goals as goal

pub loop-i-init : goal.loop-i-init
loop-i-init g c = λ n k low at. absurd (omega arith)

pub returns-then-number-clause-there : goal.returns-then-number-clause-there
returns-then-number-clause-there g c = λ i is.
    let xs = c.args.ended.now.items in
    let low : c.loop-i.i < length xs = omega (arith, c.loop-i-test.true, c.len-i-end.ensures, c.args.ended.now.ok.0) in
    (c.index.result.now, ap (get_elem? xs) (sym (place-some c.loop-i.i i is)) ∙ read-at xs c.loop-i.i c.index.result.now low c.index.ensures, sym c.number.ensures ∙ c.if-number.true)

pub loop-i-preserved : goal.loop-i-preserved
loop-i-preserved g c =
    let xs = c.args.ended.now.items in
    let low : c.loop-i.i < length xs = omega (arith, c.loop-i-test.true, c.len-i-end.ensures, c.args.ended.now.ok.0) in
    looked-more c.args.number c.loop-i.i xs c.index.result.now (read-at xs c.loop-i.i c.index.result.now low c.index.ensures) (λ e. c.if-number.false (c.number.ensures ∙ e)) c.loop-i.invariant

pub returns-clause-none : goal.returns-clause-none
returns-clause-none g c = λ _.
    let xs = c.args.ended.now.items in
    let end : length xs ≤ c.loop-i.i = omega (arith, c.loop-i-test.false, c.len-i-end.ensures, c.args.ended.now.ok.0) in
    none-yet c.args.number xs (λ n k at. let low = at_within xs n k at in c.loop-i.invariant n k (omega arith) at)
