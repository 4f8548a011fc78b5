use Rattle.std.proofs.Common.{◌<◌, ◌≤◌, ◌∙◌, length, sym, arith}
use Rattle.nub_rule.proofs.Each.{at_within}
use Rattle.nub_rule.proofs.Ordering.{looked-more, none-yet, read-at}
use Rattle.script_run.proofs.places.place_of.Goals as goal

pub returns-then-number-clause-there : goal.returns-then-number-clause-there
returns-then-number-clause-there c =
    let xs = c.args.rights.now.items in
    let low : c.loop-at.at < length xs = omega (arith, c.loop-at-test.true, c.len-at-end.ensures, c.args.rights.now.ok.0) in
    (c.index.result.now, read-at xs c.loop-at.at c.index.result.now low c.index.ensures, sym c.number.ensures ∙ c.if-number.true)

pub loop-at-preserved : goal.loop-at-preserved
loop-at-preserved c =
    let xs = c.args.rights.now.items in
    let low : c.loop-at.at < length xs = omega (arith, c.loop-at-test.true, c.len-at-end.ensures, c.args.rights.now.ok.0) in
    looked-more c.args.number c.loop-at.at xs c.index.result.now (read-at xs c.loop-at.at c.index.result.now low c.index.ensures) (λ e. c.if-number.false (c.number.ensures ∙ e)) c.loop-at.invariant

pub unreachable-requires : goal.unreachable-requires
unreachable-requires c =
    let xs = c.args.rights.now.items in
    let end : length xs ≤ c.loop-at.at = omega (arith, c.loop-at-test.false, c.len-at-end.ensures, c.args.rights.now.ok.0) in
    c.requires (none-yet c.args.number xs (λ n k at. let low = at_within xs n k at in c.loop-at.invariant n k (omega arith) at))
