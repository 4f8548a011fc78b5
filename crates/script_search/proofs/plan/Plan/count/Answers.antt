use Rattle.std.proofs.Common.{◌∙◌, ap, length, rules, arith}
use Rattle.script_search.proofs.Planning.{lines_few}
use Rattle.script_search.proofs.plan.Plan.count.Goals as goal

pub overflow_cast-result : goal.overflow_cast-result
overflow_cast-result c =
    let own = ap (λ v. v.items) c.index.ensures ∙ c.self.invariant.each c.args.t c.index.result.now (search rules) in
    omega (arith, c.len.ensures, c.index.result.now.ok.0, ap length own, lines_few c.args.t c.self.inside.all.now, c.self.invariant.few)
