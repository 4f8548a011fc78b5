use Rattle.std.proofs.Common.{◌-◌, ◌^◌, ◌<◌, arith, rules}
use Rattle.trace_check.proofs.Exact.{exact_if}
use Rattle.trace_picture.proofs.draw.draw_by.Goals as goal

pub returns-clause-exact : goal.returns-clause-exact
returns-clause-exact g c =
    let fits : c.args.budget < 2 ^ 64 - 1 = omega arith in
    exact_if c.args.budget (g.I.Source.left c.args.input.now) (g.I.Source.left c.input-1.given.0) (g.I.Source.faults c.args.input.now) (g.I.Source.faults c.input-1.given.0) c.draw_all.result fits (search rules)
