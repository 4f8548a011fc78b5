use Rattle.std.proofs.Common.{◌<◌, length, ap, arith}
use Rattle.script_text.specs.Seen.{Seen}
use Rattle.script_text.specs.Runs.{lines_of}
use Rattle.script_search.proofs.Planning.{few_some, lines_few}
use Rattle.script_search.proofs.plan.Plan.line.Goals as goal

pub returns-clause-few : goal.returns-clause-few
returns-clause-few c =
    let xs = c.args.self.now.lines in
    let few : length xs < 100000 = omega (arith, ap (λ (z : Seen). length z.lines) c.self.view_is, c.self.invariant.few) in
    few_some c.line_at.result (lines_of c.args.t xs) c.args.before (length xs) c.line_at.ensures (lines_few c.args.t xs) few
