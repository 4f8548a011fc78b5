use Rattle.std.proofs.Common.{length, ap, arith}
use Rattle.script_text.specs.Seen.{Seen}
use Rattle.script_search.proofs.plan.Plan.layout.Goals as goal

pub returns-clause-few : goal.returns-clause-few
returns-clause-few c = omega (arith, ap (λ (z : Seen). length z.lines) c.self.view_is, c.self.invariant.few)
