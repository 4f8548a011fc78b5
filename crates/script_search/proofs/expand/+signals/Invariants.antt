use Rattle.std.proofs.Common.{◌-◌}
use Rattle.script_search.proofs.expand.+signals.Given as goal

abbrev pub decreases-signals : goal.decreases-signals
decreases-signals l = l.plan.now.layout.threads - l.part.now.before
