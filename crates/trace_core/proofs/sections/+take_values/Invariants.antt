use Rattle.std.proofs.Common.{◌-◌}
use Rattle.trace_core.proofs.sections.+take_values.Given as goal

abbrev pub decreases-take_values : goal.decreases-take_values
decreases-take_values g l = l.layout.now.mutexes - l.least
