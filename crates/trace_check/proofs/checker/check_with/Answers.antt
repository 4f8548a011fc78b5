use Rattle.std.proofs.Common.{rules}
use Rattle.trace_check.proofs.Exact.{exact_found}
use Rattle.trace_check.proofs.checker.check_with.Goals as goal

pub returns-clause-exact : goal.returns-clause-exact
returns-clause-exact g c = exact_found _ _ _ _ _ c.watch_all.result c.requires (search rules)
