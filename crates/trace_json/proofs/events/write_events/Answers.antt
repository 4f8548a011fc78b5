use Rattle.std.proofs.Common.{rules}
use Rattle.trace_check.proofs.Exact.{exact_if}
use Rattle.trace_json.proofs.events.write_events.Goals as goal

pub returns-clause-exact : goal.returns-clause-exact
returns-clause-exact g c = exact_if c.args.budget (g.I.Source.left c.args.input.now) (g.I.Source.left c.write_all.new.input) (g.I.Source.faults c.args.input.now) (g.I.Source.faults c.write_all.new.input) c.write_all.result c.requires (search rules)
