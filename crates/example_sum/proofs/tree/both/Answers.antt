use Rattle.std.proofs.Common.{rules}
use Rattle.example_sum.proofs.tree.both.Goals as goal

pub returns : goal.returns
returns c = (c.in_ok-ended.field-0, c.in_ok-theirs.theirs, c.in_ok-ended.was, c.in_ok-theirs.was, search rules, search rules)
