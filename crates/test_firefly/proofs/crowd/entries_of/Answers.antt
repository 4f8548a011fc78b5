use Rattle.std.proofs.Common.{rules, arith}
use Rattle.test_firefly.proofs.Crowds.{numbered_entries}
use Rattle.test_firefly.proofs.crowd.entries_of.Goals as goal

pub loop-number-preserved : goal.loop-number-preserved
loop-number-preserved c = record {
  many = search rules;
  named = search rules;
}

pub returns : goal.returns
returns c = numbered_entries c.loop-number.entries.items (omega arith) c.loop-number.invariant.named
