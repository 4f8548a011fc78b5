use Rattle.std.proofs.Common.{◌≡◌, Err}
use Rattle.exact_text.specs.declared.stop.Stop.TheVariants.{Dead}
use Rattle.script_text.specs.Drafts.{allowed}
use Rattle.script_text.specs.NextLine.{some_number}
use Rattle.script_text.proofs.parse.tried_number.Given as goal

abbrev pub invariant-loop-value : goal.invariant-loop-value
invariant-loop-value l = some_number (allowed l.draft l.place) l.value l.stop l.bytes ≡ Err Dead
