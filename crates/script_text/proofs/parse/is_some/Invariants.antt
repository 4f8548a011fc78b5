use Rattle.std.proofs.Common.{◌≡◌, false}
use Rattle.script_text.specs.Drafts.{allowed}
use Rattle.script_text.specs.NextLine.{any_below}
use Rattle.script_text.proofs.parse.is_some.Given as goal

abbrev pub invariant-loop-value : goal.invariant-loop-value
invariant-loop-value l = any_below (allowed l.draft l.place) l.value ≡ false
