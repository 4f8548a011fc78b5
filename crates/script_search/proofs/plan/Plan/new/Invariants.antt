use Rattle.std.proofs.Common.{◌≡◌, ◌<◌, ℕ, length, Vec, Global}
use Rattle.std.specs.List.{slice_index_or}
use Rattle.script_text.specs.declared.line.Line.{Line}
use Rattle.script_text.specs.Runs.{lines_of}
use Rattle.script_search.proofs.plan.Plan.new.Given as goal

abbrev pub invariant-loop-t : goal.invariant-loop-t
invariant-loop-t l = (length l.lines.items ≡ l.t) × ((k : ℕ) (d : Vec Line Global) → k < l.t → (slice_index_or l.lines.items k d).items ≡ lines_of k l.all)
