use Rattle.std.proofs.Common.{◌≡◌, ◌≤◌, List, [], get_or}
use Rattle.script_text.specs.declared.line.Line.{Line}
use Rattle.script_text.specs.Runs.{times, waited}
use Rattle.script_text.specs.Visits.{Hand}
use Rattle.script_run.specs.Playing.{HasMutex, HasWaited, IsInLine}
use Rattle.script_run.proofs.waits.until.Given as goal

abbrev pub invariant-loop : goal.invariant-loop
invariant-loop g l = record {
  same : l.me.number ≡ l.initial.me.number;
  played : (xs : List Line) (hand : Hand) → IsInLine l.pkg l.initial.me.number xs [] [] hand hand l.initial.numbers l.initial.me → HasMutex l.pkg.layout l.initial.me.number xs l.mutex.0
      → HasWaited l.pkg l.initial.me.number xs (λ k es. es ≡ times k (waited l.initial.me.number l.mutex l.cond)) l.awaited l.mutex hand l.numbers l.me;
  no_wait : l.awaited ≤ get_or l.initial.numbers l.mutex.0 0 → (l.numbers ≡ l.initial.numbers) × (l.me ≡ l.initial.me);
}
