use Rattle.std.proofs.Common.{◌≡◌, ◌+◌, ◌*◌, ◌≤◌, ◌++◌, take}
use Rattle.trace_core.specs.Text.{members, names_text}
use Rattle.trace_core.proofs.NamesPrinted.{names_after}
use Rattle.trace_core.proofs.line_texts.add_names.Given as goal

abbrev pub invariant-loop-t : goal.invariant-loop-t
invariant-loop-t l = record {
  text : take l.last l.buf ++ names_after l.left l.t ≡ take l.at l.initial.buf ++ names_text (members l.left);
  near : l.last ≤ l.at + 5 * l.t;
}
