use Rattle.std.proofs.Common.{◌≡◌, ◌+◌, ◌*◌, ◌≤◌, ◌++◌, take}
use Rattle.trace_json.specs.Texts.{rows_text}
use Rattle.trace_json.proofs.texts.add_rows.Given as goal

abbrev pub invariant-loop-t : goal.invariant-loop-t
invariant-loop-t l = record {
  text : take l.last l.buf ≡ take l.at l.initial.buf ++ rows_text l.t;
  near : l.last ≤ l.at + 250 * l.t;
}
