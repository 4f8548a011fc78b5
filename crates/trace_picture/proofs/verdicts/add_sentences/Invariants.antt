use Rattle.std.proofs.Common.{◌≡◌, ◌+◌, ◌*◌, ◌≤◌, ◌++◌, take}
use Rattle.trace_picture.specs.Verdicts.{sentences}
use Rattle.trace_picture.proofs.verdicts.add_sentences.Given as goal

abbrev pub invariant-loop-byte : goal.invariant-loop-byte
invariant-loop-byte l = record {
  text : take l.last l.buf ≡ take l.at l.initial.buf ++ sentences (take l.byte-index l.lines);
  near : l.last ≤ l.at + 2 * l.byte-index;
}
