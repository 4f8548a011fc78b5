use Rattle.std.proofs.Common.{◌≡◌, ◌+◌, ◌*◌, ◌≤◌, ◌++◌, take}
use Rattle.trace_board.specs.Causes.{cause_of}
use Rattle.trace_board.specs.History.{entry_of}
use Rattle.trace_board.specs.Tracked.{came}
use Rattle.trace_shapes.specs.Shapes.{each_below}
use Rattle.trace_picture.specs.Bands.{wait_if}
use Rattle.trace_picture.proofs.bands.add_waits.Given as goal

abbrev pub invariant-loop-t : goal.invariant-loop-t
invariant-loop-t l = record {
  text : take l.last l.buf ≡ take l.at l.initial.buf ++ each_below (λ t. wait_if l.reach (came (cause_of l.board.stands t)) (entry_of l.board.waits t)) l.t;
  near : l.last ≤ l.at + 710 * l.t;
}
