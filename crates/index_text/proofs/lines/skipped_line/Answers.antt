use Rattle.std.specs.Option.{option_copied}
use Rattle.index_text.proofs.LineReads.{skipped_stops}
use Rattle.index_text.proofs.lines.skipped_line.Goals as goal

pub returns-in-Ok : goal.returns-in-Ok
returns-in-Ok c = rw c.in-Ok.ensures c.path.ensures

pub returns-in-Err : goal.returns-in-Err
returns-in-Err c = skipped_stops (option_copied c.args.last) c.args.bytes.now c.in-Err.stop c.in-Err.ensures
