use Rattle.std.proofs.Common.{refl}
use Rattle.index_text.proofs.LineReads.{indent_stops, count_stops, line_stops}
use Rattle.index_text.proofs.lines.hit_prefix.Goals as goal

pub returns-in-Err : goal.returns-in-Err
returns-in-Err c = indent_stops c.args.bytes.now c.in-Err.stop c.in-Err.ensures

pub returns-in-Err-number_u64 : goal.returns-in-Err-number_u64
returns-in-Err-number_u64 c = count_stops c.args.bytes.now c.in-Ok.rest.now c.in-Ok.ensures c.in-Err-number_u64.stop c.in-Err-number_u64.ensures

pub returns-in-Ok-number_u64-2 : goal.returns-in-Ok-number_u64-2
returns-in-Ok-number_u64-2 c = rw (c.in-Ok.ensures, c.in-Ok-number_u64.ensures, c.in-Ok-number_u64-2.ensures) refl

pub returns-in-Err-number_u64-2 : goal.returns-in-Err-number_u64-2
returns-in-Err-number_u64-2 c = line_stops c.args.bytes.now c.in-Ok.rest.now c.in-Ok-number_u64.read.1.now c.in-Ok-number_u64.read.0 c.in-Ok.ensures c.in-Ok-number_u64.ensures c.in-Err-number_u64-2.stop c.in-Err-number_u64-2.ensures
