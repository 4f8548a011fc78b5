use Rattle.std.specs.Option.{option_copied}
use Rattle.index_text.proofs.LineReads.{word_stops, many_stops, word_line_read}
use Rattle.index_text.proofs.lines.word_line.Goals as goal

pub returns-in-Err : goal.returns-in-Err
returns-in-Err c = word_stops (option_copied c.args.last) c.args.bytes.now c.in-Err.stop c.in-Err.ensures

pub returns-in-Ok-capped_numeral : goal.returns-in-Ok-capped_numeral
returns-in-Ok-capped_numeral c =
    word_line_read (option_copied c.args.last) c.args.bytes.now c.in-Ok.read.0.now c.in-Ok.read.1.now c.in-Ok-capped_numeral.rest.now c.in-Ok-capped_numeral.many c.in-Ok.ensures c.in-Ok-capped_numeral.ensures

pub returns-in-Err-capped_numeral : goal.returns-in-Err-capped_numeral
returns-in-Err-capped_numeral c = many_stops (option_copied c.args.last) c.args.bytes.now c.in-Ok.read.0.now c.in-Ok.read.1.now c.in-Ok.ensures c.in-Err-capped_numeral.stop c.in-Err-capped_numeral.ensures
