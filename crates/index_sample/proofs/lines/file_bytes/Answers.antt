use Rattle.std.proofs.Common.{◌∙◌, ◌++◌, ◌+◌, ◌*◌, ◌%◌, ap, arith}
use Rattle.firefly_outside.proofs.SampleLines.{lines_more}
use Rattle.index_sample.proofs.LineLemmas.{line_at, same_line}
use Rattle.index_sample.proofs.lines.file_bytes.Goals as goal

pub loop-line-preserved : goal.loop-line-preserved
loop-line-preserved c =
    lines_more c.args.seed c.args.file c.loop-line.line c.loop-line.bytes.items c.extend_from_slice.new.self.items c.loop-line.invariant
    (c.in_ok-extend_from_slice.ensures.items ∙ ap (λ l. c.loop-line.bytes.items ++ l)
    (c.as_bytes.ensures.value ∙ c.as_str.ensures ∙ c.index-lines-first.is
    ∙ line_at c.args.lines.now ((c.args.seed % 1000 + 31 * c.args.file + 17 * c.loop-line.line) % 499) c.index-lines-first.result c.requires.lines (omega arith)
    ∙ same_line c.args.seed c.args.file c.loop-line.line))
