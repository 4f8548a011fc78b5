use Rattle.std.proofs.Common.{◌∙◌, arith, ◌%◌}
use Rattle.firefly_outside.proofs.SampleLines.{grown, word_at}
use Rattle.firefly_outside.proofs.samples.push_word.Goals as goal

pub returns : goal.returns
returns c =
    grown c.extend_from_slice.result c.args.bytes.now.items c.extend_from_slice.new.self.items c.as_bytes.result.now _ c.extend_from_slice.ensures.items
    (c.as_bytes.ensures.value ∙ c.as_str.ensures ∙ c.index-words-number.is ∙ word_at c.args.words.now (c.args.number % 499) c.index-words-number.result c.requires (omega arith))
