use Rattle.index_text.proofs.Numerals.{numeral_printed}
use Rattle.index_text.proofs.laws.a_numeral_is_the_printed_one.Goals as goal

pub returns : goal.returns
returns c = numeral_printed
