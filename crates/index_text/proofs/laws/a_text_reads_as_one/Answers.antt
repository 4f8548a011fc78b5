use Rattle.index_text.proofs.OneReading.{one_reading}
use Rattle.index_text.proofs.laws.a_text_reads_as_one.Goals as goal

pub returns : goal.returns
returns c = one_reading
