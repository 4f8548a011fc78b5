use Rattle.firefly.proofs.Finding.{finds_indexed}
use Rattle.firefly.proofs.laws.find_reads_what_index_writes.Goals as goal

pub returns : goal.returns
returns c = finds_indexed
