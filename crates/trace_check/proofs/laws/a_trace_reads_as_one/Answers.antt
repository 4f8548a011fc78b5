use Rattle.trace_check.proofs.OneReading.{one_reading}
use Rattle.trace_check.proofs.laws.a_trace_reads_as_one.Goals as goal

pub returns : goal.returns
returns c = one_reading
