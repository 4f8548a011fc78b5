use Rattle.exact_text.proofs.Reported.{same_reported}
use Rattle.trace_core.proofs.phases.begin.Goals as goal

pub returns-in-Ok-clause-reported : goal.returns-in-Ok-clause-reported
returns-in-Ok-clause-reported g c = same_reported _ _ _ c.in-Ok.ensures.reported.unfailed

pub returns-in-Err-clause-reported : goal.returns-in-Err-clause-reported
returns-in-Err-clause-reported g c = c.in-Err.ensures.reported
