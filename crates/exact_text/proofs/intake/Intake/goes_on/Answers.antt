use Rattle.std.proofs.Common.{refl}
use Rattle.exact_text.proofs.Reported.{same_reported}
use Rattle.exact_text.proofs.intake.Intake.goes_on.Goals as goal

pub returns-then-len-gt0-clause-reported : goal.returns-then-len-gt0-clause-reported
returns-then-len-gt0-clause-reported g c = same_reported _ _ _ refl

pub returns-clause-reported : goal.returns-clause-reported
returns-clause-reported g c = c.fill.ensures.reported
