use Rattle.std.proofs.Common.{refl, arith}
use Rattle.trace_core.proofs.UsualEvents.{usual_takes}
use Rattle.exact_text.proofs.Reported.{same_reported}
use Rattle.trace_core.proofs.phases.go_on.Goals as goal

pub returns-in-Some-clause-goes : goal.returns-in-Some-clause-goes
returns-in-Some-clause-goes g c =
    usual_takes c.args.progress.now c.take_usual.new.progress (g.I.Source.left c.args.input.now) c.in-Some.event c.args.progress.now.lawful (omega arith) c.requires c.in-Some.ensures.taken

pub returns-in-Some-clause-reported : goal.returns-in-Some-clause-reported
returns-in-Some-clause-reported g c = same_reported _ _ _ refl

pub returns-in-None-clause-reported : goal.returns-in-None-clause-reported
returns-in-None-clause-reported g c = c.go_on_apart.ensures.reported
