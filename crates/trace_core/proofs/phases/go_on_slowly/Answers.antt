use Rattle.std.proofs.Common.{refl}
use Rattle.exact_text.proofs.Reported.{same_reported}
use Rattle.trace_core.proofs.phases.go_on_slowly.Goals as goal

pub returns-in-Err-clause-goes : goal.returns-in-Err-clause-goes
returns-in-Err-clause-goes g c =
    let e = c.value-place.ensures in record {
      reason = rw e at c.in-Err.ensures.fault;
      lacks = rw e at c.in-Err.ensures.lacks;
      phase = refl;
    }

pub returns-in-Ok-Some-clause-reported : goal.returns-in-Ok-Some-clause-reported
returns-in-Ok-Some-clause-reported g c = same_reported _ _ _ c.in-Ok-Some.ensures.reported.unfailed

pub returns-in-Ok-None-clause-reported : goal.returns-in-Ok-None-clause-reported
returns-in-Ok-None-clause-reported g c = same_reported _ _ _ c.in-Ok-None.ensures.reported.unfailed

pub returns-in-Err-clause-reported : goal.returns-in-Err-clause-reported
returns-in-Err-clause-reported g c = c.in-Err.ensures.reported

pub returns-in-Ok-Some-clause-asks : goal.returns-in-Ok-Some-clause-asks
returns-in-Ok-Some-clause-asks g c = rw c.value-place.ensures at c.in-Ok-Some.ensures.asks

pub returns-in-Ok-None-clause-asks : goal.returns-in-Ok-None-clause-asks
returns-in-Ok-None-clause-asks g c = rw c.value-place.ensures at c.in-Ok-None.ensures.asks

pub returns-in-Err-clause-asks : goal.returns-in-Err-clause-asks
returns-in-Err-clause-asks g c = rw c.value-place.ensures at c.in-Err.ensures.asks
