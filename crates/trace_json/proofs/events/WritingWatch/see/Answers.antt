use Rattle.std.proofs.Common.{refl}
use Rattle.trace_json.proofs.Writing.{sees, see_fails}
use Rattle.trace_json.proofs.events.WritingWatch.see.Goals as goal

pub returns-clause-kept : goal.returns-clause-kept
returns-clause-kept g c = λ first l es k next. sees _ _ _ _ _ _ refl l _ _ es _ _ k next c.put_event.result c.put_event.ensures.text c.put_event.ensures.cause

pub returns-clause-stopped : goal.returns-clause-stopped
returns-clause-stopped g c = λ first l es k next. see_fails _ _ _ _ _ c.put_event.new.held.items refl l _ _ es _ _ k next c.put_event.result c.put_event.ensures.text c.put_event.ensures.cause
