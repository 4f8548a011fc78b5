use Rattle.std.proofs.Common.{refl}
use Rattle.trace_json.proofs.Writing.{begins, begin_fails}
use Rattle.trace_json.proofs.events.WritingWatch.begin.Goals as goal

pub returns-clause-kept : goal.returns-clause-kept
returns-clause-kept g c = begins _ _ _ _ _ _ refl _ c.put_head.result c.put_head.ensures.text c.put_head.ensures.cause

pub returns-clause-stopped : goal.returns-clause-stopped
returns-clause-stopped g c = begin_fails _ _ _ _ _ c.put_head.new.held.items refl _ c.put_head.result c.put_head.ensures.text c.put_head.ensures.cause
