use Rattle.trace_json.proofs.Writing.{answers_cut, answers_closed}
use Rattle.trace_json.proofs.events.write_all.Goals as goal

pub returns-in-Err-clause-answers : goal.returns-in-Err-clause-answers
returns-in-Err-clause-answers g c =
    let s = c.in-Err.ensures.stopped in
    let cut = rw c.requires.empty at s.stopped.cut in
    answers_cut _ _ _ _ _ c.check_with.ensures.later _ _ _ _ c.in-Err.fault s.layout s.events s.front cut s.stopped.later s.stopped.failed

pub returns-in-Some-clause-answers : goal.returns-in-Some-clause-answers
returns-in-Some-clause-answers g c =
    let h = rw c.in-Some.is at c.in-Ok.ensures.watched in
    let sent = rw c.requires.empty at h.kept.sent in
    answers_closed _ _ _ _ _ c.check_with.ensures.later _ _ _ _ _ _ _ _ h.events sent h.kept.later h.front _ c.in-Ok.found.verdict c.close.result c.close.ensures.same c.close.ensures.ok c.close.ensures.err c.close.ensures.cause h.read c.in-Ok.ensures.just c.in-Ok.ensures.reported
