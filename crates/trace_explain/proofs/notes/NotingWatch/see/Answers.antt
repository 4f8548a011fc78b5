use Rattle.trace_explain.proofs.Finding.{finding_steps}
use Rattle.trace_explain.proofs.notes.NotingWatch.see.Goals as goal

pub returns-clause-kept : goal.returns-clause-kept
returns-clause-kept c = λ first l es kept next new. finding_steps l es _ _ _ _ next (kept new) c.note.ensures
