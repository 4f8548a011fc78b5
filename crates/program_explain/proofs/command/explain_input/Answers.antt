use Rattle.std.proofs.Common.{inl, inr}
use Rattle.program_explain.proofs.command.explain_input.Goals as goal

pub returns-in-Ok : goal.returns-in-Ok
returns-in-Ok g c = inl (c.in-Ok.found, c.in-Ok.ensures.just, c.in-Ok.ensures.ok, c.ends_by.ensures.notes, c.ends_by.ensures.status, c.in-Ok.ensures.reported)

pub returns-in-Err : goal.returns-in-Err
returns-in-Err g c = inr (c.ends.ensures.status, c.in-Err.ensures.cause.failed, c.in-Err.ensures.err, c.ends.ensures.notes)
