use Rattle.walker.proofs.walked.Walked.file_at.Goals as goal

pub name_at-requires-clause-below : goal.name_at-requires-clause-below
name_at-requires-clause-below c = rw c.as_str.ensures.value c.self.invariant.1
