use Rattle.walker.proofs.walked.Walked.note.Goals as goal

pub invariant_of-self : goal.invariant_of-self
invariant_of-self c = (rw c.as_str.ensures.value at c.note_in.ensures.sound, rw c.as_str.ensures.value at c.note_in.ensures.below)

pub note_in-requires-clause-sound : goal.note_in-requires-clause-sound
note_in-requires-clause-sound c = rw c.as_str.ensures.value c.self.invariant.0

pub note_in-requires-clause-below : goal.note_in-requires-clause-below
note_in-requires-clause-below c = rw c.as_str.ensures.value c.self.invariant.1

pub returns-clause-reported : goal.returns-clause-reported
returns-clause-reported c = rw (← c.self.view_is) (rw c.as_str.ensures.value at c.note_in.ensures.reported)
