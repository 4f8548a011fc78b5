use Rattle.lock_order.proofs.Reading.{nested_goes, has_place}
use Rattle.lock_order.proofs.order.NotingWatch.see.Goals as goal

pub note-requires : goal.note-requires
note-requires c = let n = c.requires.4 in has_place _ _ n.lawful n.names

pub returns-then-self-clause-kept : goal.returns-then-self-clause-kept
returns-then-self-clause-kept c = λ first l es kept next.
    (kept.0, nested_goes first.graph l es _ _ _ _ _ kept.1 next (λ on. c.note.ensures))
