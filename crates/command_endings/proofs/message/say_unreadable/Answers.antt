use Rattle.std.proofs.Common.{List, ℕ, subst}
use Rattle.command_endings.specs.Changes.{Notes, change_of}
use Rattle.command_endings.specs.Messages.{unreadable_message}
use Rattle.command_endings.proofs.Saying.{noted}
use Rattle.command_endings.proofs.message.say_unreadable.Goals as goal

pub returns : goal.returns
returns g c =
    subst (λ (x : List ℕ). Notes (change_of g.N.Sink.held g.N.Sink.faults c.args.notes.now c.print_path.new.out) (unreadable_message x)) c.as_bytes.ensures.value
    (noted c.print_path.result _ _ _ _ (unreadable_message c.as_bytes.result.now) c.print_path.ensures.ok c.print_path.ensures.err c.print_path.ensures.cause)
