use Rattle.std.proofs.Common.{List, ℕ, subst, ◌∙◌}
use Rattle.command_endings.specs.Changes.{Notes, change_of}
use Rattle.command_endings.proofs.message.say_stopped.Goals as goal

pub returns : goal.returns
returns g c =
    subst (λ (x : List ℕ). Notes (change_of g.N.Sink.held g.N.Sink.faults c.args.notes.now c.say.new.notes) x) (c.as_str.ensures.value ∙ c.stop_message.ensures) c.say.ensures
