use Rattle.std.proofs.Common.{[], ap}
use Rattle.nub_rule.specs.Plays.{event, signal_action}
use Rattle.nub.proofs.Adding.{adds_one}
use Rattle.condition.proofs.signal.Goals as goal

pub returns-else-not-advance_quietly-clause-event : goal.returns-else-not-advance_quietly-clause-event
returns-else-not-advance_quietly-clause-event g c =
    let a = c.args.me.now in
    let done = c.if-not-advance_quietly.false in
    ([], adds_one (event a.number (signal_action c.args.c.0 [])) a c.advance_quietly.new.me (c.advance_quietly.ensures.event done) (ap (λ k. k.number) (c.advance_quietly.ensures.quiet done)) (ap (λ k. k.version) (c.advance_quietly.ensures.quiet done)))
