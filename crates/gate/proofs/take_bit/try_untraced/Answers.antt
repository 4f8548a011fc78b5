use Rattle.std.proofs.Common.{ap, sym, ◌∷◌, ◌∙◌}
use Rattle.larch_actions.specs.Sets.{without}
use Rattle.nub_rule.specs.Objects.{object_of}
use Rattle.nub.proofs.Without.{without_twice}
use Rattle.nub_rule.specs.Parts.{made}
use Rattle.gate.proofs.Steps.{lost_once, more_from_test, won_once, zero_from_test}
use Rattle.gate.proofs.take_bit.try_untraced.Goals as goal

pub returns-clause-lost : goal.returns-clause-lost
returns-clause-lost g c = λ test.
    let o = object_of c.args.at in
    let old = c.args.me.now in
    lost_once old c.try_gate.new.me (o ∷ old.failed) (without o old.turns) (c.try_gate.ensures.lost (more_from_test c.try_gate.result test))

pub returns-clause-turns : goal.returns-clause-turns
returns-clause-turns g c = λ test.
    ap (λ k. without (object_of c.args.at) k.turns) (c.try_gate.ensures.lost (more_from_test c.try_gate.result test)) ∙ without_twice (object_of c.args.at) c.args.me.now.turns

pub returns-clause-event : goal.returns-clause-event
returns-clause-event g c = λ test. c.try_gate.ensures.event (zero_from_test c.try_gate.result test)

pub returns-clause-won : goal.returns-clause-won
returns-clause-won g c = λ test.
    let o = object_of c.args.at in
    let old = c.args.me.now in
    let pen = c.requires.outside.pen in
    won_once old c.try_gate.new.me (without o old.failed) (without o old.turns) (made old.pen) (ap made pen ∙ sym pen) (c.try_gate.ensures.won (zero_from_test c.try_gate.result test))

pub returns-clause-taken : goal.returns-clause-taken
returns-clause-taken g c = λ test. c.try_gate.ensures.taken (zero_from_test c.try_gate.result test)
