use Rattle.std.proofs.Common.{ap, ◌∙◌}
use Rattle.nub.proofs.Making.{makes_from}
use Rattle.gate.proofs.Steps.{taken_from, won_at_once, won_later}
use Rattle.gate.proofs.take_bit.take.Goals as goal

pub returns-then-not-try_untraced-clause-event : goal.returns-then-not-try_untraced-clause-event
returns-then-not-try_untraced-clause-event g c =
    let lost = c.try_untraced.ensures.lost c.if-not-try_untraced.true in
    makes_from c.args.e c.args.me.now c.try_untraced.new.me c.take_slowly.new.me (ap (λ k. k.number) lost) (ap (λ k. k.version) lost) (ap (λ k. k.seen) lost) (ap (λ k. k.mine) lost) (ap (λ k. k.places) lost) (ap (λ k. k.pen) lost) c.take_slowly.ensures.event

pub returns-then-not-try_untraced-clause-rest : goal.returns-then-not-try_untraced-clause-rest
returns-then-not-try_untraced-clause-rest g c =
    let tried = c.try_untraced.new.me in
    won_later c.args.me.now tried c.take_slowly.new.me tried.failed tried.turns (c.try_untraced.ensures.lost c.if-not-try_untraced.true) c.take_slowly.ensures.rest

pub returns-then-not-try_untraced-clause-turns : goal.returns-then-not-try_untraced-clause-turns
returns-then-not-try_untraced-clause-turns g c = c.take_slowly.ensures.turns ∙ c.try_untraced.ensures.turns c.if-not-try_untraced.true

pub returns-then-not-try_untraced-clause-taken : goal.returns-then-not-try_untraced-clause-taken
returns-then-not-try_untraced-clause-taken g c =
    let lost = c.try_untraced.ensures.lost c.if-not-try_untraced.true in
    taken_from g.U.Uses.fits c.args.at c.args.me.now c.try_untraced.new.me c.take_slowly.new.me (ap (λ k. k.number) lost) (ap (λ k. k.world) lost) (ap (λ k. k.held) lost) (ap (λ k. k.share) lost) (ap (λ k. k.values) lost) c.take_slowly.ensures.taken

pub returns-else-not-try_untraced-clause-event : goal.returns-else-not-try_untraced-clause-event
returns-else-not-try_untraced-clause-event g c = c.try_untraced.ensures.event c.if-not-try_untraced.false

pub returns-else-not-try_untraced-clause-rest : goal.returns-else-not-try_untraced-clause-rest
returns-else-not-try_untraced-clause-rest g c = won_at_once c.args.me.now c.try_untraced.new.me _ _ (c.try_untraced.ensures.won c.if-not-try_untraced.false)

pub returns-else-not-try_untraced-clause-taken : goal.returns-else-not-try_untraced-clause-taken
returns-else-not-try_untraced-clause-taken g c = c.try_untraced.ensures.taken c.if-not-try_untraced.false
