use Rattle.std.proofs.Common.{ap, refl, subst, sym, ◌∷◌, ◌∙◌}
use Rattle.larch_actions.specs.Sets.{without}
use Rattle.nub_rule.specs.Objects.{object_of}
use Rattle.nub.proofs.Without.{without_twice}
use Rattle.gate.proofs.Steps.{Tries, goes_on, stood_plainly, won, won_event, won_taken}
use Rattle.gate.proofs.take_bit.take_slowly.Goals as goal

pub loop-preserved-then-left-eq0 : goal.loop-preserved-then-left-eq0
loop-preserved-then-left-eq0 g c =
    let o = object_of c.args.at in
    let at = c.look_and_learn-left.new.me in
    let same = subst (λ k. Tries c.args.me.now k) (sym c.look_and_learn-left.ensures) c.loop.invariant.same in
    let tried = c.try_take.new.me in
    let lost = c.try_take.ensures.lost c.if-try_take.false in
    record {
      same = goes_on c.args.me.now at tried same c.enqueue_and_sleep.new.me (o ∷ at.failed) (without o tried.failed) (without o at.turns) lost (stood_plainly o tried c.enqueue_and_sleep.new.me (ap (λ k. k.stand) lost ∙ (ap (λ k. k.stand) same ∙ c.requires.outside.stand)) c.enqueue_and_sleep.ensures.rest (c.enqueue_and_sleep.ensures.goes_on (c.enqueue_and_sleep.ensures.plain refl)));
      turns = c.enqueue_and_sleep.ensures.turns ∙ (ap (λ k. without o k.turns) lost ∙ (without_twice o at.turns ∙ (ap (λ k. without o k.turns) c.look_and_learn-left.ensures ∙ c.loop.invariant.turns)));
    }

pub loop-preserved : goal.loop-preserved
loop-preserved g c =
    let o = object_of c.args.at in
    let at = c.look_and_learn-left.new.me in
    let same = subst (λ k. Tries c.args.me.now k) (sym c.look_and_learn-left.ensures) c.loop.invariant.same in
    let tried = c.try_take.new.me in
    let lost = c.try_take.ensures.lost c.if-try_take.false in
    record {
      same = goes_on c.args.me.now at tried same tried (o ∷ at.failed) tried.failed (without o at.turns) lost refl;
      turns = ap (λ k. without o k.turns) lost ∙ (without_twice o at.turns ∙ (ap (λ k. without o k.turns) c.look_and_learn-left.ensures ∙ c.loop.invariant.turns));
    }

pub returns-then-try_take-clause-event : goal.returns-then-try_take-clause-event
returns-then-try_take-clause-event g c =
    let same = subst (λ k. Tries c.args.me.now k) (sym c.look_and_learn-left.ensures) c.loop.invariant.same in
    won_event c.args.me.now c.look_and_learn-left.new.me c.try_take.new.me same c.args.e (c.try_take.ensures.event c.if-try_take.true)

pub returns-then-try_take-clause-rest : goal.returns-then-try_take-clause-rest
returns-then-try_take-clause-rest g c =
    let o = object_of c.args.at in
    let at = c.look_and_learn-left.new.me in
    let same = subst (λ k. Tries c.args.me.now k) (sym c.look_and_learn-left.ensures) c.loop.invariant.same in
    won c.args.me.now at c.try_take.new.me same (without o at.failed) (without o at.turns) (c.try_take.ensures.won c.if-try_take.true)

pub returns-then-try_take-clause-turns : goal.returns-then-try_take-clause-turns
returns-then-try_take-clause-turns g c =
    ap (λ k. k.turns) (c.try_take.ensures.won c.if-try_take.true) ∙ (ap (λ k. without (object_of c.args.at) k.turns) c.look_and_learn-left.ensures ∙ c.loop.invariant.turns)

pub returns-then-try_take-clause-taken : goal.returns-then-try_take-clause-taken
returns-then-try_take-clause-taken g c =
    let same = subst (λ k. Tries c.args.me.now k) (sym c.look_and_learn-left.ensures) c.loop.invariant.same in
    won_taken c.args.me.now c.look_and_learn-left.new.me c.try_take.new.me same g.U.Uses.fits c.args.at (c.try_take.ensures.taken c.if-try_take.true)
