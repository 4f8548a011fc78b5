use Rattle.std.proofs.Common.{ℕ, Some, refl, ap, ◌∷◌, ◌∙◌, slice_set}
use Rattle.larch_actions.specs.Sets.{without}
use Rattle.nub_rule.specs.declared.object.Object.TheVariants.{Mutex}
use Rattle.nub_rule.specs.Plays.{quieted}
use Rattle.nub.proofs.Without.{without_twice}
use Rattle.gate.proofs.Steps.{goes_on_quietly, stood_plainly, taken_from, won_quietly}
use Rattle.gate.proofs.take_bit.take_quiet.Goals as goal

pub loop-preserved : goal.loop-preserved
loop-preserved g c =
    let o : ℕ = c.args.m.0 in
    let at = c.loop.me in
    let tried = c.take_bit_quiet.new.me in
    let lost = c.take_bit_quiet.ensures.lost c.if-take_bit_quiet-eq0.false in
    record {
      same = goes_on_quietly c.args.me.now at tried c.loop.invariant.same c.enqueue_and_sleep.new.me (o ∷ at.failed) (without o tried.failed) (without o at.turns) lost (stood_plainly o tried c.enqueue_and_sleep.new.me (ap (λ k. k.stand) lost ∙ (ap (λ k. k.stand) c.loop.invariant.same ∙ c.requires.outside.stand)) c.enqueue_and_sleep.ensures.rest (c.enqueue_and_sleep.ensures.goes_on (c.enqueue_and_sleep.ensures.plain refl)));
      turns = c.enqueue_and_sleep.ensures.turns ∙ (ap (λ k. without o k.turns) lost ∙ (without_twice o at.turns ∙ c.loop.invariant.turns));
    }

pub returns-then-take_bit_quiet-eq0-clause-rest : goal.returns-then-take_bit_quiet-eq0-clause-rest
returns-then-take_bit_quiet-eq0-clause-rest g c =
    let o : ℕ = c.args.m.0 in
    let at = c.loop.me in
    let took = c.take_bit_quiet.ensures.won c.if-take_bit_quiet-eq0.true in
    won_quietly c.args.me.now at c.take_bit_quiet.new.me c.loop.invariant.same (slice_set at.held o (Some took.0)) quieted (without o at.failed) (without o at.turns) (slice_set at.values o (Some (Some took.0))) took.3

pub returns-then-take_bit_quiet-eq0-clause-turns : goal.returns-then-take_bit_quiet-eq0-clause-turns
returns-then-take_bit_quiet-eq0-clause-turns g c = ap (λ k. k.turns) (c.take_bit_quiet.ensures.won c.if-take_bit_quiet-eq0.true).3 ∙ c.loop.invariant.turns

pub returns-then-take_bit_quiet-eq0-clause-taken : goal.returns-then-take_bit_quiet-eq0-clause-taken
returns-then-take_bit_quiet-eq0-clause-taken g c =
    let same = c.loop.invariant.same in
    let took = c.take_bit_quiet.ensures.won c.if-take_bit_quiet-eq0.true in
    taken_from g.U.Uses.fits (Mutex c.args.m) c.args.me.now c.loop.me c.take_bit_quiet.new.me (ap (λ k. k.number) same) (ap (λ k. k.world) same) (ap (λ k. k.held) same) (ap (λ k. k.share) same) (ap (λ k. k.values) same)
    (took.0, ap (λ k. k.held) took.3, ap (λ k. k.values) took.3, took.1, took.2, took.4)
