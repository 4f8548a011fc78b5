use Rattle.std.proofs.Common.{arith, ◌∙◌, ap, refl}
use Rattle.nub_rule.proofs.Naming.{cond_low}
use Rattle.nub_rule.proofs.AtHand.{noted, fit_noted}
use Rattle.nub_rule.proofs.CondSteps.{know_count_keeps}
use Rattle.nub_rule.proofs.steps.cond.know_count.Goals as goal

pub load-requires-clause-inside : goal.load-requires-clause-inside
load-requires-clause-inside g c κs within = let near = cond_low _ _ _ _ c.p.view_is c.p.invariant.laid_out c.p.invariant.lawful c.args.c.0 c.requires.named in let word = c.count_word.ensures in omega arith

pub load-requires-clause-allowed : goal.load-requires-clause-allowed
load-requires-clause-allowed g c κs within = let near = cond_low _ _ _ _ c.p.view_is c.p.invariant.laid_out c.p.invariant.lawful c.args.c.0 c.requires.named in let word = c.count_word.ensures in
    know_count_keeps _ _ _ _ _ _ _ c.args.c.0 c.me.inside.seat.me _ word near c.me.invariant.member (ap (λ k. k.spin) c.me.view_is ∙ c.requires.inside)

pub invariant_of-me : goal.invariant_of-me
invariant_of-me g c = let i = c.me.invariant in let h = i.hands in
    fit_noted _ _ c.me.inside.number c.me.inside.hand c.me.inside.seat.me _ c.me.inside.seat.me.0.part c.load.ensures.0 c.load.ensures.2.1 i refl refl refl refl refl

pub returns-clause-count : goal.returns-clause-count
returns-clause-count g c = c.load.ensures.2.0 ∙ ap (λ k. k.count) c.me.view_is

pub returns-clause-same : goal.returns-clause-same
returns-clause-same g c = noted (λ _ p. p) _ _ _ _ _ c.me.inside.seat.me _ _ c.me.view_is c.load.ensures.0 c.load.ensures.2.1
