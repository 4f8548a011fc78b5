use Rattle.std.proofs.Common.{arith, ◌∙◌, ap, sym, refl, None}
use Rattle.nub_rule.proofs.Naming.{cond_low}
use Rattle.nub_rule.proofs.AtHand.{noted, fit_noted}
use Rattle.nub_rule.proofs.BegunSteps.{lower_waits_keeps}
use Rattle.nub_rule.proofs.steps.waiters.lower_waits.Goals as goal

pub fetch_sub-requires-clause-inside : goal.fetch_sub-requires-clause-inside
fetch_sub-requires-clause-inside g c κs within = let near = cond_low _ _ _ _ c.p.view_is c.p.invariant.laid_out c.p.invariant.lawful c.args.c.0 c.requires.named in let word = c.waits_word.ensures in omega arith

pub fetch_sub-requires-clause-allowed : goal.fetch_sub-requires-clause-allowed
fetch_sub-requires-clause-allowed g c κs within = let near = cond_low _ _ _ _ c.p.view_is c.p.invariant.laid_out c.p.invariant.lawful c.args.c.0 c.requires.named in let word = c.waits_word.ensures in
    lower_waits_keeps _ _ _ _ _ _ _ c.args.c.0 c.me.inside.seat.me _ word near c.me.invariant.member (ap (λ k. k.raised) c.me.view_is ∙ c.requires.raised) (λ x is. c.requires.out x (ap (λ k. k.wait) (sym c.me.view_is) ∙ is)) (ap (λ k. k.stand) c.me.view_is ∙ c.requires.outside)

pub invariant_of-me : goal.invariant_of-me
invariant_of-me g c = fit_noted _ _ c.me.inside.number c.me.inside.hand c.me.inside.seat.me _ _ c.fetch_sub.ensures.0 c.fetch_sub.ensures.2 c.me.invariant refl refl refl refl refl

pub returns : goal.returns
returns g c = noted (λ _ p. record p { raised = None }) _ _ _ _ _ c.me.inside.seat.me _ _ c.me.view_is c.fetch_sub.ensures.0 c.fetch_sub.ensures.2
