use Rattle.std.proofs.Common.{arith, ◌∙◌, ap, refl}
use mathlib.Core.Logic.{dite}
use native.Mathlib.Decide.{ℕ_discrete}
use Rattle.nub_rule.specs.Plays.{unread}
use Rattle.nub_rule.proofs.Naming.{cond_low}
use Rattle.nub_rule.proofs.AtHand.{noted, fit_noted}
use Rattle.nub_rule.proofs.CondQueue.{compare_count_keeps}
use Rattle.nub_rule.proofs.steps.cond.compare_count.Goals as goal

pub load-requires-clause-inside : goal.load-requires-clause-inside
load-requires-clause-inside g c κs within = let near = cond_low _ _ _ _ c.p.view_is c.p.invariant.laid_out c.p.invariant.lawful c.args.c.0 c.requires.named in let word = c.count_word.ensures in omega arith

pub load-requires-clause-allowed : goal.load-requires-clause-allowed
load-requires-clause-allowed g c κs within = let near = cond_low _ _ _ _ c.p.view_is c.p.invariant.laid_out c.p.invariant.lawful c.args.c.0 c.requires.named in let word = c.count_word.ensures in let x = c.requires.waits in
    compare_count_keeps _ _ _ _ _ _ _ c.args.c.0 c.args.count x.0 c.me.inside.seat.me _ word near c.me.invariant.member (ap (λ k. k.spin) c.me.view_is ∙ c.requires.inside) (ap (λ k. k.wait) c.me.view_is ∙ x.1) x.2 x.3

pub invariant_of-me : goal.invariant_of-me
invariant_of-me g c = let i = c.me.invariant in let x = c.requires.waits in let u = c.load.ensures.2.1 x.0 c.args.count (ap (λ k. k.wait) c.me.view_is ∙ x.1) x.3 in dite (ℕ_discrete c.load.result c.args.count)
    (λ hit. fit_noted _ _ c.me.inside.number c.me.inside.hand c.me.inside.seat.me _ c.me.inside.seat.me.0.part c.load.ensures.0 (u.0 hit) i refl refl refl refl refl)
    (λ miss. fit_noted _ _ c.me.inside.number c.me.inside.hand c.me.inside.seat.me _ _ c.load.ensures.0 (u.1 miss) i refl refl refl refl refl)

pub returns-clause-count : goal.returns-clause-count
returns-clause-count g c = c.load.ensures.2.0 ∙ ap (λ k. k.count) c.me.view_is

pub returns-clause-stands : goal.returns-clause-stands
returns-clause-stands g c = let x = c.requires.waits in let u = c.load.ensures.2.1 x.0 c.args.count (ap (λ k. k.wait) c.me.view_is ∙ x.1) x.3 in
    λ hit. noted (λ _ p. p) _ _ _ _ _ c.me.inside.seat.me _ _ c.me.view_is c.load.ensures.0 (u.0 hit)

pub returns-clause-moved : goal.returns-clause-moved
returns-clause-moved g c = let x = c.requires.waits in let u = c.load.ensures.2.1 x.0 c.args.count (ap (λ k. k.wait) c.me.view_is ∙ x.1) x.3 in
    λ miss. noted (λ _ p. record p { wait = unread p.wait }) _ _ _ _ _ c.me.inside.seat.me _ _ c.me.view_is c.load.ensures.0 (u.1 miss)
