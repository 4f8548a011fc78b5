use Rattle.std.proofs.Common.{arith, ◌∙◌, ap, refl}
use Rattle.larch_actions.specs.Sets.{mem, without}
use Rattle.nub_rule.proofs.Handling.{hands-same}
use Rattle.nub_rule.proofs.AtHand.{noted}
use Rattle.nub_rule.proofs.Seen.{fit_still}
use Rattle.nub_rule.proofs.ReadySteps.{set_ready_keeps}
use Rattle.nub_rule.proofs.steps.ready.set_ready.Goals as goal

pub swap-requires-clause-inside : goal.swap-requires-clause-inside
swap-requires-clause-inside g c κs within = let low = c.requires.named in let e = c.ready_word.ensures in omega arith

pub swap-requires-clause-allowed : goal.swap-requires-clause-allowed
swap-requires-clause-allowed g c κs within = let i = c.me.invariant in let h = i.hands in set_ready_keeps _ _ _ _ _ _ _ _ _ _ c.ready_word.ensures c.requires.named i.member h.settled h.below (ap (λ k. mem c.args.t.0 k.owed) c.me.view_is ∙ c.requires.owed)

pub invariant_of-me : goal.invariant_of-me
invariant_of-me g c = let i = c.me.invariant in let h = i.hands in fit_still _ _ c.me.inside.number c.me.inside.hand c.me.inside.seat.me _ _ c.swap.ensures.0 ((c.swap.ensures.2 c.args.t.0 c.requires.named c.ready_word.ensures).1) i refl (hands-same c.me.inside.seat.me.0.part _ c.me.inside.seat.me.1 _ (λ k. refl) refl refl refl h.room (λ z. ap (without c.args.t.0) (h.settled z)) h)

pub returns-clause-found : goal.returns-clause-found
returns-clause-found g c = (c.swap.ensures.2 c.args.t.0 c.requires.named c.ready_word.ensures).0

pub returns-clause-owes : goal.returns-clause-owes
returns-clause-owes g c = noted (λ _ p. record p { owed = without c.args.t.0 p.owed }) _ _ _ _ _ c.me.inside.seat.me _ _ c.me.view_is c.swap.ensures.0 ((c.swap.ensures.2 c.args.t.0 c.requires.named c.ready_word.ensures).1)
