use Rattle.std.proofs.Common.{ℕ, ◌<◌, subst, sym, arith, ◌≡◌, ◌∙◌, ap, refl, None}
use Rattle.nub_rule.specs.Parts.{turned}
use Rattle.nub_rule.specs.Places.{ready_at, most_threads}
use Rattle.nub_rule.proofs.Naming.{some_or_none}
use Rattle.nub_rule.proofs.Handling.{hands-same}
use Rattle.nub_rule.proofs.AtHand.{noted}
use Rattle.nub_rule.proofs.Seen.{fit_still}
use Rattle.nub_rule.proofs.Naming.{turned-gate, turned-cond}
use Rattle.nub_rule.proofs.ReadySteps.{clear_ready_keeps}
use Rattle.nub_rule.proofs.steps.ready.clear_ready.Goals as goal

pub swap-requires-clause-inside : goal.swap-requires-clause-inside
swap-requires-clause-inside g c κs within = let low = c.me.invariant.few in let e = c.ready_word.ensures in omega arith

pub swap-requires-clause-allowed : goal.swap-requires-clause-allowed
swap-requires-clause-allowed g c κs within = let i = c.me.invariant in let t = c.requires.ready in
    clear_ready_keeps _ _ _ _ _ _ _ _ c.me.inside.seat.me t.0 (c.ready_word.ensures ∙ ap ready_at (sym i.numbered)) (subst (λ (k : ℕ). k < most_threads) (sym i.numbered) i.few) i.member (ap (λ k. k.stand) c.me.view_is ∙ t.1) t.2

pub invariant_of-me : goal.invariant_of-me
invariant_of-me g c = let i = c.me.invariant in let h = i.hands in let out : c.me.inside.seat.me.0.part.spin ≡ None = ap (λ k. k.spin) c.me.view_is ∙ c.requires.outside in fit_still _ _ c.me.inside.number c.me.inside.hand c.me.inside.seat.me _ _ c.swap.ensures.0 (c.swap.ensures.2.1) i refl (hands-same c.me.inside.seat.me.0.part _ c.me.inside.seat.me.1 _ (λ k. refl) refl refl refl (λ o is. absurd (some_or_none _ o out is)) h.settled h)

pub returns-clause-found : goal.returns-clause-found
returns-clause-found g c = c.swap.ensures.2.0

pub returns-clause-is_new : goal.returns-clause-is_new
returns-clause-is_new g c = λ s is low. noted (λ _ p. record p { stand = None; turns = turned p.stand p.turns }) _ _ _ _ _ c.me.inside.seat.me _ _ c.me.view_is c.swap.ensures.0 (c.swap.ensures.2.1) ∙ (λ j. record c.args.me.now { part = record c.args.me.now.part { stand = None; turns = turned-gate c.args.me.now.stand c.args.me.now.turns s is low j } })

pub returns-clause-at_cond : goal.returns-clause-at_cond
returns-clause-at_cond g c = λ s is hi. noted (λ _ p. record p { stand = None; turns = turned p.stand p.turns }) _ _ _ _ _ c.me.inside.seat.me _ _ c.me.view_is c.swap.ensures.0 (c.swap.ensures.2.1) ∙ (λ j. record c.args.me.now { part = record c.args.me.now.part { stand = None; turns = turned-cond c.args.me.now.stand c.args.me.now.turns s is hi j } })
