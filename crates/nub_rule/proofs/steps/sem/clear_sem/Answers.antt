use Rattle.std.proofs.Common.{rules, arith, ◌≡◌, ◌∙◌, ◌∷◌, ℕ, ap, sym, subst, refl}
use Rattle.larch_actions.specs.declared.event.Life.{Life}
use Rattle.nub_rule.specs.Known.{known_as, space_of}
use Rattle.nub_rule.specs.Parts.{made}
use Rattle.nub_rule.specs.Places.{sem_object}
use Rattle.nub_rule.proofs.Naming.{sem_low}
use Rattle.nub_rule.proofs.Seen.{as_known}
use Rattle.std.proofs.Common.{Bool}
use Rattle.nub_rule.specs.declared.view.Pen.{Pen}
use Rattle.nub_rule.specs.Parts.{MayRecord}
use Rattle.nub_rule.specs.Plays.{v_event}
use Rattle.nub_rule.proofs.AtHand.{fit_noted, recorded_event}
use Rattle.nub_rule.proofs.SemSteps.{clear_sem_keeps}
use Rattle.nub_rule.proofs.steps.sem.clear_sem.Goals as goal

pub swap-requires-clause-inside : goal.swap-requires-clause-inside
swap-requires-clause-inside g c κs within = let near = sem_low _ _ _ _ c.p.view_is c.p.invariant.laid_out c.p.invariant.lawful c.args.s.0 c.requires.named in let word = c.semaphore_bit.ensures in omega arith

pub swap-requires-clause-allowed : goal.swap-requires-clause-allowed
swap-requires-clause-allowed g c κs within = let near = sem_low _ _ _ _ c.p.view_is c.p.invariant.laid_out c.p.invariant.lawful c.args.s.0 c.requires.named in let s : ℕ = c.args.s.0 in let traces : c.p.inside.table.shared.key.traced ≡ c.args.p.now.traced = ap (λ s. s.traced) c.p.view_is in
    let word = c.semaphore_bit.ensures in clear_sem_keeps _ _ _ _ _ _ _ s c.me.inside.seat.me _ word near (search rules) c.me.invariant.member (ap (λ k. k.wait) c.me.view_is ∙ c.requires.outside.0) (ap (λ k. k.stand) c.me.view_is ∙ c.requires.outside.1) (subst (λ (z : Bool × Life × Pen). MayRecord z.0 z.1 z.2) (λ j. (sym traces j, ap (λ k. k.life) (sym c.me.view_is) j, ap (λ k. k.pen) (sym c.me.view_is) j)) c.requires.pen)

pub invariant_of-me : goal.invariant_of-me
invariant_of-me g c = let s : ℕ = c.args.s.0 in let i = c.me.invariant in fit_noted _ _ c.me.inside.number c.me.inside.hand c.me.inside.seat.me _ _ c.swap.ensures.0 ((c.swap.ensures.2 s c.semaphore_bit.ensures).3) i refl refl refl refl refl

pub returns-clause-event : goal.returns-clause-event
returns-clause-event g c = let u = c.swap.ensures.2 c.args.s.0 c.semaphore_bit.ensures in
    recorded_event (λ n. v_event n c.args.s.0) (λ q. record q { cleared = sem_object c.args.s.0 ∷ q.cleared }) _ _ c.me.inside.number _ _ c.me.inside.seat.me c.swap.new.seat.me c.args.me.now (u.1, u.2, u.3) c.me.view_is c.swap.ensures.0 c.me.invariant.numbered (λ q. refl) (λ q. refl) (λ q. refl)

pub returns-clause-cleared : goal.returns-clause-cleared
returns-clause-cleared g c = let s : ℕ = c.args.s.0 in as_known (λ z m a. let k = known_as z c.me.inside.number m c.me.inside.entries.items (space_of c.me.inside.entries c.me.inside.lost) c.me.inside.next in k ≡ record a { part = record a.part { seen = k.seen; mine = k.mine; places = k.places; cleared = sem_object s ∷ a.cleared; pen = made a.pen } }) _ _ _ _ _ c.me.inside.seat.me _ _ _ c.me.view_is c.swap.ensures.0 (c.swap.ensures.2 s c.semaphore_bit.ensures).3 refl

pub returns-clause-found : goal.returns-clause-found
returns-clause-found g c = (c.swap.ensures.2 c.args.s.0 c.semaphore_bit.ensures).0
