use Rattle.std.proofs.Common.{Bool, true, false, rules, arith, ◌≡◌, ◌∙◌, ◌∷◌, ◌++◌, [], ℕ, ap, sym, subst, refl}
use mathlib.Core.Logic.{dite}
use native.Mathlib.Decide.{ℕ_discrete}
use Rattle.larch_actions.specs.declared.event.Event.{Event}
use Rattle.larch_actions.specs.Sets.{without}
use Rattle.larch_actions.specs.declared.event.Life.{Life}
use Rattle.nub_rule.specs.declared.view.Pen.{Pen}
use Rattle.nub_rule.specs.Known.{known_as, Makes, space_of}
use Rattle.nub_rule.specs.Parts.{made, MayRecord}
use Rattle.nub_rule.specs.Places.{sem_object}
use Rattle.nub_rule.specs.Plays.{Grows, event, p_action}
use Rattle.nub_rule.proofs.Naming.{sem_low}
use Rattle.nub_rule.proofs.AtHand.{noted, fit_noted}
use Rattle.nub_rule.proofs.Seen.{as_known}
use Rattle.nub_rule.proofs.SemSteps.{by-alertable, by-plain, try_p_keeps}
use Rattle.nub_rule.proofs.steps.sem.try_p.Goals as goal

pub compare_exchange-requires-clause-inside : goal.compare_exchange-requires-clause-inside
compare_exchange-requires-clause-inside g c κs within = let near = sem_low _ _ _ _ c.p.view_is c.p.invariant.laid_out c.p.invariant.lawful c.args.s.0 c.requires.named in let word = c.semaphore_bit-bit.ensures in omega arith

pub compare_exchange-requires-clause-allowed : goal.compare_exchange-requires-clause-allowed
compare_exchange-requires-clause-allowed g c κs within = let near = sem_low _ _ _ _ c.p.view_is c.p.invariant.laid_out c.p.invariant.lawful c.args.s.0 c.requires.named in let s : ℕ = c.args.s.0 in let traces : c.p.inside.table.shared.key.traced ≡ c.args.p.now.traced = ap (λ s. s.traced) c.p.view_is in
    let word = c.semaphore_bit-bit.ensures in try_p_keeps _ _ _ _ _ true _ _ s c.me.inside.seat.me _ word near (search rules) c.me.invariant.member (ap (λ k. k.wait) c.me.view_is ∙ c.requires.may.0) (subst (λ (z : Bool × Life × Pen). MayRecord z.0 z.1 z.2) (λ j. (sym traces j, ap (λ k. k.life) (sym c.me.view_is) j, ap (λ k. k.pen) (sym c.me.view_is) j)) c.requires.pen)

pub invariant_of-me : goal.invariant_of-me
invariant_of-me g c = let s : ℕ = c.args.s.0 in let i = c.me.invariant in let u = (c.compare_exchange.ensures.2 s c.semaphore_bit-bit.ensures) in dite (ℕ_discrete c.compare_exchange.result 0)
    (λ hit. fit_noted _ _ c.me.inside.number c.me.inside.hand c.me.inside.seat.me _ _ c.compare_exchange.ensures.0 ((u.0 hit).2) i refl refl refl refl refl)
    (λ miss. fit_noted _ _ c.me.inside.number c.me.inside.hand c.me.inside.seat.me _ _ c.compare_exchange.ensures.0 (u.1 miss) i refl refl refl refl refl)

pub returns-in-AlertPReturn-clause-lost : goal.returns-in-AlertPReturn-clause-lost
returns-in-AlertPReturn-clause-lost g c = let s : ℕ = c.args.s.0 in λ miss. noted (λ _ p. record p { failed = sem_object s ∷ p.failed; turns = without (sem_object s) p.turns }) _ _ _ _ _ c.me.inside.seat.me _ _ c.me.view_is c.compare_exchange.ensures.0 ((c.compare_exchange.ensures.2 s c.semaphore_bit-bit.ensures).1 miss)

pub returns-in-AlertPReturn-clause-event : goal.returns-in-AlertPReturn-clause-event
returns-in-AlertPReturn-clause-event g c = let s : ℕ = c.args.s.0 in let i = c.me.invariant in let is_event = (λ j. event ((i.numbered ∙ ap (λ k. k.number) c.me.view_is) j) (p_action true s)) ∙ sym (by-alertable _ s c.args.e _ c.requires.may.1 c.in-AlertPReturn.is) in λ hit. let u = (c.compare_exchange.ensures.2 s c.semaphore_bit-bit.ensures).0 hit in
    as_known (λ z m a. Makes c.args.e a (known_as z c.me.inside.number m c.me.inside.entries.items (space_of c.me.inside.entries c.me.inside.lost) c.me.inside.next)) _ _ _ _ _ c.me.inside.seat.me _ _ _ c.me.view_is c.compare_exchange.ensures.0 u.2
    (u.0, subst (λ (z : ℕ × Event). Grows z.0 c.me.inside.seat.me.0.part u.0 z.1) (λ j. (i.numbered j, is_event j)) u.1, (λ j. (c.me.inside.seat.me.0.part.seen ++ u.0) ++ is_event j ∷ []), (λ j. c.me.inside.seat.me.0.part.mine ++ is_event j ∷ []), refl)

pub returns-in-AlertPReturn-clause-won : goal.returns-in-AlertPReturn-clause-won
returns-in-AlertPReturn-clause-won g c = let s : ℕ = c.args.s.0 in λ hit. as_known (λ z m a. let k = known_as z c.me.inside.number m c.me.inside.entries.items (space_of c.me.inside.entries c.me.inside.lost) c.me.inside.next in k ≡ record a { part = record a.part { seen = k.seen; mine = k.mine; places = k.places; failed = without (sem_object s) a.failed; turns = without (sem_object s) a.turns; pen = made a.pen } }) _ _ _ _ _ c.me.inside.seat.me _ _ _ c.me.view_is c.compare_exchange.ensures.0 ((c.compare_exchange.ensures.2 s c.semaphore_bit-bit.ensures).0 hit).2 refl

pub compare_exchange-requires-in_default-clause-inside : goal.compare_exchange-requires-in_default-clause-inside
compare_exchange-requires-in_default-clause-inside g c κs within = let near = sem_low _ _ _ _ c.p.view_is c.p.invariant.laid_out c.p.invariant.lawful c.args.s.0 c.requires.named in let word = c.semaphore_bit-bit.ensures in omega arith

pub compare_exchange-requires-in_default-clause-allowed : goal.compare_exchange-requires-in_default-clause-allowed
compare_exchange-requires-in_default-clause-allowed g c κs within = let near = sem_low _ _ _ _ c.p.view_is c.p.invariant.laid_out c.p.invariant.lawful c.args.s.0 c.requires.named in let s : ℕ = c.args.s.0 in let traces : c.p.inside.table.shared.key.traced ≡ c.args.p.now.traced = ap (λ s. s.traced) c.p.view_is in
    let word = c.semaphore_bit-bit.ensures in try_p_keeps _ _ _ _ _ false _ _ s c.me.inside.seat.me _ word near (search rules) c.me.invariant.member (ap (λ k. k.wait) c.me.view_is ∙ c.requires.may.0) (subst (λ (z : Bool × Life × Pen). MayRecord z.0 z.1 z.2) (λ j. (sym traces j, ap (λ k. k.life) (sym c.me.view_is) j, ap (λ k. k.pen) (sym c.me.view_is) j)) c.requires.pen)

pub invariant_of-me-in_default : goal.invariant_of-me-in_default
invariant_of-me-in_default g c = let s : ℕ = c.args.s.0 in let i = c.me.invariant in let u = (c.compare_exchange-in_default.ensures.2 s c.semaphore_bit-bit.ensures) in dite (ℕ_discrete c.compare_exchange-in_default.result 0)
    (λ hit. fit_noted _ _ c.me.inside.number c.me.inside.hand c.me.inside.seat.me _ _ c.compare_exchange-in_default.ensures.0 ((u.0 hit).2) i refl refl refl refl refl)
    (λ miss. fit_noted _ _ c.me.inside.number c.me.inside.hand c.me.inside.seat.me _ _ c.compare_exchange-in_default.ensures.0 (u.1 miss) i refl refl refl refl refl)

pub returns-in_default : goal.returns-in_default
returns-in_default g c = let s : ℕ = c.args.s.0 in let i = c.me.invariant in let is_event = (λ j. event ((i.numbered ∙ ap (λ k. k.number) c.me.view_is) j) (p_action false s)) ∙ sym (by-plain _ s c.args.e c.requires.may.1 c.in_default.not-AlertPReturn) in
    let t = c.compare_exchange-in_default.ensures.2 s c.semaphore_bit-bit.ensures in record {
      lost = λ miss. noted (λ _ p. record p { failed = sem_object s ∷ p.failed; turns = without (sem_object s) p.turns }) _ _ _ _ _ c.me.inside.seat.me _ _ c.me.view_is c.compare_exchange-in_default.ensures.0 (t.1 miss);
      event = λ hit. let u = t.0 hit in
          as_known (λ z m a. Makes c.args.e a (known_as z c.me.inside.number m c.me.inside.entries.items (space_of c.me.inside.entries c.me.inside.lost) c.me.inside.next)) _ _ _ _ _ c.me.inside.seat.me _ _ _ c.me.view_is c.compare_exchange-in_default.ensures.0 u.2
          (u.0, subst (λ (z : ℕ × Event). Grows z.0 c.me.inside.seat.me.0.part u.0 z.1) (λ j. (i.numbered j, is_event j)) u.1, (λ j. (c.me.inside.seat.me.0.part.seen ++ u.0) ++ is_event j ∷ []), (λ j. c.me.inside.seat.me.0.part.mine ++ is_event j ∷ []), refl);
      won = λ hit. as_known (λ z m a. let k = known_as z c.me.inside.number m c.me.inside.entries.items (space_of c.me.inside.entries c.me.inside.lost) c.me.inside.next in k ≡ record a { part = record a.part { seen = k.seen; mine = k.mine; places = k.places; failed = without (sem_object s) a.failed; turns = without (sem_object s) a.turns; pen = made a.pen } }) _ _ _ _ _ c.me.inside.seat.me _ _ _ c.me.view_is c.compare_exchange-in_default.ensures.0 (t.0 hit).2 refl;
    }
