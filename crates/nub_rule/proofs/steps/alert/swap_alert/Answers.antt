use Rattle.std.proofs.Common.{Bool, eqb, false, arith, ◌≡◌, ◌<◌, ◌∙◌, ℕ, ap, sym, subst, refl}
use Rattle.larch_actions.specs.declared.event.Life.{Life}
use Rattle.nub_rule.specs.declared.view.Pen.{Pen}
use Rattle.nub_rule.specs.Known.{known_as, space_of}
use Rattle.nub_rule.specs.Parts.{made, MayRecord}
use Rattle.nub_rule.specs.Places.{alert_at, most_threads}
use Rattle.nub_rule.specs.Plays.{test_alert_event}
use Rattle.nub_rule.proofs.Seen.{as_known}
use Rattle.nub_rule.proofs.AtHand.{recorded_fits, recorded_event}
use Rattle.nub_rule.proofs.AlertSteps.{swap_alert_keeps}
use Rattle.nub_rule.proofs.steps.alert.swap_alert.Goals as goal

pub swap-requires-clause-inside : goal.swap-requires-clause-inside
swap-requires-clause-inside g c κs within = let low = c.me.invariant.few in let e = c.alert_word.ensures in omega arith

pub swap-requires-clause-allowed : goal.swap-requires-clause-allowed
swap-requires-clause-allowed g c κs within = let i = c.me.invariant in let traces : c.p.inside.table.shared.key.traced ≡ c.args.p.now.traced = ap (λ s. s.traced) c.p.view_is in swap_alert_keeps _ _ _ _ _ _ _ _ c.me.inside.seat.me (c.alert_word.ensures ∙ ap alert_at (sym i.numbered)) (subst (λ (k : ℕ). k < most_threads) (sym i.numbered) i.few) i.member (ap (λ k. k.wait) c.me.view_is ∙ c.requires.outside)
    (subst (λ (z : Bool × Life × Pen). MayRecord z.0 z.1 z.2) (λ j. (sym traces j, ap (λ k. k.life) (sym c.me.view_is) j, ap (λ k. k.pen) (sym c.me.view_is) j)) c.requires.pen)

pub invariant_of-me : goal.invariant_of-me
invariant_of-me g c = let u = c.swap.ensures.2 in
    recorded_fits (λ n. test_alert_event n (eqb c.swap.result 1)) (λ q. record q { alerted = false }) _ _ c.me.inside.number c.me.inside.hand c.me.inside.seat.me c.swap.new.seat.me (u.2, u.3, u.4) c.swap.ensures.0 c.me.invariant (λ q. refl) (λ q. refl) (λ q. refl) (λ q. refl) (λ q. refl)

pub returns-clause-flag : goal.returns-clause-flag
returns-clause-flag g c = c.swap.ensures.2.0

pub returns-clause-seen : goal.returns-clause-seen
returns-clause-seen g c = λ saw. c.swap.ensures.2.1 (ap (λ k. k.alerted) c.me.view_is ∙ saw)

pub returns-clause-event : goal.returns-clause-event
returns-clause-event g c = let u = c.swap.ensures.2 in
    recorded_event (λ n. test_alert_event n (eqb c.swap.result 1)) (λ q. record q { alerted = false }) _ _ c.me.inside.number _ _ c.me.inside.seat.me c.swap.new.seat.me c.args.me.now (u.2, u.3, u.4) c.me.view_is c.swap.ensures.0 c.me.invariant.numbered (λ q. refl) (λ q. refl) (λ q. refl)

pub returns-clause-cleared : goal.returns-clause-cleared
returns-clause-cleared g c = as_known (λ z m a. let k = known_as z c.me.inside.number m c.me.inside.entries.items (space_of c.me.inside.entries c.me.inside.lost) c.me.inside.next in k ≡ record a { part = record a.part { seen = k.seen; mine = k.mine; places = k.places; alerted = false; pen = made a.pen } }) _ _ _ _ _ c.me.inside.seat.me _ _ _ c.me.view_is c.swap.ensures.0 c.swap.ensures.2.4 refl
