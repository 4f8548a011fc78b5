use Rattle.std.proofs.Common.{Bool, None, false, rules, arith, ◌≡◌, ◌<◌, ◌∙◌, ℕ, ap, sym, subst, refl}
use lib.ListN.{get_elem?}
use Rattle.larch_actions.specs.declared.event.Life.{Life}
use Rattle.nub_rule.specs.declared.view.Pen.{Pen}
use Rattle.nub_rule.specs.Known.{known_as, space_of}
use Rattle.nub_rule.specs.Parts.{made, MayRecord}
use Rattle.nub_rule.specs.Places.{alert_at, most_threads}
use Rattle.nub_rule.specs.Plays.{alert_raise_event}
use Rattle.nub_rule.proofs.Seen.{as_known}
use Rattle.nub_rule.proofs.AtHand.{recorded_fits, recorded_event, HistoryItem}
use Rattle.nub_rule.proofs.RaiseSteps.{swap_alert_in_raise_keeps}
use Rattle.nub_rule.proofs.steps.alert.swap_alert_in_raise.Goals as goal

pub swap-requires-clause-inside : goal.swap-requires-clause-inside
swap-requires-clause-inside g c κs within = let low = c.me.invariant.few in let e = c.alert_word.ensures in omega arith

pub swap-requires-clause-allowed : goal.swap-requires-clause-allowed
swap-requires-clause-allowed g c κs within = let i = c.me.invariant in let x = c.requires.waits in let traces : c.p.inside.table.shared.key.traced ≡ c.args.p.now.traced = ap (λ s. s.traced) c.p.view_is in swap_alert_in_raise_keeps _ _ _ _ _ _ _ c.args.m.0 c.args.c.0 c.me.inside.seat.me _ x.0 c.requires.has.0 (c.alert_word.ensures ∙ ap alert_at (sym i.numbered)) (subst (λ (k : ℕ). k < most_threads) (sym i.numbered) i.few) i.member (search rules)
    (ap (λ k. k.wait) c.me.view_is ∙ x.1) x.2 x.3 x.4 x.5 (ap (λ k. get_elem? k.held c.args.m.0) c.me.view_is ∙ c.requires.has.1) (ap (λ k. k.stand) c.me.view_is ∙ c.requires.outside.1) (ap (λ k. k.alerted) c.me.view_is ∙ c.requires.alerted)
    (subst (λ (z : Bool × Life × Pen). MayRecord z.0 z.1 z.2) (λ j. (sym traces j, ap (λ k. k.life) (sym c.me.view_is) j, ap (λ k. k.pen) (sym c.me.view_is) j)) c.requires.pen)

pub invariant_of-me : goal.invariant_of-me
invariant_of-me g c = let u = c.swap.ensures.2 c.requires.waits.0 (ap (λ k. k.wait) c.me.view_is ∙ c.requires.waits.1) in
    recorded_fits (λ n. alert_raise_event n c.args.m.0 c.args.c.0) (λ q. record q { wait = None; alerted = false }) _ _ c.me.inside.number c.me.inside.hand c.me.inside.seat.me c.swap.new.seat.me (subst (λ (t : ℕ × ℕ). HistoryItem (λ n. alert_raise_event n t.0 t.1) (λ q. record q { wait = None; alerted = false }) c.me.inside.seat.me c.swap.new.seat.me) (λ j. (c.requires.waits.2 j, c.requires.waits.3 j)) (u.1, u.2, u.3)) c.swap.ensures.0 c.me.invariant (λ q. refl) (λ q. refl) (λ q. refl) (λ q. refl) (λ q. refl)

pub returns-clause-found : goal.returns-clause-found
returns-clause-found g c = let x = c.requires.waits in (c.swap.ensures.2 x.0 (ap (λ k. k.wait) c.me.view_is ∙ x.1)).0

pub returns-clause-event : goal.returns-clause-event
returns-clause-event g c = let u = c.swap.ensures.2 c.requires.waits.0 (ap (λ k. k.wait) c.me.view_is ∙ c.requires.waits.1) in
    recorded_event (λ n. alert_raise_event n c.args.m.0 c.args.c.0) (λ q. record q { wait = None; alerted = false }) _ _ c.me.inside.number _ _ c.me.inside.seat.me c.swap.new.seat.me c.args.me.now (subst (λ (t : ℕ × ℕ). HistoryItem (λ n. alert_raise_event n t.0 t.1) (λ q. record q { wait = None; alerted = false }) c.me.inside.seat.me c.swap.new.seat.me) (λ j. (c.requires.waits.2 j, c.requires.waits.3 j)) (u.1, u.2, u.3)) c.me.view_is c.swap.ensures.0 c.me.invariant.numbered (λ q. refl) (λ q. refl) (λ q. refl)

pub returns-clause-raised : goal.returns-clause-raised
returns-clause-raised g c = let x = c.requires.waits in as_known (λ z m a. let k = known_as z c.me.inside.number m c.me.inside.entries.items (space_of c.me.inside.entries c.me.inside.lost) c.me.inside.next in k ≡ record a { part = record a.part { seen = k.seen; mine = k.mine; places = k.places; wait = None; alerted = false; pen = made a.pen } }) _ _ _ _ _ c.me.inside.seat.me _ _ _ c.me.view_is c.swap.ensures.0 (c.swap.ensures.2 x.0 (ap (λ k. k.wait) c.me.view_is ∙ x.1)).3 refl
