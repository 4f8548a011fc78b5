use Rattle.std.proofs.Common.{Bool, false, rules, arith, ◌≡◌, ◌<◌, ◌∙◌, ℕ, ap, sym, subst, refl}
use Rattle.larch_actions.specs.declared.event.Life.{Life}
use Rattle.nub_rule.specs.declared.view.Pen.{Pen}
use Rattle.nub_rule.specs.Known.{known_as, space_of}
use Rattle.nub_rule.specs.Parts.{made, MayRecord}
use Rattle.nub_rule.specs.Places.{alert_at, most_threads}
use Rattle.nub_rule.specs.Plays.{alert_p_raise_event}
use Rattle.nub_rule.proofs.Seen.{as_known}
use Rattle.nub_rule.proofs.AtHand.{recorded_fits, recorded_event}
use Rattle.nub_rule.proofs.AlertSteps.{swap_alert_in_p_keeps}
use Rattle.nub_rule.proofs.steps.alert.swap_alert_in_p.Goals as goal

pub fetch_and-requires-clause-inside : goal.fetch_and-requires-clause-inside
fetch_and-requires-clause-inside g c κs within = let low = c.me.invariant.few in let e = c.alert_word.ensures in omega arith

pub fetch_and-requires-clause-allowed : goal.fetch_and-requires-clause-allowed
fetch_and-requires-clause-allowed g c κs within = let i = c.me.invariant in let traces : c.p.inside.table.shared.key.traced ≡ c.args.p.now.traced = ap (λ s. s.traced) c.p.view_is in swap_alert_in_p_keeps _ _ _ _ _ _ _ c.args.s.0 _ _ c.me.inside.seat.me (c.alert_word.ensures ∙ ap alert_at (sym i.numbered)) refl (search rules) (subst (λ (k : ℕ). k < most_threads) (sym i.numbered) i.few) i.member
    (ap (λ k. k.wait) c.me.view_is ∙ c.requires.outside.0) (ap (λ k. k.alerted) c.me.view_is ∙ c.requires.alerted) (subst (λ (z : Bool × Life × Pen). MayRecord z.0 z.1 z.2) (λ j. (sym traces j, ap (λ k. k.life) (sym c.me.view_is) j, ap (λ k. k.pen) (sym c.me.view_is) j)) c.requires.pen)

pub invariant_of-me : goal.invariant_of-me
invariant_of-me g c = let u = c.fetch_and.ensures.2 c.args.s.0 refl in
    recorded_fits (λ n. alert_p_raise_event n c.args.s.0) (λ q. record q { alerted = false }) _ _ c.me.inside.number c.me.inside.hand c.me.inside.seat.me c.fetch_and.new.seat.me (u.1, u.2, u.3) c.fetch_and.ensures.0 c.me.invariant (λ q. refl) (λ q. refl) (λ q. refl) (λ q. refl) (λ q. refl)

pub returns-clause-found : goal.returns-clause-found
returns-clause-found g c = (c.fetch_and.ensures.2 c.args.s.0 refl).0

pub returns-clause-event : goal.returns-clause-event
returns-clause-event g c = let u = c.fetch_and.ensures.2 c.args.s.0 refl in
    recorded_event (λ n. alert_p_raise_event n c.args.s.0) (λ q. record q { alerted = false }) _ _ c.me.inside.number _ _ c.me.inside.seat.me c.fetch_and.new.seat.me c.args.me.now (u.1, u.2, u.3) c.me.view_is c.fetch_and.ensures.0 c.me.invariant.numbered (λ q. refl) (λ q. refl) (λ q. refl)

pub returns-clause-cleared : goal.returns-clause-cleared
returns-clause-cleared g c = as_known (λ z m a. let k = known_as z c.me.inside.number m c.me.inside.entries.items (space_of c.me.inside.entries c.me.inside.lost) c.me.inside.next in k ≡ record a { part = record a.part { seen = k.seen; mine = k.mine; places = k.places; alerted = false; pen = made a.pen } }) _ _ _ _ _ c.me.inside.seat.me _ _ _ c.me.view_is c.fetch_and.ensures.0 (c.fetch_and.ensures.2 c.args.s.0 refl).3 refl
