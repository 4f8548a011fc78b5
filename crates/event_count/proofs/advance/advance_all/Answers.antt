use Rattle.std.proofs.Common.{◌≡◌, ◌+◌, [], List, ℕ, Some, rules, ap, sym, subst, ◌∙◌}
use Rattle.larch_actions.specs.declared.event.Event.{Event}
use Rattle.nub_rule.specs.Items.{Small}
use Rattle.nub_rule.specs.Known.{Makes}
use Rattle.nub_rule.specs.Places.{cond_object, most_threads}
use Rattle.nub_rule.specs.Parts.{made}
use Rattle.nub_rule.specs.Plays.{event, broadcast_action}
use Rattle.nub.specs.Rest.{HasStored}
use Rattle.nub_rule.specs.Stored.{ComesNext}
use Rattle.nub.proofs.Without.{comes_next, stored_by}
use Rattle.event_count.proofs.Steps.{advanced_all}
use Rattle.event_count.proofs.advance.advance_all.Goals as goal

pub wake_all-requires-clause-small : goal.wake_all-requires-clause-small
wake_all-requires-clause-small g c κs within = let same : c.enter_below.new.me.queue ≡ c.end_event.new.me.queue = search rules in subst (λ (l : List ℕ). Small most_threads l) same c.enter_below.ensures.small

some_event : (e d : Event) → Some e ≡ Some d → e ≡ d
some_event e d is = cc

pub end_event-requires-clause-last : goal.end_event-requires-clause-last
end_event-requires-clause-last g c κs within = λ traced d is.
    let b = c.begin_event.new.me in
    let a = c.advance_broadcast.new.me in
    let by = λ (n : ℕ). event n (broadcast_action c.args.c.0 []) in
    let advanced = c.advance_broadcast.ensures.advanced in
    let number : b.number ≡ c.number.result = sym (ap (λ k. k.number) advanced) ∙ sym c.number.ensures in
    let makes = subst (λ (x : Event). Makes x b a) (ap by number) c.advance_broadcast.ensures.event in
    subst (λ (x : Event). ComesNext x a) (some_event (by c.number.result) d is)
    (comes_next c.args.p.now.traced c.enter_below.new.me b a (by c.number.result) c.begin_event.ensures.pen c.begin_event.ensures.number makes (ap (λ k. k.next) advanced) (ap (λ k. k.entries) advanced) (ap (λ k. k.lost) advanced)
    (subst (λ k. HasStored c.args.p.now.traced k) (sym c.enter_below.ensures.inside) c.requires.stored) traced)

pub returns-clause-stored : goal.returns-clause-stored
returns-clause-stored g c =
    let b = c.begin_event.new.me in
    let a = c.advance_broadcast.new.me in
    let by = λ (n : ℕ). event n (broadcast_action c.args.c.0 []) in
    let advanced = c.advance_broadcast.ensures.advanced in
    let number : b.number ≡ c.number.result = sym (ap (λ k. k.number) advanced) ∙ sym c.number.ensures in
    let makes = subst (λ (x : Event). Makes x b a) (ap by number) c.advance_broadcast.ensures.event in
    let s = stored_by c.args.p.now.traced c.enter_below.new.me b a c.end_event.new.me (by c.number.result) c.begin_event.ensures.pen c.begin_event.ensures.traced c.begin_event.ensures.number makes (ap (λ k. k.next) advanced) (ap (λ k. k.entries) advanced) (ap (λ k. k.lost) advanced) c.end_event.ensures.rest c.end_event.ensures.stored in
    subst (λ k. HasStored c.args.p.now.traced k) (sym c.leave.ensures) (subst (λ k. HasStored c.args.p.now.traced k) (sym c.wake_all.ensures) (s (subst (λ k. HasStored c.args.p.now.traced k) (sym c.enter_below.ensures.inside) c.requires.stored)))

pub returns-clause-rest : goal.returns-clause-rest
returns-clause-rest g c =
    let b = c.begin_event.new.me in
    let outside = c.requires.outside in
    advanced_all (cond_object c.args.c.0) c.args.me.now c.enter_below.new.me b c.advance_broadcast.new.me c.end_event.new.me [] (b.count + 1) (made b.pen) c.enter_below.ensures.inside c.begin_event.ensures.pen c.advance_broadcast.ensures.advanced c.end_event.ensures.rest c.leave.new.me outside.spin outside.queue outside.left outside.pen
    c.wake_all.new.me c.wake_all.ensures c.leave.ensures
