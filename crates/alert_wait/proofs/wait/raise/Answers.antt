use Rattle.std.proofs.Common.{◌≡◌, ℕ, Some, ap, sym, subst, ◌∙◌}
use Rattle.larch_actions.specs.declared.event.Event.{Event}
use Rattle.nub_rule.specs.Known.{Makes}
use Rattle.nub_rule.specs.Plays.{alert_raise_event}
use Rattle.nub_rule.specs.Stored.{ComesNext}
use Rattle.nub.proofs.Without.{comes_next, stored_by}
use Rattle.alert_wait.proofs.wait.raise.Goals as goal

some_event : (e d : Event) → Some e ≡ Some d → e ≡ d
some_event e d is = cc

pub end_event-requires-clause-last : goal.end_event-requires-clause-last
end_event-requires-clause-last g c κs within = λ traced d made.
    let by = λ (n : ℕ). alert_raise_event n c.args.m.0 c.args.c.0 in
    let same = ap by (ap (λ k. k.number) c.begin_event.ensures.pen ∙ sym c.number.ensures) in
    let raised = c.swap_alert_in_raise.ensures.raised in
    let makes = subst (λ (x : Event). Makes x c.begin_event.new.me c.swap_alert_in_raise.new.me) same c.swap_alert_in_raise.ensures.event in
    subst (λ (x : Event). ComesNext x c.swap_alert_in_raise.new.me) (some_event (by c.number.result) d made)
    (comes_next c.args.p.now.traced c.args.me.now c.begin_event.new.me c.swap_alert_in_raise.new.me (by c.number.result) c.begin_event.ensures.pen c.begin_event.ensures.number makes (ap (λ k. k.next) raised) (ap (λ k. k.entries) raised) (ap (λ k. k.lost) raised) c.requires.stored traced)

pub returns-clause-stored : goal.returns-clause-stored
returns-clause-stored g c =
    let by = λ (n : ℕ). alert_raise_event n c.args.m.0 c.args.c.0 in
    let same = ap by (ap (λ k. k.number) c.begin_event.ensures.pen ∙ sym c.number.ensures) in
    let raised = c.swap_alert_in_raise.ensures.raised in
    let makes = subst (λ (x : Event). Makes x c.begin_event.new.me c.swap_alert_in_raise.new.me) same c.swap_alert_in_raise.ensures.event in
    stored_by c.args.p.now.traced c.args.me.now c.begin_event.new.me c.swap_alert_in_raise.new.me c.end_event.new.me (by c.number.result) c.begin_event.ensures.pen c.begin_event.ensures.traced c.begin_event.ensures.number makes (ap (λ k. k.next) raised) (ap (λ k. k.entries) raised) (ap (λ k. k.lost) raised) c.end_event.ensures.rest c.end_event.ensures.stored c.requires.stored
