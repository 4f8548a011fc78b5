use Rattle.std.proofs.Common.{ℕ, ap, sym, subst, ◌∙◌}
use Rattle.larch_actions.specs.declared.event.Event.{Event}
use Rattle.nub_rule.specs.Known.{Makes}
use Rattle.nub_rule.specs.Plays.{alert_p_raise_event}
use Rattle.nub.proofs.Without.{stored_by}
use Rattle.alert_wait.proofs.sem.raise.Goals as goal

pub returns-clause-stored : goal.returns-clause-stored
returns-clause-stored g c =
    let by = λ (n : ℕ). alert_p_raise_event n c.args.s.0 in
    let same = ap by (ap (λ k. k.number) c.begin_event.ensures.pen ∙ sym c.number.ensures) in
    let made = c.swap_alert_in_p.ensures.cleared in
    let makes = subst (λ (x : Event). Makes x c.begin_event.new.me c.swap_alert_in_p.new.me) same c.swap_alert_in_p.ensures.event in
    stored_by c.args.p.now.traced c.args.me.now c.begin_event.new.me c.swap_alert_in_p.new.me c.end_event.new.me (by c.number.result) c.begin_event.ensures.pen c.begin_event.ensures.traced c.begin_event.ensures.number makes (ap (λ k. k.next) made) (ap (λ k. k.entries) made) (ap (λ k. k.lost) made) c.end_event.ensures.rest c.end_event.ensures.stored c.requires.stored
