use Rattle.std.proofs.Common.{ℕ, ap, sym, subst, ◌∙◌}
use Rattle.larch_actions.specs.declared.event.Event.{Event}
use Rattle.nub_rule.specs.Known.{Makes}
use Rattle.nub_rule.specs.Plays.{event}
use Rattle.nub.proofs.Without.{stored_by}
use Rattle.event_count.specs.Quiet.{quiet_action}
use Rattle.event_count.proofs.advance.looks_traced.Goals as goal

pub returns-clause-stored : goal.returns-clause-stored
returns-clause-stored g c =
    let b = c.begin_event.new.me in
    let a = c.looks.new.me in
    let e = c.quiet_event-e.result in
    let by = λ (n : ℕ). event n (quiet_action c.args.all c.args.c.0) in
    let quiet = c.looks.ensures.quiet c.if-looks.false in
    let same = ap by (sym (ap (λ k. k.number) quiet) ∙ sym c.number.ensures) ∙ sym c.quiet_event-e.ensures in
    let makes = subst (λ (x : Event). Makes x b a) same (c.looks.ensures.event c.if-looks.false) in
    stored_by c.args.p.now.traced c.args.me.now b a c.end_event-2.new.me e c.begin_event.ensures.pen c.begin_event.ensures.traced c.begin_event.ensures.number makes (ap (λ k. k.next) quiet) (ap (λ k. k.entries) quiet) (ap (λ k. k.lost) quiet) c.end_event-2.ensures.rest c.end_event-2.ensures.stored c.requires.stored
