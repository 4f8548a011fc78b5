use Rattle.std.proofs.Common.{◌≡◌, Some, ap, sym, subst, ◌∙◌}
use Rattle.larch_actions.specs.declared.event.Event.{Event}
use Rattle.gate.specs.Gates.{clears}
use Rattle.nub_rule.specs.Known.{Makes}
use Rattle.nub_rule.specs.Stored.{ComesNext}
use Rattle.nub.proofs.Without.{comes_next, stored_by}
use Rattle.gate.proofs.clear_bit.clear_traced.Goals as goal

some_event : (e d : Event) → Some e ≡ Some d → e ≡ d
some_event e d is = cc

pub end_event-requires-clause-last : goal.end_event-requires-clause-last
end_event-requires-clause-last g c κs within = λ traced d made.
    let e = c.clearing-e.result in
    let same = ap (clears c.args.at) (ap (λ k. k.number) c.begin_event.ensures.pen) ∙ sym (c.clearing-e.ensures ∙ ap (clears c.args.at) c.number.ensures) in
    let makes = subst (λ (x : Event). Makes x c.begin_event.new.me c.clear_gate.new.me) same c.clear_gate.ensures.event in
    let rest = c.clear_gate.ensures.rest in
    subst (λ (x : Event). ComesNext x c.clear_gate.new.me) (some_event e d made) (comes_next c.args.p.now.traced c.args.me.now c.begin_event.new.me c.clear_gate.new.me e c.begin_event.ensures.pen c.begin_event.ensures.number makes (ap (λ k. k.next) rest) (ap (λ k. k.entries) rest) (ap (λ k. k.lost) rest) c.requires.stored traced)

pub returns-clause-stored : goal.returns-clause-stored
returns-clause-stored g c =
    let e = c.clearing-e.result in
    let same = ap (clears c.args.at) (ap (λ k. k.number) c.begin_event.ensures.pen) ∙ sym (c.clearing-e.ensures ∙ ap (clears c.args.at) c.number.ensures) in
    let makes = subst (λ (x : Event). Makes x c.begin_event.new.me c.clear_gate.new.me) same c.clear_gate.ensures.event in
    stored_by c.args.p.now.traced c.args.me.now c.begin_event.new.me c.clear_gate.new.me c.end_event.new.me e c.begin_event.ensures.pen c.begin_event.ensures.traced c.begin_event.ensures.number makes (ap (λ k. k.next) c.clear_gate.ensures.rest) (ap (λ k. k.entries) c.clear_gate.ensures.rest) (ap (λ k. k.lost) c.clear_gate.ensures.rest) c.end_event.ensures.rest c.end_event.ensures.stored c.requires.stored
