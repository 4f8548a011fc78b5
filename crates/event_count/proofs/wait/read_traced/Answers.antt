use Rattle.std.proofs.Common.{◌≡◌, ℕ, Some, ap, sym, subst, ◌∙◌}
use Rattle.larch_actions.specs.declared.event.Event.{Event}
use Rattle.nub_rule.specs.Known.{Makes}
use Rattle.nub_rule.specs.Plays.{enqueue_event}
use Rattle.nub_rule.specs.Stored.{ComesNext}
use Rattle.nub.proofs.Without.{comes_next, stored_by}
use Rattle.nub.proofs.Making.{made_traced}
use Rattle.event_count.proofs.Steps.{begun_traced}
use Rattle.event_count.proofs.wait.read_traced.Goals as goal

some_event : (e d : Event) → Some e ≡ Some d → e ≡ d
some_event e d is = cc

pub end_event-requires-clause-last : goal.end_event-requires-clause-last
end_event-requires-clause-last g c κs within = λ traced d made.
    let e = c.beginning-e.result in
    let by = λ (n : ℕ). enqueue_event c.args.alertable n c.args.m.0 c.args.c.0 in
    let same = ap by (ap (λ k. k.number) c.begin_event.ensures.pen ∙ sym c.number.ensures) ∙ sym c.beginning-e.ensures in
    let begun = c.begin_wait-count.ensures.begun in
    let makes = subst (λ (x : Event). Makes x c.begin_event.new.me c.begin_wait-count.new.me) same c.begin_wait-count.ensures.event in
    subst (λ (x : Event). ComesNext x c.begin_wait-count.new.me) (some_event e d made)
    (comes_next c.args.p.now.traced c.args.me.now c.begin_event.new.me c.begin_wait-count.new.me e c.begin_event.ensures.pen c.begin_event.ensures.number makes (ap (λ k. k.next) begun) (ap (λ k. k.entries) begun) (ap (λ k. k.lost) begun) c.requires.stored traced)

pub returns : goal.returns
returns g c =
    let e = c.beginning-e.result in
    let old = c.args.me.now in
    let began = c.begin_event.new.me in
    let begun = c.begin_wait-count.new.me in
    let ended = c.end_event.new.me in
    let begin = c.begin_event.ensures in
    let did = c.begin_wait-count.ensures in
    let end = c.end_event.ensures in
    let pen = c.requires.outside.pen in
    let by = λ (n : ℕ). enqueue_event c.args.alertable n c.args.m.0 c.args.c.0 in
    let event = subst (λ (n : ℕ). Makes (by n) began begun) (ap (λ k. k.number) begin.pen) did.event in
    let makes = subst (λ (x : Event). Makes x began begun) (ap by (sym c.number.ensures) ∙ sym c.beginning-e.ensures) event in
    record {
      event = made_traced old began begun ended pen begin.pen end.rest (by old.number) event;
      begun = begun_traced old began begun ended pen begin.pen end.rest _ _ did.begun;
      stored = stored_by c.args.p.now.traced old began begun ended e begin.pen begin.traced begin.number makes (ap (λ k. k.next) did.begun) (ap (λ k. k.entries) did.begun) (ap (λ k. k.lost) did.begun) end.rest end.stored c.requires.stored;
    }
