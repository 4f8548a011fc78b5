use Rattle.std.proofs.Common.{◌≡◌, ◌∷◌, Some, true≢false, refl, ap, subst, sym, ◌∙◌}
use Rattle.larch_actions.specs.declared.event.Event.{Event}
use Rattle.larch_actions.specs.Sets.{without}
use Rattle.nub_rule.specs.Objects.{object_of}
use Rattle.nub_rule.specs.Parts.{made}
use Rattle.nub_rule.specs.Stored.{ComesNext}
use Rattle.nub.proofs.Without.{comes_next, stored_by}
use Rattle.nub.proofs.Making.{made_traced}
use Rattle.gate.proofs.Steps.{lost_traced, lost_untraced, more_from_test, taken_traced, won_traced, won_untraced, zero_from_test}
use Rattle.gate.proofs.take_bit.try_take.Goals as goal

some_event : (e d : Event) → Some e ≡ Some d → e ≡ d
some_event e d is = cc

pub end_event-requires-clause-last : goal.end_event-requires-clause-last
end_event-requires-clause-last g c κs within = λ traced d is.
    let won = c.try_gate-2.ensures.won c.if-try_gate-eq0.true in
    subst (λ (x : Event). ComesNext x c.try_gate-2.new.me) (some_event c.args.e d (ap (λ x. Some x) (sym c.built_anew.ensures) ∙ is)) (comes_next c.args.p.now.traced c.args.me.now c.begin_event.new.me c.try_gate-2.new.me c.args.e c.begin_event.ensures.pen c.begin_event.ensures.number (c.try_gate-2.ensures.event c.if-try_gate-eq0.true) (ap (λ k. k.next) won) (ap (λ k. k.entries) won) (ap (λ k. k.lost) won) c.requires.stored traced)

pub returns-then-try_gate-eq0-clause-stored : goal.returns-then-try_gate-eq0-clause-stored
returns-then-try_gate-eq0-clause-stored g c =
    let won = c.try_gate-2.ensures.won c.if-try_gate-eq0.true in
    stored_by c.args.p.now.traced c.args.me.now c.begin_event.new.me c.try_gate-2.new.me c.end_event.new.me c.args.e c.begin_event.ensures.pen c.begin_event.ensures.traced c.begin_event.ensures.number (c.try_gate-2.ensures.event c.if-try_gate-eq0.true) (ap (λ k. k.next) won) (ap (λ k. k.entries) won) (ap (λ k. k.lost) won) c.end_event.ensures.rest (λ x is. c.end_event.ensures.stored x (ap (λ y. Some y) c.built_anew.ensures ∙ is)) c.requires.stored

pub returns-then-not-traced-clause-lost : goal.returns-then-not-traced-clause-lost
returns-then-not-traced-clause-lost g c = λ test.
    let o = object_of c.args.at in
    let old = c.args.me.now in
    lost_untraced old c.try_gate.new.me (o ∷ old.failed) (without o old.turns) (c.try_gate.ensures.lost (more_from_test c.try_gate.result test))

pub returns-then-not-traced-clause-event : goal.returns-then-not-traced-clause-event
returns-then-not-traced-clause-event g c = λ test. c.try_gate.ensures.event (zero_from_test c.try_gate.result test)

pub returns-then-not-traced-clause-won : goal.returns-then-not-traced-clause-won
returns-then-not-traced-clause-won g c = λ test.
    let o = object_of c.args.at in
    let old = c.args.me.now in
    let pen = c.requires.outside.pen in
    won_untraced old c.try_gate.new.me (without o old.failed) (without o old.turns) (made old.pen) (ap made pen ∙ sym pen) (c.try_gate.ensures.won (zero_from_test c.try_gate.result test))

pub returns-then-not-traced-clause-taken : goal.returns-then-not-traced-clause-taken
returns-then-not-traced-clause-taken g c = λ test. c.try_gate.ensures.taken (zero_from_test c.try_gate.result test)

pub returns-then-try_gate-eq0-clause-lost : goal.returns-then-try_gate-eq0-clause-lost
returns-then-try_gate-eq0-clause-lost g c = λ e. absurd (true≢false e)

pub returns-then-try_gate-eq0-clause-event : goal.returns-then-try_gate-eq0-clause-event
returns-then-try_gate-eq0-clause-event g c = λ e.
    made_traced c.args.me.now c.begin_event.new.me c.try_gate-2.new.me c.end_event.new.me c.requires.outside.pen c.begin_event.ensures.pen c.end_event.ensures.rest c.args.e (c.try_gate-2.ensures.event c.if-try_gate-eq0.true)

pub returns-then-try_gate-eq0-clause-won : goal.returns-then-try_gate-eq0-clause-won
returns-then-try_gate-eq0-clause-won g c = λ e.
    let o = object_of c.args.at in
    won_traced c.args.me.now c.begin_event.new.me c.try_gate-2.new.me c.end_event.new.me c.requires.outside.pen c.begin_event.ensures.pen c.end_event.ensures.rest (without o) (without o) (made c.begin_event.new.me.pen) (c.try_gate-2.ensures.won c.if-try_gate-eq0.true)

pub returns-then-try_gate-eq0-clause-taken : goal.returns-then-try_gate-eq0-clause-taken
returns-then-try_gate-eq0-clause-taken g c = λ e.
    taken_traced c.args.me.now c.begin_event.new.me c.try_gate-2.new.me c.end_event.new.me c.requires.outside.pen c.begin_event.ensures.pen c.end_event.ensures.rest g.U.Uses.fits c.args.at (c.try_gate-2.ensures.taken c.if-try_gate-eq0.true)

pub returns-else-try_gate-eq0-clause-lost : goal.returns-else-try_gate-eq0-clause-lost
returns-else-try_gate-eq0-clause-lost g c = λ e.
    let o = object_of c.args.at in
    let ended = c.end_event-else-try_gate-eq0.ensures in
    lost_traced c.args.me.now c.begin_event.new.me c.try_gate-2.new.me c.end_event-else-try_gate-eq0.new.me c.requires.outside.pen c.begin_event.ensures.pen ended.rest (λ l. o ∷ l) (without o) (ended.none refl) (c.try_gate-2.ensures.lost c.if-try_gate-eq0.false)

pub returns-else-try_gate-eq0-clause-event : goal.returns-else-try_gate-eq0-clause-event
returns-else-try_gate-eq0-clause-event g c = λ e. absurd (true≢false (sym e))

pub returns-else-try_gate-eq0-clause-won : goal.returns-else-try_gate-eq0-clause-won
returns-else-try_gate-eq0-clause-won g c = λ e. absurd (true≢false (sym e))

pub returns-else-try_gate-eq0-clause-taken : goal.returns-else-try_gate-eq0-clause-taken
returns-else-try_gate-eq0-clause-taken g c = λ e. absurd (true≢false (sym e))
