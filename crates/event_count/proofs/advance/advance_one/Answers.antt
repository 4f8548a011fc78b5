use Rattle.std.proofs.Common.{◌≡◌, ◌+◌, ◌++◌, ◌∷◌, [], Some, true, List, ℕ, rules, ap, sym, subst, ◌∙◌}
use Rattle.larch_actions.specs.declared.event.Event.{Event}
use Rattle.larch_actions.specs.declared.event.Action.TheVariants.{Signal}
use Rattle.larch_actions.specs.Sets.{mem, without}
use Rattle.nub_rule.specs.Known.{Makes}
use Rattle.nub_rule.specs.Places.{cond_object, most_threads}
use Rattle.nub_rule.specs.Parts.{made}
use Rattle.nub_rule.specs.Plays.{tail_of}
use Rattle.nub.specs.Rest.{HasStored}
use Rattle.nub_rule.specs.Stored.{ComesNext}
use Rattle.nub.proofs.Without.{comes_next, mem_own, less_owed, first_small, stored_by}
use Rattle.event_count.proofs.Steps.{advanced_none, advanced_one, owes_as_before}
use Rattle.event_count.proofs.advance.advance_one.Given.{Over}
use Rattle.event_count.proofs.advance.advance_one.Goals.{After-end_event}
use Rattle.event_count.proofs.advance.advance_one.Goals as goal

-- the event was stored, where the thread has stored its events before
stored : (g : Over) (c : After-end_event g) → HasStored c.args.p.now.traced c.end_event.new.me
stored g c =
    let b = c.begin_event.new.me in
    let a = c.advance_signal-count.new.me in
    let left = c.advance_signal-count.result.1 in
    let e : Event = record { thread = record { 0 = c.number.result }; action = Signal record { 0 = c.args.c.0 } left } in
    let advanced = c.advance_signal-count.ensures.advanced in
    let number : b.number ≡ c.number.result = sym (ap (λ k. k.number) advanced) ∙ sym c.number.ensures in
    let makes = subst (λ (x : Event). Makes x b a) (λ j. record { thread = record { 0 = number j }; action = Signal record { 0 = c.args.c.0 } (sym c.advance_signal-count.ensures.left j) }) c.advance_signal-count.ensures.event in
    stored_by c.args.p.now.traced c.enter_below.new.me b a c.end_event.new.me e c.begin_event.ensures.pen c.begin_event.ensures.traced c.begin_event.ensures.number makes (ap (λ k. k.next) advanced) (ap (λ k. k.entries) advanced) (ap (λ k. k.lost) advanced) c.end_event.ensures.rest c.end_event.ensures.stored
    (subst (λ k. HasStored c.args.p.now.traced k) (sym c.enter_below.ensures.inside) c.requires.stored)

some_event : (e d : Event) → Some e ≡ Some d → e ≡ d
some_event e d is = cc

pub end_event-requires-clause-last : goal.end_event-requires-clause-last
end_event-requires-clause-last g c κs within = λ traced d is.
    let b = c.begin_event.new.me in
    let a = c.advance_signal-count.new.me in
    let left = c.advance_signal-count.result.1 in
    let e : Event = record { thread = record { 0 = c.number.result }; action = Signal record { 0 = c.args.c.0 } left } in
    let advanced = c.advance_signal-count.ensures.advanced in
    let number : b.number ≡ c.number.result = sym (ap (λ k. k.number) advanced) ∙ sym c.number.ensures in
    let makes = subst (λ (x : Event). Makes x b a) (λ j. record { thread = record { 0 = number j }; action = Signal record { 0 = c.args.c.0 } (sym c.advance_signal-count.ensures.left j) }) c.advance_signal-count.ensures.event in
    subst (λ (x : Event). ComesNext x a) (some_event e d is)
    (comes_next c.args.p.now.traced c.enter_below.new.me b a e c.begin_event.ensures.pen c.begin_event.ensures.number makes (ap (λ k. k.next) advanced) (ap (λ k. k.entries) advanced) (ap (λ k. k.lost) advanced)
    (subst (λ k. HasStored c.args.p.now.traced k) (sym c.enter_below.ensures.inside) c.requires.stored) traced)

pub wake_from_condition-requires-clause-owed : goal.wake_from_condition-requires-clause-owed
wake_from_condition-requires-clause-owed g c κs within =
    let t = c.in-Some.t.0 in
    let first = c.pop.ensures.first c.in-Some.t c.in-Some.is in
    let none : c.end_event.new.me.owed ≡ [] = search rules in
    let owed : c.pop.new.me.owed ≡ t ∷ [] = first.1 ∙ ap (λ (l : List ℕ). l ++ t ∷ []) none in
    subst (λ (l : List ℕ). mem t l ≡ true) (sym owed) (mem_own t [])

pub wake_from_condition-requires-clause-named : goal.wake_from_condition-requires-clause-named
wake_from_condition-requires-clause-named g c κs within =
    let first = c.pop.ensures.first c.in-Some.t c.in-Some.is in
    let same : c.enter_below.new.me.queue ≡ c.end_event.new.me.queue = search rules in
    first_small most_threads c.in-Some.t.0 (tail_of c.end_event.new.me.queue) c.enter_below.new.me.queue (same ∙ first.0) c.enter_below.ensures.small

pub leave-requires-clause-owes_none : goal.leave-requires-clause-owes_none
leave-requires-clause-owes_none g c κs within =
    let t = c.in-Some.t.0 in
    let first = c.pop.ensures.first c.in-Some.t c.in-Some.is in
    let none : c.end_event.new.me.owed ≡ [] = search rules in
    let owed : c.pop.new.me.owed ≡ t ∷ [] = first.1 ∙ ap (λ (l : List ℕ). l ++ t ∷ []) none in
    ap (λ k. k.owed) c.wake_from_condition.ensures ∙ less_owed t c.pop.new.me.owed owed

pub returns-in-Some-clause-rest : goal.returns-in-Some-clause-rest
returns-in-Some-clause-rest g c =
    let t = c.in-Some.t.0 in
    let i = c.enter_below.new.me in
    let b = c.begin_event.new.me in
    let a = c.advance_signal-count.new.me in
    let e = c.end_event.new.me in
    let outside = c.requires.outside in
    let below = c.enter_below.ensures.inside in
    let advances = c.advance_signal-count.ensures.advanced in
    let first = c.pop.ensures.first c.in-Some.t c.in-Some.is in
    let none : e.owed ≡ [] = owes_as_before (cond_object c.args.c.0) c.args.me.now i b a e (tail_of b.queue) (b.count + 1) (made b.pen) below c.begin_event.ensures.pen advances c.end_event.ensures.rest ∙ outside.owed in
    let owed : c.pop.new.me.owed ≡ t ∷ [] = first.1 ∙ ap (λ (l : List ℕ). l ++ t ∷ []) none in
    let gone : c.wake_from_condition.new.me.owed ≡ [] = ap (λ k. k.owed) c.wake_from_condition.ensures ∙ less_owed t c.pop.new.me.owed owed in
    advanced_one (cond_object c.args.c.0) c.args.me.now i b a e (tail_of b.queue) (b.count + 1) (made b.pen) below c.begin_event.ensures.pen advances c.end_event.ensures.rest c.leave.new.me outside.spin outside.queue outside.left outside.pen
    c.pop.new.me c.wake_from_condition.new.me (tail_of e.queue) (without t c.pop.new.me.owed) (c.pop.ensures.cond tt) c.wake_from_condition.ensures c.leave.ensures gone outside.owed

pub returns-in-None-clause-rest : goal.returns-in-None-clause-rest
returns-in-None-clause-rest g c =
    let b = c.begin_event.new.me in
    let outside = c.requires.outside in
    advanced_none (cond_object c.args.c.0) c.args.me.now c.enter_below.new.me b c.advance_signal-count.new.me c.end_event.new.me (tail_of b.queue) (b.count + 1) (made b.pen) c.enter_below.ensures.inside c.begin_event.ensures.pen c.advance_signal-count.ensures.advanced c.end_event.ensures.rest c.leave-in-None.new.me outside.spin outside.queue outside.left outside.pen
    c.pop.new.me (tail_of c.end_event.new.me.queue) (c.pop.ensures.cond tt) (c.pop.ensures.owes c.in-None.is) c.leave-in-None.ensures

pub returns-in-Some-clause-stored : goal.returns-in-Some-clause-stored
returns-in-Some-clause-stored g c = let s = stored g (goal.at.returns-in-Some-clause-stored g c).After-end_event in
    subst (λ k. HasStored c.args.p.now.traced k) (sym c.leave.ensures) (subst (λ k. HasStored c.args.p.now.traced k) (sym c.wake_from_condition.ensures) (subst (λ k. HasStored c.args.p.now.traced k) (sym (c.pop.ensures.cond tt)) s))

pub returns-in-None-clause-stored : goal.returns-in-None-clause-stored
returns-in-None-clause-stored g c = let s = stored g (goal.at.returns-in-None-clause-stored g c).After-end_event in
    subst (λ k. HasStored c.args.p.now.traced k) (sym c.leave-in-None.ensures) (subst (λ k. HasStored c.args.p.now.traced k) (sym (c.pop.ensures.cond tt)) s)
