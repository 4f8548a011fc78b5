use Rattle.std.proofs.Common.{◌≡◌, rules, arith, ap, sym, subst, ◌∙◌}
use Rattle.larch_actions.specs.declared.event.Event.{Event}
use Rattle.nub_rule.specs.Known.{Makes}
use Rattle.nub_rule.specs.Plays.{end_event}
use Rattle.nub.specs.Rest.{HasStored}
use Rattle.nub.proofs.Begun.{adds_within, nothing_at_rest}
use Rattle.nub.proofs.Without.{stored_by}
use Rattle.nub.proofs.forking.end_thread.Given.{Over}
use Rattle.nub.proofs.forking.end_thread.Goals.{After-end_event}
use Rattle.nub.proofs.forking.end_thread.Goals as goal

stored : (g : Over) (c : After-end_event g) → HasStored c.args.p.now.traced c.end_event.new.me
stored g c =
    let same = ap end_event (ap (λ k. k.number) c.begin_event.ensures.pen ∙ sym c.number.ensures) in
    let made = c.end_life.ensures.ended in
    let makes = subst (λ (x : Event). Makes x c.begin_event.new.me c.end_life.new.me) same c.end_life.ensures.event in
    stored_by c.args.p.now.traced c.args.me c.begin_event.new.me c.end_life.new.me c.end_event.new.me (end_event c.number.result) c.begin_event.ensures.pen c.begin_event.ensures.traced c.begin_event.ensures.number makes (ap (λ k. k.next) made) (ap (λ k. k.entries) made) (ap (λ k. k.lost) made) c.end_event.ensures.rest c.end_event.ensures.stored c.requires.rest.stored

pub end_life-requires-clause-nothing : goal.end_life-requires-clause-nothing
end_life-requires-clause-nothing g c κs within = nothing_at_rest c.args.p.now c.args.me c.begin_event.new.me c.begin_event.ensures.pen c.requires.rest c.requires.none

pub end_life-requires-clause-childless : goal.end_life-requires-clause-childless
end_life-requires-clause-childless g c κs within = ap (λ k. k.child) c.begin_event.ensures.pen ∙ c.requires.rest.child

pub returns-clause-event : goal.returns-clause-event
returns-clause-event g c =
    let b = c.begin_event.new.me in
    let n = ap (λ k. k.number) c.begin_event.ensures.pen in
    let makes = subst (λ (x : Event). Makes x b c.end_life.new.me) (ap end_event n) c.end_life.ensures.event in
    adds_within (end_event c.args.me.number) c.args.me b c.end_life.new.me c.of.result n (search rules) (search rules) makes (search rules) (search rules) (search rules) (search rules)

pub returns-clause-left : goal.returns-clause-left
returns-clause-left g c = record { of = search rules; named = let e : c.of.result.number ≡ c.args.me.number = search rules in let low = c.requires.rest.named in omega arith; stored = subst (HasStored c.args.p.now.traced) (sym c.of.ensures) (stored g (goal.at.returns-clause-left g c).After-end_event) }
