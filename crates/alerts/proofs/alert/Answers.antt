use Rattle.std.proofs.Common.{arith, ◌≡◌, ℕ, rules, ap, sym, subst, ◌∙◌}
use Rattle.larch_actions.specs.declared.event.Event.{Event}
use Rattle.nub_rule.specs.Known.{Makes}
use Rattle.nub_rule.specs.Plays.{alert_event}
use Rattle.nub.specs.Rest.{AtRest, HasStored}
use Rattle.nub.proofs.Holding.{keeps}
use Rattle.nub.proofs.Users.{idle_again}
use Rattle.nub.proofs.Without.{stored_by}
use Rattle.alerts.proofs.alert.Given.{Over}
use Rattle.alerts.proofs.alert.Goals.{After-end_event}
use Rattle.alerts.proofs.alert.Goals as goal

stored : (g : Over) (c : After-end_event g) → HasStored c.args.p.now.traced c.end_event.new.me
stored g c =
    let by = λ (n : ℕ). alert_event n c.args.t.0 in
    let same = ap by (ap (λ k. k.number) c.begin_event.ensures.pen ∙ sym c.number.ensures) in
    let made = c.or_alert.ensures.alerted in
    let makes = subst (λ (x : Event). Makes x c.begin_event.new.me c.or_alert.new.me) same c.or_alert.ensures.event in
    stored_by c.args.p.now.traced c.args.me.now c.begin_event.new.me c.or_alert.new.me c.end_event.new.me (by c.number.result) c.begin_event.ensures.pen c.begin_event.ensures.traced c.begin_event.ensures.number makes (ap (λ k. k.next) made) (ap (λ k. k.entries) made) (ap (λ k. k.lost) made) c.end_event.ensures.rest c.end_event.ensures.stored c.requires.rest.stored

rest : (g : Over) (c : After-end_event g) → AtRest c.args.p.now c.end_event.new.me
rest g c = record {
  of = search rules;
  named = let e : c.end_event.new.me.number ≡ c.args.me.now.number = search rules in let low = c.requires.rest.named in omega arith;
  outside = record { spin = search rules; queue = search rules; owed = search rules; left = search rules; stand = search rules; pen = search rules; live = search rules };
  wait = search rules;
  raised = search rules;
  calling = search rules;
  turns = search rules;
  cleared = search rules;
  looked = search rules;
  child = search rules;
  version = search rules;
  taken = search rules;
  stored = stored g c;
}

pub returns-clause-rest : goal.returns-clause-rest
returns-clause-rest g c = rest g (goal.at.returns-clause-rest g c).After-end_event

pub returns-clause-idle : goal.returns-clause-idle
returns-clause-idle g c = let a = (goal.at.returns-clause-idle g c).After-end_event in
    λ n s i. idle_again c.args.p.now n s s c.args.me.now c.end_event.new.me i (rest g a) record { number = search rules; world = search rules } (search rules) (search rules)

pub returns-clause-holding : goal.returns-clause-holding
returns-clause-holding g c = let a = (goal.at.returns-clause-holding g c).After-end_event in
    λ n m s x i. keeps c.args.p.now n m s x c.args.me.now c.end_event.new.me i (rest g a) record { number = search rules; world = search rules } (search rules) (search rules)
