use Rattle.std.proofs.Common.{arith, ◌≡◌, ℕ, rules, ap, sym, subst, ◌∙◌}
use Rattle.larch_actions.specs.declared.event.Event.{Event}
use Rattle.nub_rule.specs.Known.{Makes}
use Rattle.nub_rule.specs.Plays.{join_event}
use Rattle.nub.proofs.Without.{stored_by}
use Rattle.nub.proofs.forking.try_join.Goals as goal

pub returns-then-read_life-eq2-clause-rest : goal.returns-then-read_life-eq2-clause-rest
returns-then-read_life-eq2-clause-rest g c =
    let by = λ (n : ℕ). join_event n c.args.who.0 in
    let same = ap by (ap (λ k. k.number) c.begin_event.ensures.pen ∙ sym c.number.ensures) in
    let made = c.read_life.ensures.joined c.if-read_life-eq2.true in
    let makes = subst (λ (x : Event). Makes x c.begin_event.new.me c.read_life.new.me) same (c.read_life.ensures.event c.if-read_life-eq2.true) in
    record {
      of = search rules;
      named = let e : c.end_event.new.me.number ≡ c.args.me.now.number = search rules in let low = c.requires.rest.named in omega arith;
      outside = record { spin = search rules; queue = search rules; owed = search rules; left = search rules; stand = search rules; pen = search rules; live = search rules };
      wait = search rules;
      raised = search rules;
      calling = search rules;
      turns = search rules;
      cleared = search rules;
      looked = search rules;
      taken = search rules;
      stored = stored_by c.args.p.now.traced c.args.me.now c.begin_event.new.me c.read_life.new.me c.end_event.new.me (by c.number.result) c.begin_event.ensures.pen c.begin_event.ensures.traced c.begin_event.ensures.number makes (ap (λ k. k.next) made) (ap (λ k. k.entries) made) (ap (λ k. k.lost) made) c.end_event.ensures.rest c.end_event.ensures.stored c.requires.rest.stored;
      child = search rules;
      version = search rules;
    }
