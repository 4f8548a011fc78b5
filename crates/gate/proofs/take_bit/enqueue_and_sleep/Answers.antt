use Rattle.std.proofs.Common.{◌≡◌, false, true, true≢false, Some, refl, rules, ap, ◌∙◌}
use Rattle.larch_actions.specs.Sets.{mem, without}
use Rattle.nub_rule.specs.Objects.{object_of}
use Rattle.nub_rule.specs.declared.view.Stand.{Stand}
use Rattle.nub_rule.specs.declared.view.Stage.TheVariants.{Alerted, Pushed, Clear, Tested}
use Rattle.nub_rule.specs.Parts.{left_turns, staged}
use Rattle.nub_rule.specs.Plays.{less}
use Rattle.nub.proofs.Knowing.{hears_at_gate}
use Rattle.gate.proofs.Queueing.{by_answer, slept, went_on, woken, woken_turns}
use Rattle.nub.proofs.Without.{mem_last, without_own}
use Rattle.nub_rule.proofs.Gating.{leave-gate, left-gate, push-gate}
use Rattle.gate.proofs.take_bit.enqueue_and_sleep.Goals as goal

pub push-requires-clause-may : goal.push-requires-clause-may
push-requires-clause-may g c κs within = push-gate c.args.at c.enter.new.me c.requires.gate

pub test_again-requires-clause-untested : goal.test_again-requires-clause-untested
test_again-requires-clause-untested g c κs within = (record { at = object_of c.args.at; stage = Pushed }, ap (λ k. k.stand) (c.push.ensures.gate c.requires.gate), (search rules, tt))

pub remove-requires-clause-may : goal.remove-requires-clause-may
remove-requires-clause-may g c κs within =
    let clear = c.test_again.ensures.clear c.if-test_again-eq0.true in
    leave-gate c.args.at c.test_again.new.me c.requires.gate
    (record { at = object_of c.args.at; stage = Clear }, ap (λ k. k.stand) clear ∙ ap (λ k. staged Clear k.stand) (c.push.ensures.gate c.requires.gate), (refl, tt))

pub sleep-requires-clause-tested : goal.sleep-requires-clause-tested
sleep-requires-clause-tested g c κs within = (record { at = object_of c.args.at; stage = Tested }, search rules, tt)

pub sleep-requires-clause-heard : goal.sleep-requires-clause-heard
sleep-requires-clause-heard g c κs within =
    hears_at_gate c.leave-else-test_again-eq0.new.me c.args.alertable (record { at = object_of c.args.at; stage = Tested }) (search rules) (c.test_again.ensures.low c.requires.gate)

pub returns-then-test_again-eq0 : goal.returns-then-test_again-eq0
returns-then-test_again-eq0 g c =
    let o = object_of c.args.at in
    let i = c.enter.new.me in
    let t = c.test_again.new.me in
    let outside = c.requires.outside in
    let pushed = c.push.ensures.gate c.requires.gate in
    let clear = c.test_again.ensures.clear c.if-test_again-eq0.true in
    let there : c.remove.result ≡ true = c.remove.ensures.there ∙ (ap (λ k. mem k.number k.queue) clear ∙ (ap (λ k. mem k.number k.queue) pushed ∙ mem_last i.number i.queue)) in
    let out = left-gate c.args.at t c.remove.new.me c.requires.gate (c.remove.ensures.out there) in
    let stood = ap (λ k. k.stand) clear ∙ ap (λ k. staged Clear k.stand) pushed in
    let turn = ap (λ z. left_turns z t.turns) stood in
    record {
      plain = λ _. refl;
      rest = went_on o c.args.me.now i c.leave.new.me c.enter.ensures.inside outside.spin outside.queue outside.owed outside.left c.push.new.me t _ _ (Some record { at = o; stage = Pushed }) (staged Clear c.push.new.me.stand) pushed clear
          c.remove.new.me (less t.number t.queue) (less t.number t.left) (left_turns t.stand t.turns) out c.leave.ensures;
      turns = ap (λ k. without o k.turns) c.leave.ensures ∙ (ap (λ k. without o k.turns) out ∙ (ap (without o) turn ∙ (without_own o t.turns ∙ (ap (λ k. without o k.turns) clear ∙ (ap (λ k. without o k.turns) pushed ∙ ap (λ k. without o k.turns) c.enter.ensures.inside)))));
      goes_on = λ _. (ap (λ k. k.stand) c.leave.ensures ∙ ap (λ k. k.stand) out, ap (λ k. k.alerted) c.leave.ensures ∙ (ap (λ k. k.alerted) out ∙ (ap (λ k. k.alerted) clear ∙ (ap (λ k. k.alerted) pushed ∙ ap (λ k. k.alerted) c.enter.ensures.inside))));
      alerted = λ e. absurd (true≢false e);
      stays = λ e. absurd (true≢false e);
    }

pub returns-else-test_again-eq0 : goal.returns-else-test_again-eq0
returns-else-test_again-eq0 g c =
    let o = object_of c.args.at in
    let i = c.enter.new.me in
    let t = c.test_again.new.me in
    let l = c.leave-else-test_again-eq0.new.me in
    let z = c.sleep.new.me in
    let outside = c.requires.outside in
    let pushed = c.push.ensures.gate c.requires.gate in
    let tested = c.test_again.ensures.tested c.if-test_again-eq0.false in
    let left = c.leave-else-test_again-eq0.ensures in
    let s : Stand = record { at = o; stage = Tested } in
    let stands : l.stand ≡ Some s = ap (λ k. k.stand) left ∙ (ap (λ k. k.stand) tested ∙ ap (λ k. staged Tested k.stand) pushed) in
    let woke = λ (e : c.sleep.result ≡ true). woken l z o (c.sleep.ensures.is_new e s stands) (c.sleep.ensures.at_cond e s stands) in
    let turns = ap (λ k. k.turns) left ∙ (ap (λ k. k.turns) tested ∙ (ap (λ k. k.turns) pushed ∙ ap (λ k. k.turns) c.enter.ensures.inside)) in
    let alerted = ap (λ k. k.alerted) left ∙ (ap (λ k. k.alerted) tested ∙ (ap (λ k. k.alerted) pushed ∙ ap (λ k. k.alerted) c.enter.ensures.inside)) in
    record {
      plain = c.sleep.ensures.plain;
      rest = slept o c.args.me.now i z c.enter.ensures.inside outside.spin outside.queue outside.owed outside.left c.push.new.me t _ _ (Some record { at = o; stage = Pushed }) (staged Tested c.push.new.me.stand) pushed tested
          l c.sleep.result left woke c.sleep.ensures.alerted;
      turns = by_answer c.sleep.result
          (λ e. woken_turns l z o (c.sleep.ensures.is_new e s stands) (c.sleep.ensures.at_cond e s stands) ∙ ap (without o) turns)
          (λ e. ap (λ k. without o k.turns) (c.sleep.ensures.alerted e) ∙ ap (without o) turns);
      goes_on = λ e. (ap (λ k. k.stand) (woke e), ap (λ k. k.alerted) (woke e) ∙ alerted);
      alerted = λ e. ((record { at = o; stage = Alerted }, ap (λ k. k.stand) (c.sleep.ensures.alerted e) ∙ ap (staged Alerted) stands, (refl, tt)), ap (λ k. k.alerted) (c.sleep.ensures.alerted e));
      stays = λ e. ap (λ k. k.turns) (c.sleep.ensures.alerted e) ∙ turns;
    }
