use Rattle.std.proofs.Common.{ℕ, None, Some, true, true≢false, [], ◌≡◌, inl, refl, sym, ap, ◌∙◌}
use Rattle.larch_actions.specs.Sets.{without}
use Rattle.nub_rule.specs.declared.view.Wait.{Wait}
use Rattle.nub_rule.specs.declared.view.Stage.TheVariants.{Alerted, Tested}
use Rattle.nub_rule.specs.Parts.{staged}
use Rattle.nub_rule.specs.Places.{cond_object}
use Rattle.nub_rule.specs.Plays.{unread}
use Rattle.nub.proofs.Without.{without_twice}
use Rattle.event_count.proofs.Steps.{left_at_once}
use Rattle.event_count.proofs.wait.block.Goals as goal

same_wait : (w x : Wait) → Some w ≡ Some x → w ≡ x
same_wait w x is = cc

pub push-requires-clause-may : goal.push-requires-clause-may
push-requires-clause-may g c κs within =
    let waits = c.requires.waits in
    let same = c.if-compare_count-count.false in
    let stood = c.compare_count.ensures.stands same in
    (waits.0, ap (λ k. k.wait) stood ∙ (ap (λ k. k.wait) c.enter.ensures.inside ∙ waits.1), waits.2, waits.3 ∙ ap (λ (n : ℕ). Some n) (sym same ∙ (c.compare_count.ensures.count ∙ sym (ap (λ k. k.count) stood))))

pub sleep-requires-clause-tested : goal.sleep-requires-clause-tested
sleep-requires-clause-tested g c κs within = (record { at = cond_object c.args.c.0; stage = Tested }, ap (λ k. k.stand) c.leave-2.ensures ∙ ap (λ k. k.stand) (c.push.ensures.cond tt), tt)

pub sleep-requires-clause-heard : goal.sleep-requires-clause-heard
sleep-requires-clause-heard g c κs within =
    let waits = c.requires.waits in
    let stood = c.compare_count.ensures.stands c.if-compare_count-count.false in
    let wait = ap (λ k. k.wait) c.leave-2.ensures ∙ (ap (λ k. k.wait) (c.push.ensures.cond tt) ∙ (ap (λ k. unread k.wait) stood ∙ (ap (λ k. unread k.wait) c.enter.ensures.inside ∙ ap unread waits.1))) in
    λ x s is of_alerts stands here. inl (sym waits.4 ∙ (ap (λ (w : Wait). w.alertable) (same_wait (record waits.0 { member = None }) x (sym wait ∙ is)) ∙ of_alerts))

pub withdraw-requires-clause-alerted : goal.withdraw-requires-clause-alerted
withdraw-requires-clause-alerted g c κs within =
    let asleep = c.sleep.ensures.alerted c.if-sleep.false in (
      (
        record { at = cond_object c.args.c.0; stage = Alerted },
        ap (λ k. k.stand) asleep ∙ (ap (λ k. staged Alerted k.stand) c.leave-2.ensures ∙ ap (λ k. staged Alerted k.stand) (c.push.ensures.cond tt)),
        (refl, tt),
      ),
      ap (λ k. k.alerted) asleep,
    )

pub withdraw-requires-clause-may : goal.withdraw-requires-clause-may
withdraw-requires-clause-may g c κs within =
    let waits = c.requires.waits in
    let stood = c.compare_count.ensures.stands c.if-compare_count-count.false in
    let asleep = c.sleep.ensures.alerted c.if-sleep.false in (
      record waits.0 { member = None },
      ap (λ k. k.wait) asleep ∙ (ap (λ k. k.wait) c.leave-2.ensures ∙ (ap (λ k. k.wait) (c.push.ensures.cond tt) ∙ (ap (λ k. unread k.wait) stood ∙ (ap (λ k. unread k.wait) c.enter.ensures.inside ∙ ap unread waits.1)))),
      waits.2,
    )

pub returns-then-compare_count-count : goal.returns-then-compare_count-count
returns-then-compare_count-count g c =
    let out = c.requires.outside in
    let moved = c.compare_count.ensures.moved c.if-compare_count-count.true in
    let inside = c.enter.ensures.inside in
    let leaves = c.leave.ensures in
    record {
      plain = λ not. refl;
      rest = left_at_once (cond_object c.args.c.0) c.args.me.now c.enter.new.me c.compare_count.new.me c.leave.new.me (out.spin, out.queue, out.owed, out.left) inside leaves _ moved;
      out = λ is. ap (λ k. k.wait) leaves ∙ (ap (λ k. k.wait) moved ∙ ap (λ k. unread k.wait) inside);
      left = λ is. absurd (true≢false is);
      alerted = λ is. absurd (true≢false is);
      same = λ not. ap (λ k. k.alerted) leaves ∙ (ap (λ k. k.alerted) moved ∙ ap (λ k. k.alerted) inside);
    }

pub returns-clause-rest : goal.returns-clause-rest
returns-clause-rest g c =
    let o = cond_object c.args.c.0 in
    let old = c.args.me.now in
    let new = c.withdraw.new.me in
    let out = c.requires.outside in
    let stood = c.compare_count.ensures.stands c.if-compare_count-count.false in
    let asleep = c.sleep.ensures.alerted c.if-sleep.false in
    let count = new.count in
    let wait = new.wait in
    let asked = c.sleep.new.me in
    let gone : new ≡ record asked { part = record asked.part { count = count; stand = None; failed = without o asked.failed; wait = wait } }
    = c.withdraw.ensures.rest ∙ ap (λ u. record asked { part = record asked.part { count = count; stand = None; failed = without o asked.failed; turns = u; wait = wait } }) (c.withdraw.ensures.at_cond tt) in
    let blocked = gone
    ∙ ((λ j. record (asleep j) { part = record (asleep j).part { count = count; stand = None; failed = without o (asleep j).failed; wait = wait } })
    ∙ ((λ j. record (c.leave-2.ensures j) { part = record (c.leave-2.ensures j).part { count = count; stand = None; failed = without o (c.leave-2.ensures j).failed; wait = wait; alerted = true } })
    ∙ ((λ j. record (c.push.ensures.cond tt j) { part = record (c.push.ensures.cond tt j).part { spin = None; queue = []; left = []; count = count; stand = None; failed = without o (c.push.ensures.cond tt j).failed; wait = wait; alerted = true } })
    ∙ ((λ j. record (stood j) { part = record (stood j).part { spin = None; queue = []; left = []; count = count; stand = None; failed = without o (stood j).failed; wait = wait; alerted = true } })
    ∙ ((λ j. record (c.enter.ensures.inside j) { part = record (c.enter.ensures.inside j).part { spin = None; queue = []; left = []; count = count; stand = None; failed = without o (c.enter.ensures.inside j).failed; wait = wait; alerted = true } })
    ∙ (λ j. record old { part = record old.part { spin = sym out.spin j; queue = sym out.queue j; owed = sym out.owed j; left = sym out.left j; count = count; stand = sym out.stand j; failed = without_twice o old.failed j; wait = wait; alerted = true } })))))) in
    blocked ∙ (λ j. record old { part = record old.part { count = count; failed = without o old.failed; wait = wait; alerted = sym (ap (λ k. k.alerted) blocked) j } })
