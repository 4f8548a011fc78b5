use Rattle.std.proofs.Common.{ℕ, ap, sym, subst, inr, ◌∙◌}
use Rattle.nub_rule.specs.Known.{Makes}
use Rattle.nub_rule.specs.Places.{sem_object}
use Rattle.nub_rule.specs.Plays.{alert_p_event}
use Rattle.alert_wait.specs.Outcomes.{p_end}
use Rattle.alert_wait.specs.declared.outcome.Outcome.TheVariants.{Returned}
use Rattle.nub.proofs.Making.{makes_by}
use Rattle.alert_wait.proofs.Raises.{raised, raises, still_none, still_tries, won}
use Rattle.alert_wait.proofs.sem.take_or_raise.Goals as goal

pub try_take-requires-clause-may : goal.try_take-requires-clause-may
try_take-requires-clause-may g c κs within =
    let same = c.loop.invariant.same in
    (ap (λ k. k.wait) same ∙ c.requires.no_wait, inr (ap (λ (n : ℕ). alert_p_event n c.args.s.0) (c.number.ensures ∙ sym (ap (λ k. k.number) same))))

pub end_alerted-requires-clause-alerted : goal.end_alerted-requires-clause-alerted
end_alerted-requires-clause-alerted g c κs within = c.enqueue_and_sleep.ensures.alerted c.if-not-enqueue_and_sleep.true

pub loop-preserved : goal.loop-preserved
loop-preserved g c =
    let n = sem_object c.args.s.0 in
    let at = c.loop.invariant in
    let lost = c.try_take.ensures.lost c.if-try_take.false in
    let stood = c.enqueue_and_sleep.ensures.rest in
    record {
      same = still_tries n c.args.me.now c.loop.me c.try_take.new.me c.enqueue_and_sleep.new.me at.same at.turns lost stood c.requires.outside.stand (c.enqueue_and_sleep.ensures.goes_on c.if-not-enqueue_and_sleep.false).0;
      turns = still_none n c.args.me.now c.loop.me c.try_take.new.me c.enqueue_and_sleep.new.me at.same at.turns lost stood c.enqueue_and_sleep.ensures.turns;
    }

pub returns-then-try_take-clause-event : goal.returns-then-try_take-clause-event
returns-then-try_take-clause-event g c =
    let same = c.loop.invariant.same in
    let number = ap (λ k. k.number) same in
    let by = λ (n : ℕ). p_end Returned n c.args.s.0 in
    let made = subst (λ (n : ℕ). Makes (by n) c.loop.me c.try_take.new.me) (c.number.ensures ∙ sym number) (c.try_take.ensures.event c.if-try_take.true) in
    makes_by by c.args.me.now c.loop.me c.try_take.new.me number (ap (λ k. k.version) same) (ap (λ k. k.seen) same) (ap (λ k. k.mine) same) (ap (λ k. k.places) same) (ap (λ k. k.pen) same) made

pub returns-then-try_take-clause-rest : goal.returns-then-try_take-clause-rest
returns-then-try_take-clause-rest g c =
    let at = c.loop.invariant in
    let took = c.if-try_take.true in
    won (sem_object c.args.s.0) c.args.me.now c.loop.me c.try_take.new.me at.same at.turns c.requires.no_wait c.requires.turns (c.try_take.ensures.won took) (c.try_take.ensures.taken took)

pub returns-then-not-enqueue_and_sleep-clause-event : goal.returns-then-not-enqueue_and_sleep-clause-event
returns-then-not-enqueue_and_sleep-clause-event g c =
    let at = c.loop.invariant in
    let lost = c.try_take.ensures.lost c.if-try_take.false in
    let by = λ (n : ℕ). p_end c.end_alerted.result n c.args.s.0 in
    raises (sem_object c.args.s.0) c.args.me.now c.loop.me c.try_take.new.me c.enqueue_and_sleep.new.me at.same at.turns lost c.enqueue_and_sleep.ensures.rest by c.end_alerted.new.me c.end_alerted.ensures.event

pub returns-then-not-enqueue_and_sleep-clause-rest : goal.returns-then-not-enqueue_and_sleep-clause-rest
returns-then-not-enqueue_and_sleep-clause-rest g c =
    let at = c.loop.invariant in
    let lost = c.try_take.ensures.lost c.if-try_take.false in
    let stays = c.enqueue_and_sleep.ensures.stays c.if-not-enqueue_and_sleep.true in
    raised (sem_object c.args.s.0) c.args.me.now c.loop.me c.try_take.new.me c.enqueue_and_sleep.new.me at.same at.turns lost c.enqueue_and_sleep.ensures.rest c.end_alerted.new.me c.requires.outside.stand c.requires.turns stays c.end_alerted.ensures.rest
