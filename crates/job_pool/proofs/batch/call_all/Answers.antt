use Rattle.std.proofs.Common.{◌≡◌, ◌∙◌, true, false, arith, sym, subst, refl, set, get_or, below_none}
use Rattle.std.proofs.lemmas.List.Elements.{recursion_from_All}
use Rattle.job_pool.specs.Slots.{EndsAt, HasValue, MayBeCalled, Says}
use Rattle.job_pool.proofs.Lists.{at_set, set_after}
use Rattle.job_pool.proofs.Calling.{all_same, one_more, more_values}
use Rattle.job_pool.proofs.batch.call_all.Goals as goal

pub loop-slot-init : goal.loop-slot-init
loop-slot-init g c = record { count = refl; called = all_same g.J.Job.state g.J.Job.gives g.J.Job.next c.args.slots.now; values = λ k d low. below_none (λ j. HasValue (get_or c.args.slots.now j d)) k low; rest = λ k low. refl }

pub loop-slot-preserved : goal.loop-slot-preserved
loop-slot-preserved g c =
    let at = c.loop-slot in
    let was = at.invariant in
    let says = c.call.ensures.says in
    let no : c.call.result ≡ false = c.if-call.false in
    let value : HasValue c.call.new.self = subst (λ b. Says b c.call.new.self.answer) no says in
    let count = was.count in
    record {
      count = omega arith;
      called = one_more g.J.Job.state g.J.Job.gives g.J.Job.next c.args.slots.now at.slots at.slot-index c.slot-item.result c.call.new.self was.called (omega arith) c.slot-item.is (subst (λ q. MayBeCalled g.J.Job.state g.J.Job.gives g.J.Job.next q c.call.new.self) (sym c.slot-item.is) c.call.ensures.called);
      values = more_values at.slots at.slot-index c.call.new.self (omega arith) value was.values;
      rest = λ k low. set_after at.slots at.slot-index k c.call.new.self (omega arith) ∙ was.rest k (omega arith);
    }

pub returns-then-call-clause-called : goal.returns-then-call-clause-called
returns-then-call-clause-called g c =
    let at = c.loop-slot in
    one_more g.J.Job.state g.J.Job.gives g.J.Job.next c.args.slots.now at.slots at.slot-index c.slot-item.result c.call.new.self at.invariant.called (omega arith) c.slot-item.is (subst (λ q. MayBeCalled g.J.Job.state g.J.Job.gives g.J.Job.next q c.call.new.self) (sym c.slot-item.is) c.call.ensures.called)

pub returns-then-call-clause-ends : goal.returns-then-call-clause-ends
returns-then-call-clause-ends g c =
    let at = c.loop-slot in
    let s = c.call.new.self in
    let yes : c.call.result ≡ true = c.if-call.true in
    subst (λ k. EndsAt k c.args.slots.now (set at.slots at.slot-index s)) (sym at.invariant.count)
    (record {
      stops = record { slot = s; is_slot = at_set at.slots at.slot-index s (omega arith); stops = subst (λ b. Says b s.answer) yes c.call.ensures.says };
      after = λ i low. set_after at.slots at.slot-index i s low ∙ at.invariant.rest i (omega arith);
    })

pub returns-clause-called : goal.returns-clause-called
returns-clause-called g c = c.loop-slot.invariant.called

pub returns-clause-ends : goal.returns-clause-ends
returns-clause-ends g c =
    let at = c.loop-slot in
    recursion_from_All HasValue at.slots (λ k d low. at.invariant.values k d (omega arith))

pub overflow_add-place : goal.overflow_add-place
overflow_add-place g c = let count = c.loop-slot.invariant.count in omega arith
