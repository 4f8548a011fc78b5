use Rattle.std.proofs.Common.{arith, ◌≡◌, ◌∙◌, ap, length, replicate}
use Rattle.std.proofs.lemmas.List.{length-replicate}
use Rattle.nub_rule.specs.declared.rule.Slot.{Slot}
use Rattle.nub_rule.specs.declared.rule.Slot.TheVariants.{Queue}
use Rattle.nub_rule.specs.Items.{no_queue}
use Rattle.nub_rule.proofs.Ends.{queues_more}
use Rattle.nub_rule.proofs.opening.queue_slots.Goals as goal

pub push_reserved-requires : goal.push_reserved-requires
push_reserved-requires g c = let i = c.loop-i.invariant in let low = c.loop-i-test.true in let room = i.room in
    let long : length c.loop-i.slots.items ≡ c.loop-i._i = ap length i.items ∙ length-replicate {A = Slot g.row.T.Denot} c.loop-i._i (Queue no_queue) in omega arith

pub loop-i-preserved : goal.loop-i-preserved
loop-i-preserved g c = let i = c.loop-i.invariant in record {
  items = queues_more c.loop-i.slots.items c.push_reserved.new.self.items c.loop-i._i c.new.result.items i.items c.new.ensures c.push_reserved.ensures.items;
  room = let room = i.room in let same = c.push_reserved.ensures.capacity in omega arith;
}

pub returns : goal.returns
returns g c = let i = c.loop-i.invariant in let past = c.loop-i-test.false in let all : c.loop-i._i ≡ 192 = omega arith in (i.items ∙ ap (λ n. replicate n (Queue no_queue)) all, i.room)
