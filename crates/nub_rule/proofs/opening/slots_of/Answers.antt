use Rattle.std.proofs.Common.{arith, ◌≡◌, ◌+◌, ◌++◌, ◌∷◌, [], ◌∙◌, ap, sym, length, length-append, append_assoc}
use Rattle.nub_rule.proofs.Ends.{slots_long, slots_more}
use Rattle.nub_rule.proofs.opening.slots_of.Goals as goal

pub push_reserved-requires : goal.push_reserved-requires
push_reserved-requires g c = let i = c.loop-x.invariant in let room = i.room in
    let m : length c.args.values.items ≡ length c.loop-x.yielded + length (c.in-Some.x ∷ c.next.new.self.rest.items) = ap length (i.all ∙ ap (λ l. c.loop-x.yielded ++ l) c.in-Some.ensures.steps.0) ∙ length-append _ _ in
    let n = slots_long c.loop-x.slots.items c.in_ok-slots.slots.items c.loop-x.yielded i.items c.in_ok-slots.ensures.0 in omega arith

pub loop-x-preserved : goal.loop-x-preserved
loop-x-preserved g c = let i = c.loop-x.invariant in record {
  items = slots_more c.loop-x.slots.items c.in_ok-slots.slots.items c.loop-x.yielded i.items c.push_reserved.new.self.items c.in-Some.x c.push_reserved.ensures.items;
  all = i.all ∙ (ap (λ l. c.loop-x.yielded ++ l) c.in-Some.ensures.steps.0 ∙ sym (append_assoc c.loop-x.yielded (c.in-Some.x ∷ []) c.next.new.self.rest.items));
  room = let room = i.room in let same = c.push_reserved.ensures.capacity in omega arith;
}
