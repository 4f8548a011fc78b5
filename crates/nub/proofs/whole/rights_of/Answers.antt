use Rattle.std.proofs.Common.{append_assoc, arith, ◌≡◌, ◌+◌, ◌++◌, [], ◌∷◌, ◌∙◌, ap, sym, length, length-append}
use Rattle.nub_rule.proofs.Each.{all_read, at_middle}
use Rattle.nub.proofs.whole.rights_of.Goals as goal

pub loop-thread-init : goal.loop-thread-init
loop-thread-init g c = record { all = sym c.into_iter-thread-iterator.ensures.into_iter_gives.0; items = c.requires.room.0; room = c.requires.room.1 }

pub of-requires-clause-unborn : goal.of-requires-clause-unborn
of-requires-clause-unborn g c κs within = let t = c.in-Some.thread in let i = c.loop-thread.invariant in
    c.requires.unborn (length c.loop-thread.yielded) t (at_middle c.loop-thread.yielded c.next.new.self.rest.items c.args.threads.items t (i.all ∙ ap (λ l. c.loop-thread.yielded ++ l) c.in-Some.ensures.steps.0))

pub push_reserved-requires : goal.push_reserved-requires
push_reserved-requires g c = let i = c.loop-thread.invariant in
    let m : length c.args.threads.items ≡ length c.loop-thread.yielded + length (c.in-Some.thread ∷ c.next.new.self.rest.items) = ap length (i.all ∙ ap (λ l. c.loop-thread.yielded ++ l) c.in-Some.ensures.steps.0) ∙ length-append _ _ in
    let n = ap length i.items in let s = i.room in omega arith

pub loop-thread-preserved : goal.loop-thread-preserved
loop-thread-preserved g c = let t = c.in-Some.thread in let i = c.loop-thread.invariant in record {
  all = i.all ∙ (ap (λ l. c.loop-thread.yielded ++ l) c.in-Some.ensures.steps.0 ∙ sym (append_assoc c.loop-thread.yielded (t ∷ []) c.next.new.self.rest.items));
  items = c.push_reserved.ensures.items ∙ (λ j. i.items j ++ c.of.ensures j ∷ []);
  room = let s = i.room in let e = c.push_reserved.ensures.capacity in omega arith;
}

pub returns : goal.returns
returns g c = let i = c.loop-thread.invariant in let r = c.loop-thread.thread-iterator.rest in let z : length r.items ≡ 0 = omega (arith, c.in-None.ensures) in
    i.items ∙ all_read c.args.threads.items c.loop-thread.yielded r.items i.all z
