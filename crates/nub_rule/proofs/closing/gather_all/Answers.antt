use Rattle.std.proofs.Common.{append_assoc, arith, map, ◌≡◌, ◌+◌, ◌++◌, [], ◌∷◌, ◌∙◌, ap, sym, length, length-append, subst, ◌≤◌, ℕ}
use Rattle.std.proofs.lemmas.List.{length-map}
use Rattle.nub_rule.proofs.Each.{all_read, at_middle}
use Rattle.nub_rule.proofs.Ends.{maps-more}
use Rattle.nub_rule.proofs.Seats.{collects}
use Rattle.nub_rule.proofs.closing.gather_all.Goals as goal

still_room : (n a b : ℕ) → n ≤ a → b ≡ a → n ≤ b
still_room n a b h e = omega arith

pub collector-requires-clause-enters : goal.collector-requires-clause-enters
collector-requires-clause-enters g c κs within = collects _ _ _ g.U.Uses.begin _ _ _

pub gather-requires-clause-next : goal.gather-requires-clause-next
gather-requires-clause-next g c κs within = let t = c.in-Some.thread in let i = c.loop-thread.invariant in
    let f = c.requires.threads (length c.loop-thread.yielded) t (at_middle c.loop-thread.yielded c.next.new.self.rest.items c.args.threads.items t (i.all ∙ ap (λ l. c.loop-thread.yielded ++ l) c.in-Some.ensures.steps.0)) in
    f.0 ∙ sym (ap length i.back ∙ length-map c.loop-thread.yielded _)

pub gather-requires-clause-thread : goal.gather-requires-clause-thread
gather-requires-clause-thread g c κs within = let t = c.in-Some.thread in let i = c.loop-thread.invariant in
    let f = c.requires.threads (length c.loop-thread.yielded) t (at_middle c.loop-thread.yielded c.next.new.self.rest.items c.args.threads.items t (i.all ∙ ap (λ l. c.loop-thread.yielded ++ l) c.in-Some.ensures.steps.0)) in
    (f.1, f.2, f.3, f.4)

pub gather-requires-clause-shelf : goal.gather-requires-clause-shelf
gather-requires-clause-shelf g c κs within = let i = c.loop-thread.invariant in
    let m : length c.args.threads.items ≡ length c.loop-thread.yielded + length (c.in-Some.thread ∷ c.next.new.self.rest.items) = ap length (i.all ∙ ap (λ l. c.loop-thread.yielded ++ l) c.in-Some.ensures.steps.0) ∙ length-append _ _ in
    let n = i.count in let s = i.shelf in omega arith

pub gather-requires-clause-room : goal.gather-requires-clause-room
gather-requires-clause-room g c κs within = let t = c.in-Some.thread in let i = c.loop-thread.invariant in
    let f = c.requires.threads (length c.loop-thread.yielded) t (at_middle c.loop-thread.yielded c.next.new.self.rest.items c.args.threads.items t (i.all ∙ ap (λ l. c.loop-thread.yielded ++ l) c.in-Some.ensures.steps.0)) in
    (i.empty, λ later. i.room (subst (λ (z : ℕ). 1 ≤ z) f.0 later))

pub loop-thread-preserved : goal.loop-thread-preserved
loop-thread-preserved g c = let t = c.in-Some.thread in let i = c.loop-thread.invariant in let e = c.gather.ensures in record {
  of = e.of ∙ i.of;
  kind = e.kind;
  back = maps-more (λ t. t.part) _ _ c.loop-thread.yielded t i.back e.back;
  all = i.all ∙ (ap (λ l. c.loop-thread.yielded ++ l) c.in-Some.ensures.steps.0 ∙ sym (append_assoc c.loop-thread.yielded (t ∷ []) c.next.new.self.rest.items));
  entries = maps-more (λ t. t.entries) _ _ c.loop-thread.yielded t i.entries e.entries;
  losses = maps-more (λ t. t.lost) _ _ c.loop-thread.yielded t i.losses e.losses;
  count = e.shelf.0 ∙ (ap (λ n. n + 1) i.count ∙ sym (length-append c.loop-thread.yielded (t ∷ [])));
  shelf = still_room _ _ _ i.shelf e.shelf.1;
  empty = e.room.0;
  room = λ _. e.room.1;
}

pub returns-clause-back : goal.returns-clause-back
returns-clause-back g c = let i = c.loop-thread.invariant in let r = c.loop-thread.thread-iterator.rest in let z : length r.items ≡ 0 = omega (arith, c.in-None.ensures) in
    i.back ∙ ap (λ l. map (λ t. t.part) l) (all_read c.args.threads.items c.loop-thread.yielded r.items i.all z)

pub returns-clause-stored : goal.returns-clause-stored
returns-clause-stored g c = let i = c.loop-thread.invariant in let r = c.loop-thread.thread-iterator.rest in let z : length r.items ≡ 0 = omega (arith, c.in-None.ensures) in
    let e = all_read c.args.threads.items c.loop-thread.yielded r.items i.all z in (i.entries ∙ ap (λ l. map (λ t. t.entries) l) e, i.losses ∙ ap (λ l. map (λ t. t.lost) l) e)

pub returns-clause-room : goal.returns-clause-room
returns-clause-room g c = let i = c.loop-thread.invariant in let r = c.loop-thread.thread-iterator.rest in let z : length r.items ≡ 0 = omega (arith, c.in-None.ensures) in
    let e = ap length (all_read c.args.threads.items c.loop-thread.yielded r.items i.all z) in let some = c.requires.some in (i.empty, i.room (omega arith))
