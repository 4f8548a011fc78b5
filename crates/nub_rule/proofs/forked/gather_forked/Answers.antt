use Rattle.std.proofs.Common.{arith, map, ◌≡◌, ◌+◌, ◌++◌, [], ◌∷◌, ◌∙◌, ap, refl, sym, length, length-append, subst, ◌≤◌, ℕ}
use Rattle.std.proofs.lemmas.List.{length-map}
use Rattle.nub_rule.specs.Forks.{MayComeBack, in_order, with_number}
use Rattle.nub_rule.specs.Items.{Each}
use Rattle.nub_rule.proofs.Each.{each-none, each-snoc}
use Rattle.nub_rule.proofs.Ends.{maps-more}
use Rattle.nub_rule.proofs.Ordering.{in-order-more, one-there}
use Rattle.nub_rule.proofs.Seats.{collects}
use Rattle.nub_rule.proofs.forked.gather_forked.Goals as goal

pub collector-requires-clause-enters : goal.collector-requires-clause-enters
collector-requires-clause-enters g c κs within = collects _ _ _ g.U.Uses.begin _ _ _

pub loop-number-init : goal.loop-number-init
loop-number-init g c = let r = c.requires.shelf in record {
  of = refl;
  kind = ap (λ v. v.kind) c.collector.ensures.view;
  left = λ n _. refl;
  count = refl;
  idle = each-none (λ _ t. MayComeBack t) [] refl;
  back = ap (λ v. v.back) c.collector.ensures.view;
  entries = ap (λ l. map (λ s. s.entries.items) l) r.0;
  losses = ap (λ l. map (λ s. s.lost) l) r.0;
  many = ap length r.0;
  shelf = r.1;
  empty = c.new.ensures.items;
  room = λ z. absurd (omega arith);
}

pub take_number-thread-requires-clause-one : goal.take_number-thread-requires-clause-one
take_number-thread-requires-clause-one g c κs within = let n = c.loop-number.number in
    let a = c.requires.all n c.loop-number-test.true in
    (a.0, c.loop-number.invariant.left n (omega arith) ∙ a.1)

pub gather-requires-clause-next : goal.gather-requires-clause-next
gather-requires-clause-next g c κs within = let n = c.loop-number.number in let i = c.loop-number.invariant in let t = c.take_number-thread.result in let all = c.args.ended.items ++ c.args.unborn.items in
    let own : with_number n all ≡ t ∷ [] = sym (i.left n (omega arith)) ∙ c.take_number-thread.ensures.one in
    let there = one-there n all t own in
    there.2 ∙ sym (ap length i.back ∙ (length-map (in_order n all) (λ t. t.part) ∙ i.count))

pub gather-requires-clause-thread : goal.gather-requires-clause-thread
gather-requires-clause-thread g c κs within = let n = c.loop-number.number in let i = c.loop-number.invariant in let t = c.take_number-thread.result in let all = c.args.ended.items ++ c.args.unborn.items in
    let own : with_number n all ≡ t ∷ [] = sym (i.left n (omega arith)) ∙ c.take_number-thread.ensures.one in
    let there = one-there n all t own in
    let b = c.take_number-thread.ensures.back in
    (c.requires.of there.0 t there.1, b.spin, b.child, b.none)

pub gather-requires-clause-shelf : goal.gather-requires-clause-shelf
gather-requires-clause-shelf g c κs within = let i = c.loop-number.invariant in let m = i.many in let s = i.shelf in let low = c.loop-number-test.true in omega arith

pub gather-requires-clause-room : goal.gather-requires-clause-room
gather-requires-clause-room g c κs within = let n = c.loop-number.number in let i = c.loop-number.invariant in let t = c.take_number-thread.result in let all = c.args.ended.items ++ c.args.unborn.items in
    let own : with_number n all ≡ t ∷ [] = sym (i.left n (omega arith)) ∙ c.take_number-thread.ensures.one in
    let there = one-there n all t own in
    (i.empty, λ later. i.room (subst (λ (z : ℕ). 1 ≤ z) there.2 later))

pub loop-number-preserved : goal.loop-number-preserved
loop-number-preserved g c = let n = c.loop-number.number in let i = c.loop-number.invariant in let t = c.take_number-thread.result in let all = c.args.ended.items ++ c.args.unborn.items in
    let own : with_number n all ≡ t ∷ [] = sym (i.left n (omega arith)) ∙ c.take_number-thread.ensures.one in
    let there = one-there n all t own in
    let e = c.gather.ensures in
    let more = in-order-more n all t own in record {
      of = e.of ∙ i.of;
      kind = e.kind;
      left = λ m hi. c.take_number-thread.ensures.others m (λ z. omega arith) ∙ i.left m (omega arith);
      count = ap length more ∙ (length-append (in_order n all) (t ∷ []) ∙ ap (λ z. z + 1) i.count);
      idle = each-snoc (λ _ t. MayComeBack t) (in_order n all) (in_order (n + 1) all) n t more i.count c.take_number-thread.ensures.back i.idle;
      back = maps-more (λ t. t.part) _ _ (in_order n all) t i.back e.back ∙ ap (λ l. map (λ t. t.part) l) (sym more);
      entries = maps-more (λ t. t.entries) _ _ (in_order n all) t i.entries e.entries ∙ ap (λ l. map (λ t. t.entries) l) (sym more);
      losses = maps-more (λ t. t.lost) _ _ (in_order n all) t i.losses e.losses ∙ ap (λ l. map (λ t. t.lost) l) (sym more);
      many = e.shelf.0 ∙ ap (λ z. z + 1) i.many;
      shelf = let s = i.shelf in let z = e.shelf.1 in omega arith;
      empty = e.room.0;
      room = λ _. e.room.1;
    }

pub returns-clause-back : goal.returns-clause-back
returns-clause-back g c = let i = c.loop-number.invariant in let all = c.args.ended.items ++ c.args.unborn.items in let hi = c.loop-number.auto.number-end in let lo = c.loop-number-test.false in
    let e : c.loop-number.number ≡ c.args.threads = omega arith in
    i.back ∙ ap (λ z. map (λ t. t.part) (in_order z all)) e

pub returns-clause-stored : goal.returns-clause-stored
returns-clause-stored g c = let i = c.loop-number.invariant in let all = c.args.ended.items ++ c.args.unborn.items in let hi = c.loop-number.auto.number-end in let lo = c.loop-number-test.false in
    let e : c.loop-number.number ≡ c.args.threads = omega arith in
    (i.entries ∙ ap (λ z. map (λ t. t.entries) (in_order z all)) e, i.losses ∙ ap (λ z. map (λ t. t.lost) (in_order z all)) e)

pub returns-clause-room : goal.returns-clause-room
returns-clause-room g c = let i = c.loop-number.invariant in let all = c.args.ended.items ++ c.args.unborn.items in let hi = c.loop-number.auto.number-end in let lo = c.loop-number-test.false in
    let e : c.loop-number.number ≡ c.args.threads = omega arith in
    let some = c.requires.some in (i.empty, i.room (omega arith))

pub returns-clause-idle : goal.returns-clause-idle
returns-clause-idle g c = let i = c.loop-number.invariant in let all = c.args.ended.items ++ c.args.unborn.items in let hi = c.loop-number.auto.number-end in let lo = c.loop-number-test.false in
    let e : c.loop-number.number ≡ c.args.threads = omega arith in
    subst (λ (z : ℕ). Each (λ _ t. MayComeBack t) (in_order z all)) e i.idle
