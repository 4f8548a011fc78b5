use Rattle.std.proofs.Common.{◌≡◌, ◌≢◌, ◌+◌, ◌<◌, ◌++◌, ◌∷◌, ◌/◌, [], length, sum, Ok, rules, arith, ap, sym, subst, ◌∙◌, IfOk}
use Rattle.std.proofs.lemmas.List.Sums.{sum_by-take-drop}
use Rattle.std.proofs.lemmas.Result.{IfOk-weaker}
use Rattle.example_sum.specs.declared.tree.Crew.{Crew}
use Rattle.example_sum.specs.Trees.{Adder, HasJoinedToo, HaveAdded, MayAdd}
use Rattle.example_sum.proofs.Steps.{alone, begins, comes_back, goes_on, joined_child, joined_too, taken, together}
use Rattle.example_sum.proofs.tree.+add_all+fn-add_all-join+arg2+fn-add_all-join+arg3.Goals as goal

pub returns-in_default-clause-added : goal.returns-in_default-clause-added
returns-in_default-clause-added g t c =
    let kept = c.take_right.new.rights.items in
    let same : kept ≡ c.args.rights.items = search rules in
    alone c.args.p.now c.args.me c.add.new.me c.args.numbers.now c.args.rights.items (c.new-ended.result.items ++ kept) c.requires (ap (λ l. l ++ kept) c.new-ended.ensures.items ∙ same) c.add.ensures.idle

pub returns-clause-joined : goal.returns-clause-joined
returns-clause-joined g t c =
    let who = c.in-Some.child.number in
    joined_child c.args.me.number who c.args.me c.fork_thread.new.me c.join-me.result.0.0 c.fork_thread.ensures.event (subst (λ k. HasJoinedToo k c.fork_thread.new.me c.join-me.result.0.0) c.number.ensures c.join-me.ensures.first.2)

pub fork_thread-requires-clause-of : goal.fork_thread-requires-clause-of
fork_thread-requires-clause-of g t c κs within =
    (taken c.args.p.now c.args.me c.args.numbers.now [] c.args.rights.items c.take_right.new.rights.items c.in-Some.theirs.items c.in-Some.child c.requires c.in-Some.ensures.1).left.of

pub fork_thread-requires-clause-named : goal.fork_thread-requires-clause-named
fork_thread-requires-clause-named g t c κs within =
    (taken c.args.p.now c.args.me c.args.numbers.now [] c.args.rights.items c.take_right.new.rights.items c.in-Some.theirs.items c.in-Some.child c.requires c.in-Some.ensures.1).left.named

pub join-me-requires-after_bounds : goal.join-me-requires-after_bounds
join-me-requires-after_bounds g t c κs within =
    let p = c.args.p.now in
    let me = c.args.me in
    let numbers = c.args.numbers.now in
    let rights = c.args.rights.items in
    let rest = c.take_right.new.rights.items in
    let theirs = c.in-Some.theirs.items in
    let child = c.in-Some.child in
    let parted = c.in-Some.ensures.1 in
    let front = c.split_at.result.0.now in
    let back = c.split_at.result.1.now in
    let both = sum_by-take-drop (λ x. x) numbers (length numbers / 2) in
    let one = ap sum c.split_at.ensures.front in
    let other = ap sum c.split_at.ensures.back in
    let idle = c.fork_thread.ensures.idle me.number 0 c.requires.idle in
    let own : MayAdd p c.fork_thread.new.me front rest = goes_on p me numbers front rights rest theirs child c.requires parted c.fork_thread.new.me idle (omega arith) in
    let new : MayAdd p c.in-Ok.child back theirs = begins p me numbers back rights rest theirs child c.requires parted c.in-Ok.child (c.in-Ok.ensures.child_idle c.requires.idle.world) (omega arith) in
    let right = taken p me numbers front rights rest theirs child c.requires parted in
    let low : c.number.result < p.layout.threads = subst (λ k. k < p.layout.threads) (sym c.number.ensures) right.left.named in
    let two : c.number.result ≢ c.fork_thread.new.me.number = λ e. c.fork_thread.ensures.apart (sym c.number.ensures ∙ (e ∙ idle.number)) in
    ((search rules, ((λ a m. m), ((search rules, own, low, two), search rules))), (search rules, ((λ a m. m), ((search rules, new), search rules))))

pub returns-clause-added : goal.returns-clause-added
returns-clause-added g t c =
    let p = c.args.p.now in
    let me = c.args.me in
    let numbers = c.args.numbers.now in
    let rights = c.args.rights.items in
    let rest = c.take_right.new.rights.items in
    let theirs = c.in-Some.theirs.items in
    let child = c.in-Some.child in
    let k = c.fork_thread.new.me in
    let l = c.in-Ok.child in
    let front = sum c.split_at.result.0.now in
    let back = sum c.split_at.result.1.now in
    let whole = sum_by-take-drop (λ x. x) numbers (length numbers / 2) in
    let one = ap sum c.split_at.ensures.front in
    let other = ap sum c.split_at.ensures.back in
    let all : front + back ≡ sum numbers = omega arith in
    let thread : Adder = c.join-me.result.0.0 in
    let over : Adder = c.join-me.result.1.0 in
    let mine = c.join-me.ensures.first in
    let yours = c.join-me.ensures.second in
    IfOk-weaker
    c.both.result
    (λ (w : Crew). (a : Crew) × (b : Crew) × (c.join-me.result.0.1 ≡ Ok a) × (c.join-me.result.1.1 ≡ Ok b) × (w.ended.items ≡ (a.ended.items ++ over ∷ []) ++ b.ended.items) × (w.unborn.items ≡ a.unborn.items ++ b.unborn.items))
    (λ (w : Crew). HaveAdded p (me ∷ rights) (sum numbers) (thread ∷ (w.ended.items ++ w.unborn.items)))
    (λ w did.
    let a = did.0 in
    let b = did.1 in
    together p me k child l rights rest theirs thread c.fork_thread.ensures.same.number (c.in-Ok.ensures.child_idle c.requires.idle.world).number c.in-Some.ensures.1
    over w.ended.items a.ended.items b.ended.items w.unborn.items a.unborn.items b.unborn.items did.4 did.5 front back (sum numbers) all
    (subst (λ r. IfOk r (λ (z : Crew). HaveAdded p (k ∷ rest) front (thread ∷ (z.ended.items ++ z.unborn.items)))) did.2 mine.1)
    (subst (λ r. IfOk r (λ (z : Crew). HaveAdded p (l ∷ theirs) back (over ∷ (z.ended.items ++ z.unborn.items)))) did.3 yours))
    c.both.ensures

pub join+arg2-returns : goal.join+arg2-returns
join+arg2-returns g t c =
    let p = c.captures.p.now in
    let before = c.captures.me ∷ c.captures.rights.items in
    let n = sum c.captures.front.now in
    let k : Adder = c.add_all-me.result.0 in
    let l = c.join_thread.new.me in
    let did = c.add_all-me.ensures in
    let left = c.join_thread.ensures.rest in (
      (did.idle.0, c.join_thread.ensures.idle c.captures.me.number did.idle.0 did.idle.1),
      IfOk-weaker
          c.add_all-me.result.1
          (λ (w : Crew). HaveAdded p before n (k ∷ (w.ended.items ++ w.unborn.items)))
          (λ (w : Crew). HaveAdded p before n (l ∷ (w.ended.items ++ w.unborn.items)))
          (λ w have. comes_back p before (w.ended.items ++ w.unborn.items) n k l record { of = left.of; named = left.named; stored = left.stored } c.join_thread.ensures.same.number c.join_thread.ensures.share have)
          did.added,
      joined_too k.number c.captures.who.0 c.captures.me k l did.joined c.join_thread.ensures.event,
    )

pub join+arg3-returns : goal.join+arg3-returns
join+arg3-returns g t c =
    let p = c.captures.p.now in
    let before = c.captures.child ∷ c.captures.theirs.items in
    let n = sum c.captures.back.now in
    let k : Adder = c.add_all-me.result.0 in
    let l = c.end_thread.result in
    IfOk-weaker
    c.add_all-me.result.1
    (λ (w : Crew). HaveAdded p before n (k ∷ (w.ended.items ++ w.unborn.items)))
    (λ (w : Crew). HaveAdded p before n (l ∷ (w.ended.items ++ w.unborn.items)))
    (λ w have. comes_back p before (w.ended.items ++ w.unborn.items) n k l c.end_thread.ensures.left c.end_thread.ensures.same.number c.end_thread.ensures.share have)
    c.add_all-me.ensures.added
