use Rattle.std.proofs.Common.{◌≡◌, ◌+◌, ◌<◌, ◌≤◌, ◌⊎◌, inl, inr, [], ◌∷◌, ◌++◌, length, take, get_or, sym, ap, subst, ◌∙◌, arith, rules}
use Rattle.std.proofs.lemmas.List.{take_all}
use Rattle.lock_order.specs.declared.answer.Edge.{Edge}
use Rattle.lock_order.specs.Order.{first_or}
use Rattle.lock_order.specs.Circles.{links}
use Rattle.lock_order.proofs.Members.{mem-at}
use Rattle.lock_order.proofs.Linked.{links_more, length-links}
use Rattle.lock_order.proofs.cycle.cycle_of.Goals as goal
use Rattle.lock_order.proofs.cycle.cycle_of.Goals.{then-k-circle, else-k-circle}

pub first-requires-clause-outer : goal.first-requires-clause-outer
first-requires-clause-outer c = c.requires.low (get_or c.args.circle.now c.loop-k.k 0) (mem-at c.args.circle.now c.loop-k.k 0 (search rules))

pub first-requires-clause-inner : goal.first-requires-clause-inner
first-requires-clause-inner c = elim c.if-k-circle.branch [
  | then-k-circle w ↦ subst (λ z. z < 64) (sym w.inner-is) (c.requires.low (get_or c.args.circle.now (c.loop-k.k + 1) 0) (mem-at c.args.circle.now (c.loop-k.k + 1) 0 (search rules)))
  | else-k-circle w ↦ subst (λ z. z < 64) (sym w.inner-is) (c.requires.low (get_or c.args.circle.now 0 0) (mem-at c.args.circle.now 0 0 (search rules)))
]

pub loop-k-preserved : goal.loop-k-preserved
loop-k-preserved c =
    let k = c.args.graph.now in
    let ms = c.args.circle.now in
    let j = c.loop-k.k in
    let inner = c.if-k-circle.inner in
    let next : ((j + 1 < length ms) × (inner ≡ get_or ms (j + 1) 0)) ⊎ ((length ms ≤ j + 1) × (inner ≡ get_or ms 0 0)) = elim c.if-k-circle.branch [
      | then-k-circle w ↦ inl (w.if-k-circle.true, w.inner-is)
      | else-k-circle w ↦ inr (w.if-k-circle.false, w.inner-is)
    ]
    in
    c.push.ensures ∙ ap (λ l. l ++ c.first.result ∷ []) c.loop-k.invariant ∙ ap (λ (n : Edge). take j (links k ms (first_or 0 ms)) ++ n ∷ []) c.first.ensures
    ∙ sym (links_more k ms j inner (search rules) next)

pub returns : goal.returns
returns c =
    let ms = c.args.circle.now in
    let all = links c.args.graph.now ms (first_or 0 ms) in
    let many = length-links c.args.graph.now ms (first_or 0 ms) in
    c.loop-k.invariant ∙ take_all c.loop-k.k all (omega (arith, many))
