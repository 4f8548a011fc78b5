use Rattle.std.proofs.Common.{◌≡◌, ◌<◌, ℕ, false, List, length, get_or, sym, ap, subst, ◌∙◌, arith, lit<}
use Rattle.larch_actions.specs.Sets.{mem}
use Rattle.lock_order.proofs.Walks.{room, closes}
use Rattle.lock_order.proofs.cyclic_core.circle.Goals as goal

pub returns-in-Some : goal.returns-in-Some
returns-in-Some c =
    let k = c.in-Some.k in
    let m = c.loop-k.m.0 in
    let P : List ℕ → Type 0 = λ l. (k < length l) × (get_or l k 0 ≡ m) in
    let there : P c.loop-k.path.items = subst P c.as_slice.ensures.value c.in-Some.ensures in
    rw c.truncate.ensures.items (closes c.args.graph.now c.args.core m k c.loop-k.path.items c.loop-k.invariant there.0 there.1)

pub insert-requires : goal.insert-requires
insert-requires c =
    let out : mem c.loop-k.m.0 c.loop-k.path.items ≡ false = ap (mem c.loop-k.m.0) (sym c.as_slice.ensures.value) ∙ c.in-None.ensures in
    (lit< tt, (omega arith, room c.args.graph.now c.args.core c.loop-k.m.0 c.loop-k.path.items c.loop-k.invariant out))

pub loop-k-smaller : goal.loop-k-smaller
loop-k-smaller c =
    let out : mem c.loop-k.m.0 c.loop-k.path.items ≡ false = ap (mem c.loop-k.m.0) (sym c.as_slice.ensures.value) ∙ c.in-None.ensures in
    let space = room c.args.graph.now c.args.core c.loop-k.m.0 c.loop-k.path.items c.loop-k.invariant out in
    omega (arith, c.insert.ensures.len)
