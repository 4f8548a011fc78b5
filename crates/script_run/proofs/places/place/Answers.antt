use Rattle.std.proofs.Common.{◌≡◌, ◌≢◌, ◌<◌, ◌+◌, ℕ, [], ◌∙◌, ap, length, length-append, get_or, drop, refl, sym, arith}
use lib.ListN.{get_elem?}
use mathlib.Core.Option.{some}
use Rattle.nub_rule.proofs.Each.{at_within}
use Rattle.nub_rule.proofs.Ordering.{or-at}
use Rattle.script_run.specs.Playing.{Player}
use Rattle.script_run.proofs.Putting.{drop_more, has_right, enough_next, taken_next}
use Rattle.script_run.proofs.places.place.Goals as goal

pub loop-at-init : goal.loop-at-init
loop-at-init c = record {
  taken = record { taken = []; are = c.in_ok-slots.ensures.items; numbers = refl; same = λ n. refl };
  enough = c.requires;
  count = ap length c.in_ok-slots.ensures.items;
  room = c.in_ok-slots.ensures.capacity;
}

pub place_of-place-requires : goal.place_of-place-requires
place_of-place-requires c =
    let xs = c.args.order.now in
    let at = c.loop-at.at in
    has_right (get_or xs at 0) (drop at xs) (drop (at + 1) xs) c.loop-at.rights.items (drop_more xs at c.loop-at-test.true) c.loop-at.invariant.enough

pub remove-requires : goal.remove-requires
remove-requires c =
    let t = c.place_of-place.ensures.there in
    let low = at_within c.loop-at.rights.items c.place_of-place.result t.0 t.1 in
    omega (arith, c.loop-at.rights.ok.0)

pub loop-at-preserved : goal.loop-at-preserved
loop-at-preserved c =
    let xs = c.args.order.now in
    let at = c.loop-at.at in
    let ks = c.loop-at.rights.items in
    let new = c.remove.new.self.items in
    let i = c.place_of-place.result in
    let k : Player = c.remove.result in
    let t = c.place_of-place.ensures.there in
    let same : t.0 ≡ k = sym (c.remove.ensures.value ∙ or-at ks i t.0 _ t.1) in
    let there : get_elem? ks i ≡ some k = t.1 ∙ ap (λ (z : Player). some z) same in
    let own : k.number ≡ get_or xs at 0 = ap (λ (z : Player). z.number) (sym same) ∙ t.2 in
    let before : (j : ℕ) (y : Player) → j < i → get_elem? ks j ≡ some y → y.number ≢ k.number = λ j y low h e. c.place_of-place.ensures.first j y low h (e ∙ own) in
    record {
      taken = taken_next c.args.rights.items xs at c.loop-at.slots.items c.push_reserved.new.self.items ks new i k (get_or xs at 0) c.loop-at.invariant.taken c.loop-at-test.true refl c.push_reserved.ensures.items c.remove.ensures.items there own before;
      enough = enough_next (get_or xs at 0) (drop at xs) (drop (at + 1) xs) ks new i k (drop_more xs at c.loop-at-test.true) c.loop-at.invariant.enough c.remove.ensures.items there own before;
      count = let e = ap length c.push_reserved.ensures.items ∙ length-append c.loop-at.slots.items _ in let n = c.loop-at.invariant.count in omega arith;
      room = let e = c.push_reserved.ensures.capacity in let r = c.loop-at.invariant.room in omega arith;
    }
