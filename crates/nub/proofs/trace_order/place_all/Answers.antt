use Rattle.std.proofs.Common.{◌≡◌, ◌<◌, List, length, vec_len, rules, get_or, ap, subst, sym, arith}
use Rattle.std.specs.List.{All}
use Rattle.larch_actions.specs.declared.event.Action.TheVariants.{Acquire}
use Rattle.larch_actions.specs.declared.event.Event.{Event}
use Rattle.nub_rule.specs.declared.package.Entry.{Entry}
use Rattle.nub.specs.History.{IsOf}
use Rattle.nub.proofs.Places.{fills_place, keeps_place}
use Rattle.nub.proofs.trace_order.place_all.Goals as goal

pub loop-x-preserved : goal.loop-x-preserved
loop-x-preserved g =
    let list = g.args.list.now.items in
    let n = g.loop-x.x-index in
    let v = g.loop-x.invariant in
    let value = g.deref-x-items.ensures.value in
    let none : Entry = record { number = 0; event = record { thread = record { 0 = 0 }; action = Acquire (record { 0 = 0 }) } } in
    let x : Entry = get_or g.deref-x-items.result.now n none in
    let is : x ≡ get_or list n none = ap (λ (xs : List Entry). get_or xs n none) value in
    let inside : n < length list = subst (λ (xs : List Entry). n < length xs) value g.loop-x-test.true in
    let few : x.number < vec_len g.args.places.now = subst (λ (y : Entry). y.number < vec_len g.args.places.now) (sym is) (g.requires n none inside) in
    let long : vec_len g.loop-x.places ≡ vec_len g.args.places.now = v.long in
    let ok : vec_len g.loop-x.places ≡ length g.loop-x.places.items = search rules in
    let low : x.number < length g.loop-x.places.items = omega arith in
    let of : (h : List Event) → All (IsOf h) list → IsOf h x = λ h all. subst (λ (y : Entry). IsOf h y) (sym is) (all n none inside) in
    record {
      long = v.long;
      keeps = λ h all k same. keeps_place h g.loop-x.places.items x low (of h all) k (v.keeps h all k same);
      fills = λ h all. fills_place h g.loop-x.places.items list n x none inside is low (of h all) (v.fills h all);
    }
