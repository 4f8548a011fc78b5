use Rattle.word_index.specs.declared.rows.Place.{Place}
use Rattle.std.proofs.Common.{List, subst, ◌≡◌, ◌<◌, ◌≤◌, length, map, take, get_or, sym, ap, ◌∙◌, arith}
use Rattle.std.proofs.Math.Seq.{take-length}
use Rattle.std.proofs.lemmas.List.{get_or-map, length-map}
use Rattle.word_index.specs.Numbered.{moved}
use Rattle.word_index.specs.Merged.{nowhere}
use Rattle.word_index.proofs.RowsMerging.{merging_none, merging_first, merging_second, merging_keeps, merging_all}
use Rattle.word_index.proofs.rows.add_merged.Goals as goal

pub loop-i-init : goal.loop-i-init
loop-i-init c = record {
  merging = merging_none _ _ _;
  room = omega (arith, c.in_ok-reserve.ensures.ok);
}

pub loop-i-preserved-then-takes_first : goal.loop-i-preserved-then-takes_first
loop-i-preserved-then-takes_first c =
    let f = moved c.args.of_x.now in
    let xs = c.args.xs.now in
    let first = c.if-takes_first.ensures.first in
    let here : c.loop-i.i < length (map f xs) = omega (arith, first.0, length-map xs f) in
    let x = get_or-map f xs c.loop-i.i nowhere nowhere first.0 in
    record {
      merging = rw (c.push_reserved.ensures.items, c.moved_place.ensures, ← x)
          (merging_first c.loop-i.invariant.merging c.requires.xs_rise here (λ more. first.1 (omega (arith, more, length-map c.args.ys.now (moved c.args.of_y.now)))));
      room = omega (arith, first.0, c.loop-i.invariant.room, c.push_reserved.ensures.len, c.push_reserved.ensures.capacity);
    }

pub loop-i-preserved : goal.loop-i-preserved
loop-i-preserved c =
    let f = moved c.args.of_y.now in
    let ys = c.args.ys.now in
    let second = c.if-takes_first.ensures.second in
    let here : c.loop-i.j < length (map f ys) = omega (arith, second.0, length-map ys f) in
    let y = get_or-map f ys c.loop-i.j nowhere nowhere second.0 in
    record {
      merging = rw (c.push_reserved-else-takes_first.ensures.items, c.moved_place-else-takes_first.ensures, ← y)
          (merging_second c.loop-i.invariant.merging c.requires.ys_rise here (λ more. second.1 (omega (arith, more, length-map c.args.xs.now (moved c.args.of_x.now)))));
      room = omega (arith, second.0, c.loop-i.invariant.room, c.push_reserved-else-takes_first.ensures.len, c.push_reserved-else-takes_first.ensures.capacity);
    }

pub push_reserved-requires : goal.push_reserved-requires
push_reserved-requires c = omega (arith, c.if-takes_first.ensures.first.0, c.loop-i.invariant.room)

pub push_reserved-requires-else-takes_first : goal.push_reserved-requires-else-takes_first
push_reserved-requires-else-takes_first c = omega (arith, c.if-takes_first.ensures.second.0, c.loop-i.invariant.room)

pub returns-in_err-reserve-clause-kept : goal.returns-in_err-reserve-clause-kept
returns-in_err-reserve-clause-kept c = ap (take (length c.args.out.now.items)) c.reserve.ensures.items ∙ take-length c.args.out.now.items

pub returns-clause-kept : goal.returns-clause-kept
returns-clause-kept c = subst (λ (l : List Place). take (length l) c.loop-i.out.items ≡ l) c.reserve.ensures.items (merging_keeps c.loop-i.invariant.merging)

pub loop-i-smaller : goal.loop-i-smaller
loop-i-smaller c = omega (arith, c.if-takes_first.ensures.second.0, length-map c.args.xs.now (moved c.args.of_x.now), length-map c.args.ys.now (moved c.args.of_y.now))

pub loop-i-smaller-then-takes_first : goal.loop-i-smaller-then-takes_first
loop-i-smaller-then-takes_first c = omega (arith, c.if-takes_first.ensures.first.0, length-map c.args.xs.now (moved c.args.of_x.now), length-map c.args.ys.now (moved c.args.of_y.now))
