use Rattle.std.proofs.Common.{◌≡◌, ◌+◌, ◌<◌, ℕ, List, [], ◌∷◌, ◌++◌, map, take, get_or, length, append_assoc, append-nil, ap, sym, ◌∙◌, arith}
use Rattle.std.proofs.Math.Seq.{take-length}
use Rattle.std.proofs.lemmas.List.{map-append, take_more, take-append-le, take_all}
use Rattle.word_index.specs.declared.rows.Place.{Place}
use Rattle.word_index.specs.Numbered.{moved}
use Rattle.word_index.proofs.rows.add_moved.Goals as goal

-- one place more
moved_next : (numbers : List ℕ) (old out now row : List Place) (k : ℕ) (d y : Place) → k < length row → out ≡ old ++ map (moved numbers) (take k row)
    → now ≡ out ++ y ∷ [] → y ≡ moved numbers (get_or row k d) → now ≡ old ++ map (moved numbers) (take (k + 1) row)
moved_next numbers old out now row k d y here was pushed is =
    let f = moved numbers in
    let prefix = map f (take k row) in
    pushed ∙ (ap (λ (l : List Place). l ++ y ∷ []) was ∙ (append_assoc old prefix (y ∷ []) ∙ ap (λ (l : List Place). old ++ l)
    (ap (λ (z : Place). prefix ++ z ∷ []) is ∙ (sym (map-append f (take k row) (get_or row k d ∷ [])) ∙ ap (map f) (sym (take_more row k d here))))))

pub returns-in_err-reserve-clause-kept : goal.returns-in_err-reserve-clause-kept
returns-in_err-reserve-clause-kept c = ap (take (length c.args.out.now.items)) c.reserve.ensures.items ∙ take-length c.args.out.now.items

pub loop-place-init : goal.loop-place-init
loop-place-init c = record {
  is = sym (append-nil c.reserve.new.self.items);
  room = omega (arith, c.in_ok-reserve.ensures.ok);
}

pub loop-place-preserved : goal.loop-place-preserved
loop-place-preserved c = record {
  is = moved_next c.args.numbers.now c.reserve.new.self.items c.loop-place.out.items c.push_reserved.new.self.items c.args.row.now c.loop-place.place-index _ c.moved_place.result
      (omega arith) c.loop-place.invariant.is c.push_reserved.ensures.items c.moved_place.ensures;
  room = omega (arith, c.loop-place.invariant.room, c.push_reserved.ensures.len, c.push_reserved.ensures.capacity);
}

pub push_reserved-requires : goal.push_reserved-requires
push_reserved-requires c = omega (arith, c.loop-place.invariant.room)

-- so many places after what was there before the room was made
moved_after : (before old out places : List Place) → old ≡ before → out ≡ old ++ places → out ≡ before ++ places
moved_after before old out places same is = is ∙ ap (λ (l : List Place). l ++ places) same

pub returns-clause-kept : goal.returns-clause-kept
returns-clause-kept c =
    let old = c.args.out.now.items in
    let places = map (moved c.args.numbers.now) (take c.loop-place.place-index c.args.row.now) in
    ap (take (length old)) (moved_after old c.reserve.new.self.items c.loop-place.out.items places c.reserve.ensures.items c.loop-place.invariant.is) ∙ take-append-le (length old) old places (omega arith) ∙ take-length old

pub returns-clause-ok : goal.returns-clause-ok
returns-clause-ok c =
    let places = map (moved c.args.numbers.now) (take c.loop-place.place-index c.args.row.now) in
    moved_after c.args.out.now.items c.reserve.new.self.items c.loop-place.out.items places c.reserve.ensures.items c.loop-place.invariant.is
    ∙ ap (λ (l : List Place). c.args.out.now.items ++ map (moved c.args.numbers.now) l) (take_all c.loop-place.place-index c.args.row.now (omega arith))
