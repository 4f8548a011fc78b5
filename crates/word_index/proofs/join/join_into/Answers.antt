use Rattle.std.proofs.Common.{◌≡◌, ◌<◌, ◌≤◌, ◌∙◌, ℕ, refl, arith}
use Rattle.word_index.proofs.Joined.{joined_none, joined_first, joined_second, joined_both, joined_members}
use Rattle.word_index.proofs.join.join_into.Goals as goal

still_room : (n a b : ℕ) → n ≤ a → b ≡ a → n ≤ b
still_room n a b h e = omega arith

room_for_one : (l n m room : ℕ) → l ≡ n → n < m → m ≤ room → l < room
room_for_one l n m room e low wide = omega arith

pub loop-i-init : goal.loop-i-init
loop-i-init c = record { joined = rw (c.requires.none, c.requires.none_of_a, c.requires.none_of_b) joined_none; room_of_a = c.requires.room_of_a; room_of_b = c.requires.room_of_b }

pub loop-i-preserved-in-Less : goal.loop-i-preserved-in-Less
loop-i-preserved-in-Less c = let i = c.loop-i.invariant in let less = c.in-Less.ensures.less refl in record {
  joined = rw (c.in_ok-push-in-Less.ensures.added, c.push_reserved.ensures.items, c.in_ok-place.ensures, c.len.ensures, c.get.ensures)
      (joined_first c.requires.a_rises c.requires.b_rises i.joined less.0 less.1);
  room_of_a = still_room _ _ _ i.room_of_a c.push_reserved.ensures.capacity;
  room_of_b = i.room_of_b;
}

pub loop-i-preserved-in-Greater : goal.loop-i-preserved-in-Greater
loop-i-preserved-in-Greater c = let i = c.loop-i.invariant in let greater = c.in-Greater.ensures.greater refl in record {
  joined = rw (c.in_ok-push-in-Greater.ensures.added, c.push_reserved-in-Greater.ensures.items, c.in_ok-place.ensures, c.len.ensures, c.get-in-Greater.ensures)
      (joined_second c.requires.a_rises c.requires.b_rises i.joined greater.0 greater.1);
  room_of_a = i.room_of_a;
  room_of_b = still_room _ _ _ i.room_of_b c.push_reserved-in-Greater.ensures.capacity;
}

pub loop-i-preserved : goal.loop-i-preserved
loop-i-preserved c = let i = c.loop-i.invariant in let equal = c.in-Equal.ensures.equal refl in record {
  joined = rw (c.in_ok-push-in-Equal.ensures.added, c.push_reserved-in-Equal.ensures.items, c.push_reserved-in-Equal-2.ensures.items, c.in_ok-place.ensures, c.len.ensures, c.get-in-Equal.ensures)
      (joined_both c.requires.a_rises c.requires.b_rises i.joined equal.0 equal.1 equal.2);
  room_of_a = still_room _ _ _ i.room_of_a c.push_reserved-in-Equal.ensures.capacity;
  room_of_b = still_room _ _ _ i.room_of_b c.push_reserved-in-Equal-2.ensures.capacity;
}

pub returns-clause-members : goal.returns-clause-members
returns-clause-members c = joined_members (omega arith) (omega arith) c.loop-i.invariant.joined

pub push_reserved-requires : goal.push_reserved-requires
push_reserved-requires c = room_for_one _ _ _ _ (c.loop-i.of_a.ok.0 ∙ c.loop-i.invariant.joined.first.many) (c.in-Less.ensures.less refl).0 c.loop-i.invariant.room_of_a

pub push_reserved-requires-in-Greater : goal.push_reserved-requires-in-Greater
push_reserved-requires-in-Greater c = room_for_one _ _ _ _ (c.loop-i.of_b.ok.0 ∙ c.loop-i.invariant.joined.second.many) (c.in-Greater.ensures.greater refl).0 c.loop-i.invariant.room_of_b

pub push_reserved-requires-in-Equal : goal.push_reserved-requires-in-Equal
push_reserved-requires-in-Equal c = room_for_one _ _ _ _ (c.loop-i.of_a.ok.0 ∙ c.loop-i.invariant.joined.first.many) (c.in-Equal.ensures.equal refl).0 c.loop-i.invariant.room_of_a

pub push_reserved-requires-in-Equal-2 : goal.push_reserved-requires-in-Equal-2
push_reserved-requires-in-Equal-2 c = room_for_one _ _ _ _ (c.loop-i.of_b.ok.0 ∙ c.loop-i.invariant.joined.second.many) (c.in-Equal.ensures.equal refl).1 c.loop-i.invariant.room_of_b

pub get-requires : goal.get-requires
get-requires c = (c.in-Less.ensures.less refl).0

pub get-requires-in-Greater : goal.get-requires-in-Greater
get-requires-in-Greater c = (c.in-Greater.ensures.greater refl).0

pub get-requires-in-Equal : goal.get-requires-in-Equal
get-requires-in-Equal c = (c.in-Equal.ensures.equal refl).0

pub overflow_add-i : goal.overflow_add-i
overflow_add-i c = omega (arith, (c.in-Less.ensures.less refl).0)

pub overflow_add-j : goal.overflow_add-j
overflow_add-j c = omega (arith, (c.in-Greater.ensures.greater refl).0)

pub overflow_add-i-in-Equal : goal.overflow_add-i-in-Equal
overflow_add-i-in-Equal c = omega (arith, (c.in-Equal.ensures.equal refl).0)

pub overflow_add-j-in-Equal : goal.overflow_add-j-in-Equal
overflow_add-j-in-Equal c = omega (arith, (c.in-Equal.ensures.equal refl).1)
