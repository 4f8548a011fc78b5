use Rattle.std.proofs.Common.{refl, arith}
use Rattle.word_index.proofs.Tables.{row_numbered, row_rises, tables_none, tables_first, tables_second, tables_both, tables_all}
use Rattle.word_index.proofs.merges.join_rows.Goals as goal

pub loop-i-preserved-in-Less : goal.loop-i-preserved-in-Less
loop-i-preserved-in-Less c =
    let less = c.in-Less.ensures.less refl in
    let s = c.a.invariant in
    let finds = rw (← c.a.view_is) at c.requires.first in
    rw (c.in_ok-push-in-Less.ensures.added, c.in_ok-push_moved-in-Less.ensures, c.get.ensures, c.get-in-Less.ensures, c.deref.ensures.value)
    (tables_first (record { words = s.words; many = s.many; each = s.each; finds = finds }) c.loop-i.invariant less.0 less.1)

pub loop-i-preserved-in-Greater : goal.loop-i-preserved-in-Greater
loop-i-preserved-in-Greater c =
    let greater = c.in-Greater.ensures.greater refl in
    let s = c.b.invariant in
    let finds = rw (← c.b.view_is) at c.requires.second in
    rw (c.in_ok-push-in-Greater.ensures.added, c.in_ok-push_moved-in-Greater.ensures, c.get-in-Greater.ensures, c.get-in-Greater-2.ensures, c.deref-in-Greater.ensures.value)
    (tables_second (record { words = s.words; many = s.many; each = s.each; finds = finds }) c.loop-i.invariant greater.0 greater.1)

pub push_moved-requires : goal.push_moved-requires
push_moved-requires c =
    let s = c.a.invariant in
    let finds = rw (← c.a.view_is) at c.requires.first in
    row_numbered {s = record { paths = c.a.inside.paths; words = c.a.inside.words; rows = c.a.inside.places; numbers = c.args.paths.now.of_a.items }} (record { words = s.words; many = s.many; each = s.each; finds = finds }) (c.in-Less.ensures.less refl).0 c.get-in-Less.ensures c.deref.ensures.value

pub push_moved-requires-in-Greater : goal.push_moved-requires-in-Greater
push_moved-requires-in-Greater c =
    let s = c.b.invariant in
    let finds = rw (← c.b.view_is) at c.requires.second in
    row_numbered {s = record { paths = c.b.inside.paths; words = c.b.inside.words; rows = c.b.inside.places; numbers = c.args.paths.now.of_b.items }} (record { words = s.words; many = s.many; each = s.each; finds = finds }) (c.in-Greater.ensures.greater refl).0 c.get-in-Greater-2.ensures c.deref-in-Greater.ensures.value

pub push_merged-requires-clause-xs : goal.push_merged-requires-clause-xs
push_merged-requires-clause-xs c =
    let s = c.a.invariant in
    let finds = rw (← c.a.view_is) at c.requires.first in
    row_numbered {s = record { paths = c.a.inside.paths; words = c.a.inside.words; rows = c.a.inside.places; numbers = c.args.paths.now.of_a.items }} (record { words = s.words; many = s.many; each = s.each; finds = finds }) (c.in-Equal.ensures.equal refl).0 c.get-in-Equal-2.ensures c.deref-in-Equal.ensures.value

pub push_merged-requires-clause-ys : goal.push_merged-requires-clause-ys
push_merged-requires-clause-ys c =
    let s = c.b.invariant in
    let finds = rw (← c.b.view_is) at c.requires.second in
    row_numbered {s = record { paths = c.b.inside.paths; words = c.b.inside.words; rows = c.b.inside.places; numbers = c.args.paths.now.of_b.items }} (record { words = s.words; many = s.many; each = s.each; finds = finds }) (c.in-Equal.ensures.equal refl).1 c.get-in-Equal-3.ensures c.deref-in-Equal-2.ensures.value

pub push_merged-requires-clause-xs_rise : goal.push_merged-requires-clause-xs_rise
push_merged-requires-clause-xs_rise c =
    let s = c.a.invariant in
    let finds = rw (← c.a.view_is) at c.requires.first in
    row_rises {s = record { paths = c.a.inside.paths; words = c.a.inside.words; rows = c.a.inside.places; numbers = c.args.paths.now.of_a.items }} (record { words = s.words; many = s.many; each = s.each; finds = finds }) (c.in-Equal.ensures.equal refl).0 c.get-in-Equal-2.ensures c.deref-in-Equal.ensures.value

pub push_merged-requires-clause-ys_rise : goal.push_merged-requires-clause-ys_rise
push_merged-requires-clause-ys_rise c =
    let s = c.b.invariant in
    let finds = rw (← c.b.view_is) at c.requires.second in
    row_rises {s = record { paths = c.b.inside.paths; words = c.b.inside.words; rows = c.b.inside.places; numbers = c.args.paths.now.of_b.items }} (record { words = s.words; many = s.many; each = s.each; finds = finds }) (c.in-Equal.ensures.equal refl).1 c.get-in-Equal-3.ensures c.deref-in-Equal-2.ensures.value

pub get-requires : goal.get-requires
get-requires c = (c.in-Less.ensures.less refl).0

pub get-requires-in-Less : goal.get-requires-in-Less
get-requires-in-Less c = omega (arith, (c.in-Less.ensures.less refl).0, c.a.invariant.many)

pub get-requires-in-Greater : goal.get-requires-in-Greater
get-requires-in-Greater c = (c.in-Greater.ensures.greater refl).0

pub get-requires-in-Greater-2 : goal.get-requires-in-Greater-2
get-requires-in-Greater-2 c = omega (arith, (c.in-Greater.ensures.greater refl).0, c.b.invariant.many)

pub get-requires-in-Equal : goal.get-requires-in-Equal
get-requires-in-Equal c = (c.in-Equal.ensures.equal refl).0

pub get-requires-in-Equal-2 : goal.get-requires-in-Equal-2
get-requires-in-Equal-2 c = omega (arith, (c.in-Equal.ensures.equal refl).0, c.a.invariant.many)

pub get-requires-in-Equal-3 : goal.get-requires-in-Equal-3
get-requires-in-Equal-3 c = omega (arith, (c.in-Equal.ensures.equal refl).1, c.b.invariant.many)

pub push_merged-requires-clause-apart : goal.push_merged-requires-clause-apart
push_merged-requires-clause-apart c = rw (c.deref-in-Equal.ensures.value, c.deref-in-Equal-2.ensures.value) c.requires.apart

pub loop-i-init : goal.loop-i-init
loop-i-init c = rw (c.requires.no_words, c.requires.no_places) (tables_none _ _)

pub overflow_add-i : goal.overflow_add-i
overflow_add-i c = omega (arith, (c.in-Less.ensures.less refl).0)

pub overflow_add-j : goal.overflow_add-j
overflow_add-j c = omega (arith, (c.in-Greater.ensures.greater refl).0)

pub overflow_add-i-in-Equal : goal.overflow_add-i-in-Equal
overflow_add-i-in-Equal c = omega (arith, (c.in-Equal.ensures.equal refl).0)

pub overflow_add-j-in-Equal : goal.overflow_add-j-in-Equal
overflow_add-j-in-Equal c = omega (arith, (c.in-Equal.ensures.equal refl).1)

pub loop-i-preserved : goal.loop-i-preserved
loop-i-preserved c =
    let equal = c.in-Equal.ensures.equal refl in
    let a = c.a.invariant in
    let b = c.b.invariant in
    let finds_a = rw (← c.a.view_is) at c.requires.first in
    let finds_b = rw (← c.b.view_is) at c.requires.second in
    let pushed = c.in_ok-push_merged-in-Equal.ensures in
    let merged = rw (c.get-in-Equal-2.ensures, c.get-in-Equal-3.ensures, c.deref-in-Equal.ensures.value, c.deref-in-Equal-2.ensures.value) at pushed.merged in
    rw (c.in_ok-push-in-Equal.ensures.added, pushed.is, c.get-in-Equal.ensures)
    (tables_both (record { words = a.words; many = a.many; each = a.each; finds = finds_a }) (record { words = b.words; many = b.many; each = b.each; finds = finds_b }) c.loop-i.invariant equal.0 equal.1 equal.2 pushed.row merged)

pub returns : goal.returns
returns c =
    let a = c.a.invariant in
    let b = c.b.invariant in
    let finds_a = rw (← c.a.view_is) at c.requires.first in
    let finds_b = rw (← c.b.view_is) at c.requires.second in
    rw (← c.a.view_is, ← c.b.view_is)
    (tables_all (record { words = a.words; many = a.many; each = a.each; finds = finds_a }) (record { words = b.words; many = b.many; each = b.each; finds = finds_b }) (omega arith) (omega arith) c.loop-i.invariant)
