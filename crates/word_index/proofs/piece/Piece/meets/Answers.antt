use Rattle.std.proofs.Common.{◌≡◌, ◌≤◌, ◌<◌, List, ℕ, [], get_or, refl, sym, subst, length, arith}
use Rattle.std.specs.List.{Contains}
use Rattle.std.proofs.lemmas.List.Elements.{Contains-get_or}
use Rattle.word_index.proofs.Searches.{apart_first, apart_flip, apart_all, never}
use Rattle.word_index.proofs.piece.Piece.meets.Goals as goal

pub loop-i-preserved-in-Less : goal.loop-i-preserved-in-Less
loop-i-preserved-in-Less c =
    let less = c.in-Less.ensures.less refl in
    apart_first c.other.invariant.paths c.loop-i.invariant less.0 (less.1 (omega arith))

pub loop-i-preserved : goal.loop-i-preserved
loop-i-preserved c =
    let greater = c.in-Greater.ensures.greater refl in
    apart_flip (apart_first c.self.invariant.paths (apart_flip c.loop-i.invariant) greater.0 (greater.1 (omega arith)))

pub returns-in-Equal : goal.returns-in-Equal
returns-in-Equal c =
    let equal = c.in-Equal.ensures.equal refl in
    let xs = c.self.inside.paths in
    let ys = c.other.inside.paths in
    let p = get_or xs c.loop-i.i [] in
    rw (← c.self.view_is, ← c.other.view_is) ((λ _. (p, Contains-get_or xs c.loop-i.i [] equal.0, subst (Contains ys) (sym equal.2) (Contains-get_or ys c.loop-i.j [] equal.1))), (λ _. refl))

pub returns-else-j-len : goal.returns-else-j-len
returns-else-j-len c = rw (← c.self.view_is, ← c.other.view_is) (never, (λ meet. absurd (apart_all (apart_flip c.loop-i.invariant) (omega arith) meet.0 meet.2 meet.1)))

pub returns-after-loop-i : goal.returns-after-loop-i
returns-after-loop-i c = rw (← c.self.view_is, ← c.other.view_is) (never, (λ meet. absurd (apart_all c.loop-i.invariant (omega arith) meet.0 meet.1 meet.2)))
