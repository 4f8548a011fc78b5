use Rattle.std.proofs.Common.{◌≡◌, ◌≤◌, ◌<◌, ◌+◌, ◌-◌, ◌/◌, [], get_or, refl, sym, ◌∙◌, subst, length, arith}
use Rattle.std.specs.List.{Contains}
use Rattle.std.proofs.lemmas.List.Elements.{Contains-get_or}
use Rattle.word_index.specs.Index.{IsBelow}
use Rattle.word_index.proofs.Below.{below_back, same_texts}
use Rattle.word_index.proofs.Searches.{searching_all, searching_above, searching_under, searched_all, never}
use Rattle.word_index.proofs.piece.Piece.covers.Goals as goal

pub loop-low-preserved-in-Less : goal.loop-low-preserved-in-Less
loop-low-preserved-in-Less c =
    let s = c.loop-low.invariant in
    searching_above s c.self.invariant.paths _ (omega arith) (omega (arith, s.order)) (rw (← c.get.ensures, ← c.as_bytes.ensures.value) (sym c.in-Less.ensures))

pub returns-in-Equal : goal.returns-in-Equal
returns-in-Equal c =
    let s = c.loop-low.invariant in
    let m = c.loop-low.low + (c.loop-low.high - c.loop-low.low) / 2 in
    let inside : m < length c.self.inside.paths = omega (arith, s.order, s.within) in
    let same = sym c.get.ensures ∙ same_texts c.get.result.now c.as_bytes.result.now (sym c.in-Equal.ensures) ∙ c.as_bytes.ensures.value in
    rw (← c.self.view_is) ((λ _. subst (Contains c.self.inside.paths) same (Contains-get_or c.self.inside.paths m [] inside)), (λ _. refl))

pub loop-low-preserved : goal.loop-low-preserved
loop-low-preserved c =
    let s = c.loop-low.invariant in
    searching_under s c.self.invariant.paths _ (omega arith) (omega (arith, s.order)) (rw (← c.get.ensures, ← c.as_bytes.ensures.value) (below_back c.get.result.now c.as_bytes.result.now (sym c.in-Greater.ensures)))

pub returns : goal.returns
returns c = rw (← c.self.view_is) (never, (λ here. absurd (searched_all c.loop-low.invariant (omega arith) here)))
