use Rattle.std.proofs.Common.{◌≡◌, ◌+◌, ◌<◌, List, ℕ, [], ◌∷◌, ◌++◌, length, ap, sym, ◌∙◌, subst, arith}
use Rattle.index_find.specs.Marks.{path_at, AreChosen}
use Rattle.index_find.proofs.Picked.{chosen_same, chosen_more}
use Rattle.index_find.proofs.chosen.chosen_paths.Goals as goal
use Rattle.index_find.proofs.chosen.chosen_paths.Goals.{then-get+in_ok-of+in_ok-push, else-get}

pub loop-place-preserved : goal.loop-place-preserved
loop-place-preserved c =
    let marks = c.args.marks.now in
    let paths = c.args.index.now.paths in
    let n = c.loop-place.place in
    elim c.if-get.branch [
      | then-get+in_ok-of+in_ok-push w ↦
          let within : n < length paths = omega arith in
          let more = chosen_more marks paths n c.loop-place.texts.items c.requires.rising within (sym c.get.ensures ∙ w.if-get.true) c.loop-place.invariant in
          let items : c.loop-place.texts.items ++ path_at paths n ∷ [] ≡ c.if-get.texts.items =
          sym (ap (λ v. v.items) w.texts-is ∙ w.in_ok-push.ensures.items ∙ ap (λ (x : List ℕ). c.loop-place.texts.items ++ x ∷ []) (w.in_ok-of.ensures ∙ w.path.ensures)) in
          subst (AreChosen marks paths (n + 1)) items more
      | else-get w ↦
          let same = chosen_same marks paths n c.loop-place.texts.items (sym c.get.ensures ∙ w.if-get.false) c.loop-place.invariant in
          let items : c.loop-place.texts.items ≡ c.if-get.texts.items = sym (ap (λ v. v.items) w.texts-is) in
          subst (AreChosen marks paths (n + 1)) items same
    ]
