use Rattle.std.proofs.Common.{List, [], ◌∷◌, ◌++◌, ap, ◌∙◌}
use Rattle.bounded_buffer.specs.Rings.{fresh}
use Rattle.index_rule.specs.declared.value.IndexValue.{IndexValue}
use Rattle.index_rule.specs.declared.value.IndexValue.TheVariants.{Dirs, Ring}
use Rattle.indexer.proofs.run.opening.first_values.Goals as goal

pub returns : goal.returns
returns c =
    let dirs = c.in_ok-dirs.dirs in
    let one = c.push_reserved.ensures.items ∙ ap (λ (l : List IndexValue). l ++ Dirs dirs ∷ []) c.in_ok-values.ensures.items in
    let two = c.push_reserved-2.ensures.items ∙ ap (λ (l : List IndexValue). l ++ Ring c.in_ok-files.files ∷ []) one in
    let three = c.push_reserved-3.ensures.items ∙ ap (λ (l : List IndexValue). l ++ Ring c.in_ok-pieces.pieces ∷ []) two in
    record {
      dirs = dirs;
      first = c.in_ok-dirs.ensures.first;
      is = three ∙ (ap (λ q. Dirs dirs ∷ Ring q ∷ Ring c.in_ok-pieces.pieces ∷ []) c.in_ok-files.ensures ∙ ap (λ q. Dirs dirs ∷ Ring (fresh 4096) ∷ Ring q ∷ []) c.in_ok-pieces.ensures);
    }
