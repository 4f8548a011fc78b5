use Rattle.std.proofs.Common.{[], ◌∷◌, List, Result, Ok, Err, IfOk}
use Rattle.word_index.specs.Index.{File, Index, IsIndexOf}
use Rattle.word_index.specs.Batch.{Held, HoldsFiles}
use Rattle.word_index.specs.Read.{read_file}
use Rattle.word_index.proofs.of_file.piece_of.Goals as goal

-- the index of the files that the batch holds
if_index : {E : Type 0} (r : Result Index E) (b : Held) (fs : List File) → HoldsFiles fs b → IfOk r (λ p. (fs : List File) → HoldsFiles fs b → IsIndexOf fs p) → IfOk r (IsIndexOf fs)
if_index (Ok p) b fs holds h = h fs holds
if_index (Err e) b fs holds h = tt

pub returns : goal.returns
returns c =
    let f = read_file c.args.path.now c.args.file.now in
    if_index c.into_piece.result _ (f ∷ []) (c.in_ok-add.ensures [] c.new.ensures.none) c.into_piece.ensures
