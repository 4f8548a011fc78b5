use Rattle.std.proofs.Common.{◌++◌, ◌∷◌, [], List, vec_len}
use Rattle.word_index.specs.Index.{File, IsIndexOf}
use Rattle.walker.specs.Pile.{AreApart, IsPileOf}
use Rattle.walker.proofs.read.add_piece.Given as goal

abbrev pub invariant-loop-below : goal.invariant-loop-below
invariant-loop-below l = record {
  apart : AreApart (l.pile.items ++ l.top ∷ []);
  index : (fs gs : List File) → IsPileOf l.fn.pile.items fs → IsIndexOf gs l.fn.next → IsPileOf (l.pile.items ++ l.top ∷ []) (fs ++ gs);
}

abbrev pub decreases-loop-below : goal.decreases-loop-below
decreases-loop-below l = vec_len l.pile
