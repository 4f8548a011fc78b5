use Rattle.std.proofs.Common.{◌++◌, ◌∷◌, [], List, vec_len, Contains}
use Rattle.word_index.specs.Index.{File, Index, Meet}
use Rattle.walker.specs.Pile.{AreApart, IsPileOf}
use Rattle.walker.proofs.read.merged_onto.Given as goal

abbrev pub invariant-loop-below : goal.invariant-loop-below
invariant-loop-below l = record {
  apart : AreApart (l.pile.items ++ l.top ∷ []);
  first : (first : Index) → AreApart (first ∷ l.fn.pile.items ++ l.fn.last ∷ []) → (a : Index) → Contains (l.pile.items ++ l.top ∷ []) a → ¬ Meet first a;
  index : (files : List File) → IsPileOf (l.fn.pile.items ++ l.fn.last ∷ []) files → IsPileOf (l.pile.items ++ l.top ∷ []) files;
}

abbrev pub decreases-loop-below : goal.decreases-loop-below
decreases-loop-below l = vec_len l.pile
