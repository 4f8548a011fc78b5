-- What a query asks for.
use Rattle.std.specs.Prelude.{ℕ, List}

-- a word in lower case, what a tree doesn't ask for, what both ask for, what either asks for
pub data Tree : Type 0 where
  Word : List ℕ → Tree
  Not : Tree → Tree
  Both : Tree → Tree → Tree
  Either : Tree → Tree → Tree
