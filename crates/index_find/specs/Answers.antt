-- What reading a query answers.
use Rattle.std.specs.Prelude.{List, Result, Ok, Err}
use Rattle.index_find.specs.Tree.{Tree}
use Rattle.index_find.specs.Grammar.{Token, Reads, IsReading}
use Rattle.index_find.specs.Postfix.{tree_of}
use Rattle.index_find.specs.declared.query.Step.{Step}
use Rattle.index_find.specs.declared.read.QueryFault.{QueryFault}
use Rattle.index_find.specs.declared.read.QueryFault.TheVariants.{Memory, NotAQuery}

-- the tokens read as the tree of these steps and as no other, or as none; nothing is said where memory ran out
abbrev pub IsAnswer : List Token → Result (List Step) QueryFault → Type 0
IsAnswer tokens (Ok query) = IsReading tokens (tree_of query)
IsAnswer tokens (Err NotAQuery) = (tree : Tree) → ¬ Reads tokens tree
IsAnswer tokens (Err Memory) = Unit {0}
