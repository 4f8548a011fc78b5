-- What is kept of an index for a query.
use Rattle.std.specs.Prelude.{◌≡◌, ◌↔◌, ◌≤◌, ℕ, List, true, length, IfSome}
use Rattle.std.specs.List.{Contains}
use Rattle.std.specs.declared.option.Option.{Option}
use Rattle.word_index.specs.Index.{Hit, Row, IsRising}
use Rattle.index_table.specs.Rows.{Drafted, AreOrdered, HasFile, HasPath, IsAmong, paths_of}
use Rattle.index_text.specs.Texts.{ReadsAs}
use Rattle.index_find.specs.Tree.{Tree}
use Rattle.index_find.specs.Meaning.{AreMeant}
use Rattle.index_find.specs.Asked.{asks_for, negates}
use Rattle.index_find.specs.declared.query.Step.{Step}

-- the row has some hits of the other
pub record IsSomeOf (row other : Row) : Type 0 where
  pub word : row.word ≡ other.word
  pub hits : (h : Hit) → Contains row.hits h → Contains other.hits h

-- Of the rows that were offered those of the query's words are kept whole. Where it negates, each path is kept. What is kept was offered.
pub record KeepsRows (steps : List Step) (kept offered : List Row) : Type 0 where
  pub wanted : (row : Row) → Contains offered row → asks_for row.word steps ≡ true → Contains kept row
  pub paths : negates steps ≡ true → (path : List ℕ) → HasPath offered path → HasPath kept path
  pub rows : (row : Row) → Contains kept row → (other : Row) × Contains offered other × IsSomeOf row other
  pub ordered : AreOrdered offered → AreOrdered kept

-- the same of the hits of the row under way
pub record KeepsHits (steps : List Step) (kept : Drafted) (word : List ℕ) (offered : List Hit) : Type 0 where
  pub wanted : asks_for word steps ≡ true → kept.hits ≡ offered
  pub paths : negates steps ≡ true → (h : Hit) → Contains offered h → IsAmong kept h.path
  pub hits : (h : Hit) → Contains kept.hits h → Contains offered h
  pub rising : IsRising (paths_of offered) → IsRising (paths_of kept.hits)

-- the kept rows have the same files of the query's words, and where it negates the same paths
pub record Serves (steps : List Step) (kept offered : List Row) : Type 0 where
  pub files : (word : List ℕ) → asks_for word steps ≡ true → (path : List ℕ) → HasFile kept word path ↔ HasFile offered word path
  pub paths : negates steps ≡ true → (path : List ℕ) → HasPath kept path ↔ HasPath offered path

-- the paths are those that the tree means in the index that the input is the text of, which has at most so many bytes
pub record AreFound (most : ℕ) (left : Option (List ℕ)) (tree : Tree) (paths : List (List ℕ)) : Type 0 where
  pub rows : List Row
  pub skipped : List (List ℕ)
  pub read : IfSome left (λ bytes. (length bytes ≤ most) × ReadsAs bytes rows skipped)
  pub meant : AreMeant rows tree paths
