-- Pieces that lie on a pile until they are merged, and the files read for them.
use Rattle.std.specs.Prelude.{◌≡◌, ◌≢◌, ℕ, ◌+◌, List, [], ◌∷◌, ◌++◌, length, map, take, Option, IfSome, Contains, AllPairs, ◌⊎◌, Result, Ok, Err}
use Rattle.firefly_outside.specs.Trees.{Path, Contents, Calls, child, IsFault}
use Rattle.firefly_outside.specs.Under.{IsThere}
use Rattle.firefly_outside.specs.declared.tree.Kind.TheVariants.{File as a_file}
use Rattle.word_index.specs.Index.{File, Index, Meet, IsIndexOf}
use Rattle.word_index.specs.Batch.{Held, HoldsFiles}
use Rattle.walker.specs.Walk.{Walk, IsWalkOf}
use Rattle.walker.specs.TreeIndex.{IsTreeIndex, IsFileAt}
use Rattle.walker.specs.Closing.{IsFaultUnder, IsDone, failed_by}
use Rattle.walker.specs.declared.answer.WalkAnswer.{WalkAnswer}
use Rattle.walker.specs.declared.answer.WalkAnswer.TheVariants.{Done, Stopped, ReadFault, TooMany, Memory}

-- no two pieces cover a common path
abbrev pub AreApart : List Index → Type 0
AreApart pieces = AllPairs (λ a b. ¬ Meet a b) pieces

-- the pieces are the indexes of these files, one after the other
abbrev pub IsPileOf : List Index → List File → Type 0
IsPileOf [] files = files ≡ []
IsPileOf (piece ∷ pieces) files = (part : List File) × (rest : List File) × IsIndexOf part piece × IsPileOf pieces rest
    × (files ≡ part ++ rest)

-- reading ends with the index, a fault or want of memory
abbrev pub IsReadEnd : WalkAnswer → Type 0
IsReadEnd (Done piece) = Unit {0}
IsReadEnd (Stopped many) = ⊥
IsReadEnd (ReadFault path) = Unit {0}
IsReadEnd (TooMany many) = ⊥
IsReadEnd Memory = Unit {0}

-- the calls with one more read
abbrev pub with_read : Calls → Path → Calls
with_read c path = record c { files_read = c.files_read ++ path ∷ [] }

-- the files lie on the pile, and the last of them in a batch
pub record AreKept (pieces : List Index) (held : Held) (files : List File) : Type 0 where
  pub done : List File
  pub waiting : List File
  pub is : files ≡ done ++ waiting
  pub pile : IsPileOf pieces done
  pub batch : HoldsFiles waiting held

abbrev pub AreDistinct : List File → Type 0
AreDistinct files = AllPairs (λ p q. p ≢ q) (map (λ f. f.path) files)

-- what reading one more file reports
abbrev pub ReadsNext : {T : Type 0} → Path → Path → List Path → Calls → Calls → Result T WalkAnswer → Contents → Type 0
ReadsNext root name weak before now (Ok piece) t = now ≡ with_read before (child root name)
ReadsNext root name weak before now (Err (Done piece)) t = ⊥
ReadsNext root name weak before now (Err (Stopped many)) t = ⊥
ReadsNext root name weak before now (Err (ReadFault path)) t = (path ≡ child root name)
    × IsFault weak (child root name) (IsThere t a_file (child root name)) before now
ReadsNext root name weak before now (Err (TooMany many)) t = ⊥
ReadsNext root name weak before now (Err Memory) t = (now ≡ before) ⊎ (now ≡ with_read before (child root name))

-- the calls with reads of these files below the root
abbrev pub with_reads : Calls → Path → List Path → Calls
with_reads c root names = record c { files_read = c.files_read ++ map (child root) names }

-- the files found before this place that aren't covered were read, each once, and are kept so
pub record HasRead (tree : Option Contents) (w : Walk) (covered : List Path) (before now : Calls) (at : ℕ) (Kept : List File → Type 0) : Type 0
  where
    pub files : List File
    pub kept : Kept files
    pub once : AreDistinct files
    pub early : (p : Path) → Contains (map (λ f. f.path) files) p → Contains (take at w.files) p × (¬ Contains covered p)
    pub all : (p : Path) → Contains (take at w.files) p → Contains covered p ⊎ Contains (map (λ f. f.path) files) p
    pub reported : IfSome tree (λ t. ((f : File) → Contains files f → IsFileAt t w.root f)
        × (now ≡ with_reads before w.root (map (λ f. f.path) files)))

-- the calls of a walk that stops while it reads
pub record ReadsSome (w : Walk) (covered : List Path) (before now : Calls) (answer : WalkAnswer) : Type 0 where
  pub names : List Path
  pub once : AllPairs (λ p q. p ≢ q) names
  pub fresh : (p : Path) → Contains names p → ¬ Contains covered p
  pub found : (p : Path) → Contains names p → Contains w.files p
  pub all : IsDone answer → (p : Path) → Contains w.files p → Contains covered p ⊎ Contains names p
  pub listed : now.listed ≡ before.listed
  pub read : now.files_read ≡ before.files_read ++ map (child w.root) names
  pub failed : now.failed ≡ before.failed ++ failed_by answer

-- what a walk that stops while it reads reports of the tree
abbrev pub StopsReading : Walk → List Path → WalkAnswer → Contents → Type 0
StopsReading w weak (Done piece) t = ⊥
StopsReading w weak (Stopped many) t = ⊥
StopsReading w weak (ReadFault path) t = IsFaultUnder t w.root weak path
StopsReading w weak (TooMany many) t = ⊥
StopsReading w weak Memory t = Unit {0}

-- what reading the files answers
abbrev pub IsRead : {T : Type 0} → Option Contents → Walk → List Path → List Path → Calls → Calls → List Index → Result T WalkAnswer → Type 0
IsRead tree w covered weak before now pieces (Ok v) = HasRead tree w covered before now (length w.files) (IsPileOf pieces)
IsRead tree w covered weak before now pieces (Err answer) =
    IfSome tree (λ t. StopsReading w weak answer t × ReadsSome w covered before now answer)

-- what reading the rest reports
abbrev pub ReadsRest : Walk → List Path → List Path → Calls → Calls → WalkAnswer → Contents → Type 0
ReadsRest w covered weak before now (Done piece) t = IsTreeIndex t w.root piece × ReadsSome w covered before now (Done piece)
ReadsRest w covered weak before now (Stopped many) t = ⊥
ReadsRest w covered weak before now (ReadFault path) t = IsFaultUnder t w.root weak path × ReadsSome w covered before now (ReadFault path)
ReadsRest w covered weak before now (TooMany many) t = ⊥
ReadsRest w covered weak before now Memory t = ReadsSome w covered before now Memory

-- what the step at one place answers
abbrev pub ReadsAt : Option Contents → Walk → List Path → ℕ → List Path → Calls → Calls → (List File → Type 0) → (Held → List File → Type 0)
    → Result Held WalkAnswer → Type 0
ReadsAt tree w covered at weak before now old new (Ok held) = (start : Calls) → HasRead tree w covered start before at old
    → HasRead tree w covered start now (at + 1) (new held)
ReadsAt tree w covered at weak before now old new (Err answer) = (start : Calls) → HasRead tree w covered start before at old
    → IfSome tree (λ t. IsWalkOf w t → StopsReading w weak answer t × ReadsSome w covered start now answer)
