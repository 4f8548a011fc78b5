-- What some commands make of the texts of others.
use Rattle.std.specs.Prelude.{◌≡◌, ◌⊎◌, ◌↔◌, ℕ, false, List, Contains, Option, Some}
use Rattle.larch_actions.specs.declared.event.Layout.{Layout}
use Rattle.command_line.specs.Grammar.{Options}
use Rattle.command_check.specs.Accepted.{IsAccepted}
use Rattle.command_endings.specs.Changes.{Change}
use Rattle.command_find.specs.Find.{IsFound}
use Rattle.command_find.specs.Lines.{lines_of}
use Rattle.firefly_outside.specs.Trees.{Path, Contents, Bytes, child, is_long}
use Rattle.firefly_outside.specs.Under.{IsUnder}
use Rattle.firefly_outside.specs.declared.tree.Kind.TheVariants.{File}
use Rattle.index_find.specs.Tree.{Tree, Word, Not, Both, Either}
use Rattle.index_print.specs.Text.{index_text}
use Rattle.index_text.specs.Laws.{AreFiles}
use Rattle.index_text.specs.Texts.{ReadsAs}
use Rattle.word_index.specs.Counts.{Seen, seen_in}
use Rattle.word_index.specs.Index.{Index, IsRising}
use Rattle.word_index.specs.Words.{file_words}
use Rattle.walker.specs.TreeIndex.{IsTreeIndex}
use Rattle.script_text.specs.declared.line.Line.{Line}
use Rattle.script_plays.specs.Plays.{IsWhole}
use Rattle.command_rounds.specs.RoundsCommand.{IsRoundsTrace}
use Rattle.firefly.specs.Looks.{Look}
use Rattle.firefly.specs.RunCommand.{IsRunOf, IsTraceOf}
use Rattle.firefly.specs.TraceCommand.{IsIndexTrace}

-- the trace of a run of a script is accepted
abbrev pub AcceptsRuns : Type 0
AcceptsRuns = (l : Layout) (xs : List Line) (bytes : List ℕ) → IsTraceOf l xs bytes → IsAccepted bytes

-- and so is that of an index run
abbrev pub AcceptsIndexRuns : Type 0
AcceptsIndexRuns = (o : Options) (old new : List (Option Look)) (bytes : List ℕ) → IsIndexTrace o old new bytes → IsAccepted bytes

-- and that of rounds
abbrev pub AcceptsRounds : Type 0
AcceptsRounds = (threads rounds : ℕ) (bytes : List ℕ) → IsRoundsTrace threads rounds bytes → IsAccepted bytes

-- the history that `run` writes is a whole play of the script that it read
abbrev pub RunsAreWholePlays : Type 0
RunsAreWholePlays = (input : Change) (bytes : List ℕ) (run : IsRunOf input bytes) → IsWhole run.layout run.lines run.trace.events

-- two indexes of the files under a root of a tree are the same
abbrev pub IsOneIndex : Type 0
IsOneIndex = (t : Contents) (root : Path) (a b : Index) → IsTreeIndex t root a → IsTreeIndex t root b → a ≡ b

-- the tree has a file at this path below the root, which isn't too long and has the word
pub record HasWord (t : Contents) (root : Path) (word path : List ℕ) : Type 0 where
  pub under : IsUnder t root File (child root path)
  pub bytes : List ℕ
  pub here : t (child root path) ≡ Some (Bytes bytes)
  pub short : is_long bytes ≡ false
  pub seen : Seen
  pub is_seen : seen_in word (file_words bytes) ≡ Some seen

-- A query means these files of the tree. What a query doesn't mean is meant among the files that have a word.
abbrev pub MeansFile : Contents → Path → Tree → List ℕ → Type 0
MeansFile t root (Word w) path = HasWord t root w path
MeansFile t root (Not q) path = ((w : List ℕ) × HasWord t root w path) × (MeansFile t root q path → ⊥)
MeansFile t root (Both x y) path = MeansFile t root x path × MeansFile t root y path
MeansFile t root (Either x y) path = MeansFile t root x path ⊎ MeansFile t root y path

-- the text names the files that the query means, in the order of their paths, each once and on a line
pub record NamesFiles (t : Contents) (root : Path) (query : Tree) (text : List ℕ) : Type 0 where
  pub paths : List (List ℕ)
  pub rising : IsRising paths
  pub each : (p : List ℕ) → Contains paths p ↔ MeansFile t root query p
  pub lines : text ≡ lines_of paths

-- The text of the index of a tree reads as that index, and what `find` writes for a query on it names the files of the tree that the query
-- means. The paths of the files are UTF-8 and not empty, and the files and the bytes of each are fewer than 2 to the power of 64.
abbrev pub FindsIndexed : Type 0
FindsIndexed =
    (t : Contents) (root : Path) (index : Index) (x : IsTreeIndex t root index) → AreFiles x.files
    → ReadsAs (index_text index) index.rows index.skipped
    × ((most : ℕ) (query : Tree) (input : Change) (text : List ℕ) → input.old ≡ Some (index_text index) → IsFound most query input text
    → NamesFiles t root query text)
