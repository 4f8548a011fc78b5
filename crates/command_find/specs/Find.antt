-- What the command `find` answers.
use Rattle.std.specs.Prelude.{◌≡◌, ◌≢◌, ◌⊎◌, ℕ, ◌≤◌, List, length, Some, IfSome}
use Rattle.word_index.specs.Index.{Row}
use Rattle.exact_text.specs.declared.fault.TextFault.{TextFault}
use Rattle.exact_text.specs.declared.fault.TextFault.TheVariants as fault
use Rattle.exact_text.specs.Exact.{IsShown, IsTooLong}
use Rattle.index_text.specs.Texts.{ReadsAs, IsIndexText}
use Rattle.index_text.specs.Faults.{HasReasonIn}
use Rattle.index_find.specs.Tree.{Tree}
use Rattle.index_find.specs.Grammar.{Token, Reads, IsReading}
use Rattle.index_find.specs.Meaning.{AreMeant}
use Rattle.command_endings.specs.declared.status.Status.{Status}
use Rattle.command_endings.specs.declared.status.Status.TheVariants.{Done, Usage, ReadFault, SinkFault, Stopped, Memory, Illegal, BadText, TooMany, TooLong}
use Rattle.command_endings.specs.Changes.{Change, IsStill, Gets, GetsPrefix, Notes}
use Rattle.command_endings.specs.Messages.{usage_message, input_fault_message, output_fault_message, memory_message, bad_line_message, too_long_message}
use Rattle.command_find.specs.Asking.{Asks}
use Rattle.command_find.specs.Lines.{lines_of}

-- the input is the text of these rows and of skipped paths, and has at most so many bytes
abbrev pub IsTextOf : ℕ → Change → List Row → Type 0
IsTextOf most input rows = (skipped : List (List ℕ)) × IfSome input.old (λ bytes. (length bytes ≤ most) × ReadsAs bytes rows skipped)

-- the text has the paths that the tree means in the index that the input is the text of, each on a line
pub record IsFound (most : ℕ) (tree : Tree) (input : Change) (text : List ℕ) : Type 0 where
  pub rows : List Row
  pub paths : List (List ℕ)
  pub read : IsTextOf most input rows
  pub meant : AreMeant rows tree paths
  pub lines : text ≡ lines_of paths

-- why the input can't be read
abbrev pub Fails : ℕ → Change → TextFault → Type 0
Fails most input f = HasReasonIn most input.old input.new input.before input.now f

-- each status by its cause, once the query is read
abbrev pub EndsBy : ℕ → Tree → Change → Change → Change → Status → Type 0
EndsBy most tree input out notes Done = (text : List ℕ) × IsFound most tree input text × Gets out text × IsStill notes
EndsBy most tree input out notes SinkFault = (text : List ℕ) × IsFound most tree input text × GetsPrefix out text × Notes notes output_fault_message
EndsBy most tree input out notes BadText = (k : ℕ) × Fails most input (fault.BadLine k) × IsStill out × Notes notes (bad_line_message k)
EndsBy most tree input out notes TooLong = Fails most input fault.TooLong × IsStill out × Notes notes too_long_message
EndsBy most tree input out notes ReadFault = Fails most input fault.Read × IsStill out × Notes notes input_fault_message
EndsBy most tree input out notes Memory = IsStill out × Notes notes memory_message
EndsBy most tree input out notes Usage = ⊥
EndsBy most tree input out notes Stopped = ⊥
EndsBy most tree input out notes Illegal = ⊥
EndsBy most tree input out notes TooMany = ⊥

-- the words ask for a query, and the command ended by it
abbrev pub Answers : List Token → Change → Change → Change → Status → Type 0
Answers words input out notes status =
    (most : ℕ) × (tokens : List Token) × (tree : Tree) × Asks words most tokens × IsReading tokens tree × EndsBy most tree input out notes status

-- each status by its cause: the words ask for no query, memory wants, or as the input is
abbrev pub FindAnswers : List Token → Change → Change → Change → Status → Type 0
FindAnswers words input out notes Usage =
    ((most : ℕ) (tokens : List Token) (tree : Tree) → Asks words most tokens → ¬ Reads tokens tree) × IsStill input × IsStill out × Notes notes usage_message
FindAnswers words input out notes Memory = IsStill out × Notes notes memory_message
FindAnswers words input out notes status = Answers words input out notes status

-- how the command is to end on an input of these bytes, of which a text may have so many
abbrev pub IsDue : ℕ → List ℕ → Status → Type 0
IsDue most bytes Done = (length bytes ≤ most) × IsIndexText bytes
IsDue most bytes BadText = (k : ℕ) × IsShown IsIndexText most bytes k
IsDue most bytes TooLong = IsTooLong IsIndexText most bytes
IsDue most bytes status = ⊥

-- where the input shows its bytes, the words ask for a query, memory sufficed and no read failed, the status is the one that is due, unless the sink failed
abbrev pub Decided : List Token → Change → Status → Type 0
Decided words input status =
    (most : ℕ) (tokens : List Token) (tree : Tree) (bytes : List ℕ) (due : Status) → Asks words most tokens → Reads tokens tree → input.old ≡ Some bytes → status ≢ Memory → status ≢ ReadFault
    → IsDue most bytes due
    → (status ≡ due) ⊎ ((due ≡ Done) × (status ≡ SinkFault))
