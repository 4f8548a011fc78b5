-- What was taken of an index text, and why no more was.
use Rattle.std.specs.Prelude.{◌≡◌, ℕ, ◌≤◌, List, [], ◌∷◌, ◌++◌, length, Option, None, IfSome, Result, Ok, Err}
use Rattle.std.specs.List.{flat_map}
use Rattle.std.specs.Io.KnownBytes.{IsAtEnd}
use Rattle.exact_text.specs.declared.intake.Intake.{Intake}
use Rattle.exact_text.specs.declared.fault.TextFault.{TextFault}
use Rattle.exact_text.specs.Exact.{IsStuck, HasReason, OrMemory, bytes_room}
use Rattle.exact_text.specs.Intake.{rest_of, room_of}
use Rattle.word_index.specs.Index.{Hit}
use Rattle.index_print.specs.Text.{hit_line, skipped_line}
use Rattle.index_text.specs.Texts.{IsHit, AreHits, AreRows, ArePaths, text_of}
use Rattle.index_text.specs.Lines.{hit_at, skipped_at}
use Rattle.index_text.specs.Next.{IsNext, IsTaken}
use Rattle.index_text.specs.Offered.{Offered, with_hit, with_skipped, last_path, last_skipped}
use Rattle.index_text.specs.Steps.{IsRowsText, IsHitsText, IsSkippedText}

-- why the rest isn't a text of this language, of which so many bytes may be read
abbrev pub Lacks : (List ℕ → Type 0) → Intake → Option (List ℕ) → Option (List ℕ) → ℕ → ℕ → TextFault → Type 0
Lacks Text old left left' before now fault =
    OrMemory (HasReason Text (bytes_room (room_of old)) old.lines (rest_of old left) left' before now) fault

-- the text is all that was left, and as much as may be read
pub record IsAll (text : List ℕ) (old : Intake) (left left' : Option (List ℕ)) : Type 0 where
  pub all : IfSome (rest_of old left) (λ bytes. bytes ≡ text)
  pub within : length text ≤ room_of old
  pub end : IsAtEnd left'

-- the line of a file was taken
abbrev pub TakesHit : Offered → Offered → Intake → Intake → Option (List ℕ) → Option (List ℕ) → ℕ → ℕ
    → Result (Unit {0}) TextFault → Type 0
TakesHit was is old new left left' before now (Ok u) = (hit : Hit) × IsHit (last_path was) hit × IsTaken (hit_line hit) 1 old new left left'
    × (is ≡ with_hit hit was)
TakesHit was is old new left left' before now (Err f) =
    OrMemory (IsStuck (hit_at (last_path was)) old.lines (room_of old) (rest_of old left) left' before now) f

-- the line of a skipped path was taken
abbrev pub TakesSkipped : Offered → Offered → Intake → Intake → Option (List ℕ) → Option (List ℕ) → ℕ → ℕ
    → Result (Unit {0}) TextFault → Type 0
TakesSkipped was is old new left left' before now (Ok u) = (path : List ℕ) × IsNext (last_skipped was) path
    × IsTaken (skipped_line path) 1 old new left left' × (is ≡ with_skipped path was)
TakesSkipped was is old new left left' before now (Err f) =
    OrMemory (IsStuck (skipped_at (last_skipped was)) old.lines (room_of old) (rest_of old left) left' before now) f

-- a row was taken after its first line
abbrev pub TakesRow : List ℕ → ℕ → Offered → Offered → Intake → Intake → Option (List ℕ) → Option (List ℕ) → ℕ → ℕ
    → Result (Unit {0}) TextFault → Type 0
TakesRow w many was is old new left left' before now (Ok u) = (hits : List Hit) × (length hits ≡ many) × AreHits None hits
    × IsTaken (flat_map hit_line hits) many old new left left'
    × (is ≡ record { rows = was.rows ++ record { word = w; hits = hits } ∷ []; word = w; hits = []; skipped = was.skipped })
TakesRow w many was is old new left left' before now (Err f) = Lacks (IsHitsText w many None) old left left' before now f

-- the skipped paths were taken up to the end
abbrev pub TakesPaths : Offered → Offered → Intake → Intake → Option (List ℕ) → Option (List ℕ) → ℕ → ℕ
    → Result (Unit {0}) TextFault → Type 0
TakesPaths was is old new left left' before now (Ok u) = (paths : List (List ℕ)) × ArePaths (last_skipped was) paths
    × IsAll (flat_map skipped_line paths) old left left' × (is ≡ record was { skipped = was.skipped ++ paths })
TakesPaths was is old new left left' before now (Err f) = Lacks (IsSkippedText (last_skipped was)) old left left' before now f

-- rows and skipped paths were taken up to the end
abbrev pub TakesRows : Offered → Intake → Intake → Option (List ℕ) → Option (List ℕ) → ℕ → ℕ → Result (Unit {0}) TextFault → Type 0
TakesRows is old new left left' before now (Ok u) = AreRows None is.rows × ArePaths None is.skipped × (is.hits ≡ [])
    × IsAll (text_of is.rows is.skipped) old left left'
TakesRows is old new left left' before now (Err f) = Lacks (IsRowsText None) old left left' before now f
