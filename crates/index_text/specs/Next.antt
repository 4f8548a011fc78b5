-- Which line may come next, and what it means that it was taken.
use Rattle.std.specs.Prelude.{◌≡◌, ◌⊎◌, ℕ, ◌+◌, ◌≤◌, List, ◌++◌, length, codes, true, false, Option, Some, None, Result, Ok, Err}
use Rattle.std.specs.Io.KnownBytes.{Consumes}
use Rattle.exact_text.specs.declared.intake.Intake.{Intake}
use Rattle.exact_text.specs.declared.stop.Stop as exact
use Rattle.exact_text.specs.declared.fault.TextFault.{TextFault}
use Rattle.exact_text.specs.declared.fault.TextFault.TheVariants as fault
use Rattle.exact_text.specs.Exact.{IsStuck, OrMemory}
use Rattle.exact_text.specs.Intake.{IsFilled, rest_of, room_of}
use Rattle.text_output.specs.Paths.{newline}
use Rattle.index_print.specs.Text.{skipped_line}
use Rattle.word_index.specs.Index.{Hit}
use Rattle.index_text.specs.declared.lines.Prefix.{Prefix}
use Rattle.index_text.specs.declared.fault.Stop.{Stop}
use Rattle.index_text.specs.declared.fault.Stop.TheVariants.{More, Dead}
use Rattle.index_text.specs.Numerals.{numeral}
use Rattle.index_text.specs.Texts.{IsWord, IsPath, IsAbove}
use Rattle.index_text.specs.Lines.{Heading, word, skipped, capped_heading, hit_from}
use Rattle.index_text.specs.Steps.{Stops, heading_of}

-- the last word, if there is one, is a word
abbrev pub IsLast : Option (List ℕ) → Type 0
IsLast None = Unit {0}
IsLast (Some last) = IsWord last

-- the last path, if there is one, is a path
abbrev pub IsLastPath : Option (List ℕ) → Type 0
IsLastPath None = Unit {0}
IsLastPath (Some last) = IsPath last

abbrev pub IsKey : Option (List ℕ) → List ℕ → Type 0
IsKey last w = IsWord w × IsAbove last w

abbrev pub IsNext : Option (List ℕ) → List ℕ → Type 0
IsNext last p = IsPath p × IsAbove last p

abbrev pub heading_text : Heading → List ℕ
heading_text (word w n) = w ++ codes " " ++ numeral n ++ newline
heading_text (skipped p) = skipped_line p

abbrev pub IsHeading : Option (List ℕ) → Heading → Type 0
IsHeading last (word w n) = IsKey last w × (1 ≤ n)
IsHeading last (skipped p) = IsNext None p

-- this text, which has so many lines, was taken
pub record IsTaken (text : List ℕ) (count : ℕ) (old new : Intake) (left left' : Option (List ℕ)) : Type 0 where
  pub consumed : Consumes (rest_of old left) (rest_of new left') text
  pub room : room_of new + length text ≡ room_of old
  pub lines : new.lines ≡ old.lines + count

-- the line at the front was read and passed over, or why nothing was read; says ties what the call returns to the line
abbrev pub Tries : {X Y : Type 0} → (List ℕ → Result (X × List ℕ) exact.Stop) → (Y → X → Type 0) → Intake → Intake → Result Y Stop → Type 0
Tries {X} read says old new (Ok y) = (x : X) × says y x × (read old.window ≡ Ok (x, new.window)) × (new.lines ≡ old.lines + 1)
    × (new.given ≡ old.given) × (new.budget ≡ old.budget)
Tries read says old new (Err stop) = Stops (read old.window) stop × (new ≡ old)

-- after a stop more bytes came, or why the line isn't read
abbrev pub GoesOn : Stop → Intake → Intake → Option (List ℕ) → Option (List ℕ) → ℕ → ℕ → Result (Unit {0}) TextFault → Type 0
GoesOn stop old new left left' before now (Ok u) = (stop ≡ More) × IsFilled old new left left' before now (Ok true)
GoesOn stop old new left left' before now (Err fault.Memory) = Unit {0}
GoesOn stop old new left left' before now (Err (fault.BadLine k)) =
    (k ≡ old.lines + 1) × (((stop ≡ Dead) × (left' ≡ left)) ⊎ ((stop ≡ More) × IsFilled old new left left' before now (Ok false)))
GoesOn stop old new left left' before now (Err f) = (stop ≡ More) × IsFilled old new left left' before now (Err f)

-- a line was taken, or why none was
abbrev pub TakesLine : {X Y : Type 0} → (X → Type 0) → (X → List ℕ) → (List ℕ → Result (X × List ℕ) exact.Stop) → (Y → X → Type 0)
    → Intake → Intake → Option (List ℕ) → Option (List ℕ) → ℕ → ℕ → Result Y TextFault → Type 0
TakesLine {X} lawful text read says old new left left' before now (Ok y) =
    (x : X) × says y x × lawful x × IsTaken (text x) 1 old new left left'
TakesLine lawful text read says old new left left' before now (Err f) =
    OrMemory (IsStuck read old.lines (room_of old) (rest_of old left) left' before now) f

-- what was laid down with what the call returned is the line
abbrev pub SaysHeading : List ℕ → Prefix → Heading → Type 0
SaysHeading laid prefix x = capped_heading x ≡ heading_of laid prefix

abbrev pub SaysHit : List ℕ → ℕ × ℕ → Hit → Type 0
SaysHit laid figures hit = hit ≡ hit_from (figures, laid)

abbrev pub SaysPath : List ℕ → Unit {0} → List ℕ → Type 0
SaysPath laid u path = path ≡ laid
