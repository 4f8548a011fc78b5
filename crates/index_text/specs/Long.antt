-- Paths that are read piece by piece.
use Rattle.std.specs.Prelude.{◌≡◌, ℕ, ◌<◌, ◌≤◌, List, ◌++◌, length, take, drop, Option, Some, None, IfSome, Result, Ok, Err}
use Rattle.std.specs.Str.{IsUtf8}
use Rattle.std.specs.Io.KnownBytes.{Keeps}
use Rattle.exact_text.specs.declared.intake.Intake.{Intake}
use Rattle.exact_text.specs.declared.stop.Stop as exact
use Rattle.exact_text.specs.declared.stop.Stop.TheVariants as exact_stops
use Rattle.exact_text.specs.declared.fault.TextFault.{TextFault}
use Rattle.exact_text.specs.declared.fault.TextFault.TheVariants.{Memory}
use Rattle.exact_text.specs.Intake.{rest_of, room_of}
use Rattle.text_output.specs.Paths.{escaped, newline}
use Rattle.index_text.specs.declared.fault.Stop.TheVariants.{More}
use Rattle.index_text.specs.Numerals.{numeral_at}
use Rattle.index_text.specs.Texts.{IsAbove}
use Rattle.index_text.specs.Next.{IsNext, GoesOn}

-- after these bytes of a path the rest of it has to be above left, or may be anything
abbrev pub IsLeft : Option (List ℕ) → List ℕ → Option (List ℕ) → Type 0
IsLeft last begun None = IsAbove last begun
IsLeft last begun (Some left) = (last ≡ Some (begun ++ left)) × (0 < length left)

-- the bytes stand for whole characters of a path, whose rest has to be above left
abbrev pub Settles : Option (List ℕ) → List ℕ → Option (List ℕ) → Type 0
Settles last bytes left = (begun : List ℕ) × (bytes ≡ escaped begun) × IsUtf8 begun × IsLeft last begun left

-- bytes came, and no line was read
pub record IsWaiting (start now : Intake) (left left' : Option (List ℕ)) (before since : ℕ) : Type 0 where
  pub lines : now.lines ≡ start.lines
  pub room : room_of now ≡ room_of start
  pub rest : Keeps (rest_of start left) (rest_of now left')
  pub unfailed : since ≡ before
  pub given : start.given ≤ now.given
  pub budget : now.budget ≡ start.budget

-- the bytes only begin this head and a path above the last one
abbrev pub IsCut : Option (List ℕ) → List ℕ → List ℕ → Type 0
IsCut last head bytes =
    (path : List ℕ) × (more : List ℕ) × IsNext last path × (0 < length more) × (bytes ++ more ≡ head ++ (escaped path ++ newline))

-- more bytes have to come to these
abbrev pub AsksMore : {X : Type 0} → (List ℕ → Result (X × List ℕ) exact.Stop) → List ℕ → Type 0
AsksMore read bytes = read bytes ≡ Err exact_stops.More

-- after the same first bytes there only begins a number
abbrev pub IsCounted : ℕ → List ℕ → List ℕ → Type 0
IsCounted start held bytes = (take start bytes ≡ take start held) × AsksMore (numeral_at 10) (drop start bytes)

-- bytes came; or some came, and then no more where those held had only begun a line
abbrev pub Awaits : (List ℕ → Type 0) → Intake → Intake → Option (List ℕ) → Option (List ℕ) → ℕ → ℕ
    → Result (Unit {0}) TextFault → Type 0
Awaits Begun old new left left' before now (Ok u) = IsWaiting old new left left' before now
Awaits Begun old new left left' before now (Err Memory) = Unit {0}
Awaits Begun old new left left' before now (Err fault) =
    (mid : Intake) × (there : Option (List ℕ)) × (since : ℕ) × IsWaiting old mid left there before since
    × GoesOn More mid new there left' since now (Err fault) × IfSome left (λ _. Begun mid.window)
