-- The status that the bytes of an input decide.
use Rattle.std.specs.Prelude.{◌≡◌, ◌≢◌, ℕ, List, Some}
use Rattle.exact_text.specs.Exact.{IsShown, IsTooLong, lines_room}
use Rattle.script_text.specs.Text.{IsScriptText}
use Rattle.script_text.specs.Texts.{most_lines, IsShortText}
use Rattle.command_endings.specs.declared.status.Status.{Status}
use Rattle.command_endings.specs.declared.status.Status.TheVariants.{ReadFault, Memory, BadText, TooLong}
use Rattle.command_endings.specs.Changes.{Change}

-- the first 100,000 lines show that line k is bad, or the input ends within them
abbrev pub IsBad : List ℕ → ℕ → Type 0
IsBad bytes k = IsShown IsScriptText (lines_room most_lines bytes) bytes k

-- 100,000 lines begin a script, and more bytes come
abbrev pub IsLong : List ℕ → Type 0
IsLong bytes = IsTooLong IsScriptText (lines_room most_lines bytes) bytes

-- The status for an input of these bytes, where those of commands are some of the program's: a script ends by one of its own, and a bad
-- line or an input that is too long is reported.
pub record IsExact {S : Type 0} (shown : Status → S) (own : S → Type 0) (bytes : List ℕ) (status : S) : Type 0 where
  pub done : IsShortText bytes → own status
  pub bad_line : (k : ℕ) → IsBad bytes k → status ≡ shown BadText
  pub too_long : IsLong bytes → status ≡ shown TooLong

-- if the bytes of the input are known they decide, unless a read failed or memory ran out
abbrev pub Decides : {S : Type 0} → (Status → S) → (S → Type 0) → Change → S → Type 0
Decides shown own input status =
    (bytes : List ℕ) → input.old ≡ Some bytes → status ≢ shown ReadFault → status ≢ shown Memory → IsExact shown own bytes status
