-- What an exact reader promises for a text with a grammar.
use Rattle.std.specs.Prelude.{◌≡◌, ◌⊎◌, ℕ, ◌+◌, ◌-◌, ◌<◌, ◌≤◌, List, length, take, Result, Err, IfSome}
use Rattle.std.specs.Io.KnownBytes.{Consumes}
use Rattle.std.specs.declared.option.Option.{Option}
use Rattle.firefly_outside.specs.Causes.{Rose}
use Rattle.exact_text.specs.declared.fault.TextFault.{TextFault}
use Rattle.exact_text.specs.declared.fault.TextFault.TheVariants.{Memory, BadLine, TooLong, Read}
use Rattle.exact_text.specs.declared.stop.Stop.{Stop}
use Rattle.exact_text.specs.declared.stop.Stop.TheVariants.{More, Dead}
use Rattle.exact_text.specs.Prefixes.{Begins, first_lines, IsBrokenAt, IsCutShortAt}

-- How many bytes of an input may be read: so many, or those of so many lines.
abbrev pub bytes_room : ℕ → List ℕ → ℕ
bytes_room budget input = budget

abbrev pub lines_room : ℕ → List ℕ → ℕ
lines_room most input = length (first_lines most input)

-- the first bytes that may be read show the bad line, or the input ends within them
abbrev pub IsShown : (List ℕ → Type 0) → ℕ → List ℕ → ℕ → Type 0
IsShown Text room input k = IsBrokenAt Text (take room input) k ⊎ ((length input ≤ room) × IsCutShortAt Text input k)

-- the first bytes that may be read begin a text, and more bytes come
abbrev pub IsTooLong : (List ℕ → Type 0) → ℕ → List ℕ → Type 0
IsTooLong Text room input = (room < length input) × Begins Text (take room input)

-- Why the rest of a text wasn't read after so many lines: a bad line or too many bytes, which the bytes decide; or a failed read, as long
-- as the bytes given decide nothing. Memory is never the reason of a reader that takes none.
abbrev pub HasReason : (List ℕ → Type 0) → (List ℕ → ℕ) → ℕ → Option (List ℕ) → Option (List ℕ) → ℕ → ℕ → TextFault → Type 0
HasReason Text room lines rest left' before now Memory = ⊥
HasReason Text room lines rest left' before now (BadLine k) =
    (lines < k) × IfSome rest (λ input. IsShown Text (room input) input (k - lines))
HasReason Text room lines rest left' before now TooLong = IfSome rest (λ input. IsTooLong Text (room input) input)
HasReason Text room lines rest left' before now Read =
    Rose before now × ((given : List ℕ) × Consumes rest left' given × Begins Text given × (length given ≤ room given))

-- the same of a reader that takes memory, which may run out at any time
abbrev pub OrMemory : (TextFault → Type 0) → TextFault → Type 0
OrMemory Reason Memory = Unit {0}
OrMemory Reason fault = Reason fault

-- Why no line was read of the bytes that may be read: they are no prefix of one; or only a prefix, and the input ends, or more bytes
-- come, or a read failed.
abbrev pub IsStuck : {X : Type 0} → (List ℕ → Result X Stop) → ℕ → ℕ → Option (List ℕ) → Option (List ℕ) → ℕ → ℕ → TextFault → Type 0
IsStuck read lines room rest left' before now Memory = ⊥
IsStuck read lines room rest left' before now (BadLine k) = (k ≡ lines + 1)
    × IfSome rest (λ input. (read (take room input) ≡ Err Dead) ⊎ ((length input ≤ room) × (read input ≡ Err More)))
IsStuck read lines room rest left' before now TooLong = IfSome rest (λ input. (room < length input) × (read (take room input) ≡ Err More))
IsStuck read lines room rest left' before now Read =
    Rose before now × ((given : List ℕ) × Consumes rest left' given × (read given ≡ Err More) × (length given ≤ room))

-- Of an input at most one holds: it is a text that may be read whole, a line of it is bad, it is too long. It has one bad line.
pub record OneAnswer (Text : List ℕ → Type 0) (room : List ℕ → ℕ) : Type 0 where
  pub text_or_bad : (input : List ℕ) (k : ℕ) → Text input → length input ≤ room input → IsShown Text (room input) input k → ⊥
  pub text_or_long : (input : List ℕ) → length input ≤ room input → IsTooLong Text (room input) input → ⊥
  pub bad_or_long : (input : List ℕ) (k : ℕ) → IsShown Text (room input) input k → IsTooLong Text (room input) input → ⊥
  pub one_line : (input : List ℕ) (j k : ℕ) → IsShown Text (room input) input j → IsShown Text (room input) input k → j ≡ k
