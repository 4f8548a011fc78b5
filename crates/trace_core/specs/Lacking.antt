-- Where none of the texts of some values was there to be read.
use Rattle.std.specs.Prelude.{◌≡◌, ℕ, List, ◌++◌, take, IfSome}
use Rattle.std.specs.Io.KnownBytes.{Consumes}
use Rattle.std.specs.declared.option.Option.{Option}
use Rattle.exact_text.specs.declared.fault.TextFault.{TextFault}
use Rattle.exact_text.specs.declared.fault.TextFault.TheVariants.{Memory, BadLine, TooLong, Read}
use Rattle.exact_text.specs.Exact.{IsShown}
use Rattle.exact_text.specs.Prefixes.{Begins, IsBadLine}
use Rattle.trace_core.specs.Text.{IsTrace}

-- none of the texts of the lawful values stands at the front of the bytes
abbrev pub Misses : {X : Type 0} → (X → Type 0) → (X → List ℕ) → List ℕ → Type 0
Misses {X} lawful text bytes = (x : X) (more : List ℕ) → lawful x → bytes ≡ text x ++ more → ⊥

-- none of the texts was there to be given: among what may be read, or where reading failed among what was given until then
abbrev pub LacksAt : {X : Type 0} → (X → Type 0) → (X → List ℕ) → ℕ → Option (List ℕ) → Option (List ℕ) → TextFault → Type 0
LacksAt lawful text room rest left' Memory = ⊥
LacksAt lawful text room rest left' (BadLine k) = IfSome rest (λ input. Misses lawful text (take room input))
LacksAt lawful text room rest left' TooLong = IfSome rest (λ input. Misses lawful text (take room input))
LacksAt lawful text room rest left' Read = (given : List ℕ) × Consumes rest left' given × Misses lawful text given

-- the bytes begin a text, and none of the texts of the lawful values stands at their prefix
abbrev pub IsUndecided : {X : Type 0} → (List ℕ → Type 0) → (X → Type 0) → (X → List ℕ) → List ℕ → Type 0
IsUndecided Text lawful text bytes = Begins Text bytes × Misses lawful text bytes

-- what the first bytes show is the bad line of the whole input
abbrev pub ShownTraceIsBad : Type 0
ShownTraceIsBad = (room : ℕ) (input : List ℕ) (k : ℕ) → IsShown IsTrace room input k → IsBadLine IsTrace input k
