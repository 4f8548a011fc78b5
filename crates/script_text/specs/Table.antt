-- The table of operations: for each its word, what stands after the word, and what it does with a mutex or a thread.
use Rattle.std.specs.Prelude.{ℕ, ◌^◌, ◌<◌, ◌≤◌, List, [], ◌∷◌, ◌++◌, codes, decimal, length, take, slice_index}
use Rattle.larch_actions.specs.declared.event.Layout.{Layout}
use Rattle.script_text.specs.declared.line.Operation.{Operation}
use Rattle.script_text.specs.declared.line.Operation.TheVariants.{Acquire, Release, Wait, AlertWait, Signal, Broadcast, P, V, Alert, TestAlert, AlertP, Add, Until, AlertUntil, Fork, Join}
use Rattle.script_text.specs.declared.table.Word.{Word}
use Rattle.script_text.specs.declared.table.Word.TheVariants as word
use Rattle.larch_actions.specs.declared.kind.Kind.TheVariants.{Mutex, Condition, Semaphore, Thread}
use Rattle.larch_actions.specs.Layout.{count_of, letter}
use Rattle.script_text.specs.declared.table.Operand.{Operand}
use Rattle.script_text.specs.declared.table.Operand.TheVariants.{Name, Amount, Count}
use Rattle.script_text.specs.declared.table.Numbers.{Numbers}
use Rattle.script_text.specs.declared.table.Use.{Use}
use Rattle.script_text.specs.declared.table.Use.TheVariants.{Takes, Gives, Needs, Nothing}
use Rattle.script_text.specs.declared.table.Fate.{Fate}
use Rattle.script_text.specs.declared.table.Fate.TheVariants as fate

-- all words
abbrev pub words : List Word
words =
    word.Acquire ∷ word.Release ∷ word.Wait ∷ word.AlertWait ∷ word.Signal ∷ word.Broadcast ∷ word.P ∷ word.V
    ∷ word.Alert ∷ word.TestAlert ∷ word.AlertP ∷ word.Add ∷ word.Until ∷ word.AlertUntil ∷ word.Fork ∷ word.Join ∷ []

-- a word as it is spelt
abbrev pub word_text : Word → List ℕ
word_text word.Acquire = codes "acquire"
word_text word.Release = codes "release"
word_text word.Wait = codes "wait"
word_text word.AlertWait = codes "alert-wait"
word_text word.Signal = codes "signal"
word_text word.Broadcast = codes "broadcast"
word_text word.P = codes "p"
word_text word.V = codes "v"
word_text word.Alert = codes "alert"
word_text word.TestAlert = codes "test-alert"
word_text word.AlertP = codes "alert-p"
word_text word.Add = codes "add"
word_text word.Until = codes "until"
word_text word.AlertUntil = codes "alert-until"
word_text word.Fork = codes "fork"
word_text word.Join = codes "join"

-- what stands after it
abbrev pub kinds_of : Word → List Operand
kinds_of word.Acquire = Name Mutex ∷ []
kinds_of word.Release = Name Mutex ∷ []
kinds_of word.Wait = Name Mutex ∷ Name Condition ∷ []
kinds_of word.AlertWait = Name Mutex ∷ Name Condition ∷ []
kinds_of word.Signal = Name Condition ∷ []
kinds_of word.Broadcast = Name Condition ∷ []
kinds_of word.P = Name Semaphore ∷ []
kinds_of word.V = Name Semaphore ∷ []
kinds_of word.Alert = Name Thread ∷ []
kinds_of word.TestAlert = []
kinds_of word.AlertP = Name Semaphore ∷ []
kinds_of word.Add = Name Mutex ∷ Amount ∷ []
kinds_of word.Until = Name Mutex ∷ Name Condition ∷ Count ∷ []
kinds_of word.AlertUntil = Name Mutex ∷ Name Condition ∷ Count ∷ []
kinds_of word.Fork = Name Thread ∷ []
kinds_of word.Join = Name Thread ∷ []

-- the operation with these numbers
abbrev pub made : Word → List ℕ → Operation
made word.Acquire ns = Acquire (record { 0 = slice_index ns 0 })
made word.Release ns = Release (record { 0 = slice_index ns 0 })
made word.Wait ns = Wait (record { 0 = slice_index ns 0 }) (record { 0 = slice_index ns 1 })
made word.AlertWait ns = AlertWait (record { 0 = slice_index ns 0 }) (record { 0 = slice_index ns 1 })
made word.Signal ns = Signal (record { 0 = slice_index ns 0 })
made word.Broadcast ns = Broadcast (record { 0 = slice_index ns 0 })
made word.P ns = P (record { 0 = slice_index ns 0 })
made word.V ns = V (record { 0 = slice_index ns 0 })
made word.Alert ns = Alert (record { 0 = slice_index ns 0 })
made word.TestAlert ns = TestAlert
made word.AlertP ns = AlertP (record { 0 = slice_index ns 0 })
made word.Add ns = Add (record { 0 = slice_index ns 0 }) (slice_index ns 1)
made word.Until ns = Until (record { 0 = slice_index ns 0 }) (record { 0 = slice_index ns 1 }) (slice_index ns 2)
made word.AlertUntil ns = AlertUntil (record { 0 = slice_index ns 0 }) (record { 0 = slice_index ns 1 }) (slice_index ns 2)
made word.Fork ns = Fork (record { 0 = slice_index ns 0 })
made word.Join ns = Join (record { 0 = slice_index ns 0 })

-- the word of an operation, and the numbers after it
abbrev pub word_of : Operation → Word
word_of (Acquire m) = word.Acquire
word_of (Release m) = word.Release
word_of (Wait m c) = word.Wait
word_of (AlertWait m c) = word.AlertWait
word_of (Signal c) = word.Signal
word_of (Broadcast c) = word.Broadcast
word_of (P s) = word.P
word_of (V s) = word.V
word_of (Alert u) = word.Alert
word_of TestAlert = word.TestAlert
word_of (AlertP s) = word.AlertP
word_of (Add m n) = word.Add
word_of (Until m c n) = word.Until
word_of (AlertUntil m c n) = word.AlertUntil
word_of (Fork u) = word.Fork
word_of (Join u) = word.Join

abbrev pub numbers_of : Operation → List ℕ
numbers_of (Acquire m) = m.0 ∷ []
numbers_of (Release m) = m.0 ∷ []
numbers_of (Wait m c) = m.0 ∷ c.0 ∷ []
numbers_of (AlertWait m c) = m.0 ∷ c.0 ∷ []
numbers_of (Signal c) = c.0 ∷ []
numbers_of (Broadcast c) = c.0 ∷ []
numbers_of (P s) = s.0 ∷ []
numbers_of (V s) = s.0 ∷ []
numbers_of (Alert u) = u.0 ∷ []
numbers_of TestAlert = []
numbers_of (AlertP s) = s.0 ∷ []
numbers_of (Add m n) = m.0 ∷ n ∷ []
numbers_of (Until m c n) = m.0 ∷ c.0 ∷ n ∷ []
numbers_of (AlertUntil m c n) = m.0 ∷ c.0 ∷ n ∷ []
numbers_of (Fork u) = u.0 ∷ []
numbers_of (Join u) = u.0 ∷ []

-- what it does with a mutex
abbrev pub use_of : Operation → Use
use_of (Acquire m) = Takes m
use_of (Release m) = Gives m
use_of (Wait m c) = Needs m
use_of (AlertWait m c) = Needs m
use_of (Signal c) = Nothing
use_of (Broadcast c) = Nothing
use_of (P s) = Nothing
use_of (V s) = Nothing
use_of (Alert u) = Nothing
use_of TestAlert = Nothing
use_of (AlertP s) = Nothing
use_of (Add m n) = Needs m
use_of (Until m c n) = Needs m
use_of (AlertUntil m c n) = Needs m
use_of (Fork u) = Nothing
use_of (Join u) = Nothing

-- what it does with a thread
abbrev pub fate_of : Operation → Fate
fate_of (Fork u) = fate.Begins u
fate_of (Join u) = fate.Awaits u
fate_of _ = fate.Nothing

-- the letter of a name; a number has none
abbrev pub prefix_text : Operand → List ℕ
prefix_text (Name k) = letter k ∷ []
prefix_text Amount = []
prefix_text Count = []

-- a name is below the count of its kind, and a number not too large
abbrev pub IsWithin : Layout → Operand → ℕ → Type 0
IsWithin l (Name k) n = n < count_of l k
IsWithin l Amount n = n ≤ 1000000
IsWithin l Count n = n ≤ 18446744073709551615

abbrev pub AreWithin : Layout → List Operand → List ℕ → Type 0
AreWithin l [] [] = Unit {0}
AreWithin l [] (n ∷ ns) = ⊥
AreWithin l (k ∷ ks) [] = ⊥
AreWithin l (k ∷ ks) (n ∷ ns) = IsWithin l k n × AreWithin l ks ns

abbrev pub operand_text : Operand → ℕ → List ℕ
operand_text k n = prefix_text k ++ decimal n

-- each after a space
abbrev pub operands_text : List Operand → List ℕ → List ℕ
operands_text [] ns = []
operands_text (k ∷ ks) [] = []
operands_text (k ∷ ks) (n ∷ ns) = 32 ∷ (operand_text k n ++ operands_text ks ns)

abbrev pub listed : Numbers → List ℕ
listed x = x.first ∷ x.second ∷ x.third ∷ []

-- those that stand after a word with these kinds
abbrev pub first_of : List Operand → Numbers → List ℕ
first_of ks x = take (length ks) (listed x)

-- a name fits 32 bits
abbrev pub IsSmall : Operand → ℕ → Type 0
IsSmall (Name k) n = n < 2 ^ 32
IsSmall Amount n = n ≤ 1000000
IsSmall Count n = n ≤ 18446744073709551615

abbrev pub AreSmall : List Operand → List ℕ → Type 0
AreSmall [] ns = Unit {0}
AreSmall (k ∷ ks) [] = Unit {0}
AreSmall (k ∷ ks) (n ∷ ns) = IsSmall k n × AreSmall ks ns
