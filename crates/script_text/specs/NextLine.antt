-- Reading the line that comes next.
use Rattle.std.specs.Prelude.{ℕ, zero, suc, ◌^◌, Bool, true, false, ◌&&◌, ◌||◌, not, eqb, List, [], ◌∷◌, ◌++◌, codes, decimal, slice_index_or, length, Ok, Err}
use Rattle.exact_text.specs.declared.stop.Stop.TheVariants.{Dead}
use Rattle.exact_text.specs.Reading.{Reader, after_word, as_value, both, either, only_if, number_at}
use Rattle.larch_actions.specs.declared.event.Layout.{Layout}
use Rattle.larch_actions.specs.declared.event.Version.{Version}
use Rattle.larch_actions.specs.declared.event.Version.TheVariants.{One, Two}
use Rattle.larch_actions.specs.Layout.{count_of, letter}
use Rattle.script_text.specs.declared.line.Line.{Line}
use Rattle.script_text.specs.declared.line.Operation.{Operation}
use Rattle.script_text.specs.declared.table.Word.{Word}
use Rattle.script_text.specs.declared.table.Word.TheVariants as word
use Rattle.script_text.specs.declared.table.Operand.{Operand}
use Rattle.script_text.specs.declared.table.Operand.TheVariants.{Name, Amount, Count}
use Rattle.script_text.specs.declared.table.Use.{Use}
use Rattle.script_text.specs.declared.table.Use.TheVariants.{Takes, Gives, Needs, Nothing}
use Rattle.script_text.specs.declared.table.Fate.{Fate}
use Rattle.script_text.specs.declared.table.Fate.TheVariants as fate
use Rattle.script_text.specs.Operations.{Holding, Forked, is_born}
use Rattle.script_text.specs.Table.{words, word_text, kinds_of, made, use_of, fate_of}
use Rattle.script_text.specs.Text.{line_text}

-- the thread may have a line
abbrev pub lives : Version → Forked → ℕ → Bool
lives One f t = true
lives Two f t = is_born f t

-- a thread that lives may use the mutex so, and may do this with a thread
abbrev pub may_use : Holding → ℕ → Use → Bool
may_use h t (Takes m) = not (h t m.0)
may_use h t (Gives m) = h t m.0
may_use h t (Needs m) = h t m.0
may_use h t Nothing = true

abbrev pub may_meet : Version → Forked → ℕ → Fate → Bool
may_meet v f t fate.Nothing = true
may_meet One f t x = false
may_meet Two f t (fate.Begins u) = not (is_born f u.0)
may_meet Two f t (fate.Awaits u) = not (eqb u.0 t) && f u.0

abbrev pub may_do : Version → Holding → Forked → ℕ → Operation → Bool
may_do v h f t o = may_use h t (use_of o) && may_meet v f t (fate_of o)

-- the number may stand first after the word
abbrev pub may_stand_first : Version → Holding → Forked → ℕ → Word → ℕ → Bool
may_stand_first v h f t w n = may_do v h f t (made w (n ∷ 0 ∷ 0 ∷ []))

-- how many numbers the first thing after the word may have, if it is a name
abbrev pub count_first : Layout → List Operand → ℕ
count_first l (Name k ∷ ks) = count_of l k
count_first l _ = 0

abbrev pub first_count : Layout → Word → ℕ
first_count l w = count_first l (kinds_of w)

abbrev pub any : ℕ → Bool
any n = true

-- what the first of these readers gives that can still read
abbrev pub first_below : {X : Type 0} → (ℕ → Reader X) → ℕ → Reader X
first_below read zero = λ bytes. Err Dead
first_below read (suc k) = either (first_below read k) (read k)

-- this number and the byte that stops it; the same where the number may stand there
abbrev pub number_is : ℕ → ℕ → Reader ℕ
number_is stop n = after_word (decimal n) (after_word (stop ∷ []) (λ rest. Ok (n, rest)))

abbrev pub this_number : (ℕ → Bool) → ℕ → ℕ → Reader ℕ
this_number may stop n = only_if (may n) (number_is stop n)

abbrev pub some_number : (ℕ → Bool) → ℕ → ℕ → Reader ℕ
some_number may bound stop = first_below (this_number may stop) bound

abbrev pub operand_at : Layout → (ℕ → Bool) → Operand → ℕ → Reader ℕ
operand_at l may (Name k) stop = after_word (letter k ∷ []) (some_number may (count_of l k) stop)
operand_at l may Amount stop = number_at 0 1000001 stop
operand_at l may Count stop = number_at 0 (2 ^ 64) stop

-- the byte in front of these
abbrev pub stop_of : List Operand → ℕ
stop_of [] = 10
stop_of (k ∷ ks) = 32

-- what stands after a word, up to the end of the line
abbrev pub operands_at : Layout → (ℕ → Bool) → List Operand → Reader (List ℕ)
operands_at l may [] = λ rest. Ok ([], rest)
operands_at l may (k ∷ ks) = as_value (λ p. p.0 ∷ p.1) (both (operand_at l may k (stop_of ks)) (λ _. operands_at l any ks))

-- there is something of each kind that may stand there
abbrev pub any_below : (ℕ → Bool) → ℕ → Bool
any_below may zero = false
any_below may (suc n) = any_below may n || may n

abbrev pub can_stand : Layout → (ℕ → Bool) → List Operand → Bool
can_stand l may [] = true
can_stand l may (Name k ∷ ks) = any_below may (count_of l k) && can_stand l any ks
can_stand l may (Amount ∷ ks) = can_stand l any ks
can_stand l may (Count ∷ ks) = can_stand l any ks

abbrev pub row_at : Layout → Holding → Forked → ℕ → Word → Reader Operation
row_at l h f t w =
    let may = may_stand_first l.version h f t w in
    as_value (made w) (only_if (can_stand l may (kinds_of w)) (after_word (word_text w)
    (after_word (stop_of (kinds_of w) ∷ []) (operands_at l may (kinds_of w)))))

-- an operation with one of these words
abbrev pub row_among : List Word → Layout → Holding → Forked → ℕ → Reader Operation
row_among ws l h f t = first_below (λ i. row_at l h f t (slice_index_or ws i word.Acquire)) (length ws)

abbrev pub operation_at : Layout → Holding → Forked → ℕ → Reader Operation
operation_at = row_among words

abbrev pub line_of : ℕ × Operation → Line
line_of p = record { thread = record { 0 = p.0 }; operation = p.1 }

abbrev pub line_at : Layout → Holding → Forked → Reader Line
line_at l h f = as_value line_of (after_word (codes "t") (both (some_number (lives l.version f) l.threads 32) (operation_at l h f)))

-- a line, with its newline
abbrev pub whole_line : Line → List ℕ
whole_line x = line_text x ++ 10 ∷ []
