-- An action is its row, and a row its action.
use Rattle.std.proofs.Common.{◌≡◌, ◌⊎◌, ℕ, ◌<◌, ◌≤◌, Bool, List, [], ◌∷◌, inl, inr, get_or, length, refl, true, false, sym, ◌∙◌, arith}
use Rattle.std.specs.Prelude.{nat_lt, ◌&&◌}
use Rattle.larch_actions.specs.declared.event.Action.{Action}
use Rattle.larch_actions.specs.declared.event.Action.TheVariants.{Acquire, Release, Enqueue, Resume, AlertEnqueue, AlertReturn, AlertRaise, Signal, Broadcast, P, V, Alert, TestAlert, AlertPReturn, AlertPRaise, Fork, End, Join}
use Rattle.larch_actions.specs.declared.rows.Word.{Word}
use Rattle.larch_actions.specs.declared.rows.Word.TheVariants as word
use Rattle.larch_actions.specs.declared.rows.Numbers.{Numbers}
use Rattle.larch_actions.specs.declared.rows.Endings.TheVariants as endings
use Rattle.larch_actions.specs.declared.rows.Ending.{Ending}
use Rattle.larch_actions.specs.declared.rows.Ending.TheVariants.{Nothing, Returns, Raises, Yes, No, Left}
use Rattle.larch_actions.specs.declared.rows.Row.{Row}
use Rattle.larch_actions.specs.Rows.{words, word_text, kinds_of, endings_of, none, one, row, row_of, made, action_of, AreFor, IsEnding, IsRow}

pub action_back : (a : Action) → action_of (row_of a) ≡ a
action_back (Acquire m) = refl
action_back (Release m) = refl
action_back (P s) = refl
action_back (V s) = refl
action_back (Enqueue m c) = refl
action_back (Resume m c) = refl
action_back (Signal c left) = refl
action_back (Broadcast c) = refl
action_back (Alert t) = refl
action_back (TestAlert true) = refl
action_back (TestAlert false) = refl
action_back (AlertEnqueue m c) = refl
action_back (AlertReturn m c) = refl
action_back (AlertRaise m c) = refl
action_back (AlertPReturn s) = refl
action_back (AlertPRaise s) = refl
action_back (Fork t) = refl
action_back End = refl
action_back (Join t) = refl

pub is_row : (a : Action) → IsRow (row_of a)
is_row (Acquire m) = record { numbers = refl; ending = refl }
is_row (Release m) = record { numbers = refl; ending = refl }
is_row (P s) = record { numbers = refl; ending = refl }
is_row (V s) = record { numbers = refl; ending = refl }
is_row (Enqueue m c) = record { numbers = tt; ending = refl }
is_row (Resume m c) = record { numbers = tt; ending = refl }
is_row (Signal c left) = record { numbers = refl; ending = (left, refl) }
is_row (Broadcast c) = record { numbers = refl; ending = refl }
is_row (Alert t) = record { numbers = refl; ending = refl }
is_row (TestAlert true) = record { numbers = refl; ending = inl refl }
is_row (TestAlert false) = record { numbers = refl; ending = inr refl }
is_row (AlertEnqueue m c) = record { numbers = tt; ending = refl }
is_row (AlertReturn m c) = record { numbers = tt; ending = inl refl }
is_row (AlertRaise m c) = record { numbers = tt; ending = inr refl }
is_row (AlertPReturn s) = record { numbers = refl; ending = inl refl }
is_row (AlertPRaise s) = record { numbers = refl; ending = inr refl }
is_row (Fork t) = record { numbers = refl; ending = refl }
is_row End = record { numbers = refl; ending = refl }
is_row (Join t) = record { numbers = refl; ending = refl }

-- a row with one name, with none, and with no ending
single : (w : Word) (x : Numbers) (e : Ending) → x.second ≡ 0 → row w (one x.first) e ≡ row w x e
single w x e n = (λ i. row w (record { first = x.first; second = sym n i }) e)

nameless : (w : Word) (x : Numbers) (e : Ending) → x ≡ none → row w none e ≡ row w x e
nameless w x e n = (λ i. row w (sym n i) e)

plain : (w : Word) (x : Numbers) (e : Ending) → e ≡ Nothing → row w x Nothing ≡ row w x e
plain w x e h = (λ i. row w x (sym h i))

neither : {A : Type 0} (e a b : Ending) → (e ≡ a → A) → (e ≡ b → A) → (e ≡ a) ⊎ (e ≡ b) → A
neither e a b f g h = elim h [ inl k ↦ f k | inr k ↦ g k ]

signal_back : (x : Numbers) (e : Ending) → x.second ≡ 0 → IsEnding endings.Threads e → row_of (made word.Signal x e) ≡ row word.Signal x e
signal_back x (Left left) n h = single word.Signal x (Left left) n
signal_back x _ n h = let k = h.1 in absurd (cc)

answer_back : (x : Numbers) (e : Ending) → x ≡ none → IsEnding endings.Answer e → row_of (made word.TestAlert x e) ≡ row word.TestAlert x e
answer_back x Yes n h = nameless word.TestAlert x Yes n
answer_back x No n h = nameless word.TestAlert x No n
answer_back x _ n h = neither _ Yes No (λ k. absurd (cc)) (λ k. absurd (cc)) h

resume_back : (x : Numbers) (e : Ending) → IsEnding endings.Outcome e → row_of (made word.AlertResume x e) ≡ row word.AlertResume x e
resume_back x Returns h = refl
resume_back x Raises h = refl
resume_back x _ h = neither _ Returns Raises (λ k. absurd (cc)) (λ k. absurd (cc)) h

take_back : (x : Numbers) (e : Ending) → x.second ≡ 0 → IsEnding endings.Outcome e → row_of (made word.AlertP x e) ≡ row word.AlertP x e
take_back x Returns n h = single word.AlertP x Returns n
take_back x Raises n h = single word.AlertP x Raises n
take_back x _ n h = neither _ Returns Raises (λ k. absurd (cc)) (λ k. absurd (cc)) h

row_back_of : (w : Word) (x : Numbers) (e : Ending) → AreFor (kinds_of w) x → IsEnding (endings_of w) e → row_of (made w x e) ≡ row w x e
row_back_of word.Acquire x e n h = single word.Acquire x Nothing n ∙ plain word.Acquire x e h
row_back_of word.Release x e n h = single word.Release x Nothing n ∙ plain word.Release x e h
row_back_of word.P x e n h = single word.P x Nothing n ∙ plain word.P x e h
row_back_of word.V x e n h = single word.V x Nothing n ∙ plain word.V x e h
row_back_of word.Enqueue x e n h = plain word.Enqueue x e h
row_back_of word.Resume x e n h = plain word.Resume x e h
row_back_of word.Signal x e n h = signal_back x e n h
row_back_of word.Broadcast x e n h = single word.Broadcast x Nothing n ∙ plain word.Broadcast x e h
row_back_of word.Alert x e n h = single word.Alert x Nothing n ∙ plain word.Alert x e h
row_back_of word.TestAlert x e n h = answer_back x e n h
row_back_of word.AlertEnqueue x e n h = plain word.AlertEnqueue x e h
row_back_of word.AlertResume x e n h = resume_back x e h
row_back_of word.AlertP x e n h = take_back x e n h
row_back_of word.Fork x e n h = single word.Fork x Nothing n ∙ plain word.Fork x e h
row_back_of word.End x e n h = nameless word.End x Nothing n ∙ plain word.End x e h
row_back_of word.Join x e n h = single word.Join x Nothing n ∙ plain word.Join x e h

pub row_back : (r : Row) → IsRow r → row_of (action_of r) ≡ r
row_back r h = row_back_of r.word r.numbers r.ending h.numbers h.ending

-- where a word stands among all
abbrev pub place_of : Word → ℕ
place_of word.Acquire = 0
place_of word.Release = 1
place_of word.P = 2
place_of word.V = 3
place_of word.Enqueue = 4
place_of word.Resume = 5
place_of word.Signal = 6
place_of word.Broadcast = 7
place_of word.Alert = 8
place_of word.TestAlert = 9
place_of word.AlertEnqueue = 10
place_of word.AlertResume = 11
place_of word.AlertP = 12
place_of word.Fork = 13
place_of word.End = 14
place_of word.Join = 15

-- the word stands there
abbrev pub IsThere : Word → Type 0
IsThere w = (get_or words (place_of w) word.Acquire ≡ w) × (place_of w < length words)

pub is_there : (w : Word) → IsThere w
is_there word.Acquire = (refl, omega arith)
is_there word.Release = (refl, omega arith)
is_there word.P = (refl, omega arith)
is_there word.V = (refl, omega arith)
is_there word.Enqueue = (refl, omega arith)
is_there word.Resume = (refl, omega arith)
is_there word.Signal = (refl, omega arith)
is_there word.Broadcast = (refl, omega arith)
is_there word.Alert = (refl, omega arith)
is_there word.TestAlert = (refl, omega arith)
is_there word.AlertEnqueue = (refl, omega arith)
is_there word.AlertResume = (refl, omega arith)
is_there word.AlertP = (refl, omega arith)
is_there word.Fork = (refl, omega arith)
is_there word.End = (refl, omega arith)
is_there word.Join = (refl, omega arith)

-- none of the bytes is a space or a newline, by a test that computes
abbrev pub is_plain : List ℕ → Bool
is_plain [] = true
is_plain (c ∷ cs) = nat_lt 44 c && is_plain cs

-- a word is short and plain
abbrev pub IsPlain : Word → Type 0
IsPlain w = (length (word_text w) ≤ 16) × (is_plain (word_text w) ≡ true)

pub each_plain : (w : Word) → IsPlain w
each_plain word.Acquire = (omega arith, refl)
each_plain word.Release = (omega arith, refl)
each_plain word.P = (omega arith, refl)
each_plain word.V = (omega arith, refl)
each_plain word.Enqueue = (omega arith, refl)
each_plain word.Resume = (omega arith, refl)
each_plain word.Signal = (omega arith, refl)
each_plain word.Broadcast = (omega arith, refl)
each_plain word.Alert = (omega arith, refl)
each_plain word.TestAlert = (omega arith, refl)
each_plain word.AlertEnqueue = (omega arith, refl)
each_plain word.AlertResume = (omega arith, refl)
each_plain word.AlertP = (omega arith, refl)
each_plain word.Fork = (omega arith, refl)
each_plain word.End = (omega arith, refl)
each_plain word.Join = (omega arith, refl)
