-- The text of an action by its row: the word and the byte after it, the names, and the ending.
use Rattle.std.proofs.Common.{◌≡◌, ◌⊎◌, ℕ, inl, inr, List, [], ◌∷◌, ◌++◌, refl, sym, ◌∙◌, append_assoc}
use Rattle.std.specs.Prelude.{codes, decimal}
use Rattle.larch_actions.specs.declared.event.Action.{Action}
use Rattle.larch_actions.specs.declared.kind.Kind.{Kind}
use Rattle.larch_actions.specs.declared.rows.Word.{Word}
use Rattle.larch_actions.specs.declared.rows.Numbers.{Numbers}
use Rattle.larch_actions.specs.declared.rows.Kinds.{Kinds}
use Rattle.larch_actions.specs.declared.rows.Kinds.TheVariants as kinds
use Rattle.larch_actions.specs.declared.rows.Endings.{Endings}
use Rattle.larch_actions.specs.declared.rows.Endings.TheVariants as endings
use Rattle.larch_actions.specs.declared.rows.Ending.{Ending}
use Rattle.larch_actions.specs.declared.rows.Ending.TheVariants.{Nothing, Returns, Raises, Yes, No, Left}
use Rattle.larch_actions.specs.Layout.{letter}
use Rattle.larch_actions.specs.Rows.{word_text, kinds_of, endings_of, row_of, IsEnding}
use Rattle.larch_actions.proofs.Table.{is_row}
use Rattle.trace_core.specs.Lines.{stop_of, gap_of}
use Rattle.trace_core.specs.Text.{with_name, with_names, with_ending, action_text, newline, members}
use Rattle.trace_core.proofs.RisingSets.{names_line}
use Rattle.trace_core.proofs.Members.{names_line_is}

-- the action with its newline
abbrev pub text : Action → List ℕ
text a = action_text a ++ newline

-- the ending after the byte that stops what is before it
abbrev pub ending_line : Ending → List ℕ
ending_line Nothing = []
ending_line Returns = codes "returns" ++ newline
ending_line Raises = codes "raises" ++ newline
ending_line Yes = codes "yes" ++ newline
ending_line No = codes "no" ++ newline
ending_line (Left left) = codes "left" ++ names_line (members left)

-- a name after its space, up to the byte that stops it
abbrev pub name_line : Kind → ℕ → ℕ → List ℕ
name_line k stop n = letter k ∷ [] ++ (decimal n ++ stop ∷ [])

-- the names and the ending after the byte that stops the word
abbrev pub after_line : Kinds → Endings → Numbers × Ending → List ℕ
after_line kinds.Nothing es p = ending_line p.1
after_line (kinds.One k) es p = name_line k (stop_of es) p.0.first ++ ending_line p.1
after_line (kinds.Two k j) es p = name_line k 32 p.0.first ++ (name_line j (stop_of es) p.0.second ++ ending_line p.1)

pub neither : {A : Type 0} (e a b : Ending) → (e ≡ a → A) → (e ≡ b → A) → (e ≡ a) ⊎ (e ≡ b) → A
neither e a b f g h = elim h [ inl k ↦ f k | inr k ↦ g k ]

-- a text with its ending and a newline
ending_is : (es : Endings) (prefix : List ℕ) (e : Ending) → IsEnding es e → with_ending prefix e ++ newline ≡ prefix ++ (stop_of es ∷ ending_line e)
ending_is endings.Nothing prefix Nothing h = refl
ending_is endings.Nothing prefix _ h = absurd (cc)
ending_is endings.Outcome prefix Returns h = append_assoc prefix (codes " returns") newline
ending_is endings.Outcome prefix Raises h = append_assoc prefix (codes " raises") newline
ending_is endings.Outcome prefix _ h = neither _ Returns Raises (λ k. absurd (cc)) (λ k. absurd (cc)) h
ending_is endings.Answer prefix Yes h = append_assoc prefix (codes " yes") newline
ending_is endings.Answer prefix No h = append_assoc prefix (codes " no") newline
ending_is endings.Answer prefix _ h = neither _ Yes No (λ k. absurd (cc)) (λ k. absurd (cc)) h
ending_is endings.Threads prefix (Left left) h = simp (append_assoc, names_line_is)
ending_is endings.Threads prefix _ h = let k = h.1 in absurd (cc)

name_is : (prefix d more : List ℕ) (c stop : ℕ) → ((prefix ++ (32 ∷ c ∷ [])) ++ d) ++ (stop ∷ more) ≡ prefix ++ (32 ∷ (((c ∷ []) ++ (d ++ stop ∷ [])) ++ more))
name_is prefix d more c stop = simp append_assoc

-- a text with its names, its ending and a newline
names_are : (ks : Kinds) (es : Endings) (prefix : List ℕ) (x : Numbers) (e : Ending) → IsEnding es e → with_ending (with_names prefix ks x) e ++ newline ≡ prefix ++ (gap_of ks es ∷ after_line ks es (x, e))
names_are kinds.Nothing es prefix x e h = ending_is es prefix e h
names_are (kinds.One k) es prefix x e h = ending_is es (with_name prefix k x.first) e h ∙ name_is prefix (decimal x.first) (ending_line e) (letter k) (stop_of es)
names_are (kinds.Two k j) es prefix x e h =
    ending_is es (with_name (with_name prefix k x.first) j x.second) e h
    ∙ name_is (with_name prefix k x.first) (decimal x.second) (ending_line e) (letter j) (stop_of es)
    ∙ name_is prefix (decimal x.first) (name_line j (stop_of es) x.second ++ ending_line e) (letter k) 32

-- a word, and the byte that stops it
abbrev pub start_of : Word → List ℕ
start_of w = word_text w ++ gap_of (kinds_of w) (endings_of w) ∷ []

pub row_is : (w : Word) (x : Numbers) (e : Ending) → IsEnding (endings_of w) e → with_ending (with_names (word_text w) (kinds_of w) x) e ++ newline ≡ word_text w ++ (gap_of (kinds_of w) (endings_of w) ∷ after_line (kinds_of w) (endings_of w) (x, e))
row_is w x e h = names_are (kinds_of w) (endings_of w) (word_text w) x e h

-- the text of an action begins with its word
pub begins_so : (a : Action) → (rest : List ℕ) × (text a ≡ start_of (row_of a).word ++ rest)
begins_so a =
    let r = row_of a in
    let w = r.word in
    let rest = after_line (kinds_of w) (endings_of w) (r.numbers, r.ending) in
    (rest, row_is w r.numbers r.ending (is_row a).ending ∙ sym (append_assoc (word_text w) (gap_of (kinds_of w) (endings_of w) ∷ []) rest))
