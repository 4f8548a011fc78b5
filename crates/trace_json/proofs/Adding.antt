-- What several pieces add one after another.
use Rattle.std.proofs.Common.{◌≡◌, ℕ, ◌+◌, ◌-◌, ◌≤◌, List, [], ◌∷◌, ◌++◌, length, length-append, take, drop, refl, ap, sym, ◌∙◌, append_assoc, add-one, arith, Option}
use Rattle.std.specs.Prelude.{codes, decimal}
use Rattle.std.proofs.lemmas.List.{length-take-le, take-append-drop}
use Rattle.std.proofs.Math.Seq.{take-append_seam, drop-append_seam}
use Rattle.larch_actions.specs.declared.event.Layout.{Layout}
use Rattle.larch_actions.specs.declared.event.Event.{Event}
use Rattle.trace_core.specs.Text.{newline, action_text}
use Rattle.trace_json.specs.declared.spans.Span.{Span}
use Rattle.trace_json.specs.Spans.{ended_by, begun_by}
use Rattle.trace_json.specs.Texts.{with_number, opening_text, row_text, rows_text, head_text, place_text, instant_text, span_name, turn_text, turn_if, event_text}

pub added_two : (old mid new p q : List ℕ) → mid ≡ old ++ p → new ≡ mid ++ q → new ≡ old ++ (p ++ q)
added_two old mid new p q e f = f ∙ ap (λ l. l ++ q) e ∙ append_assoc old p q

module _ (old a b c : List ℕ) (p q r s t : List ℕ) (one : a ≡ old ++ p) (two : b ≡ a ++ q) (three : c ≡ b ++ r) where
  pub added_three : c ≡ old ++ (p ++ q ++ r)
  added_three = added_two old b c (p ++ q) r (added_two old a b p q one two) three

  pub added_four : (d : List ℕ) → d ≡ c ++ s → d ≡ old ++ (p ++ q ++ r ++ s)
  added_four d four = added_two old c d (p ++ q ++ r) s added_three four

  pub added_five : (d e : List ℕ) → d ≡ c ++ s → e ≡ d ++ t → e ≡ old ++ (p ++ q ++ r ++ s ++ t)
  added_five d e four five = added_two old d e (p ++ q ++ r ++ s) t (added_four d four) five

pub take_none : (xs : List ℕ) → take 0 xs ≡ []
take_none [] = refl
take_none (x ∷ xs) = refl

-- one more row
pub rows_more : (n : ℕ) → rows_text n ++ row_text n ≡ rows_text (n + 1)
unfolding rows_text
rows_more n = rw add-one refl

pub rows_none : rows_text 0 ≡ []
unfolding rows_text
rows_none = refl

pub added_row : (t : ℕ) (old a b c d e : List ℕ) → a ≡ old ++ with_number (codes ",\n{\"ph\":\"M\",\"pid\":0,\"tid\":") t → b ≡ a ++ with_number (codes ",\"name\":\"thread_name\",\"args\":{\"name\":\"t") t
    → c ≡ b ++ with_number (codes "\"}},\n{\"ph\":\"M\",\"pid\":0,\"tid\":") t → d ≡ c ++ with_number (codes ",\"name\":\"thread_sort_index\",\"args\":{\"sort_index\":") t → e ≡ d ++ codes "}}" → e ≡ old ++ row_text t
unfolding row_text
added_row t old a b c d e one two three four five = added_five old a b c _ _ _ _ _ one two three d e four five

pub added_head : (l : Layout) (old a b : List ℕ) → a ≡ old ++ opening_text → b ≡ a ++ rows_text l.threads → b ≡ old ++ head_text l
unfolding head_text
added_head l old a b one two = added_two old a b opening_text (rows_text l.threads) one two

pub added_place : (n t : ℕ) (old a b : List ℕ) → a ≡ old ++ with_number (codes ",\"pid\":0,\"tid\":") t → b ≡ a ++ with_number (codes ",\"ts\":") n → b ≡ old ++ place_text n t
unfolding place_text
added_place n t old a b one two = added_two old a b _ _ one two

pub added_instant : (n : ℕ) (x : Event) (old a b c d e : List ℕ) → a ≡ old ++ codes ",\n{\"ph\":\"i\",\"s\":\"t\"" → b ≡ a ++ place_text n x.thread.0 → c ≡ b ++ codes ",\"name\":\"" → d ≡ c ++ action_text x.action → e ≡ d ++ codes "\"}"
    → e ≡ old ++ instant_text n x
unfolding instant_text
added_instant n x old a b c d e one two three four five = added_five old a b c _ _ _ _ _ one two three d e four five

pub added_turn : (side n t : ℕ) (x : Span) (old a b c d : List ℕ) → a ≡ old ++ (codes ",\n{\"ph\":\"" ++ side ∷ []) → b ≡ a ++ span_name t x → c ≡ b ++ (codes "\"" ++ place_text n t)
    → d ≡ c ++ (with_number (codes ",\"args\":{\"thread\":\"t") t ++ codes "\"}}") → d ≡ old ++ turn_text side n t x
unfolding turn_text
added_turn side n t x old a b c d one two three four = added_four old a b c _ _ _ _ [] one two three d four

pub added_event : (n : ℕ) (e : Event) (x y : Option Span) (old a b c : List ℕ) → x ≡ ended_by e.action → y ≡ begun_by e.action → a ≡ old ++ instant_text n e → b ≡ a ++ turn_if 101 n e.thread.0 x → c ≡ b ++ turn_if 98 n e.thread.0 y
    → c ≡ old ++ event_text n e
unfolding event_text
added_event n e x y old a b c ends begins one two three =
    added_three old a b c (instant_text n e) (turn_if 101 n e.thread.0 x) (turn_if 98 n e.thread.0 y) [] [] one two three
    ∙ (λ i. old ++ (instant_text n e ++ turn_if 101 n e.thread.0 (ends i) ++ turn_if 98 n e.thread.0 (begins i)))

-- the part between what stands in front and the last byte
middle : (line prefix part : List ℕ) (last end k : ℕ) → end ≤ length line → take end line ≡ prefix ++ part ++ last ∷ [] → k ≡ length prefix → take (end - 1 - k) (drop k line) ≡ part
middle line prefix part last end k le e at =
    let more = drop end line in
    let whole : line ≡ prefix ++ (part ++ (last ∷ [] ++ more)) =
    sym (take-append-drop end line) ∙ ap (λ l. l ++ more) e ∙ append_assoc (prefix ++ part) (last ∷ []) more ∙ append_assoc prefix part (last ∷ [] ++ more)
    in
    let size : end ≡ length prefix + length part + 1 =
    omega (arith, sym (length-take-le end line le) ∙ ap length e, length-append (prefix ++ part) (last ∷ []), length-append prefix part)
    in
    let count : end - 1 - k ≡ length part = omega (arith, size, at) in
    (λ i. take (count i) (drop (at i) (whole i))) ∙ ap (take (length part)) (drop-append_seam prefix (part ++ (last ∷ [] ++ more))) ∙ take-append_seam part (last ∷ [] ++ more)

-- the action of a line
pub action_in : (n t : ℕ) (action line : List ℕ) (end k : ℕ) → end ≤ length line → take end line ≡ decimal n ++ codes " t" ++ decimal t ++ codes " " ++ action ++ newline → k ≡ length (decimal n) + length (decimal t)
    → take (end - 1 - (k + 3)) (drop (k + 3) line) ≡ action
action_in n t action line end k le e at =
    let prefix = decimal n ++ codes " t" ++ decimal t ++ codes " " in
    let size : k + 3 ≡ length prefix =
    omega (arith, at, length-append (decimal n ++ codes " t" ++ decimal t) (codes " "), length-append (decimal n ++ codes " t") (decimal t), length-append (decimal n) (codes " t"))
    in
    middle line prefix action 10 end (k + 3) le e size
