-- Reading a line is exact.
use Rattle.std.proofs.Common.{◌≡◌, ℕ, ◌+◌, ◌%◌, ◌^◌, ◌<◌, ◌≤◌, ◌⊎◌, inl, inr, List, [], ◌∷◌, ◌++◌, refl, ap, sym, subst, ◌∙◌, append_assoc, Bool, true, false, arith}
use Rattle.std.proofs.lemmas.Fmt.{decimal_by_steps}
use Rattle.std.specs.Prelude.{codes, decimal}
use Rattle.larch_actions.specs.declared.event.Version.{Version}
use Rattle.larch_actions.specs.declared.event.Version.TheVariants as version
use Rattle.larch_actions.specs.declared.event.Layout.{Layout}
use Rattle.larch_actions.specs.declared.event.Event.{Event}
use Rattle.larch_actions.specs.declared.event.Action.TheVariants.{TestAlert}
use Rattle.larch_actions.specs.declared.kind.Kind.TheVariants.{Thread}
use Rattle.larch_actions.specs.Layout.{IsLawful, HasNames, most_in}
use Rattle.larch_actions.proofs.Names.{few_of, few_threads}
use Rattle.trace_core.specs.declared.line.Line.{Line}
use Rattle.trace_core.specs.declared.line.Line.TheVariants as line
use Rattle.exact_text.specs.Codes.{IsCode}
use Rattle.trace_core.specs.declared.line.Expect.{Expect}
use Rattle.trace_core.specs.declared.line.Expect.TheVariants as expect
use Rattle.trace_core.specs.Made.{IsMade}
use Rattle.trace_core.specs.Names.{IsStopped}
use Rattle.trace_core.specs.Text.{first_line, layout_line, event_line, value_line, newline}
use Rattle.trace_core.specs.Lines.{action_at, event_of, event_at, end_at, event_or_end_at, layout_from, counts_at, head_of, head_at, value_of, value_at, line_at, line_text, IsPossible, IsAllowed}
use Rattle.exact_text.proofs.CodeLaws.{AreApart, same_code, lawful_code, word_code, nothing_code, then_code, as_code, or_code}
use Rattle.exact_text.proofs.Numbers.{number_code}
use Rattle.trace_core.proofs.NumbersFrom.{number_from_code, only_space, space_stops}
use Rattle.trace_core.proofs.RowTexts.{text}
use Rattle.exact_text.proofs.Pieces.{flag_code, flag_text}
use Rattle.trace_core.proofs.RowLaws.{IsRead, action_code}

event_text : (n : ℕ) (e : Event) → event_line n e ≡ decimal n ++ (codes " t" ++ ((decimal e.thread.0 ++ 32 ∷ []) ++ text e.action))
event_text n e = simp append_assoc

-- an event with lawful names as reading makes it
abbrev IsReadable : Layout → Event → Type 0
IsReadable l e = HasNames l e × IsMade e.action

pub event_code : (l : Layout) (n : ℕ) → IsLawful l → IsCode (IsReadable l) (event_line n) (event_at l n)
unfolding event_at
event_code l n ok =
    let t = same_code (number_code 0 l.threads 32 (omega arith) (omega (arith, ok.some)) (omega (arith, few_of l ok Thread)) (omega arith)) (λ t. t < l.threads) (λ t. decimal t ++ 32 ∷ []) (λ t. refl) (λ t h. h.1) (λ t h. (omega arith, h)) in
    let pair = then_code t (λ _ a. IsRead l a) (λ _ a. text a) (λ _. action_at l) (λ _ _. action_code l ok) (λ _ _. (TestAlert true, (tt, tt))) in
    let event : IsCode (IsReadable l) (λ e. (decimal e.thread.0 ++ 32 ∷ []) ++ text e.action) _ =
    as_code pair event_of (IsReadable l) (λ e. (decimal e.thread.0 ++ 32 ∷ []) ++ text e.action) (λ p h. (((h.0, h.1.0), h.1.1), refl)) (λ e h. ((e.thread.0, e.action), (h.0.0, (h.0.1, h.1)), refl)) in
    let first : Event = event_of (0, TestAlert true) in
    let is : IsReadable l first = ((omega (arith, ok.some), tt), tt) in
    same_code (word_code (word_code event (codes " t") (first, is)) (decimal n) (first, is)) (IsReadable l) (event_line n) (event_text n) (λ e h. h) (λ e h. h)

abbrev IsEvent : Layout → Line → Type 0
IsEvent l (line.Event e) = IsReadable l e
IsEvent l _ = ⊥

abbrev IsEnd : Line → Type 0
IsEnd line.End = Unit {0}
IsEnd _ = ⊥

abbrev IsHead : Line → Type 0
IsHead (line.Head v) = Unit {0}
IsHead _ = ⊥

event_from : (l : Layout) (x : Line) → IsEvent l x → (e : Event) × IsReadable l e × (x ≡ line.Event e)
event_from l (line.Event e) h = (e, h, refl)
event_from l _ h = absurd h

end_is : (x : Line) → IsEnd x → x ≡ line.End
end_is line.End h = refl
end_is _ h = absurd h

-- the first byte is a digit
abbrev BeginsLow : ℕ → List ℕ → Type 0
BeginsLow n ds = (c : ℕ) × (cs : List ℕ) × (c ≤ 57) × (ds ≡ c ∷ cs)

decimal_begins : (n : ℕ) → n < 2 ^ 64 → BeginsLow n (decimal n)
decimal_begins n fits =
    decimal_by_steps BeginsLow (λ n small. (48 + n, [], omega arith, refl)) (λ n ds large h. (h.0, h.1 ++ (48 + n % 10) ∷ [], h.2, ap (λ l. l ++ (48 + n % 10) ∷ []) h.3)) n fits

abbrev text_in : Layout → ℕ → Line → List ℕ
text_in l n = line_text (expect.Events l n)

event_end_apart : (l : Layout) (n : ℕ) → n < 2 ^ 64 → AreApart (IsEvent l) IsEnd (text_in l n)
event_end_apart l n fits (line.Event e) line.End a b h k eq =
    let d = decimal_begins n fits in
    let low : d.0 ≤ 57 = d.2 in
    let more = codes " t" ++ ((decimal e.thread.0 ++ 32 ∷ []) ++ text e.action) in
    let left : event_line n e ++ a ≡ d.0 ∷ ((d.1 ++ more) ++ a) = ap (λ l. l ++ a) (event_text n e ∙ ap (λ l. l ++ more) d.3) in
    let heads : d.0 ≡ 101 = cc (sym left ∙ eq) in
    absurd (omega arith)
event_end_apart l n fits (line.Event e) _ a b h k eq = absurd k
event_end_apart l n fits _ y a b h k eq = absurd h

line_to : (l : Layout) (n : ℕ) (x : Line) → IsEvent l x ⊎ IsEnd x → IsAllowed (expect.Events l n) x
line_to l n (line.Event e) h = elim h [ inl h ↦ h | inr h ↦ absurd h ]
line_to l n line.End h = tt
line_to l n _ h = elim h [ inl h ↦ h | inr h ↦ h ]

line_from : (l : Layout) (n : ℕ) (x : Line) → IsAllowed (expect.Events l n) x → IsEvent l x ⊎ IsEnd x
line_from l n (line.Event e) h = inl h
line_from l n line.End h = inr tt
line_from l n _ h = inl h

end_text : (l : Layout) (n : ℕ) (x : Line) → IsEnd x → text_in l n x ≡ codes "end " ++ (decimal n ++ (10 ∷ [] ++ []))
end_text l n line.End h = append_assoc (codes "end ") (decimal n) newline
end_text l n _ h = absurd h

event_or_end_code : (l : Layout) (n : ℕ) → IsLawful l → n < 2 ^ 64 → IsCode (IsAllowed (expect.Events l n)) (text_in l n) (event_or_end_at l n)
event_or_end_code l n ok fits =
    let event = as_code (event_code l n ok) line.Event (IsEvent l) (text_in l n) (λ e h. (h, refl)) (event_from l) in
    let nothing : IsCode IsEnd (λ _. []) _ = nothing_code line.End IsEnd (λ _. []) tt end_is refl in
    let some : (x : Line) × IsEnd x = (line.End, tt) in
    let words = word_code (word_code (word_code nothing (10 ∷ []) some) (decimal n) some) (codes "end ") some in
    let end : IsCode IsEnd (text_in l n) (end_at n) = lawful_code words (text_in l n) (end_text l n) in
    same_code (or_code event end (event_end_apart l n fits)) (IsAllowed (expect.Events l n)) (text_in l n) (λ x. refl) (line_to l n) (line_from l n)

head_text : (b : Bool) → Unit {0} → IsHead (head_of b) × (line_text expect.Head (head_of b) ≡ flag_text (first_line version.One) (first_line version.Two) b)
head_text true h = (tt, refl)
head_text false h = (tt, refl)

head_flag : (x : Line) → IsHead x → (b : Bool) × Unit {0} × (x ≡ head_of b)
head_flag (line.Head version.One) h = (true, tt, refl)
head_flag (line.Head version.Two) h = (false, tt, refl)
head_flag _ h = absurd h

head_to : (x : Line) → IsHead x → IsAllowed expect.Head x
head_to (line.Head v) h = h
head_to _ h = absurd h

head_from : (x : Line) → IsAllowed expect.Head x → IsHead x
head_from (line.Head v) h = h
head_from _ h = absurd h

-- a lawful layout of the version
abbrev pub IsLawfulIn : Version → Layout → Type 0
IsLawfulIn v l = IsLawful l × (l.version ≡ v)

counts_from : (v : Version) (x : Line) → IsAllowed (expect.Counts v) x → (l : Layout) × IsLawfulIn v l × (x ≡ line.Counts l)
counts_from v (line.Counts c) h = (c, h, refl)
counts_from v _ h = absurd h

counts_text : (l : Layout) → layout_line l ≡ codes "threads " ++ ((decimal l.threads ++ 32 ∷ []) ++ (codes "mutexes " ++ ((decimal l.mutexes ++ 32 ∷ []) ++ (codes "conditions " ++ ((decimal l.conditions ++ 32 ∷ []) ++ (codes "semaphores " ++ (decimal l.semaphores ++ 10 ∷ [])))))))
counts_text l = simp append_assoc

abbrev Between : ℕ → ℕ → Type 0
Between least n = (least ≤ n) × (n < 65)

abbrev text2 : ℕ × ℕ → List ℕ
text2 p = codes "conditions " ++ ((decimal p.0 ++ 32 ∷ []) ++ (codes "semaphores " ++ (decimal p.1 ++ 10 ∷ [])))

abbrev text3 : ℕ × (ℕ × ℕ) → List ℕ
text3 p = codes "mutexes " ++ ((decimal p.0 ++ 32 ∷ []) ++ text2 p.1)

abbrev text4 : ℕ × (ℕ × (ℕ × ℕ)) → List ℕ
text4 p = codes "threads " ++ ((decimal p.0 ++ 32 ∷ []) ++ text3 p.1)

abbrev Lawful2 : ℕ × ℕ → Type 0
Lawful2 p = Between 0 p.0 × Between 0 p.1

abbrev Lawful3 : ℕ × (ℕ × ℕ) → Type 0
Lawful3 p = Between 0 p.0 × Lawful2 p.1

some_thread : (v : Version) → 1 ≤ most_in v
some_thread version.One = omega arith
some_thread version.Two = omega arith

pub counts_code : (v : Version) → IsCode (IsLawfulIn v) layout_line (counts_at v)
counts_code v =
    let some = some_thread v in
    let few = few_threads v in
    let spaced = number_code 0 65 32 (omega arith) (omega arith) (omega arith) (omega arith) in
    let zero : Between 0 0 = (omega arith, omega arith) in
    let s = word_code (number_code 0 65 10 (omega arith) (omega arith) (omega arith) (omega arith)) (codes "semaphores ") (0, zero) in
    let c = word_code (then_code spaced (λ _ n. Between 0 n) (λ _ n. codes "semaphores " ++ (decimal n ++ 10 ∷ [])) _ (λ _ _. s) (λ _ _. (0, zero))) (codes "conditions ") ((0, 0), (zero, zero)) in
    let m = word_code (then_code spaced (λ _ p. Lawful2 p) (λ _ p. text2 p) _ (λ _ _. c) (λ _ _. ((0, 0), (zero, zero)))) (codes "mutexes ") ((0, (0, 0)), (zero, (zero, zero))) in
    let t = word_code (then_code (number_code 1 (most_in v + 1) 32 (omega arith) (omega arith) (omega arith) (omega arith)) (λ _ p. Lawful3 p) (λ _ p. text3 p) _ (λ _ _. m) (λ _ _. ((0, (0, 0)), (zero, (zero, zero))))) (codes "threads ") ((1, (0, (0, 0))), ((omega arith, omega arith), (zero, (zero, zero)))) in
    as_code t (layout_from v) (IsLawfulIn v) layout_line
    (λ p h. ((record { some = h.0.0; threads = omega (arith, h.0.1); mutexes = omega (arith, h.1.0.1); conditions = omega (arith, h.1.1.0.1); semaphores = omega (arith, h.1.1.1.1) }, refl), counts_text (layout_from v p)))
    (λ l (h, is).
    let threads : l.threads ≤ most_in v = subst (λ (u : Version). l.threads ≤ most_in u) is h.threads in (
      (l.threads, (l.mutexes, (l.conditions, l.semaphores))),
      ((h.some, omega arith), ((omega arith, omega (arith, h.mutexes)), ((omega arith, omega (arith, h.conditions)), (omega arith, omega (arith, h.semaphores))))),
      (λ i. record { version = is i; threads = l.threads; mutexes = l.mutexes; conditions = l.conditions; semaphores = l.semaphores }),
    ))

head_code : IsCode IsHead (line_text expect.Head) head_at
head_code = as_code (flag_code (first_line version.One) (first_line version.Two) refl) head_of IsHead (line_text expect.Head) head_text head_flag

counts_line_code : (v : Version) → IsCode (IsAllowed (expect.Counts v)) (line_text (expect.Counts v)) (line_at (expect.Counts v))
counts_line_code v = as_code (counts_code v) line.Counts (IsAllowed (expect.Counts v)) (line_text (expect.Counts v)) (λ l h. (h, refl)) (counts_from v)

-- a mutex from least on after a space, and a value
abbrev IsValue : Layout → ℕ → (ℕ × ℕ) × ℕ → Type 0
IsValue l least p = IsStopped false least l.mutexes p.0 × ((0 ≤ p.1) × (p.1 < 2 ^ 64))

abbrev value_text : (ℕ × ℕ) × ℕ → List ℕ
value_text p = codes "value m" ++ ((decimal p.0.0 ++ p.0.1 ∷ []) ++ (decimal p.1 ++ 10 ∷ []))

value_is : (l : Layout) (least : ℕ) (p : (ℕ × ℕ) × ℕ) → IsValue l least p → IsAllowed (expect.Values l least) (value_of p) × (line_text (expect.Values l least) (value_of p) ≡ value_text p)
value_is l least p h =
    let space : p.0.1 ≡ 32 = only_space l.mutexes p.0.0 p.0.1 h.0.2 in
    let one : value_line (record { mutex = p.0.0; value = p.1 }) ≡ codes "value m" ++ ((decimal p.0.0 ++ 32 ∷ []) ++ (decimal p.1 ++ 10 ∷ [])) = simp append_assoc in
    ((h.0.0, h.0.1, h.1.1), one ∙ ap (λ c. codes "value m" ++ ((decimal p.0.0 ++ c ∷ []) ++ (decimal p.1 ++ 10 ∷ []))) (sym space))

value_from : (l : Layout) (least : ℕ) (x : Line) → IsAllowed (expect.Values l least) x → (p : (ℕ × ℕ) × ℕ) × IsValue l least p × (x ≡ value_of p)
value_from l least (line.Value k v) h = (((k, 32), v), ((h.0, h.1, space_stops l.mutexes k), (omega arith, h.2)), refl)
value_from l least _ h = absurd h

value_code : (l : Layout) (least : ℕ) → IsLawful l → least < l.mutexes → IsCode (IsAllowed (expect.Values l least)) (line_text (expect.Values l least)) (value_at l least)
value_code l least ok some =
    let number = number_code 0 (2 ^ 64) 10 (omega arith) (omega arith) (omega arith) (omega arith) in
    let zero : (0 ≤ 0) × (0 < 2 ^ 64) = (omega arith, omega arith) in
    let name : IsStopped false least l.mutexes (least, 32) = (omega arith, some, space_stops l.mutexes least) in
    let both : IsCode (IsValue l least) (λ p. (decimal p.0.0 ++ p.0.1 ∷ []) ++ (decimal p.1 ++ 10 ∷ [])) _ =
    then_code (number_from_code false least l.mutexes some (omega (arith, ok.mutexes))) (λ _ v. (0 ≤ v) × (v < 2 ^ 64)) (λ _ v. decimal v ++ 10 ∷ []) _ (λ _ _. number) (λ _ _. (0, zero)) in
    as_code (word_code both (codes "value m") (((least, 32), 0), (name, zero))) value_of (IsAllowed (expect.Values l least)) (line_text (expect.Values l least)) (value_is l least) (value_from l least)

pub line_code : (x : Expect) → IsPossible x → IsCode (IsAllowed x) (line_text x) (line_at x)
line_code expect.Head ok = same_code head_code (IsAllowed expect.Head) (line_text expect.Head) (λ x. refl) head_to head_from
line_code (expect.Counts v) ok = counts_line_code v
line_code (expect.Events l n) ok = event_or_end_code l n ok.0 (omega (arith, ok.1))
line_code (expect.Values l least) ok = value_code l least ok.0 ok.1
