-- Reading an action is exact, whatever its word.
use Rattle.std.proofs.Common.{◌≡◌, ◌⊎◌, ℕ, ◌<◌, ◌≤◌, inl, inr, List, [], ◌∷◌, ◌++◌, length, get_or, zero, suc, refl, ap, sym, subst, ◌∙◌, append_assoc, Bool, true, false, arith, rules, tests}
use Rattle.std.specs.Prelude.{codes, decimal, nat_lt, ◌&&◌}
use Rattle.larch_actions.specs.declared.event.Version.{Version}
use Rattle.larch_actions.specs.declared.event.Version.TheVariants as version
use Rattle.larch_actions.specs.declared.event.Layout.{Layout}
use Rattle.larch_actions.specs.declared.event.Action.{Action}
use Rattle.larch_actions.specs.declared.kind.Kind.{Kind}
use Rattle.larch_actions.specs.declared.kind.Kind.TheVariants.{Thread}
use Rattle.larch_actions.specs.declared.rows.Word.{Word}
use Rattle.larch_actions.specs.declared.rows.Word.TheVariants as word
use Rattle.larch_actions.specs.declared.rows.Numbers.{Numbers}
use Rattle.larch_actions.specs.declared.rows.Kinds.{Kinds}
use Rattle.larch_actions.specs.declared.rows.Kinds.TheVariants as kinds
use Rattle.larch_actions.specs.declared.rows.Endings.{Endings}
use Rattle.larch_actions.specs.declared.rows.Endings.TheVariants as endings
use Rattle.larch_actions.specs.declared.rows.Ending.{Ending}
use Rattle.larch_actions.specs.declared.rows.Ending.TheVariants.{Nothing, Returns, Yes, Left}
use Rattle.larch_actions.specs.declared.thread_set.ThreadSet.{ThreadSet}
use Rattle.larch_actions.specs.Sets.{in_set}
use Rattle.larch_actions.specs.Layout.{IsLawful, IsNamed, IsNamedRow, InVersion, AreBelow, FitsIn, count_of, letter}
use Rattle.larch_actions.specs.Rows.{words, word_text, since, kinds_of, endings_of, none, one, two, answer_of, left_by, row, row_of, made, AreFor, IsEnding}
use Rattle.larch_actions.proofs.Names.{few_of}
use Rattle.larch_actions.proofs.Table.{action_back, is_row, row_back, place_of, is_there}
use Rattle.exact_text.specs.Codes.{IsCode}
use Rattle.trace_core.specs.Made.{IsMade, IsMadeEnding}
use Rattle.trace_core.specs.Names.{names_at, set_from}
use Rattle.trace_core.specs.Lines.{stop_of, gap_of, outcome_of, ending_at, name_at, after_at, are_some, is_in, may_stand, row_at, rows_at, action_at}
use Rattle.exact_text.specs.Reading.{as_value}
use Rattle.trace_core.specs.Text.{row_text, members, newline}
use Rattle.exact_text.proofs.CodeLaws.{AreApart, no_code, nothing_code, same_code, word_code, then_code, as_code, or_code, only_code}
use Rattle.exact_text.proofs.Choices.{differ, differ-apart, all_differ, differs_from_all, both_true}
use Rattle.exact_text.proofs.Numbers.{number_code}
use Rattle.trace_core.proofs.RisingSets.{names_line, names_code}
use Rattle.trace_core.proofs.Members.{rising-members, below_bound, members-set_from}
use Rattle.exact_text.proofs.Pieces.{flag_code, flag_text}
use Rattle.trace_core.proofs.RowTexts.{text, ending_line, name_line, after_line, start_of, row_is, begins_so}

-- an ending of this sort, and lawful threads where some are left
abbrev pub EndsIn : Layout → Endings → Ending → Type 0
EndsIn l endings.Threads e = IsEnding endings.Threads e × ((t : ℕ) → in_set (left_by e) t ≡ true → t < l.threads)
EndsIn l es e = IsEnding es e

is_ending : (l : Layout) (es : Endings) (e : Ending) → EndsIn l es e → IsEnding es e
is_ending l endings.Threads e h = h.0
is_ending l _ e h = h

-- numbers of the names of these kinds
abbrev AreIn : Layout → Kinds → Numbers → Type 0
AreIn l ks x = AreBelow l ks x × AreFor ks x

fits_from : (l : Layout) (ks : Kinds) (x : Numbers) (es : Endings) (e : Ending) → AreBelow l ks x → EndsIn l es e → FitsIn l ks x es e
fits_from l ks x endings.Threads e b h = (b, h.1)
fits_from l ks x _ e b h = b

below_of : (l : Layout) (ks : Kinds) (x : Numbers) (es : Endings) (e : Ending) → FitsIn l ks x es e → AreBelow l ks x
below_of l ks x endings.Threads e f = f.0
below_of l ks x _ e f = f

ends_of : (l : Layout) (ks : Kinds) (x : Numbers) (es : Endings) (e : Ending) → FitsIn l ks x es e → IsEnding es e → EndsIn l es e
ends_of l ks x endings.Threads e f h = (h, f.1)
ends_of l ks x _ e f h = h

-- and it is kept as reading makes it
abbrev IsLastly : Layout → Endings → Ending → Type 0
IsLastly l es e = EndsIn l es e × IsMadeEnding e

-- what a row says that its word may stand in the version
fits_of : (v w : Version) (A : Type 0) → InVersion v w A → A
fits_of version.One w A h = h
fits_of version.Two w A h = h.1

known_of : (v w : Version) (A : Type 0) → InVersion v w A → is_in v w ≡ true
known_of version.One w A h = refl
known_of version.Two w A h = ap (is_in version.Two) h.0

in_version : (v w : Version) (A : Type 0) → is_in v w ≡ true → A → InVersion v w A
in_version version.One w A known h = h
in_version version.Two version.One A known h = absurd (cc)
in_version version.Two version.Two A known h = (refl, h)

-- what lawful names in an action are
pub named_parts : (l : Layout) (a : Action) → IsNamed l a → AreBelow l (kinds_of (row_of a).word) (row_of a).numbers × EndsIn l (endings_of (row_of a).word) (row_of a).ending
named_parts l a h =
    let r = row_of a in
    let ks = kinds_of r.word in
    let es = endings_of r.word in
    let f = fits_of (since r.word) l.version (FitsIn l ks r.numbers es r.ending) h in
    (below_of l ks r.numbers es r.ending f, ends_of l ks r.numbers es r.ending f (is_row a).ending)

outcome_to : (l : Layout) (b : Bool) → Unit {0} → IsLastly l endings.Outcome (outcome_of b) × (ending_line (outcome_of b) ≡ flag_text (codes "returns" ++ newline) (codes "raises" ++ newline) b)
outcome_to l true h = ((inl refl, tt), refl)
outcome_to l false h = ((inr refl, tt), refl)

outcome_from : (l : Layout) (e : Ending) → IsLastly l endings.Outcome e → (b : Bool) × Unit {0} × (e ≡ outcome_of b)
outcome_from l e h = elim h.0 [ inl k ↦ (true, tt, k) | inr k ↦ (false, tt, k) ]

answer_to : (l : Layout) (b : Bool) → Unit {0} → IsLastly l endings.Answer (answer_of b) × (ending_line (answer_of b) ≡ flag_text (codes "yes" ++ newline) (codes "no" ++ newline) b)
answer_to l true h = ((inl refl, tt), refl)
answer_to l false h = ((inr refl, tt), refl)

answer_from : (l : Layout) (e : Ending) → IsLastly l endings.Answer e → (b : Bool) × Unit {0} × (e ≡ answer_of b)
answer_from l e h = elim h.0 [ inl k ↦ (true, tt, k) | inr k ↦ (false, tt, k) ]

-- a set of threads, by the names of its members, and kept as they make it
abbrev IsLow : Layout → ThreadSet → Type 0
IsLow l left = ((t : ℕ) → in_set left t ≡ true → t < l.threads) × (left ≡ set_from (members left))

left_code : (l : Layout) → IsLawful l → IsCode (IsLow l) (λ left. names_line (members left)) (as_value set_from (names_at l.threads))
left_code l ok =
    let few = few_of l ok Thread in
    as_code (names_code l.threads (omega (arith, ok.some)) few) set_from (IsLow l) (λ left. names_line (members left))
    (λ ts h. let same = members-set_from l.threads ts few h in ((below_bound l.threads ts h, ap set_from (sym same)), ap names_line same))
    (λ left h. (members left, rising-members left l.threads h.0, h.1))

some_left : (l : Layout) → IsLawful l → IsLow l (set_from [])
some_left l ok = (below_bound l.threads [] tt, ap set_from (sym (members-set_from l.threads [] (few_of l ok Thread) tt)))

left_from : (l : Layout) (e : Ending) → IsLastly l endings.Threads e → (left : ThreadSet) × IsLow l left × (e ≡ Left left)
left_from l e h = (h.0.0.0, (subst (λ x. (t : ℕ) → in_set (left_by x) t ≡ true → t < l.threads) h.0.0.1 h.0.1, subst IsMadeEnding h.0.0.1 h.1), h.0.0.1)

ending_code : (l : Layout) → IsLawful l → (es : Endings) → IsCode (IsLastly l es) ending_line (ending_at l es)
ending_code l ok endings.Nothing = nothing_code Nothing (IsLastly l endings.Nothing) ending_line (refl, tt) (λ e h. h.0) refl
ending_code l ok endings.Outcome = as_code (flag_code (codes "returns" ++ newline) (codes "raises" ++ newline) refl) outcome_of (IsLastly l endings.Outcome) ending_line (outcome_to l) (outcome_from l)
ending_code l ok endings.Answer = as_code (flag_code (codes "yes" ++ newline) (codes "no" ++ newline) refl) answer_of (IsLastly l endings.Answer) ending_line (answer_to l) (answer_from l)
ending_code l ok endings.Threads =
    as_code (word_code (left_code l ok) (codes "left") (set_from [], some_left l ok)) Left (IsLastly l endings.Threads) ending_line (λ left h. ((((left, refl), h.0), h.1), refl)) (left_from l)

some_ending : (l : Layout) → IsLawful l → (es : Endings) → (e : Ending) × IsLastly l es e
some_ending l ok endings.Nothing = (Nothing, (refl, tt))
some_ending l ok endings.Outcome = (Returns, (inl refl, tt))
some_ending l ok endings.Answer = (Yes, (inl refl, tt))
some_ending l ok endings.Threads = let some = some_left l ok in (Left (set_from []), (((set_from [], refl), some.0), some.1))

stop_low : (es : Endings) → stop_of es < 48
stop_low endings.Nothing = omega arith
stop_low _ = omega arith

name_code : (l : Layout) → IsLawful l → (k : Kind) (stop : ℕ) → 0 < count_of l k → stop < 48 → IsCode (λ n. n < count_of l k) (name_line k stop) (name_at l k stop)
name_code l ok k stop some apart =
    word_code (same_code (number_code 0 (count_of l k) stop (omega arith) some (omega (arith, few_of l ok k)) apart) (λ n. n < count_of l k) (λ n. decimal n ++ stop ∷ []) (λ n. refl) (λ n h. h.1) (λ n h. (omega arith, h))) (letter k ∷ []) (0, some)

-- there are things of each kind
abbrev AreSome : Layout → Kinds → Type 0
AreSome l kinds.Nothing = Unit {0}
AreSome l (kinds.One k) = 0 < count_of l k
AreSome l (kinds.Two k j) = (0 < count_of l k) × (0 < count_of l j)

some_from : (n : ℕ) → nat_lt 0 n ≡ true → 0 < n
some_from n h = search (rules, tests)

are_some_from : (l : Layout) (ks : Kinds) → are_some l ks ≡ true → AreSome l ks
are_some_from l kinds.Nothing h = tt
are_some_from l (kinds.One k) h = some_from (count_of l k) h
are_some_from l (kinds.Two k j) h = let b = both_true (nat_lt 0 (count_of l k)) (nat_lt 0 (count_of l j)) h in (some_from (count_of l k) b.0, some_from (count_of l j) b.1)

none_below : (n m : ℕ) → nat_lt 0 n ≡ false → m < n → ⊥
none_below n m h lt = let k : n ≤ 0 = search (rules, tests) in omega arith

none_of_two : (n m a b : ℕ) → (nat_lt 0 n && nat_lt 0 m) ≡ false → a < n → b < m → ⊥
none_of_two n m a b h p q = let x : nat_lt 0 n ≡ true = search (rules, tests) in let y : nat_lt 0 m ≡ true = search (rules, tests) in cc

none_lawful : (l : Layout) (ks : Kinds) (x : Numbers) → are_some l ks ≡ false → AreBelow l ks x → ⊥
none_lawful l kinds.Nothing x h b = cc
none_lawful l (kinds.One k) x h b = none_below (count_of l k) x.first h b
none_lawful l (kinds.Two k j) x h b = none_of_two (count_of l k) (count_of l j) x.first x.second h b.0 b.1

-- lawful names and a lawful ending
abbrev AreAfter : Layout → Kinds → Endings → Numbers × Ending → Type 0
AreAfter l ks es p = AreIn l ks p.0 × IsLastly l es p.1

one_from : (l : Layout) (k : Kind) (es : Endings) (p : Numbers × Ending) → AreAfter l (kinds.One k) es p → (q : ℕ × Ending) × ((q.0 < count_of l k) × IsLastly l es q.1) × (p ≡ (one q.0, q.1))
one_from l k es p h = ((p.0.first, p.1), (h.0.0, h.1), (λ i. (record { first = p.0.first; second = h.0.1 i }, p.1)))

after_code : (l : Layout) → IsLawful l → (ks : Kinds) (es : Endings) → AreSome l ks → IsCode (AreAfter l ks es) (after_line ks es) (after_at l ks es)
after_code l ok kinds.Nothing es some =
    as_code (ending_code l ok es) (λ e. (none, e)) (AreAfter l kinds.Nothing es) (after_line kinds.Nothing es) (λ e h. (((tt, refl), h), refl)) (λ p h. (p.1, h.1, (λ i. (h.0.1 i, p.1))))
after_code l ok (kinds.One k) es some =
    let both = then_code (name_code l ok k (stop_of es) some (stop_low es)) (λ _ e. IsLastly l es e) (λ _ e. ending_line e) (λ _. ending_at l es) (λ _ _. ending_code l ok es) (λ _ _. some_ending l ok es) in
    as_code both (λ p. (one p.0, p.1)) (AreAfter l (kinds.One k) es) (after_line (kinds.One k) es) (λ p h. (((h.0, refl), h.1), refl)) (one_from l k es)
after_code l ok (kinds.Two k j) es some =
    let last = then_code (name_code l ok j (stop_of es) some.1 (stop_low es)) (λ _ e. IsLastly l es e) (λ _ e. ending_line e) (λ _. ending_at l es) (λ _ _. ending_code l ok es) (λ _ _. some_ending l ok es) in
    let e = some_ending l ok es in
    let both = then_code (name_code l ok k 32 some.0 (omega arith)) (λ _ p. (p.0 < count_of l j) × IsLastly l es p.1) (λ _ p. name_line j (stop_of es) p.0 ++ ending_line p.1) _ (λ _ _. last) (λ _ _. ((0, e.0), (some.1, e.1))) in
    as_code both (λ p. (two p.0 p.1.0, p.1.1)) (AreAfter l (kinds.Two k j) es) (after_line (kinds.Two k j) es) (λ p h. ((((h.0, h.1.0), tt), h.1.1), refl))
    (λ p h. ((p.0.first, (p.0.second, p.1)), (h.0.0.0, (h.0.0.1, h.1)), refl))

some_after : (l : Layout) → IsLawful l → (ks : Kinds) (es : Endings) → AreSome l ks → (p : Numbers × Ending) × AreAfter l ks es p
some_after l ok kinds.Nothing es some = let e = some_ending l ok es in ((none, e.0), ((tt, refl), e.1))
some_after l ok (kinds.One k) es some = let e = some_ending l ok es in ((none, e.0), ((some, refl), e.1))
some_after l ok (kinds.Two k j) es some = let e = some_ending l ok es in ((none, e.0), ((some, tt), e.1))

-- the word may stand in the version, with what is after it
abbrev AreWith : Layout → Word → Numbers × Ending → Type 0
AreWith l w p = (is_in (since w) l.version ≡ true) × AreAfter l (kinds_of w) (endings_of w) p

-- a lawful action as reading makes it
abbrev pub IsRead : Layout → Action → Type 0
IsRead l a = IsNamed l a × IsMade a

-- such an action with this word
abbrev pub IsOf : Layout → Word → Action → Type 0
IsOf l w a = ((row_of a).word ≡ w) × IsRead l a

row_to : (l : Layout) (w : Word) (p : Numbers × Ending) → AreWith l w p → IsOf l w (made w p.0 p.1) × (text (made w p.0 p.1) ≡ word_text w ++ (gap_of (kinds_of w) (endings_of w) ∷ [] ++ after_line (kinds_of w) (endings_of w) p))
row_to l w p (known, h) =
    let ends = is_ending l (endings_of w) p.1 h.1.0 in
    let back = row_back (row w p.0 p.1) (record { numbers = h.0.1; ending = ends }) in
    let fits = fits_from l (kinds_of w) p.0 (endings_of w) p.1 h.0.0 h.1.0 in
    let named : IsNamedRow l (row w p.0 p.1) = in_version (since w) l.version (FitsIn l (kinds_of w) p.0 (endings_of w) p.1) known fits in
    ((ap (λ r. r.word) back, (subst (IsNamedRow l) (sym back) named, subst (λ r. IsMadeEnding r.ending) (sym back) h.1.1)), ap (λ r. row_text r ++ newline) back ∙ row_is w p.0 p.1 ends)

row_from : (l : Layout) (w : Word) (a : Action) → IsOf l w a → (p : Numbers × Ending) × AreWith l w p × (a ≡ made w p.0 p.1)
row_from l w a h =
    let r = row_of a in
    let is = is_row a in
    let v = r.word in
    let A = FitsIn l (kinds_of v) r.numbers (endings_of v) r.ending in
    let fits = fits_of (since v) l.version A h.1.0 in
    let below = below_of l (kinds_of v) r.numbers (endings_of v) r.ending fits in
    let ends = ends_of l (kinds_of v) r.numbers (endings_of v) r.ending fits is.ending in
    let P : Word → Type 0 = λ w. (p : Numbers × Ending) × AreWith l w p × (a ≡ made w p.0 p.1) in
    subst P h.0 ((r.numbers, r.ending), (known_of (since v) l.version A h.1.0, ((below, is.numbers), (ends, h.1.1))), sym (action_back a))

other_false : (a b : Bool) → (a && b) ≡ false → a ≡ true → b ≡ false
other_false true b h e = h
other_false false b h e = absurd (cc)

row_code : (l : Layout) → IsLawful l → (w : Word) → IsCode (IsOf l w) text (row_at l w)
row_code l ok w =
    let ks = kinds_of w in
    let es = endings_of w in
    let line : Numbers × Ending → List ℕ = λ p. word_text w ++ (gap_of ks es ∷ [] ++ after_line ks es p) in
    let words = only_code (may_stand l w) (AreWith l w) line _
    (λ h.
    let both = both_true (is_in (since w) l.version) (are_some l ks) h in
    let some = are_some_from l ks both.1 in
    let p = some_after l ok ks es some in
    same_code (word_code (word_code (after_code l ok ks es some) (gap_of ks es ∷ []) p) (word_text w) p) (AreWith l w) line (λ p. refl) (λ p b. (both.0, b)) (λ p b. b.1))
    (λ h p b. none_lawful l ks p.0 (other_false (is_in (since w) l.version) (are_some l ks) h b.0) b.1.0.0) in
    as_code words (λ p. made w p.0 p.1) (IsOf l w) text (row_to l w) (row_from l w)

-- a lawful action with one of these words
abbrev IsAmong : Layout → List Word → Action → Type 0
IsAmong l [] a = ⊥
IsAmong l (w ∷ ws) a = IsOf l w a ⊎ IsAmong l ws a

abbrev starts : List Word → List (List ℕ)
starts [] = []
starts (w ∷ ws) = start_of w ∷ starts ws

apart : (l : Layout) (v w : Word) → differ (start_of v) (start_of w) ≡ true → AreApart (IsOf l v) (IsOf l w) text
apart l v w d x y a b p q e =
    let f = begins_so x in
    let g = begins_so y in
    let left : text x ≡ start_of v ++ f.0 = f.1 ∙ ap (λ u. start_of u ++ f.0) p.0 in
    let right : text y ≡ start_of w ++ g.0 = g.1 ∙ ap (λ u. start_of u ++ g.0) q.0 in
    differ-apart (start_of v) (start_of w) (f.0 ++ a) (g.0 ++ b) d
    (sym (append_assoc (start_of v) f.0 a) ∙ ap (λ l. l ++ a) (sym left) ∙ e ∙ ap (λ l. l ++ b) right ∙ append_assoc (start_of w) g.0 b)

apart_from_all : (l : Layout) (v : Word) (ws : List Word) → differs_from_all (start_of v) (starts ws) ≡ true → AreApart (IsOf l v) (IsAmong l ws) text
apart_from_all l v [] d x y a b p q e = q
apart_from_all l v (w ∷ ws) d x y a b p q e =
    let d' = both_true (differ (start_of v) (start_of w)) (differs_from_all (start_of v) (starts ws)) d in
    elim q [ inl q ↦ apart l v w d'.0 x y a b p q e | inr q ↦ apart_from_all l v ws d'.1 x y a b p q e ]

rows_code : (l : Layout) → IsLawful l → (ws : List Word) → all_differ (starts ws) ≡ true → IsCode (IsAmong l ws) text (rows_at l ws)
rows_code l ok [] d = no_code (IsAmong l []) text (λ a h. h)
rows_code l ok (w ∷ ws) d =
    let d' = both_true (differs_from_all (start_of w) (starts ws)) (all_differ (starts ws)) d in
    or_code (row_code l ok w) (rows_code l ok ws d'.1) (apart_from_all l w ws d'.0)

named_of : (l : Layout) (ws : List Word) (a : Action) → IsAmong l ws a → IsRead l a
named_of l [] a h = absurd h
named_of l (w ∷ ws) a h = elim h [ inl k ↦ k.1 | inr k ↦ named_of l ws a k ]

among : (l : Layout) (ws : List Word) (i : ℕ) (d : Word) (a : Action) → i < length ws → IsOf l (get_or ws i d) a → IsAmong l ws a
among l [] i d a low h = absurd (omega arith)
among l (w ∷ ws) zero d a low h = inl h
among l (w ∷ ws) (suc i) d a low h = inr (among l ws i d a (omega arith) h)

among_all : (l : Layout) (a : Action) → IsRead l a → IsAmong l words a
among_all l a h =
    let w = (row_of a).word in
    let there = is_there w in
    among l words (place_of w) word.Acquire a there.1 (sym there.0, h)

starts_differ : all_differ (starts words) ≡ true
starts_differ = refl

pub action_code : (l : Layout) → IsLawful l → IsCode (IsRead l) text (action_at l)
action_code l ok = same_code (rows_code l ok words starts_differ) (IsRead l) text (λ a. refl) (named_of l words) (among_all l)
