-- The rest of a trace text is a line, and the rest after it.
use Rattle.std.proofs.Common.{◌≡◌, ℕ, ◌+◌, ◌^◌, ◌<◌, ◌≤◌, List, [], ◌∷◌, ◌++◌, refl, ap, sym, ◌∙◌, append_assoc, append-nil, true, arith, rules, tests}
use Rattle.std.specs.Prelude.{codes, decimal, nat_lt}
use Rattle.larch_actions.specs.declared.event.Version.{Version}
use Rattle.larch_actions.specs.declared.event.Version.TheVariants as version
use Rattle.larch_actions.specs.declared.event.Layout.{Layout}
use Rattle.larch_actions.specs.declared.event.Event.{Event}
use Rattle.larch_actions.specs.declared.event.Action.{Action}
use Rattle.larch_actions.specs.declared.kind.Kind.{Kind}
use Rattle.larch_actions.specs.declared.kind.Kind.TheVariants.{Thread}
use Rattle.larch_actions.specs.declared.rows.Numbers.{Numbers}
use Rattle.larch_actions.specs.declared.rows.Kinds.{Kinds}
use Rattle.larch_actions.specs.declared.rows.Kinds.TheVariants as kinds
use Rattle.larch_actions.specs.declared.rows.Endings.{Endings}
use Rattle.larch_actions.specs.declared.rows.Endings.TheVariants as endings
use Rattle.larch_actions.specs.declared.rows.Ending.{Ending}
use Rattle.larch_actions.specs.declared.rows.Ending.TheVariants.{Nothing, Returns, Raises, Yes, No, Left}
use Rattle.larch_actions.specs.Layout.{IsLawful, IsNamed, HasNames, AreBelow, letter, layout_in, most_in, layout_text}
use Rattle.larch_actions.specs.Rows.{word_text, kinds_of, endings_of, row_of}
use Rattle.larch_actions.proofs.Names.{few_of, letter_high}
use Rattle.larch_actions.proofs.Table.{is_plain, each_plain}
use Rattle.trace_core.specs.declared.line.Line.{Line}
use Rattle.trace_core.specs.declared.line.Line.TheVariants as line
use Rattle.trace_core.specs.declared.line.Expect.{Expect}
use Rattle.trace_core.specs.declared.line.Expect.TheVariants as expect
use Rattle.trace_core.specs.Names.{IsRising}
use Rattle.trace_core.specs.Text.{action_text, names_text, with_name, with_names, with_ending, members, first_line, layout_line, event_line, end_line, value_line, values_text, rest_text, IsRest, IsLaid, IsTrace}
use Rattle.trace_core.specs.Lines.{line_text, IsPossible, IsAllowed, IsSomeValues, IsTextFrom, IsTextAfter}
use Rattle.exact_text.proofs.Flat.{is_flat, flat_from, flat_decimal}
use Rattle.exact_text.specs.Prefixes.{IsFlat, IsLine}
use Rattle.exact_text.proofs.Grammar.{IsFlat-append}
use Rattle.exact_text.specs.Unfolds.{Unfolds}
use Rattle.exact_text.proofs.Choices.{both_true}
use Rattle.trace_core.proofs.Members.{rising-members}
use Rattle.trace_core.proofs.Plain.{plain_event, plain_is_read, plain_line}
use Rattle.trace_core.proofs.RowTexts.{neither}
use Rattle.trace_core.proofs.RowLaws.{EndsIn, named_parts}

-- a word that has no newline, and a number
flat_named : (prefix word : List ℕ) (n : ℕ) → IsFlat prefix → is_flat word ≡ true → n < 2 ^ 64 → IsFlat (prefix ++ word ++ decimal n)
flat_named prefix word n p w fits =
    IsFlat-append (prefix ++ word) (decimal n) (IsFlat-append prefix word p (flat_from word w)) (flat_decimal n fits)

-- more after it that has no newline
flat_word : (prefix word : List ℕ) → IsFlat prefix → is_flat word ≡ true → IsFlat (prefix ++ word)
flat_word prefix word p w = IsFlat-append prefix word p (flat_from word w)

flat_plain : (bytes : List ℕ) → is_plain bytes ≡ true → IsFlat bytes
flat_plain [] e = tt
flat_plain (c ∷ bytes) e =
    let b = both_true (nat_lt 44 c) (is_plain bytes) e in
    (λ k. let low : 44 < c = search (rules, tests, b.0) in omega arith, flat_plain bytes b.1)

flat_name : (prefix : List ℕ) (k : Kind) (n : ℕ) → IsFlat prefix → n < 2 ^ 64 → IsFlat (with_name prefix k n)
flat_name prefix k n p fits =
    IsFlat-append (prefix ++ 32 ∷ letter k ∷ []) (decimal n) (IsFlat-append prefix (32 ∷ letter k ∷ []) p (λ e. omega arith, (λ e. omega (arith, letter_high k), tt))) (flat_decimal n fits)

flat_with : (l : Layout) → IsLawful l → (prefix : List ℕ) (ks : Kinds) (x : Numbers) → IsFlat prefix → AreBelow l ks x → IsFlat (with_names prefix ks x)
flat_with l ok prefix kinds.Nothing x p h = p
flat_with l ok prefix (kinds.One k) x p h = flat_name prefix k x.first p (omega (arith, h, few_of l ok k))
flat_with l ok prefix (kinds.Two k j) x p h =
    flat_name (with_name prefix k x.first) j x.second (flat_name prefix k x.first p (omega (arith, h.0, few_of l ok k))) (omega (arith, h.1, few_of l ok j))

flat_names : (least bound : ℕ) (ts : List ℕ) → bound ≤ 256 → IsRising least bound ts → IsFlat (names_text ts)
flat_names least bound [] small h = tt
flat_names least bound (t ∷ ts) small h = IsFlat-append (codes " t" ++ decimal t) (names_text ts) (flat_named [] (codes " t") t tt refl (omega (arith, h.1))) (flat_names (t + 1) bound ts small h.2)

flat_left : (l : Layout) → IsLawful l → (prefix : List ℕ) (e : Ending) → IsFlat prefix → EndsIn l endings.Threads e → IsFlat (with_ending prefix e)
flat_left l ok prefix (Left left) p h =
    IsFlat-append (prefix ++ codes " left") (names_text (members left)) (flat_word prefix (codes " left") p refl) (flat_names 0 l.threads (members left) (few_of l ok Thread) (rising-members left l.threads h.1))
flat_left l ok prefix _ p h = let k = h.0.1 in absurd (cc)

flat_ending : (l : Layout) → IsLawful l → (es : Endings) (prefix : List ℕ) (e : Ending) → IsFlat prefix → EndsIn l es e → IsFlat (with_ending prefix e)
flat_ending l ok endings.Threads prefix e p h = flat_left l ok prefix e p h
flat_ending l ok _ prefix Nothing p h = p
flat_ending l ok _ prefix Returns p h = flat_word prefix (codes " returns") p refl
flat_ending l ok _ prefix Raises p h = flat_word prefix (codes " raises") p refl
flat_ending l ok _ prefix Yes p h = flat_word prefix (codes " yes") p refl
flat_ending l ok _ prefix No p h = flat_word prefix (codes " no") p refl
flat_ending l ok endings.Nothing prefix (Left left) p h = absurd (cc)
flat_ending l ok endings.Outcome prefix (Left left) p h = neither _ Returns Raises (λ k. absurd (cc)) (λ k. absurd (cc)) h
flat_ending l ok endings.Answer prefix (Left left) p h = neither _ Yes No (λ k. absurd (cc)) (λ k. absurd (cc)) h

flat_action : (l : Layout) (a : Action) → IsLawful l → IsNamed l a → IsFlat (action_text a)
flat_action l a ok h =
    let r = row_of a in
    let parts = named_parts l a h in
    let word = flat_plain (word_text r.word) (each_plain r.word).1 in
    flat_ending l ok (endings_of r.word) (with_names (word_text r.word) (kinds_of r.word) r.numbers) r.ending (flat_with l ok (word_text r.word) (kinds_of r.word) r.numbers word parts.0) parts.1

event_is_line : (l : Layout) (n : ℕ) (e : Event) → IsLawful l → n < 2 ^ 64 → HasNames l e → IsLine (event_line n e)
event_is_line l n e ok fits h = (
  decimal n ++ codes " t" ++ decimal e.thread.0 ++ codes " " ++ action_text e.action,
  IsFlat-append (decimal n ++ codes " t" ++ decimal e.thread.0 ++ codes " ") (action_text e.action)
      (IsFlat-append (decimal n ++ codes " t" ++ decimal e.thread.0) (codes " ") (flat_named (decimal n) (codes " t") e.thread.0 (flat_decimal n fits) refl (omega (arith, few_of l ok Thread, h.0))) (flat_from (codes " ") refl))
      (flat_action l e.action ok h.1),
  refl,
)

end_is_line : (n : ℕ) → n < 2 ^ 64 → IsLine (end_line n)
end_is_line n fits = (codes "end " ++ decimal n, flat_named [] (codes "end ") n tt refl fits, refl)

-- a word that has no newline, a number, and what is after them
flat_count : (word : List ℕ) (n : ℕ) (rest : List ℕ) → is_flat word ≡ true → n < 2 ^ 64 → IsFlat rest → IsFlat (word ++ (decimal n ++ rest))
flat_count word n rest w fits p = IsFlat-append word (decimal n ++ rest) (flat_from word w) (IsFlat-append (decimal n) rest (flat_decimal n fits) p)

pub counts_is_line : (l : Layout) → IsLawful l → IsLine (layout_line l)
counts_is_line l ok =
    let s = IsFlat-append (codes " semaphores ") (decimal l.semaphores) (flat_from (codes " semaphores ") refl) (flat_decimal l.semaphores (omega (arith, ok.semaphores))) in
    let c = flat_count (codes " conditions ") l.conditions (codes " semaphores " ++ decimal l.semaphores) refl (omega (arith, ok.conditions)) s in
    let m = flat_count (codes " mutexes ") l.mutexes (codes " conditions " ++ (decimal l.conditions ++ (codes " semaphores " ++ decimal l.semaphores))) refl (omega (arith, ok.mutexes)) c in
    (layout_text l, flat_count (codes "threads ") l.threads (codes " mutexes " ++ (decimal l.mutexes ++ (codes " conditions " ++ (decimal l.conditions ++ (codes " semaphores " ++ decimal l.semaphores))))) refl (omega (arith, few_of l ok Thread)) m, refl)

value_is_line : (k v : ℕ) → k < 64 → v < 2 ^ 64 → IsLine (value_line (record { mutex = k; value = v }))
value_is_line k v low fits = (
  codes "value m" ++ decimal k ++ codes " " ++ decimal v,
  flat_named (codes "value m" ++ decimal k) (codes " ") v (flat_named [] (codes "value m") k tt refl (omega arith)) refl fits,
  refl,
)

head_is_line : (v : Version) → IsLine (first_line v)
head_is_line version.One = (codes "firefly-trace 1", flat_from (codes "firefly-trace 1") refl, refl)
head_is_line version.Two = (codes "firefly-trace 2", flat_from (codes "firefly-trace 2") refl, refl)

-- nothing but the end line
rest_at_end : (l : Layout) (n : ℕ) → n < 2 ^ 64 → IsRest l n (end_line n)
rest_at_end l n fits = ([], [], tt, omega arith, tt, sym (append-nil (end_line n)))

rest_opens : (l : Layout) → IsLawful l → (n : ℕ) (bytes : List ℕ) → IsRest l n bytes
    → (x : Line) × (rest : List ℕ) × IsAllowed (expect.Events l n) x × IsTextAfter (expect.Events l n) x rest × (bytes ≡ line_text (expect.Events l n) x ++ rest)
rest_opens l ok n bytes ([], vs, named, few, valued, e) = (line.End, values_text vs, tt, (vs, valued, refl), e)
rest_opens l ok n bytes (e ∷ es, vs, named, few, valued, eq) =
    let rest = rest_text (n + 1) es vs in
    (line.Event (plain_event e), rest, plain_is_read l ok e named.0, (es, vs, named.1, omega arith, valued, refl), eq ∙ ap (λ t. t ++ rest) (sym (plain_line l ok n e named.0)))

rest_closes : (l : Layout) (n : ℕ) → n < 2 ^ 64 → (x : Line) (rest : List ℕ) → IsAllowed (expect.Events l n) x → IsTextAfter (expect.Events l n) x rest → IsRest l n (line_text (expect.Events l n) x ++ rest)
rest_closes l n fits (line.Event e) rest h r = (e ∷ r.0, r.1, (h.0, r.2), omega (arith, r.3), r.4, ap (λ b. event_line n e ++ b) r.5)
rest_closes l n fits line.End rest h r = ([], r.0, tt, omega arith, r.1, ap (λ b. end_line n ++ b) r.2)
rest_closes l n fits _ rest h r = absurd h

trace_opens : (bytes : List ℕ) → IsTrace bytes → (x : Line) × (rest : List ℕ) × IsAllowed expect.Head x × IsTextAfter expect.Head x rest × (bytes ≡ line_text expect.Head x ++ rest)
trace_opens bytes (l, es, vs, r) =
    let rest = rest_text 0 es vs in
    (line.Head l.version, layout_line l ++ rest, tt, (l, rest, (r.lawful, refl), (es, vs, r.named, omega (arith, r.few), r.valued, refl), refl), r.text ∙ append_assoc (first_line l.version) (layout_line l) rest)

trace_closes : (x : Line) (rest : List ℕ) → IsAllowed expect.Head x → IsTextAfter expect.Head x rest → IsTrace (line_text expect.Head x ++ rest)
trace_closes (line.Head v) rest h (l, after, ok, (es, vs, named, few, valued, e), eq) =
    let laid = layout_line l ++ rest_text 0 es vs in
    let text = ap (λ b. first_line v ++ b) (eq ∙ ap (λ b. layout_line l ++ b) e) ∙ ap (λ u. first_line u ++ laid) (sym ok.1) ∙ sym (append_assoc (first_line l.version) (layout_line l) (rest_text 0 es vs)) in
    (l, es, vs, record { lawful = ok.0; named = named; few = omega arith; valued = valued; text = text })
trace_closes _ rest h r = absurd h

laid_opens : (v : Version) (bytes : List ℕ) → IsLaid v bytes → (x : Line) × (rest : List ℕ) × IsAllowed (expect.Counts v) x × IsTextAfter (expect.Counts v) x rest × (bytes ≡ line_text (expect.Counts v) x ++ rest)
laid_opens v bytes (l, rest, ok, r, e) = (line.Counts l, rest, ok, r, e)

laid_closes : (v : Version) (x : Line) (rest : List ℕ) → IsAllowed (expect.Counts v) x → IsTextAfter (expect.Counts v) x rest → IsLaid v (line_text (expect.Counts v) x ++ rest)
laid_closes v (line.Counts l) rest h r = (l, rest, h, r, refl)
laid_closes v _ rest h r = absurd h

values_open : (l : Layout) (least : ℕ) (bytes : List ℕ) → IsSomeValues l least bytes
    → (x : Line) × (rest : List ℕ) × IsAllowed (expect.Values l least) x × IsTextAfter (expect.Values l least) x rest × (bytes ≡ line_text (expect.Values l least) x ++ rest)
values_open l least bytes (v, vs, h, e) = (line.Value v.mutex v.value, values_text vs, (h.0, h.1, h.2), (vs, h.3, refl), e)

values_close : (l : Layout) (least : ℕ) (x : Line) (rest : List ℕ) → IsAllowed (expect.Values l least) x → IsTextAfter (expect.Values l least) x rest → IsSomeValues l least (line_text (expect.Values l least) x ++ rest)
values_close l least (line.Value k v) rest h r = (record { mutex = k; value = v }, r.0, (h.0, h.1, h.2, r.1), ap (λ b. value_line (record { mutex = k; value = v }) ++ b) r.2)
values_close l least _ rest h r = absurd h

one_thread : Version → Layout
one_thread v = layout_in v 1 0 0 0

some_thread : (v : Version) → 1 ≤ most_in v
some_thread version.One = omega arith
some_thread version.Two = omega arith

one_thread_is : (v : Version) → IsLawful (one_thread v)
unfolding one_thread
one_thread_is v = record { some = omega arith; threads = some_thread v; mutexes = omega arith; conditions = omega arith; semaphores = omega arith }

one_version : (v : Version) → (one_thread v).version ≡ v
unfolding one_thread
one_version v = refl

goes_on : (x : Expect) → IsPossible x → (y : Line) → IsAllowed x y → (rest : List ℕ) × IsTextAfter x y rest
goes_on expect.Head ok (line.Head v) h = let l = one_thread v in (layout_line l ++ end_line 0, (l, end_line 0, (one_thread_is v, one_version v), rest_at_end l 0 (omega arith), refl))
goes_on expect.Head ok _ h = absurd h
goes_on (expect.Counts v) ok (line.Counts l) h = (end_line 0, rest_at_end l 0 (omega arith))
goes_on (expect.Counts v) ok _ h = absurd h
goes_on (expect.Events l n) ok (line.Event e) h = (end_line (n + 1), rest_at_end l (n + 1) ok.1)
goes_on (expect.Events l n) ok line.End h = ([], ([], tt, refl))
goes_on (expect.Events l n) ok _ h = absurd h
goes_on (expect.Values l least) ok (line.Value k v) h = ([], ([], tt, refl))
goes_on (expect.Values l least) ok _ h = absurd h

is_line : (x : Expect) → IsPossible x → (y : Line) → IsAllowed x y → IsLine (line_text x y)
is_line expect.Head ok (line.Head v) h = head_is_line v
is_line expect.Head ok _ h = absurd h
is_line (expect.Counts v) ok (line.Counts l) h = counts_is_line l h.0
is_line (expect.Counts v) ok _ h = absurd h
is_line (expect.Events l n) ok (line.Event e) h = event_is_line l n e ok.0 (omega (arith, ok.1)) h.0
is_line (expect.Events l n) ok line.End h = end_is_line n (omega (arith, ok.1))
is_line (expect.Events l n) ok _ h = absurd h
is_line (expect.Values l least) ok (line.Value k v) h = value_is_line k v (omega (arith, h.1, ok.0.mutexes)) h.2
is_line (expect.Values l least) ok _ h = absurd h

some_value : (l : Layout) (least : ℕ) → least < l.mutexes → (x : Line) × IsAllowed (expect.Values l least) x
some_value l least some = (line.Value least 0, (omega arith, some, omega arith))

pub line_grammar : (x : Expect) → IsPossible x → Unfolds (IsTextFrom x) (IsAllowed x) (line_text x) (IsTextAfter x)
line_grammar expect.Head ok = record {
  opens = trace_opens;
  closes = trace_closes;
  goes_on = goes_on expect.Head ok;
  some = (line.Head version.One, tt);
  lines = is_line expect.Head ok;
}
line_grammar (expect.Counts v) ok = record {
  opens = laid_opens v;
  closes = laid_closes v;
  goes_on = goes_on (expect.Counts v) ok;
  some = (line.Counts (one_thread v), (one_thread_is v, one_version v));
  lines = is_line (expect.Counts v) ok;
}
line_grammar (expect.Events l n) ok = record {
  opens = rest_opens l ok.0 n;
  closes = rest_closes l n (omega (arith, ok.1));
  goes_on = goes_on (expect.Events l n) ok;
  some = (line.End, tt);
  lines = is_line (expect.Events l n) ok;
}
line_grammar (expect.Values l least) ok = record {
  opens = values_open l least;
  closes = values_close l least;
  goes_on = goes_on (expect.Values l least) ok;
  some = some_value l least ok.1;
  lines = is_line (expect.Values l least) ok;
}
