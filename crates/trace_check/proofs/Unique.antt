-- At most one verdict is just.
use Rattle.std.proofs.Common.{◌≡◌, ◌≢◌, ℕ, ◌+◌, ◌-◌, ◌^◌, ◌<◌, ◌≤◌, inl, inr, List, [], ◌∷◌, ◌++◌, length, length-append, take, refl, ap, sym, subst, ◌∙◌, append_assoc, append-nil, zero, suc, Some, arith}
use Rattle.std.proofs.lemmas.Bool.Decides.{eqb_tells}
use Rattle.std.proofs.lemmas.List.{take_all, same_from_push}
use Rattle.std.specs.List.{AllByRecursion}
use Rattle.std.specs.declared.option.Option.{Option}
use Rattle.larch_actions.specs.declared.event.Version.{Version}
use Rattle.larch_actions.specs.declared.event.Layout.{Layout}
use Rattle.larch_actions.specs.declared.event.Event.{Event}
use Rattle.larch_actions.specs.declared.event.Broken.{Broken}
use Rattle.larch_actions.specs.Layout.{IsLawful, HasNames}
use Rattle.larch_actions.specs.Actions.{Spec, Fails, IsRun, FirstFault, at_first}
use Rattle.trace_core.specs.declared.line.Line.TheVariants as line
use Rattle.trace_core.specs.declared.line.Expect.TheVariants as expect
use Rattle.exact_text.specs.Prefixes.{Begins, first_lines, IsBrokenAt}
use Rattle.exact_text.specs.Exact.{IsShown}
use Rattle.trace_core.specs.Text.{MutexValue, head_text, event_line, end_line, values_text, trace_text, IsTrace}
use Rattle.trace_core.proofs.Outcomes.{same_line}
use Rattle.exact_text.proofs.Stuck.{take_after}
use Rattle.trace_check.specs.declared.checker.Summary.{Summary}
use Rattle.trace_check.specs.declared.checker.Verdict.{Verdict}
use Rattle.trace_check.specs.declared.checker.Verdict.TheVariants.{Legal, Illegal, BadLine, TooLong, ReadFault}
use Rattle.trace_core.specs.Whole.{event_lines}
use Rattle.trace_check.specs.Verdicts.{prefix_text, NoFault, IsJust, IsLegalText, IsIllegalText, Counts, OneVerdict}
use Rattle.trace_check.proofs.Runs.{leads_same, leads-split, fails_same, no_run}
use Rattle.trace_core.proofs.Plain.{plain_event}
use Rattle.trace_check.proofs.Alike.{AreReadable, plain_all, plain_append, length-plain_all, plain_readable, plain_names, fails_plain, leads_plain, leads_back}
use Rattle.trace_check.proofs.Prefixes.{same_prefix, length-prefix_text, prefix_text-plain, rest_text-split, names-last, names-first, readable-first, readable-last, le_total, prefix_text-push}

length-snoc : (es : List Event) (e : Event) → length (es ++ e ∷ []) ≡ length es + 1
length-snoc es e = length-append es (e ∷ [])

-- the state in which the event fails, without what follows it
failing : (v : Version) (es : List Event) (e : Event) (why : Broken) → FirstFault v (es ++ e ∷ []) es e why → (last : Spec) × IsRun v es last × Fails last e why
failing v es e why f = (f.1, f.3, f.4)

illegal_excludes : (budget : ℕ) (bytes : List ℕ) (place : ℕ) (why : Broken) → IsIllegalText budget bytes place why → NoFault (take budget bytes) → ⊥
illegal_excludes budget bytes place why i none =
    let es = i.events ++ i.event ∷ [] in
    let prefix = prefix_text i.layout es in
    let e : budget - length prefix + length prefix ≡ budget = omega (arith, i.within) in
    let r = none i.layout es (take (budget - length prefix) i.rest) i.lawful i.named (take_after prefix bytes i.rest budget (budget - length prefix) i.text e) in
    let f = failing i.layout.version i.events i.event why i.fault in
    no_run (at_first i.layout.version) f.0 r.0 i.events i.event why r.1 f.1 f.2

-- a text is its head and the lines of its events, and the rest
pub whole_prefix : (l : Layout) (es : List Event) (vs : List MutexValue) → trace_text l es vs ≡ prefix_text l es ++ (end_line (length es) ++ values_text vs)
whole_prefix l es vs =
    let z : 0 + length es ≡ length es = omega arith in
    ap (λ t. head_text l ++ t) (rest_text-split 0 es vs ∙ ap (λ n. event_lines 0 es ++ (end_line n ++ values_text vs)) z) ∙ sym (append_assoc (head_text l) (event_lines 0 es) (end_line (length es) ++ values_text vs))

-- a legal text holds no events but its own
legal_text : (budget : ℕ) (bytes : List ℕ) (s : Summary) → (i : IsLegalText budget bytes s) → bytes ≡ prefix_text i.layout i.events ++ (end_line (length i.events) ++ values_text i.values)
legal_text budget bytes s i = i.text.text ∙ whole_prefix i.layout i.events i.values

pub end_is_no_event : (l : Layout) (n : ℕ) (tail : List Event) (vs more : List ℕ) → IsLawful l → n + 1 < 2 ^ 64 → AreReadable l tail → 0 < length tail → end_line n ++ vs ≡ event_lines n tail ++ more → ⊥
end_is_no_event l n [] vs more ok fits named some e = omega arith
end_is_no_event l n (x ∷ tail) vs more ok fits named some e =
    let s = same_line (expect.Events l n) (ok, fits) line.End (line.Event x) vs (event_lines (n + 1) tail ++ more) tt named.0 (e ∙ append_assoc (event_line n x) (event_lines (n + 1) tail) more) in
    let k = s.0 in absurd (cc)

-- an event list at the front of a legal text is a prefix of its events
legal_prefix : (budget : ℕ) (bytes : List ℕ) (s : Summary) → budget < 2 ^ 64 - 1 → (i : IsLegalText budget bytes s) → AreReadable i.layout i.events → (l : Layout) (es : List Event) (more : List ℕ) → IsLawful l → AreReadable l es → bytes ≡ prefix_text l es ++ more
    → (l ≡ i.layout) × ((tail : List Event) × (i.events ≡ es ++ tail))
legal_prefix budget bytes s fits i own l es more ok named eq =
    let text = legal_text budget bytes s i in
    let ending = end_line (length i.events) ++ values_text i.values in
    let few₁ : length es < 2 ^ 64 - 1 = omega (arith, length-prefix_text l es, ap length eq, length-append (prefix_text l es) more, i.within) in
    let few₂ : length i.events < 2 ^ 64 - 1 = omega (arith, length-prefix_text i.layout i.events, ap length text, length-append (prefix_text i.layout i.events) ending, i.within) in
    elim (le_total (length es) (length i.events)) [
      | inl le ↦
          let f = same_prefix l i.layout es i.events more ending ok i.text.lawful few₂ named own le (sym eq ∙ text) in
          (f.0, (f.1.0, f.1.1))
      | inr lt ↦
          let f = same_prefix i.layout l i.events es ending more i.text.lawful ok few₁ own named (omega arith) (sym text ∙ eq) in
          let names = readable-last l i.events f.1.0 (subst (AreReadable l) f.1.1 named) in
          let longer : 0 < length f.1.0 = omega (arith, ap length f.1.1, length-append i.events f.1.0) in
          absurd (end_is_no_event l (length i.events) f.1.0 (values_text i.values) more ok (omega arith) names longer f.1.2)
    ]

-- the same text, by events as reading makes them
pub made_legal : (budget : ℕ) (bytes : List ℕ) (s : Summary) → (i : IsLegalText budget bytes s) → (j : IsLegalText budget bytes s) × AreReadable j.layout j.events × (j.events ≡ plain_all i.events)
made_legal budget bytes s i =
    let l = i.layout in
    let ok = i.text.lawful in
    let es = i.events in
    let h = i.text.named in
    let size = length-plain_all es in
    let prefix = prefix_text-plain l ok es h in
    let ending = λ (n : ℕ). end_line n ++ values_text i.values in
    let text : bytes ≡ trace_text l (plain_all es) i.values =
    legal_text budget bytes s i ∙ ap (λ t. t ++ ending (length es)) (sym prefix) ∙ ap (λ n. prefix_text l (plain_all es) ++ ending n) (sym size) ∙ sym (whole_prefix l (plain_all es) i.values)
    in (
      record {
        layout = l;
        events = plain_all es;
        values = i.values;
        last = i.last;
        text = record { lawful = ok; named = plain_names l ok es h; few = omega (arith, size, i.text.few); valued = i.text.valued; text = text };
        within = i.within;
        run = leads_plain l ok (at_first l.version) i.last es h i.run;
        counts = record { events = i.counts.events ∙ sym size; held = i.counts.held; waiting = i.counts.waiting; alerted = i.counts.alerted };
      },
      plain_readable l ok es h,
      refl,
    )

legal_no_fault : (budget : ℕ) (bytes : List ℕ) (s : Summary) → budget < 2 ^ 64 - 1 → IsLegalText budget bytes s → NoFault (take budget bytes)
legal_no_fault budget bytes s fits i = λ l es more ok named eq.
    let j = made_legal budget bytes s i in
    let ds = plain_all es in
    let text = sym (take_all budget bytes i.within) ∙ eq ∙ ap (λ t. t ++ more) (sym (prefix_text-plain l ok es named)) in
    let f = legal_prefix budget bytes s fits j.0 j.1 l ds more ok (plain_readable l ok es named) text in
    let run : IsRun l.version (ds ++ f.1.0) j.0.last = subst (λ (v : Version). IsRun v (ds ++ f.1.0) j.0.last) (sym (ap (λ (k : Layout). k.version) f.0)) (subst (λ x. IsRun j.0.layout.version x j.0.last) f.1.1 j.0.run) in
    let r = leads-split (at_first l.version) j.0.last ds f.1.0 run in
    (r.0, leads_back l ok (at_first l.version) r.0 es named r.1)

summary_same : (s t : Summary) → s.events ≡ t.events → s.held ≡ t.held → s.waiting ≡ t.waiting → s.alerted ≡ t.alerted → s ≡ t
summary_same s t a b c d =
    let mk : ℕ → ℕ → ℕ → ℕ → Summary = λ e h w l. record { events = e; held = h; waiting = w; alerted = l } in
    ap (λ x. mk x s.held s.waiting s.alerted) a ∙ ap (λ x. mk t.events x s.waiting s.alerted) b ∙ ap (λ x. mk t.events t.held x s.alerted) c ∙ ap (λ x. mk t.events t.held t.waiting x) d

counts_same : (l : Layout) (es : List Event) (last : Spec) (s t : Summary) → Counts l es last s → Counts l es last t → s ≡ t
counts_same l es last s t a b = summary_same s t (a.events ∙ sym b.events) (a.held ∙ sym b.held) (a.waiting ∙ sym b.waiting) (a.alerted ∙ sym b.alerted)

no_tail : (xs tail ys : List Event) → ys ≡ xs ++ tail → length ys ≤ length xs → ys ≡ xs
no_tail xs [] ys e le = e ∙ append-nil xs
no_tail xs (x ∷ tail) ys e le = absurd (omega (arith, ap length e, length-append xs (x ∷ tail)))

-- a text that is legal in two ways has one list of events as reading makes them, and one layout
pub legal_events : (budget : ℕ) (bytes : List ℕ) (s t : Summary) → budget < 2 ^ 64 - 1 → (i : IsLegalText budget bytes s) → AreReadable i.layout i.events → (j : IsLegalText budget bytes t) → AreReadable j.layout j.events
    → (j.layout ≡ i.layout) × (i.events ≡ j.events)
legal_events budget bytes s t fits i own j own' =
    let f = legal_prefix budget bytes s fits i own j.layout j.events (end_line (length j.events) ++ values_text j.values) j.text.lawful own' (legal_text budget bytes t j) in
    let g = legal_prefix budget bytes t fits j own' i.layout i.events (end_line (length i.events) ++ values_text i.values) i.text.lawful own (legal_text budget bytes s i) in
    let longer : length i.events ≤ length j.events = omega (arith, ap length g.1.1, length-append i.events g.1.0) in
    (f.0, no_tail j.events f.1.0 i.events f.1.1 longer)

legal_same : (budget : ℕ) (bytes : List ℕ) (s t : Summary) → budget < 2 ^ 64 - 1 → IsLegalText budget bytes s → IsLegalText budget bytes t → s ≡ t
legal_same budget bytes s t fits i₀ j₀ =
    let (i, own, made) = made_legal budget bytes s i₀ in
    let (j, own', made') = made_legal budget bytes t j₀ in
    let f = legal_events budget bytes s t fits i own j own' in
    let same = f.1 in
    let v : j.layout.version ≡ i.layout.version = ap (λ (k : Layout). k.version) f.0 in
    let run : IsRun j.layout.version j.events i.last = subst (λ (v : Version). IsRun v j.events i.last) (sym v) (subst (λ x. IsRun i.layout.version x i.last) same i.run) in
    let last : i.last ≡ j.last = leads_same (at_first j.layout.version) i.last j.last j.events run j.run in
    let c₁ : Counts j.layout i.events i.last s = subst (λ l. Counts l i.events i.last s) (sym f.0) i.counts in
    let c₂ : Counts j.layout j.events i.last s = subst (λ x. Counts j.layout x i.last s) same c₁ in
    let c₃ : Counts j.layout j.events j.last s = subst (λ (z : Spec). Counts j.layout j.events z s) last c₂ in
    counts_same j.layout j.events j.last s t c₃ j.counts

-- the one list of an illegal input is not longer than the other
illegal_le : (budget : ℕ) (bytes : List ℕ) (p q : ℕ) (v w : Broken) → budget < 2 ^ 64 - 1 → (i : IsIllegalText budget bytes p v) → AreReadable i.layout (i.events ++ i.event ∷ [])
    → (j : IsIllegalText budget bytes q w) → AreReadable j.layout (j.events ++ j.event ∷ []) → length j.events ≤ length i.events → (p ≡ q) × (v ≡ w)
illegal_le budget bytes p q v w fits i own j own' le =
    let es = i.events ++ i.event ∷ [] in
    let ds = j.events ++ j.event ∷ [] in
    let fi = failing i.layout.version i.events i.event v i.fault in
    let fj = failing j.layout.version j.events j.event w j.fault in
    let first = at_first j.layout.version in
    let few₁ : length es < 2 ^ 64 - 1 = omega (arith, length-prefix_text i.layout es, i.within) in
    let le' : length ds ≤ length es = omega (arith, length-snoc i.events i.event, length-snoc j.events j.event) in
    let f = same_prefix j.layout i.layout ds es j.rest i.rest j.lawful i.lawful few₁ own' own le' (sym j.text ∙ i.text) in
    let run : IsRun j.layout.version i.events fi.0 = subst (λ (k : Layout). IsRun k.version i.events fi.0) (sym f.0) fi.1 in
    elim (le_total (length i.events) (length j.events)) [
      | inl ge ↦
          let same : es ≡ ds = no_tail ds f.1.0 es f.1.1 (omega (arith, length-snoc i.events i.event, length-snoc j.events j.event)) in
          let parts = same_from_push i.events j.events i.event j.event same in
          let last : fi.0 ≡ fj.0 = leads_same first fi.0 fj.0 j.events (subst (λ x. IsRun j.layout.version x fi.0) parts.0 run) fj.1 in
          let fails : Fails fj.0 j.event v = subst (λ (z : Spec). Fails z j.event v) last (subst (λ x. Fails fi.0 x v) parts.1 fi.2) in
          (i.counted ∙ ap length parts.0 ∙ sym j.counted, fails_same fj.0 j.event v w fails fj.2)
      | inr lt ↦
          let less : length ds ≤ length i.events = omega (arith, length-snoc j.events j.event) in
          let few₂ : length i.events < 2 ^ 64 - 1 = omega (arith, length-snoc i.events i.event) in
          let text = i.text ∙ ap (λ t. t ++ i.rest) (prefix_text-push i.layout i.events i.event) ∙ append_assoc (prefix_text i.layout i.events) (event_line (length i.events) i.event) i.rest in
          let g = same_prefix j.layout i.layout ds i.events j.rest (event_line (length i.events) i.event ++ i.rest) j.lawful i.lawful few₂ own' (readable-first i.layout i.events (i.event ∷ []) own) less (sym j.text ∙ text) in
          let r = leads-split first fi.0 ds g.1.0 (subst (λ x. IsRun j.layout.version x fi.0) g.1.1 run) in
          absurd (no_run first fj.0 r.0 j.events j.event w r.1 fj.1 fj.2)
    ]

-- the same input, by events as reading makes them
made_illegal : (budget : ℕ) (bytes : List ℕ) (p : ℕ) (v : Broken) → IsIllegalText budget bytes p v → (j : IsIllegalText budget bytes p v) × AreReadable j.layout (j.events ++ j.event ∷ [])
made_illegal budget bytes p v i =
    let l = i.layout in
    let ok = i.lawful in
    let all = i.events ++ i.event ∷ [] in
    let split : plain_all all ≡ plain_all i.events ++ plain_event i.event ∷ [] = plain_append i.events (i.event ∷ []) in
    let own = subst (AreReadable l) split (plain_readable l ok all i.named) in
    let names = names-first l i.events (i.event ∷ []) i.named in
    let last = (names-last l i.events (i.event ∷ []) i.named).0 in
    let prefix : prefix_text l (plain_all i.events ++ plain_event i.event ∷ []) ≡ prefix_text l all = ap (prefix_text l) (sym split) ∙ prefix_text-plain l ok all i.named in
    let f = i.fault in (
      record {
        layout = l;
        events = plain_all i.events;
        event = plain_event i.event;
        rest = i.rest;
        lawful = ok;
        named = subst (AllByRecursion (HasNames l)) split (plain_names l ok all i.named);
        text = i.text ∙ ap (λ t. t ++ i.rest) (sym prefix);
        within = omega (arith, ap length prefix, i.within);
        fault = ([], f.1, refl, leads_plain l ok (at_first l.version) f.1 i.events names f.3, fails_plain l ok f.1 i.event v last f.4);
        counted = i.counted ∙ sym (length-plain_all i.events);
      },
      own,
    )

illegal_same : (budget : ℕ) (bytes : List ℕ) (p q : ℕ) (v w : Broken) → budget < 2 ^ 64 - 1 → IsIllegalText budget bytes p v → IsIllegalText budget bytes q w → (p ≡ q) × (v ≡ w)
illegal_same budget bytes p q v w fits i₀ j₀ =
    let (i, own) = made_illegal budget bytes p v i₀ in
    let (j, own') = made_illegal budget bytes q w j₀ in
    elim (le_total (length j.events) (length i.events)) [
      | inl le ↦ illegal_le budget bytes p q v w fits i own j own' le
      | inr lt ↦ let s = illegal_le budget bytes q p w v fits j own' i own (omega arith) in (sym s.0, sym s.1)
    ]

-- the first lines, and what follows them
first_lines-rest : (k : ℕ) (bytes : List ℕ) → (rest : List ℕ) × (bytes ≡ first_lines k bytes ++ rest)
first_lines-rest k [] = ([], refl)
first_lines-rest zero (c ∷ bytes) = (c ∷ bytes, refl)
first_lines-rest (suc k) (c ∷ bytes) =
    elim (eqb_tells c 10) [
      | inl p ↦ let r = first_lines-rest k bytes in (r.0, rw p.0 (ap (λ l. c ∷ l) r.1))
      | inr p ↦ let r = first_lines-rest (suc k) bytes in (r.0, rw p.0 (ap (λ l. c ∷ l) r.1))
    ]

-- more lines begin with fewer
first_lines-more : (k m : ℕ) (bytes : List ℕ) → k ≤ m → (rest : List ℕ) × (first_lines m bytes ≡ first_lines k bytes ++ rest)
first_lines-more k m [] le = ([], refl)
first_lines-more zero zero (c ∷ bytes) le = ([], refl)
first_lines-more zero (suc m) (c ∷ bytes) le = (first_lines (suc m) (c ∷ bytes), refl)
first_lines-more (suc k) zero (c ∷ bytes) le = absurd (omega arith)
first_lines-more (suc k) (suc m) (c ∷ bytes) le =
    elim (eqb_tells c 10) [
      | inl p ↦ let r = first_lines-more k m bytes (omega arith) in (r.0, rw p.0 (ap (λ l. c ∷ l) r.1))
      | inr p ↦ let r = first_lines-more (suc k) (suc m) bytes le in (r.0, rw p.0 (ap (λ l. c ∷ l) r.1))
    ]

begins-prefix : (T : List ℕ → Type 0) (xs ys prefix : List ℕ) → xs ≡ prefix ++ ys → Begins T xs → Begins T prefix
begins-prefix T xs ys prefix e b = (ys ++ b.0, subst T (ap (λ l. l ++ b.0) e ∙ append_assoc prefix ys b.0) b.1)

broken_no_prefix : (T : List ℕ → Type 0) (bytes : List ℕ) (k : ℕ) → IsBrokenAt T bytes k → Begins T bytes → ⊥
broken_no_prefix T bytes k h b = let r = first_lines-rest k bytes in h.broken (begins-prefix T bytes r.0 (first_lines k bytes) r.1 b)

broken_order : (T : List ℕ → Type 0) (bytes : List ℕ) (k m : ℕ) → IsBrokenAt T bytes k → IsBrokenAt T bytes m → k < m → ⊥
broken_order T bytes k m h g lt =
    let r = first_lines-more k (m - 1) bytes (omega arith) in
    h.broken (begins-prefix T (first_lines (m - 1) bytes) r.0 (first_lines k bytes) r.1 g.before)

broken_same : (T : List ℕ → Type 0) (bytes : List ℕ) (k m : ℕ) → IsBrokenAt T bytes k → IsBrokenAt T bytes m → k ≡ m
broken_same T bytes k m h g =
    elim (le_total k m) [
      | inl le ↦ elim (le_total m k) [ inl ge ↦ omega arith | inr lt ↦ absurd (broken_order T bytes k m h g lt) ]
      | inr lt ↦ absurd (broken_order T bytes m k g h lt)
    ]

shown_same : (T : List ℕ → Type 0) (room : ℕ) (bytes : List ℕ) (k m : ℕ) → IsShown T room bytes k → IsShown T room bytes m → k ≡ m
shown_same T room bytes k m (inl h) (inl g) = broken_same T (take room bytes) k m h g
shown_same T room bytes k m (inl h) (inr g) = absurd (broken_no_prefix T (take room bytes) k h (subst (Begins T) (sym (take_all room bytes g.0)) g.1.prefix))
shown_same T room bytes k m (inr h) (inl g) = absurd (broken_no_prefix T (take room bytes) m g (subst (Begins T) (sym (take_all room bytes h.0)) h.1.prefix))
shown_same T room bytes k m (inr h) (inr g) = h.1.last ∙ sym g.1.last

shown_not_long : (T : List ℕ → Type 0) (room : ℕ) (bytes : List ℕ) (k : ℕ) → IsShown T room bytes k → room < length bytes → Begins T (take room bytes) → ⊥
shown_not_long T room bytes k (inl h) long b = broken_no_prefix T (take room bytes) k h b
shown_not_long T room bytes k (inr h) long b = omega (arith, h.0)

shown_not_text : (T : List ℕ → Type 0) (room : ℕ) (bytes : List ℕ) (k : ℕ) → IsShown T room bytes k → length bytes ≤ room → T bytes → ⊥
shown_not_text T room bytes k (inl h) within t =
    broken_no_prefix T (take room bytes) k h (subst (Begins T) (sym (take_all room bytes within)) ([], subst T (sym (append-nil bytes)) t))
shown_not_text T room bytes k (inr h) within t = h.1.no_text t

legal_is_trace : (budget : ℕ) (bytes : List ℕ) (s : Summary) → IsLegalText budget bytes s → IsTrace bytes
legal_is_trace budget bytes s i = (i.layout, i.events, i.values, i.text)

pub one_verdict : OneVerdict
one_verdict budget bytes left left' a b c d (Legal s) (Legal t) fits x y h k = ap (λ z. Legal z) (legal_same budget bytes s t fits h k)
one_verdict budget bytes left left' a b c d (Legal s) (Illegal p v) fits x y h k = absurd (illegal_excludes budget bytes p v k (legal_no_fault budget bytes s fits h))
one_verdict budget bytes left left' a b c d (Legal s) (BadLine m) fits x y h k = absurd (shown_not_text IsTrace budget bytes m k.0 h.within (legal_is_trace budget bytes s h))
one_verdict budget bytes left left' a b c d (Legal s) TooLong fits x y h k = absurd (omega (arith, h.within, k.0))
one_verdict budget bytes left left' a b c d (Illegal p v) (Legal s) fits x y h k = absurd (illegal_excludes budget bytes p v h (legal_no_fault budget bytes s fits k))
one_verdict budget bytes left left' a b c d (Illegal p v) (Illegal q w) fits x y h k = let s = illegal_same budget bytes p q v w fits h k in ap (λ n. Illegal n v) s.0 ∙ ap (λ z. Illegal q z) s.1
one_verdict budget bytes left left' a b c d (Illegal p v) (BadLine m) fits x y h k = absurd (illegal_excludes budget bytes p v h k.1)
one_verdict budget bytes left left' a b c d (Illegal p v) TooLong fits x y h k = absurd (illegal_excludes budget bytes p v h k.2)
one_verdict budget bytes left left' a b c d (BadLine n) (Legal s) fits x y h k = absurd (shown_not_text IsTrace budget bytes n h.0 k.within (legal_is_trace budget bytes s k))
one_verdict budget bytes left left' a b c d (BadLine n) (Illegal q w) fits x y h k = absurd (illegal_excludes budget bytes q w k h.1)
one_verdict budget bytes left left' a b c d (BadLine n) (BadLine m) fits x y h k = ap (λ z. BadLine z) (shown_same IsTrace budget bytes n m h.0 k.0)
one_verdict budget bytes left left' a b c d (BadLine n) TooLong fits x y h k = absurd (shown_not_long IsTrace budget bytes n h.0 k.0 k.1)
one_verdict budget bytes left left' a b c d TooLong (Legal s) fits x y h k = absurd (omega (arith, k.within, h.0))
one_verdict budget bytes left left' a b c d TooLong (Illegal q w) fits x y h k = absurd (illegal_excludes budget bytes q w k h.2)
one_verdict budget bytes left left' a b c d TooLong (BadLine m) fits x y h k = absurd (shown_not_long IsTrace budget bytes m k.0 h.0 h.1)
one_verdict budget bytes left left' a b c d TooLong TooLong fits x y h k = refl
one_verdict budget bytes left left' a b c d ReadFault w fits x y h k = absurd (x refl)
one_verdict budget bytes left left' a b c d (Legal s) ReadFault fits x y h k = absurd (y refl)
one_verdict budget bytes left left' a b c d (Illegal p v) ReadFault fits x y h k = absurd (y refl)
one_verdict budget bytes left left' a b c d (BadLine n) ReadFault fits x y h k = absurd (y refl)
one_verdict budget bytes left left' a b c d TooLong ReadFault fits x y h k = absurd (y refl)

-- where the source tells its bytes and no read failed, another verdict that is just is the same
pub exact_at : (budget : ℕ) (left left' : Option (List ℕ)) (before now : ℕ) (bytes : List ℕ) (v w : Verdict) → budget < 2 ^ 64 - 1 → left ≡ Some bytes → v ≢ ReadFault → w ≢ ReadFault
    → IsJust budget left left' before now v → IsJust budget left left' before now w → v ≡ w
exact_at budget left left' before now bytes v w fits reported x y h k =
    let P : Verdict → Option (List ℕ) → Type 0 = λ z o. IsJust budget o left' before now z in
    one_verdict budget bytes left' left' before now before now v w fits x y (subst (P v) reported h) (subst (P w) reported k)
