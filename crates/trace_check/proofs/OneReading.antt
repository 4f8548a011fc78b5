-- A trace text reads as one layout, one list of events and one list of values.
use Rattle.std.proofs.Common.{inl, inr, ◌≡◌, ℕ, ◌+◌, ◌-◌, ◌^◌, ◌<◌, ◌≤◌, List, [], ◌∷◌, ◌++◌, length, length-append, map, refl, ap, sym, subst, ◌∙◌, append-nil, arith}
use Rattle.std.proofs.lemmas.List.{append_cancel_left}
use Rattle.std.specs.List.{AllByRecursion}
use Rattle.larch_actions.specs.declared.event.Layout.{Layout}
use Rattle.larch_actions.specs.declared.event.Event.{Event}
use Rattle.larch_actions.specs.declared.event.ThreadId.{ThreadId}
use Rattle.larch_actions.specs.declared.event.Action.{Action}
use Rattle.larch_actions.specs.declared.event.Action.TheVariants.{Signal}
use Rattle.larch_actions.specs.Layout.{IsLawful, IsNamed, HasNames}
use Rattle.trace_core.specs.declared.line.Line.TheVariants as line
use Rattle.trace_core.specs.declared.line.Expect.TheVariants as expect
use Rattle.trace_core.specs.Text.{MutexValue, ReadsAs, AreValues, end_line, members, values_text}
use Rattle.trace_core.specs.Whole.{event_lines}
use Rattle.trace_core.proofs.Outcomes.{same_line}
use Rattle.larch_actions.specs.declared.kind.Kind.TheVariants.{Thread}
use Rattle.larch_actions.proofs.Names.{few_of}
use Rattle.trace_core.proofs.Members.{members-set_from, rising-members}
use Rattle.trace_core.proofs.Plain.{plain, plain_event}
use Rattle.trace_check.specs.Readings.{OneReading, left_by, listed}
use Rattle.trace_check.specs.Verdicts.{prefix_text}
use Rattle.trace_check.proofs.Alike.{AreReadable, length-plain_all, plain_all, plain_readable}
use Rattle.trace_check.proofs.Prefixes.{le_total, length-prefix_text, prefix_text-plain, readable-last, same_prefix}
use Rattle.trace_check.proofs.Unique.{end_is_no_event, whole_prefix}

-- an event that is made anew is listed as before
listed_left : (l : Layout) → IsLawful l → (a : Action) → IsNamed l a → left_by (plain a) ≡ left_by a
listed_left l ok (Signal c left) h = members-set_from l.threads (members left) (few_of l ok Thread) (rising-members left l.threads h.1)
listed_left l ok _ h = refl

listed_bare : (t : ThreadId) (a : Action) (ns : List ℕ) → left_by (plain a) ≡ ns → listed (record { thread = t; action = plain a }) ≡ (t, (listed (record { thread = t; action = a })).1, ns)
listed_bare t (Signal c left) ns e = ap (λ (k : List ℕ). (t, (listed (record { thread = t; action = Signal c left })).1, k)) e
listed_bare t a ns e = ap (λ (k : List ℕ). (t, (listed (record { thread = t; action = a })).1, k)) e

listed_all : (l : Layout) → IsLawful l → (es : List Event) → AllByRecursion (HasNames l) es → map listed (plain_all es) ≡ map listed es
listed_all l ok [] h = refl
listed_all l ok (e ∷ es) h =
    let first : listed (plain_event e) ≡ listed e = listed_bare e.thread e.action (left_by e.action) (listed_left l ok e.action h.0.1) in
    let others = listed_all l ok es h.1 in
    cc

-- values by their lines
value_same : (v u : MutexValue) → line.Value v.mutex v.value ≡ line.Value u.mutex u.value → v ≡ u
value_same v u e =
    let a : v.mutex ≡ u.mutex = cc in
    let b : v.value ≡ u.value = cc in
    (λ i. record { mutex = a i; value = b i })

values_same : (l : Layout) → IsLawful l → (least : ℕ) (vs us : List MutexValue) → AreValues l least vs → AreValues l least us → values_text vs ≡ values_text us → vs ≡ us
values_same l ok least [] [] p q e = refl
values_same l ok least [] (u ∷ us) p q e = absurd (cc)
values_same l ok least (v ∷ vs) [] p q e = absurd (cc)
values_same l ok least (v ∷ vs) (u ∷ us) p q e =
    let low : least < l.mutexes = omega (arith, p.0, p.1) in
    let s = same_line (expect.Values l least) (ok, low) (line.Value v.mutex v.value) (line.Value u.mutex u.value) (values_text vs) (values_text us) (p.0, p.1, p.2) (q.0, q.1, q.2) e in
    let same = value_same v u s.0 in
    let others = values_same l ok (v.mutex + 1) vs us p.3 (subst (λ (w : MutexValue). AreValues l (w.mutex + 1) us) (sym same) q.3) s.1 in
    cc

no_more : (n : ℕ) → n + 0 ≡ n
no_more n = omega arith

-- of two readings by events as reading makes them, where the first has no more events
reading_le : (l k : Layout) (es ds : List Event) (vs us : List MutexValue) → IsLawful l → IsLawful k → length ds < 2 ^ 64 - 1 → AreReadable l es → AreReadable k ds → length es ≤ length ds
    → AreValues l 0 vs → AreValues k 0 us → prefix_text l es ++ (end_line (length es) ++ values_text vs) ≡ prefix_text k ds ++ (end_line (length ds) ++ values_text us) → (l ≡ k) × (es ≡ ds) × (vs ≡ us)
reading_le l k es ds vs us okl okk few readl readk le p q e =
    let f = same_prefix l k es ds (end_line (length es) ++ values_text vs) (end_line (length ds) ++ values_text us) okl okk few readl readk le e in
    let readable = readable-last l es f.1.0 (subst (AreReadable l) f.1.1 (subst (λ (j : Layout). AreReadable j ds) (sym f.0) readk)) in
    ending f.1.0 f.1.1 readable f.1.2 f.0
  where
    ending : (tail : List Event) → ds ≡ es ++ tail → AreReadable l tail → end_line (length es) ++ values_text vs ≡ event_lines (length es) tail ++ (end_line (length ds) ++ values_text us) → l ≡ k → (l ≡ k) × (es ≡ ds) × (vs ≡ us)
    ending [] is readable text same =
        let events : ds ≡ es = is ∙ append-nil es in
        let values : values_text vs ≡ values_text us = append_cancel_left (end_line (length es)) (values_text vs) (values_text us) (text ∙ ap (λ n. end_line n ++ values_text us) (ap length events)) in
        (same, sym events, values_same l okl 0 vs us p (subst (λ (j : Layout). AreValues j 0 us) (sym same) q) values)
    ending (x ∷ tail) is readable text same =
        let long : length es + 1 < 2 ^ 64 = omega (arith, ap length is, length-append es (x ∷ tail)) in
        absurd (end_is_no_event l (length es) (x ∷ tail) (values_text vs) (end_line (length ds) ++ values_text us) okl long readable (omega arith) text)

-- a text, by events as reading makes them
made_text : (bytes : List ℕ) (l : Layout) (es : List Event) (vs : List MutexValue) → ReadsAs bytes l es vs → bytes ≡ prefix_text l (plain_all es) ++ (end_line (length (plain_all es)) ++ values_text vs)
made_text bytes l es vs r =
    r.text ∙ (whole_prefix l es vs
    ∙ (ap (λ t. t ++ (end_line (length es) ++ values_text vs)) (sym (prefix_text-plain l r.lawful es r.named))
    ∙ ap (λ n. prefix_text l (plain_all es) ++ (end_line n ++ values_text vs)) (sym (length-plain_all es))))

few_made : (bytes : List ℕ) (l : Layout) (es : List Event) (more : List ℕ) → length bytes < 2 ^ 64 - 1 → bytes ≡ prefix_text l es ++ more → length es < 2 ^ 64 - 1
few_made bytes l es more few e = omega (arith, length-prefix_text l es, ap length e, length-append (prefix_text l es) more)

pub one_reading : OneReading
one_reading bytes l k es ds vs us few a b =
    let made = made_text bytes l es vs a in
    let made' = made_text bytes k ds us b in
    let readable = plain_readable l a.lawful es a.named in
    let readable' = plain_readable k b.lawful ds b.named in
    let back = λ (same : plain_all es ≡ plain_all ds). sym (listed_all l a.lawful es a.named) ∙ (ap (map listed) same ∙ listed_all k b.lawful ds b.named) in
    elim (le_total (length (plain_all es)) (length (plain_all ds))) [
      | inl le ↦
          let r = reading_le l k (plain_all es) (plain_all ds) vs us a.lawful b.lawful (few_made bytes k (plain_all ds) _ few made') readable readable' le a.valued b.valued (sym made ∙ made') in
          (r.0, back r.1, r.2)
      | inr lt ↦
          let r = reading_le k l (plain_all ds) (plain_all es) us vs b.lawful a.lawful (few_made bytes l (plain_all es) _ few made) readable' readable (omega arith) b.valued a.valued (sym made' ∙ made) in
          (sym r.0, back (sym r.1), sym r.2)
    ]
