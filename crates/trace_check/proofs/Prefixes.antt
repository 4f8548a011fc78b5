-- Whole lines of events at the front of some bytes.
use Rattle.std.proofs.Common.{◌≡◌, ℕ, ◌+◌, ◌-◌, ◌^◌, ◌<◌, ◌≤◌, ◌⊎◌, List, [], ◌∷◌, ◌++◌, length, length-append, refl, ap, sym, subst, ◌∙◌, append_assoc, append-nil, arith}
use Rattle.std.specs.Prelude.{codes, decimal}
use Rattle.std.specs.List.{AllByRecursion}
use Rattle.larch_actions.specs.declared.event.Layout.{Layout}
use Rattle.larch_actions.specs.declared.event.Event.{Event}
use Rattle.larch_actions.specs.Layout.{IsLawful, HasNames}
use Rattle.trace_core.specs.declared.line.Line.TheVariants as line
use Rattle.trace_core.specs.declared.line.Expect.TheVariants as expect
use Rattle.trace_core.specs.Text.{MutexValue, action_text, newline, first_line, layout_line, head_text, event_line, end_line, values_text, rest_text}
use Rattle.trace_core.specs.Made.{IsMade}
use Rattle.trace_core.proofs.Outcomes.{same_line, same_version}
use Rattle.trace_core.specs.Whole.{event_lines}
use Rattle.trace_check.specs.Verdicts.{prefix_text}
use Rattle.trace_check.proofs.Alike.{AreReadable, plain_all, plain_lines}

pub event_line_some : (n : ℕ) (e : Event) → 0 < length (event_line n e)
event_line_some n e =
    let body = decimal n ++ codes " t" ++ decimal e.thread.0 ++ codes " " ++ action_text e.action in
    omega (arith, length-append body newline)

event_lines-push : (n : ℕ) (es : List Event) (e : Event) → event_lines n (es ++ e ∷ []) ≡ event_lines n es ++ event_line (n + length es) e
event_lines-push n [] e =
    let z : n + 0 ≡ n = omega arith in
    append-nil (event_line n e) ∙ ap (λ k. event_line k e) (sym z)
event_lines-push n (x ∷ es) e =
    let z : n + 1 + length es ≡ n + length (x ∷ es) = omega arith in
    ap (λ l. event_line n x ++ l) (event_lines-push (n + 1) es e ∙ ap (λ k. event_lines (n + 1) es ++ event_line k e) z) ∙ sym (append_assoc (event_line n x) (event_lines (n + 1) es) (event_line (n + length (x ∷ es)) e))

pub prefix_text-push : (l : Layout) (es : List Event) (e : Event) → prefix_text l (es ++ e ∷ []) ≡ prefix_text l es ++ event_line (length es) e
prefix_text-push l es e =
    let z : 0 + length es ≡ length es = omega arith in
    ap (λ t. head_text l ++ t) (event_lines-push 0 es e ∙ ap (λ k. event_lines 0 es ++ event_line k e) z) ∙ sym (append_assoc (head_text l) (event_lines 0 es) (event_line (length es) e))

pub rest_text-split : (n : ℕ) (es : List Event) (vs : List MutexValue) → rest_text n es vs ≡ event_lines n es ++ (end_line (n + length es) ++ values_text vs)
rest_text-split n [] vs = let z : n + 0 ≡ n = omega arith in ap (λ k. end_line k ++ values_text vs) (sym z)
rest_text-split n (e ∷ es) vs =
    let z : n + 1 + length es ≡ n + length (e ∷ es) = omega arith in
    ap (λ l. event_line n e ++ l) (rest_text-split (n + 1) es vs ∙ ap (λ k. event_lines (n + 1) es ++ (end_line k ++ values_text vs)) z)
    ∙ sym (append_assoc (event_line n e) (event_lines (n + 1) es) (end_line (n + length (e ∷ es)) ++ values_text vs))

pub named-push : (l : Layout) (es : List Event) (e : Event) → AllByRecursion (HasNames l) es → HasNames l e → AllByRecursion (HasNames l) (es ++ e ∷ [])
named-push l [] e all h = (h, tt)
named-push l (x ∷ es) e all h = (all.0, named-push l es e all.1 h)

pub made-push : (es : List Event) (e : Event) → AllByRecursion (λ (d : Event). IsMade d.action) es → IsMade e.action → AllByRecursion (λ (d : Event). IsMade d.action) (es ++ e ∷ [])
made-push [] e all h = (h, tt)
made-push (x ∷ es) e all h = (all.0, made-push es e all.1 h)

pub names-first : (l : Layout) (es tail : List Event) → AllByRecursion (HasNames l) (es ++ tail) → AllByRecursion (HasNames l) es
names-first l [] tail h = tt
names-first l (e ∷ es) tail h = (h.0, names-first l es tail h.1)

pub names-last : (l : Layout) (es tail : List Event) → AllByRecursion (HasNames l) (es ++ tail) → AllByRecursion (HasNames l) tail
names-last l [] tail h = h
names-last l (e ∷ es) tail h = names-last l es tail h.1

pub readable-first : (l : Layout) (es tail : List Event) → AreReadable l (es ++ tail) → AreReadable l es
readable-first l [] tail h = tt
readable-first l (e ∷ es) tail h = (h.0, readable-first l es tail h.1)

pub readable-last : (l : Layout) (es tail : List Event) → AreReadable l (es ++ tail) → AreReadable l tail
readable-last l [] tail h = h
readable-last l (e ∷ es) tail h = readable-last l es tail h.1

-- the text of events that are made anew
pub prefix_text-plain : (l : Layout) → IsLawful l → (es : List Event) → AllByRecursion (HasNames l) es → prefix_text l (plain_all es) ≡ prefix_text l es
prefix_text-plain l ok es h = ap (λ t. head_text l ++ t) (plain_lines l ok 0 es h)

-- each event takes a byte at least
length-event_lines : (n : ℕ) (es : List Event) → length es ≤ length (event_lines n es)
length-event_lines n [] = omega arith
length-event_lines n (e ∷ es) = omega (arith, length-append (event_line n e) (event_lines (n + 1) es), event_line_some n e, length-event_lines (n + 1) es)

pub length-prefix_text : (l : Layout) (es : List Event) → length es ≤ length (prefix_text l es)
length-prefix_text l es = omega (arith, length-append (head_text l) (event_lines 0 es), length-event_lines 0 es)

-- two lists of events at the front of the same bytes: the longer goes on from the shorter
same_events : (l : Layout) (n : ℕ) (es es' : List Event) (a b : List ℕ) → IsLawful l → n + length es' < 2 ^ 64 - 1 → AreReadable l es → AreReadable l es' → length es ≤ length es'
    → event_lines n es ++ a ≡ event_lines n es' ++ b → (tail : List Event) × (es' ≡ es ++ tail) × (a ≡ event_lines (n + length es) tail ++ b)
same_events l n [] es' a b ok fits named named' le e = let z : n + 0 ≡ n = omega arith in (es', refl, e ∙ ap (λ k. event_lines k es' ++ b) (sym z))
same_events l n (x ∷ es) [] a b ok fits named named' le e = absurd (omega arith)
same_events l n (x ∷ es) (y ∷ es') a b ok fits named named' le e =
    let possible : IsLawful l × (n + 1 < 2 ^ 64) = (ok, omega arith) in
    let s = same_line (expect.Events l n) possible (line.Event x) (line.Event y) (event_lines (n + 1) es ++ a) (event_lines (n + 1) es' ++ b) named.0 named'.0
    (sym (append_assoc (event_line n x) (event_lines (n + 1) es) a) ∙ e ∙ append_assoc (event_line n y) (event_lines (n + 1) es') b) in
    let same : x ≡ y = let k = s.0 in cc in
    let t = same_events l (n + 1) es es' a b ok (omega arith) named.1 named'.1 (omega arith) s.1 in
    let z : n + 1 + length es ≡ n + length (x ∷ es) = omega arith in
    (t.0, ap (λ l. y ∷ l) t.1 ∙ ap (λ v. v ∷ (es ++ t.0)) (sym same), t.2 ∙ ap (λ k. event_lines k t.0 ++ b) z)

pub same_prefix : (l l' : Layout) (es es' : List Event) (a b : List ℕ) → IsLawful l → IsLawful l' → length es' < 2 ^ 64 - 1 → AreReadable l es → AreReadable l' es' → length es ≤ length es'
    → prefix_text l es ++ a ≡ prefix_text l' es' ++ b → (l ≡ l') × ((tail : List Event) × (es' ≡ es ++ tail) × (a ≡ event_lines (length es) tail ++ b))
same_prefix l l' es es' a b ok ok' fits named named' le e =
    let shape = λ (k : Layout) (xs : List Event) (r : List ℕ).
    append_assoc (head_text k) (event_lines 0 xs) r ∙ append_assoc (first_line k.version) (layout_line k) (event_lines 0 xs ++ r)
    in
    let following = layout_line l ++ (event_lines 0 es ++ a) in
    let following' = layout_line l' ++ (event_lines 0 es' ++ b) in
    let laid = same_line expect.Head tt (line.Head l.version) (line.Head l'.version) following following' tt tt (sym (shape l es a) ∙ e ∙ shape l' es' b) in
    let v = same_version l.version l'.version laid.0 in
    let s = same_line (expect.Counts l.version) tt (line.Counts l) (line.Counts l') (event_lines 0 es ++ a) (event_lines 0 es' ++ b) (ok, refl) (ok', v) laid.1 in
    let same : l ≡ l' = let k = s.0 in cc in
    let names : AreReadable l es' = subst (λ k. AreReadable k es') (sym same) named' in
    let t = same_events l 0 es es' a b ok (omega arith) named names le s.1 in
    let z : 0 + length es ≡ length es = omega arith in
    (same, (t.0, t.1, t.2 ∙ ap (λ k. event_lines k t.0 ++ b) z))

pub le_total : (a b : ℕ) → (a ≤ b) ⊎ (b < a)
le_total a b = grind arith
