-- The text that is put whole.
use Rattle.std.proofs.Common.{◌≡◌, ℕ, suc, ◌+◌, ◌^◌, ◌<◌, ◌≤◌, List, [], ◌∷◌, ◌++◌, length, length-append, take, get_or, refl, ap, sym, subst, ◌∙◌, append_assoc, arith}
use Rattle.std.proofs.lemmas.List.{take-append-le}
use Rattle.std.proofs.KnownBytes.{Appends-trans}
use Rattle.std.proofs.Math.Seq.{take-append-add}
use Rattle.std.specs.Io.KnownBytes.{Appends}
use Rattle.std.specs.List.{AllByRecursion}
use Rattle.std.specs.declared.option.Option.{Option}
use Rattle.firefly_outside.specs.Causes.{AppendsPrefix}
use Rattle.larch_actions.specs.declared.event.Layout.{Layout}
use Rattle.larch_actions.specs.declared.event.Event.{Event}
use Rattle.larch_actions.specs.Layout.{IsLawful, HasNames}
use Rattle.trace_core.specs.Text.{MutexValue, AreValues, ReadsAs, head_text, event_line, end_line, values_text, rest_text, trace_text}
use Rattle.trace_core.specs.Whole.{event_lines, numbered, Flows}

prefix_more : (a b : Option (List ℕ)) (p q : List ℕ) → AppendsPrefix a b p → AppendsPrefix a b (p ++ q)
prefix_more a b p q f = (f.0, omega (arith, f.1, length-append p q), subst (Appends a b) (sym (take-append-le f.0 p q (omega (arith, f.1)))) f.2)

prefix_past : (a b c : Option (List ℕ)) (s p : List ℕ) → Appends a b s → AppendsPrefix b c p → AppendsPrefix a c (s ++ p)
prefix_past a b c s p e f =
    (length s + f.0, omega (arith, f.1, length-append s p), subst (Appends a c) (sym (take-append-add s p f.0)) (Appends-trans a b c s (take f.0 p) e f.2))

rest_parts : (n : ℕ) (es : List Event) (vs : List MutexValue) → event_lines n es ++ (end_line (n + length es) ++ values_text vs) ≡ rest_text n es vs
rest_parts n [] vs = let z : n + 0 ≡ n = omega arith in ap (λ m. end_line m ++ values_text vs) z
rest_parts n (e ∷ es) vs =
    let size : n + length (e ∷ es) ≡ n + 1 + length es = omega arith in
    append_assoc (event_line n e) (event_lines (n + 1) es) (end_line (n + length (e ∷ es)) ++ values_text vs) ∙ ap (λ m. event_line n e ++ (event_lines (n + 1) es ++ (end_line m ++ values_text vs))) size ∙ ap (λ l. event_line n e ++ l) (rest_parts (n + 1) es vs)

abbrev lines : List Event → List ℕ
lines es = event_lines 0 es ++ end_line (length es)

whole_text : (l : Layout) (es : List Event) (vs : List MutexValue) → (head_text l ++ lines es) ++ values_text vs ≡ trace_text l es vs
whole_text l es vs =
    let size : 0 + length es ≡ length es = omega arith in
    append_assoc (head_text l) (lines es) (values_text vs) ∙ ap (λ x. head_text l ++ x) (append_assoc (event_lines 0 es) (end_line (length es)) (values_text vs) ∙ ap (λ m. event_lines 0 es ++ (end_line m ++ values_text vs)) (sym size) ∙ rest_parts 0 es vs)

flowed : (before after text more : List ℕ) (h0 h1 : Option (List ℕ)) → (f : Flows h0 h1 before after text) → f.0 ++ (after ++ more) ≡ (before ++ text) ++ more
flowed before after text more h0 h1 f = sym (append_assoc f.0 after more) ∙ ap (λ x. x ++ more) f.2

pub whole_put : (l : Layout) (es : List Event) (vs : List MutexValue) (h0 h1 h2 h3 : Option (List ℕ)) (first mid last : List ℕ) → first ≡ head_text l → Flows h0 h1 first mid (lines es) → Flows h1 h2 mid last (values_text vs) → Appends h2 h3 last → Appends h0 h3 (trace_text l es vs)
whole_put l es vs h0 h1 h2 h3 first mid last is f k a =
    let same : f.0 ++ (k.0 ++ last) ≡ trace_text l es vs = ap (λ x. f.0 ++ x) k.2 ∙ flowed first mid (lines es) (values_text vs) h0 h1 f ∙ ap (λ x. (x ++ lines es) ++ values_text vs) is ∙ whole_text l es vs in
    subst (Appends h0 h3) same (Appends-trans h0 h1 h3 f.0 (k.0 ++ last) f.1 (Appends-trans h1 h2 h3 k.0 last k.1 a))

pub events_fault : (l : Layout) (es : List Event) (vs : List MutexValue) (h0 h1 : Option (List ℕ)) (first : List ℕ) → first ≡ head_text l → AppendsPrefix h0 h1 (first ++ lines es) → AppendsPrefix h0 h1 (trace_text l es vs)
events_fault l es vs h0 h1 first is f =
    subst (AppendsPrefix h0 h1) (ap (λ x. (x ++ lines es) ++ values_text vs) is ∙ whole_text l es vs) (prefix_more h0 h1 (first ++ lines es) (values_text vs) f)

pub values_fault : (l : Layout) (es : List Event) (vs : List MutexValue) (h0 h1 h2 : Option (List ℕ)) (first mid : List ℕ) → first ≡ head_text l → Flows h0 h1 first mid (lines es) → AppendsPrefix h1 h2 (mid ++ values_text vs) → AppendsPrefix h0 h2 (trace_text l es vs)
values_fault l es vs h0 h1 h2 first mid is f a =
    let same : f.0 ++ (mid ++ values_text vs) ≡ trace_text l es vs = flowed first mid (lines es) (values_text vs) h0 h1 f ∙ ap (λ x. (x ++ lines es) ++ values_text vs) is ∙ whole_text l es vs in
    subst (AppendsPrefix h0 h2) same (prefix_past h0 h1 h2 f.0 (mid ++ values_text vs) f.1 a)

pub last_fault : (l : Layout) (es : List Event) (vs : List MutexValue) (h0 h1 h2 h3 : Option (List ℕ)) (first mid last : List ℕ) → first ≡ head_text l → Flows h0 h1 first mid (lines es) → Flows h1 h2 mid last (values_text vs) → AppendsPrefix h2 h3 last → AppendsPrefix h0 h3 (trace_text l es vs)
last_fault l es vs h0 h1 h2 h3 first mid last is f k a =
    let same : f.0 ++ (k.0 ++ last) ≡ trace_text l es vs = ap (λ x. f.0 ++ x) k.2 ∙ flowed first mid (lines es) (values_text vs) h0 h1 f ∙ ap (λ x. (x ++ lines es) ++ values_text vs) is ∙ whole_text l es vs in
    subst (AppendsPrefix h0 h3) same (prefix_past h0 h1 h3 f.0 (k.0 ++ last) f.1 (prefix_past h1 h2 h3 k.0 last k.1 a))

numbered_are : (l : Layout) (k : ℕ) (vs : List ℕ) → k + length vs ≤ l.mutexes → ((i : ℕ) → get_or vs i 0 < 2 ^ 64) → AreValues l k (numbered k vs)
numbered_are l k [] few fits = tt
numbered_are l k (v ∷ vs) few fits = (omega arith, omega arith, fits 0, numbered_are l (k + 1) vs (omega arith) (λ i. fits (suc i)))

pub whole_reads : (l : Layout) (es : List Event) (vs : List ℕ) → IsLawful l → AllByRecursion (HasNames l) es → length es < 2 ^ 64 → length vs ≤ l.mutexes → ((i : ℕ) → get_or vs i 0 < 2 ^ 64) → ReadsAs (trace_text l es (numbered 0 vs)) l es (numbered 0 vs)
whole_reads l es vs ok named few valued fits = record { lawful = ok; named = named; few = few; valued = numbered_are l 0 vs (omega arith) fits; text = refl }
