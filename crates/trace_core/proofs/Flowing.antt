-- A text that is put piece by piece: some was sent, some is held back, and the rest is to come.
use Rattle.std.proofs.Common.{◌≡◌, ℕ, ◌+◌, ◌<◌, ◌≤◌, List, [], ◌++◌, length, length-append, take, drop, get_or, refl, ap, sym, subst, ◌∙◌, append_assoc, append-nil, Some, None, Ok, Err, Result, arith}
use Rattle.std.proofs.lemmas.List.{drop_all, drop_more, take-append-le}
use Rattle.std.proofs.KnownBytes.{Appends-trans}
use Rattle.std.proofs.Math.Seq.{take-append-add}
use Rattle.std.specs.Io.KnownBytes.{Appends}
use Rattle.std.specs.declared.option.Option.{Option}
use Rattle.firefly_outside.specs.Causes.{AppendsPrefix, HasCause, Rose}
use Rattle.larch_actions.specs.declared.event.Event.{Event}
use Rattle.trace_core.specs.Text.{event_line, value_line, values_text}
use Rattle.trace_core.specs.Whole.{event_lines, numbered, Flows}

abbrev pub Pending : Option (List ℕ) → Option (List ℕ) → List ℕ → List ℕ → List ℕ → Type 0
Pending first now held all rest = (sent : List ℕ) × Appends first now sent × (all ≡ (sent ++ held) ++ rest)

nothing_sent : (h : Option (List ℕ)) → Appends h h []
nothing_sent None = tt
nothing_sent (Some xs) = sym (append-nil xs)

pub pending_first : (h : Option (List ℕ)) (held rest : List ℕ) → Pending h h held (held ++ rest) rest
pending_first h held rest = ([], nothing_sent h, refl)

pub pending_flow : (first now later : Option (List ℕ)) (held held' all rest : List ℕ) → Pending first now held all rest → Flows now later held held' [] → Pending first later held' all rest
pending_flow first now later held held' all rest p f =
    let same : held ≡ f.0 ++ held' = sym (append-nil held) ∙ sym f.2 in
    (p.0 ++ f.0, Appends-trans first now later p.0 f.0 p.1 f.1, p.2 ∙ ap (λ l. (p.0 ++ l) ++ rest) same ∙ ap (λ l. l ++ rest) (sym (append_assoc p.0 f.0 held')))

pub pending_add : (first now : Option (List ℕ)) (held held' text all rest : List ℕ) → Pending first now held all (text ++ rest) → held' ≡ held ++ text → Pending first now held' all rest
pending_add first now held held' text all rest p e =
    (p.0, p.1, p.2 ∙ sym (append_assoc (p.0 ++ held) text rest) ∙ ap (λ l. l ++ rest) (append_assoc p.0 held text ∙ ap (λ l. p.0 ++ l) (sym e)))

pub pending_fault : (first now later : Option (List ℕ)) (held all rest : List ℕ) → Pending first now held all rest → AppendsPrefix now later held → AppendsPrefix first later all
pending_fault first now later held all rest p f =
    let n = length p.0 + f.0 in
    let cut : take n all ≡ p.0 ++ take f.0 held =
    ap (take n) (p.2 ∙ append_assoc p.0 held rest) ∙ take-append-add p.0 (held ++ rest) f.0 ∙ ap (λ l. p.0 ++ l) (take-append-le f.0 held rest (omega (arith, f.1)))
    in (n, omega (arith, f.1, ap length p.2, length-append (p.0 ++ held) rest, length-append p.0 held), subst (Appends first later) (sym cut) (Appends-trans first now later p.0 (take f.0 held) p.1 f.2))

pub pending_done : (first now : Option (List ℕ)) (before held text all : List ℕ) → all ≡ before ++ text → Pending first now held all [] → Flows first now before held text
pending_done first now before held text all same p = (p.0, p.1, sym (append-nil (p.0 ++ held)) ∙ sym p.2 ∙ same)

pub next_line : (es : List Event) (i : ℕ) (d : Event) → i < length es → event_lines i (drop i es) ≡ event_line i (get_or es i d) ++ event_lines (i + 1) (drop (i + 1) es)
next_line es i d low = ap (event_lines i) (drop_more es i d low)

-- one more event
pub pending_event : (first now later : Option (List ℕ)) (es : List Event) (i : ℕ) (d : Event) (held free held' all end : List ℕ) → i < length es → Pending first now held all (event_lines i (drop i es) ++ end)
    → Flows now later held free [] → held' ≡ free ++ event_line i (get_or es i d) → Pending first later held' all (event_lines (i + 1) (drop (i + 1) es) ++ end)
pending_event first now later es i d held free held' all end low p f e =
    let line = event_line i (get_or es i d) in
    let more = event_lines (i + 1) (drop (i + 1) es) in
    let step : event_lines i (drop i es) ++ end ≡ line ++ (more ++ end) = ap (λ l. l ++ end) (next_line es i d low) ∙ append_assoc line more end in
    pending_add first later free held' line all (more ++ end) (pending_flow first now later held free all (line ++ (more ++ end)) (subst (Pending first now held all) step p) f) e

-- the last piece
pub pending_last : (first now later : Option (List ℕ)) (before held free held' text end : List ℕ) → Pending first now held (before ++ text) end → Flows now later held free [] → held' ≡ free ++ end → Flows first later before held' text
pending_last first now later before held free held' text end p f e =
    pending_done first later before held' text (before ++ text) refl
    (pending_add first later free held' end (before ++ text) [] (pending_flow first now later held free (before ++ text) (end ++ []) (subst (Pending first now held (before ++ text)) (sym (append-nil end)) p) f) e)

pub no_more_events : (es : List Event) (i : ℕ) (end : List ℕ) → length es ≤ i → event_lines i (drop i es) ++ end ≡ end
no_more_events es i end high = ap (λ l. event_lines i l ++ end) (drop_all i es high)

next_value : (vs : List ℕ) (k : ℕ) → k < length vs → values_text (numbered k (drop k vs)) ≡ value_line (record { mutex = k; value = get_or vs k 0 }) ++ values_text (numbered (k + 1) (drop (k + 1) vs))
next_value vs k low = ap (λ l. values_text (numbered k l)) (drop_more vs k 0 low)

-- one more value
pub pending_value : (first now later : Option (List ℕ)) (vs : List ℕ) (k : ℕ) (held free held' all : List ℕ) → k < length vs → Pending first now held all (values_text (numbered k (drop k vs)))
    → Flows now later held free [] → held' ≡ free ++ value_line (record { mutex = k; value = get_or vs k 0 }) → Pending first later held' all (values_text (numbered (k + 1) (drop (k + 1) vs)))
pending_value first now later vs k held free held' all low p f e =
    let line = value_line (record { mutex = k; value = get_or vs k 0 }) in
    let more = values_text (numbered (k + 1) (drop (k + 1) vs)) in
    pending_add first later free held' line all more (pending_flow first now later held free all (line ++ more) (subst (Pending first now held all) (next_value vs k low) p) f) e

pub no_more_values : (vs : List ℕ) (k : ℕ) → length vs ≤ k → values_text (numbered k (drop k vs)) ≡ []
no_more_values vs k high = ap (λ l. values_text (numbered k l)) (drop_all k vs high)

-- a cause since an earlier count
pub cause_since : {T E U : Type 0} (first before now : ℕ) (e : E) → first ≤ before → HasCause {T = T} {E = E} before now (Err e) → HasCause {T = U} {E = E} first now (Err e)
cause_since first before now e early h = record { later = omega (arith, early, h.later); failed = rose_since first before now early h.failed }
  where
    rose_since : (first before now : ℕ) → first ≤ before → Rose before now → Rose first now
    rose_since first before now le rose = grind arith

pub cause_of : {T E : Type 0} (first before now : ℕ) (r : Result T E) → first ≤ before → HasCause before now r → HasCause first now r
cause_of first before now (Ok x) early h = record { later = omega (arith, early, h.later); failed = tt }
cause_of first before now (Err e) early h = cause_since first before now e early h
