-- Answers on legal traces, and that one answer is just.
use Rattle.std.proofs.Common.{◌≡◌, ◌≢◌, ℕ, ◌-◌, ◌^◌, ◌<◌, List, length, refl, ap, sym, subst, ◌∙◌, Some}
use Rattle.std.specs.declared.option.Option.{Option}
use Rattle.larch_actions.specs.declared.event.Event.{Event}
use Rattle.larch_actions.specs.State.{held, waiting, alerted}
use Rattle.trace_check.specs.declared.checker.Summary.{Summary}
use Rattle.trace_check.specs.declared.checker.Verdict.{Verdict}
use Rattle.trace_check.specs.declared.checker.Verdict.TheVariants as verdict
use Rattle.trace_check.specs.Verdicts.{IsJust, IsLegalText}
use Rattle.trace_check.proofs.Alike.{plain_all, length-plain_all}
use Rattle.trace_check.proofs.Unique.{one_verdict, made_legal, legal_events}
use Rattle.lock_order.proofs.Alike.{cycle_plain, cycle_back}
use Rattle.lock_order.specs.declared.answer.OrderAnswer.{OrderAnswer}
use Rattle.lock_order.specs.declared.answer.OrderAnswer.TheVariants.{NoCycle, Found, Illegal, BadLine, TooLong, ReadFault}
use Rattle.lock_order.specs.Order.{HasCycle}
use Rattle.lock_order.proofs.Linked.{reports_cycle}
use Rattle.lock_order.specs.Answers.{IsLegalTrace, IsJustAnswer, Agree}

-- the verdict of `check` on a legal trace
summary_of : (budget : ℕ) (bytes : List ℕ) (es : List Event) → IsLegalTrace budget bytes es → (s : Summary) × IsLegalText budget bytes s × (s.events ≡ length es)
summary_of budget bytes es t =
    let s : Summary = record { events = length es; held = held t.layout t.legal.0; waiting = waiting t.layout t.legal.0; alerted = alerted t.layout t.legal.0 } in (
      s,
      record {
        layout = t.layout;
        events = es;
        values = t.values;
        last = t.legal.0;
        text = t.text;
        within = t.within;
        run = t.legal.1;
        counts = record { events = refl; held = refl; waiting = refl; alerted = refl };
      },
      refl,
    )

-- a legal trace has one list of events, but for how their sets of threads are kept
same_events : (budget : ℕ) (bytes : List ℕ) (es ds : List Event) → budget < 2 ^ 64 - 1 → IsLegalTrace budget bytes es → IsLegalTrace budget bytes ds → plain_all es ≡ plain_all ds
unfolding summary_of
same_events budget bytes es ds fits t u =
    let s = summary_of budget bytes es t in
    let r = summary_of budget bytes ds u in
    let (i, own, made) = made_legal budget bytes s.0 s.1 in
    let (j, own', made') = made_legal budget bytes r.0 r.1 in
    sym made ∙ (legal_events budget bytes s.0 r.0 fits i own j own').1 ∙ made'

same_length : (budget : ℕ) (bytes : List ℕ) (es ds : List Event) → budget < 2 ^ 64 - 1 → IsLegalTrace budget bytes es → IsLegalTrace budget bytes ds → length es ≡ length ds
same_length budget bytes es ds fits t u = sym (length-plain_all es) ∙ ap length (same_events budget bytes es ds fits t u) ∙ length-plain_all ds

same_cycles : (budget : ℕ) (bytes : List ℕ) (es ds : List Event) → budget < 2 ^ 64 - 1 → IsLegalTrace budget bytes es → IsLegalTrace budget bytes ds → HasCycle es → HasCycle ds
same_cycles budget bytes es ds fits t u c =
    cycle_back u.layout u.text.lawful ds u.text.named (subst HasCycle (same_events budget bytes es ds fits t u) (cycle_plain t.layout t.text.lawful es t.text.named c))

-- a legal trace is no input for another verdict
not_legal : (budget : ℕ) (bytes : List ℕ) (left' : Option (List ℕ)) (before now : ℕ) (es : List Event) (v : Verdict) → budget < 2 ^ 64 - 1 → IsLegalTrace budget bytes es
    → v ≢ verdict.ReadFault → IsJust budget (Some bytes) left' before now v → (s : Summary) × (v ≡ verdict.Legal s)
not_legal budget bytes left' before now es v fits t real j =
    let s = summary_of budget bytes es t in
    (s.0, one_verdict budget bytes left' left' before now before now v (verdict.Legal s.0) fits real (λ e. cc) j s.1)

none_legal : {A : Type 0} (budget : ℕ) (bytes : List ℕ) (left' : Option (List ℕ)) (before now : ℕ) (es : List Event) (v : Verdict) → budget < 2 ^ 64 - 1 → IsLegalTrace budget bytes es
    → v ≢ verdict.ReadFault → ((s : Summary) → v ≢ verdict.Legal s) → IsJust budget (Some bytes) left' before now v → A
none_legal budget bytes left' before now es v fits t real other j = let s = not_legal budget bytes left' before now es v fits t real j in absurd (other s.0 s.1)

-- two of the other verdicts
other_same : (budget : ℕ) (bytes : List ℕ) (left' : Option (List ℕ)) (before now : ℕ) (v w : Verdict) → budget < 2 ^ 64 - 1 → v ≢ verdict.ReadFault → w ≢ verdict.ReadFault
    → IsJust budget (Some bytes) left' before now v → IsJust budget (Some bytes) left' before now w → v ≡ w
other_same budget bytes left' before now v w fits x y h k = one_verdict budget bytes left' left' before now before now v w fits x y h k

pub one_answer : (budget : ℕ) (bytes : List ℕ) (left' : Option (List ℕ)) (before now : ℕ) (a b : OrderAnswer) → budget < 2 ^ 64 - 1 → a ≢ ReadFault → b ≢ ReadFault
    → IsJustAnswer budget (Some bytes) left' before now a → IsJustAnswer budget (Some bytes) left' before now b → Agree a b
one_answer budget bytes left' before now (NoCycle m) (NoCycle n) fits x y h k = ap NoCycle (h.2 ∙ same_length budget bytes h.0 k.0 fits h.1 k.1 ∙ sym k.2)
one_answer budget bytes left' before now (NoCycle m) (Found d) fits x y h k = absurd (h.3 (same_cycles budget bytes k.0 h.0 fits k.1 h.1 (reports_cycle k.0 d k.2)))
one_answer budget bytes left' before now (NoCycle m) (Illegal q w) fits x y h k = none_legal budget bytes left' before now h.0 (verdict.Illegal q w) fits h.1 (λ e. cc) (λ s e. cc) k
one_answer budget bytes left' before now (NoCycle m) (BadLine j) fits x y h k = none_legal budget bytes left' before now h.0 (verdict.BadLine j) fits h.1 (λ e. cc) (λ s e. cc) k
one_answer budget bytes left' before now (NoCycle m) TooLong fits x y h k = none_legal budget bytes left' before now h.0 verdict.TooLong fits h.1 (λ e. cc) (λ s e. cc) k
one_answer budget bytes left' before now (Found c) (NoCycle n) fits x y h k = absurd (k.3 (same_cycles budget bytes h.0 k.0 fits h.1 k.1 (reports_cycle h.0 c h.2)))
one_answer budget bytes left' before now (Found c) (Found d) fits x y h k = tt
one_answer budget bytes left' before now (Found c) (Illegal q w) fits x y h k = none_legal budget bytes left' before now h.0 (verdict.Illegal q w) fits h.1 (λ e. cc) (λ s e. cc) k
one_answer budget bytes left' before now (Found c) (BadLine j) fits x y h k = none_legal budget bytes left' before now h.0 (verdict.BadLine j) fits h.1 (λ e. cc) (λ s e. cc) k
one_answer budget bytes left' before now (Found c) TooLong fits x y h k = none_legal budget bytes left' before now h.0 verdict.TooLong fits h.1 (λ e. cc) (λ s e. cc) k
one_answer budget bytes left' before now (Illegal p v) (NoCycle n) fits x y h k = none_legal budget bytes left' before now k.0 (verdict.Illegal p v) fits k.1 (λ e. cc) (λ s e. cc) h
one_answer budget bytes left' before now (Illegal p v) (Found d) fits x y h k = none_legal budget bytes left' before now k.0 (verdict.Illegal p v) fits k.1 (λ e. cc) (λ s e. cc) h
one_answer budget bytes left' before now (Illegal p v) (Illegal q w) fits x y h k = let e = other_same budget bytes left' before now (verdict.Illegal p v) (verdict.Illegal q w) fits (λ e. cc) (λ e. cc) h k in cc
one_answer budget bytes left' before now (Illegal p v) (BadLine j) fits x y h k = let e = other_same budget bytes left' before now (verdict.Illegal p v) (verdict.BadLine j) fits (λ e. cc) (λ e. cc) h k in cc
one_answer budget bytes left' before now (Illegal p v) TooLong fits x y h k = let e = other_same budget bytes left' before now (verdict.Illegal p v) verdict.TooLong fits (λ e. cc) (λ e. cc) h k in cc
one_answer budget bytes left' before now (BadLine i) (NoCycle n) fits x y h k = none_legal budget bytes left' before now k.0 (verdict.BadLine i) fits k.1 (λ e. cc) (λ s e. cc) h
one_answer budget bytes left' before now (BadLine i) (Found d) fits x y h k = none_legal budget bytes left' before now k.0 (verdict.BadLine i) fits k.1 (λ e. cc) (λ s e. cc) h
one_answer budget bytes left' before now (BadLine i) (Illegal q w) fits x y h k = let e = other_same budget bytes left' before now (verdict.BadLine i) (verdict.Illegal q w) fits (λ e. cc) (λ e. cc) h k in cc
one_answer budget bytes left' before now (BadLine i) (BadLine j) fits x y h k = let e = other_same budget bytes left' before now (verdict.BadLine i) (verdict.BadLine j) fits (λ e. cc) (λ e. cc) h k in cc
one_answer budget bytes left' before now (BadLine i) TooLong fits x y h k = let e = other_same budget bytes left' before now (verdict.BadLine i) verdict.TooLong fits (λ e. cc) (λ e. cc) h k in cc
one_answer budget bytes left' before now TooLong (NoCycle n) fits x y h k = none_legal budget bytes left' before now k.0 verdict.TooLong fits k.1 (λ e. cc) (λ s e. cc) h
one_answer budget bytes left' before now TooLong (Found d) fits x y h k = none_legal budget bytes left' before now k.0 verdict.TooLong fits k.1 (λ e. cc) (λ s e. cc) h
one_answer budget bytes left' before now TooLong (Illegal q w) fits x y h k = let e = other_same budget bytes left' before now verdict.TooLong (verdict.Illegal q w) fits (λ e. cc) (λ e. cc) h k in cc
one_answer budget bytes left' before now TooLong (BadLine j) fits x y h k = let e = other_same budget bytes left' before now verdict.TooLong (verdict.BadLine j) fits (λ e. cc) (λ e. cc) h k in cc
one_answer budget bytes left' before now TooLong TooLong fits x y h k = let e = other_same budget bytes left' before now verdict.TooLong verdict.TooLong fits (λ e. cc) (λ e. cc) h k in cc
one_answer budget bytes left' before now ReadFault (NoCycle n) fits x y h k = absurd (x refl)
one_answer budget bytes left' before now ReadFault (Found d) fits x y h k = absurd (x refl)
one_answer budget bytes left' before now ReadFault (Illegal q w) fits x y h k = absurd (x refl)
one_answer budget bytes left' before now ReadFault (BadLine j) fits x y h k = absurd (x refl)
one_answer budget bytes left' before now ReadFault TooLong fits x y h k = absurd (x refl)
one_answer budget bytes left' before now ReadFault ReadFault fits x y h k = absurd (x refl)
one_answer budget bytes left' before now (NoCycle m) ReadFault fits x y h k = absurd (y refl)
one_answer budget bytes left' before now (Found c) ReadFault fits x y h k = absurd (y refl)
one_answer budget bytes left' before now (Illegal p v) ReadFault fits x y h k = absurd (y refl)
one_answer budget bytes left' before now (BadLine i) ReadFault fits x y h k = absurd (y refl)
one_answer budget bytes left' before now TooLong ReadFault fits x y h k = absurd (y refl)

pub exact_at : (budget : ℕ) (left left' : Option (List ℕ)) (before now : ℕ) (bytes : List ℕ) (a b : OrderAnswer) → budget < 2 ^ 64 - 1 → left ≡ Some bytes → a ≢ ReadFault → b ≢ ReadFault
    → IsJustAnswer budget left left' before now a → IsJustAnswer budget left left' before now b → Agree a b
exact_at budget left left' before now bytes a b fits reported x y h k =
    let P : OrderAnswer → Option (List ℕ) → Type 0 = λ z o. IsJustAnswer budget o left' before now z in
    one_answer budget bytes left' before now a b fits x y (subst (P a) reported h) (subst (P b) reported k)
