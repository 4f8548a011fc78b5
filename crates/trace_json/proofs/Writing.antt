-- What is written of the events that are shown.
use Rattle.std.proofs.Common.{◌≡◌, ◌≢◌, ℕ, ◌+◌, ◌≤◌, inr, List, [], ◌∷◌, ◌++◌, length, ap, sym, subst, ◌∙◌, append_assoc, append-nil, Option, Some, None, Result, Ok, Err, IfOk, OnOk, OnErr, arith}
use Rattle.std.specs.Prelude.{IfSome, IfErr}
use Rattle.std.specs.Borrow.{MutBor}
use Rattle.std.specs.Io.KnownBytes.{Appends}
use Rattle.firefly_outside.specs.Causes.{AppendsPrefix, HasCause, Rose}
use Rattle.larch_actions.specs.declared.event.Layout.{Layout}
use Rattle.larch_actions.specs.declared.event.Event.{Event}
use Rattle.text_output.specs.Sent.{Sends, Puts}
use Rattle.text_output.proofs.Prefixes.{appends_then, prefix_past, prefix_of_more, sends_then, fails_then}
use Rattle.text_output.proofs.Pieces.{cause_then}
use Rattle.trace_check.specs.declared.checker.Verdict.{Verdict}
use Rattle.trace_check.specs.declared.checker.Verdict.TheVariants as verdict
use Rattle.trace_check.specs.Verdicts.{IsJust}
use Rattle.trace_check.specs.Watching.{Begins, IsNext, IsReadTo}
use Rattle.trace_json.specs.Texts.{head_text, event_text, events_text, open_text, closing_text, json_text}
use Rattle.trace_json.specs.Written.{Got, HasFailed, HasWritten, IsWritten, IsCutShort, Answers}

events-push : (n : ℕ) (es : List Event) (e : Event) → events_text n (es ++ e ∷ []) ≡ events_text n es ++ event_text (n + length es) e
unfolding events_text
events-push n [] e =
    let z : n + 0 ≡ n = omega arith in
    append-nil (event_text n e) ∙ ap (λ k. event_text k e) (sym z)
events-push n (x ∷ es) e =
    let z : n + 1 + length es ≡ n + length (x ∷ es) = omega arith in
    ap (λ l. event_text n x ++ l) (events-push (n + 1) es e ∙ ap (λ k. events_text (n + 1) es ++ event_text k e) z) ∙ sym (append_assoc (event_text n x) (events_text (n + 1) es) (event_text (n + length (x ∷ es)) e))

open-push : (l : Layout) (es : List Event) (e : Event) (n : ℕ) → length es ≡ n → open_text l es ++ event_text n e ≡ open_text l (es ++ e ∷ [])
unfolding open_text
open-push l es e n counted =
    let z : n ≡ 0 + length es = omega (arith, counted) in
    append_assoc (head_text l) (events_text 0 es) (event_text n e) ∙ ap (λ t. head_text l ++ t) (ap (λ k. events_text 0 es ++ event_text k e) z ∙ sym (events-push 0 es e))

open-none : (l : Layout) → head_text l ≡ open_text l []
unfolding open_text events_text
open-none l = sym (append-nil (head_text l))

-- what was sent, followed by what was held, and what is held now
pub prefix_after : (t0 t1 t2 : Option (List ℕ)) (h0 h1 p : List ℕ) → Sends t0 h0 p t1 h1 → AppendsPrefix t1 t2 h1 → AppendsPrefix t0 t2 (h0 ++ p)
prefix_after t0 t1 t2 h0 h1 p a k = subst (AppendsPrefix t0 t2) a.2 (prefix_past t0 t1 t2 a.0 h1 a.1 k)

-- what was put after the head and these events
pub steps : (reported₀ reported reported' : Option (List ℕ)) (kept₀ kept kept' : List ℕ) (l : Layout) (es : List Event) (place : ℕ) (e : Event) → length es ≡ place
    → Sends reported₀ kept₀ (open_text l es) reported kept → Sends reported kept (event_text place e) reported' kept' → Sends reported₀ kept₀ (open_text l (es ++ e ∷ [])) reported' kept'
steps reported₀ reported reported' kept₀ kept kept' l es place e counted s t =
    subst (λ x. Sends reported₀ kept₀ x reported' kept') (open-push l es e place counted) (sends_then reported₀ reported reported' kept₀ kept kept' (open_text l es) (event_text place e) s t)

pub step_fails : (reported₀ reported reported' : Option (List ℕ)) (kept₀ kept : List ℕ) (l : Layout) (es : List Event) (place : ℕ) (e : Event) → length es ≡ place
    → Sends reported₀ kept₀ (open_text l es) reported kept → AppendsPrefix reported reported' (kept ++ event_text place e) → AppendsPrefix reported₀ reported' (kept₀ ++ open_text l (es ++ e ∷ []))
step_fails reported₀ reported reported' kept₀ kept l es place e counted s k =
    subst (λ x. AppendsPrefix reported₀ reported' (kept₀ ++ x)) (open-push l es e place counted) (fails_then reported₀ reported reported' kept₀ kept (open_text l es) (event_text place e) s k)

pub head_sent : (reported₀ reported : Option (List ℕ)) (kept₀ kept : List ℕ) (l : Layout) → Sends reported₀ kept₀ (head_text l) reported kept → Sends reported₀ kept₀ (open_text l []) reported kept
head_sent reported₀ reported kept₀ kept l s = subst (λ x. Sends reported₀ kept₀ x reported kept) (open-none l) s

pub head_fails : (reported₀ reported : Option (List ℕ)) (kept₀ : List ℕ) (l : Layout) → AppendsPrefix reported₀ reported (kept₀ ++ head_text l) → AppendsPrefix reported₀ reported (kept₀ ++ open_text l [])
head_fails reported₀ reported kept₀ l k = subst (λ x. AppendsPrefix reported₀ reported (kept₀ ++ x)) (open-none l) k

-- what the sink has after the head, and after one more event
module _ {O E : Type 0} (held : O → Option (List ℕ)) (faults : O → ℕ) (out out' : MutBor O) (kept kept' : List ℕ) (same : out'.ghost_name ≡ out.ghost_name) (l : Layout) where
  pub begins : (r : Result (Unit {0}) E) → Puts (held out.now) kept (head_text l) r (held out'.now) kept' → HasCause (faults out.now) (faults out'.now) r → OnOk r (HasWritten held faults kept out l [] kept' out')
  begins (Ok x) p c = record { same = same; sent = head_sent _ _ _ _ l p; later = c.later }
  begins (Err e) p c = tt

  pub begin_fails : (r : Result (Unit {0}) E) → Puts (held out.now) kept (head_text l) r (held out'.now) kept' → HasCause (faults out.now) (faults out'.now) r → IfErr r (λ stop. HasFailed held faults kept out l [] out')
  begin_fails (Ok x) p c = tt
  begin_fails (Err e) p c = record { same = same; cut = head_fails _ _ _ l p; later = c.later; failed = c.failed }

  module _ (kept₀ : List ℕ) (out₀ : MutBor O) (es : List Event) (place : ℕ) (e : Event) (k : HasWritten held faults kept₀ out₀ l es kept out) (next : IsNext l es place e) where
    pub sees : (r : Result (Unit {0}) E) → Puts (held out.now) kept (event_text place e) r (held out'.now) kept' → HasCause (faults out.now) (faults out'.now) r → OnOk r (HasWritten held faults kept₀ out₀ l (es ++ e ∷ []) kept' out')
    sees (Ok x) p c = record { same = same ∙ k.same; sent = steps _ _ _ _ _ _ l es place e (sym next.counted) k.sent p; later = omega (arith, k.later, c.later) }
    sees (Err f) p c = tt

    pub see_fails : (r : Result (Unit {0}) E) → Puts (held out.now) kept (event_text place e) r (held out'.now) kept' → HasCause (faults out.now) (faults out'.now) r → IfErr r (λ stop. HasFailed held faults kept₀ out₀ l (es ++ e ∷ []) out')
    see_fails (Ok x) p c = tt
    see_fails (Err f) p c =
        record { same = same ∙ k.same; cut = step_fails _ _ _ _ _ l es place e (sym next.counted) k.sent p; later = omega (arith, k.later, c.later); failed = let f = cause_then (Err f) k.later c in f.failed }

-- the text of these events is that of the events with which the input begins
same_text : (l l' : Layout) (es es' : List Event) → l' ≡ l → es' ≡ es → json_text l es ≡ json_text l' es'
same_text l l' es es' p q = λ i. json_text (sym p i) (sym q i)

-- the sink failed within it
cut_within : (budget : ℕ) (left reported reported' : Option (List ℕ)) (l : Layout) (es : List Event) → IfSome left (λ bytes. Begins budget bytes l es) → AppendsPrefix reported reported' (json_text l es) → IsCutShort budget left reported reported'
cut_within budget None reported reported' l es h k = tt
cut_within budget (Some bytes) reported reported' l es h k = (h.0, subst (AppendsPrefix reported reported') (same_text l h.0.layout es h.0.events h.1 h.2) k)

-- it is the text that the verdict asks for
got_of : (budget : ℕ) (bytes : List ℕ) (reported reported' : Option (List ℕ)) (l : Layout) (es : List Event) (failed : Option Event) (v : Verdict) → Begins budget bytes l es → IsReadTo budget bytes l es failed v → Appends reported reported' (json_text l es)
    → Got budget bytes reported reported' v
got_of budget bytes reported reported' l es failed (verdict.Legal s) b h k = (h.0, subst (Appends reported reported') (same_text l h.0.layout es h.0.events h.1 h.2) k)
got_of budget bytes reported reported' l es failed (verdict.Illegal place why) b h k = (h.0, subst (Appends reported reported') (same_text l h.0.layout es h.0.events h.1 h.2) k)
got_of budget bytes reported reported' l es failed (verdict.BadLine n) b h k = inr (b.0, subst (Appends reported reported') (same_text l b.0.layout es b.0.events b.1 b.2) k)
got_of budget bytes reported reported' l es failed verdict.TooLong b h k = inr (b.0, subst (Appends reported reported') (same_text l b.0.layout es b.0.events b.1 b.2) k)
got_of budget bytes reported reported' l es failed verdict.ReadFault b h k = inr (b.0, subst (Appends reported reported') (same_text l b.0.layout es b.0.events b.1 b.2) k)

written_of : (budget : ℕ) (left reported reported' : Option (List ℕ)) (l : Layout) (es : List Event) (failed : Option Event) (v : Verdict) → IfSome left (λ bytes. Begins budget bytes l es) → IfSome left (λ bytes. IsReadTo budget bytes l es failed v)
    → Appends reported reported' (json_text l es) → IsWritten budget left reported reported' v
written_of budget None reported reported' l es failed v b h k = tt
written_of budget (Some bytes) reported reported' l es failed v b h k = got_of budget bytes reported reported' l es failed v b h k

-- the text of the events and the closing, of which a part was held
closed : (reported₀ reported : Option (List ℕ)) (kept : List ℕ) (l : Layout) (es : List Event) (s : Sends reported₀ [] (open_text l es) reported kept) → s.0 ++ (kept ++ closing_text) ≡ json_text l es
unfolding json_text
closed reported₀ reported kept l es s = sym (append_assoc s.0 kept closing_text) ∙ ap (λ x. x ++ closing_text) s.2

open_first : (reported reported' : Option (List ℕ)) (l : Layout) (es : List Event) → AppendsPrefix reported reported' ([] ++ open_text l es) → AppendsPrefix reported reported' (json_text l es)
unfolding json_text
open_first reported reported' l es k = prefix_of_more reported reported' (open_text l es) closing_text k

-- what is answered where the sink fails before the closing, and at the closing
module _ {E : Type 0} (budget : ℕ) (left left' : Option (List ℕ)) (before now : ℕ) (later : before ≤ now) where
  pub answers_cut : (reported reported' : Option (List ℕ)) (sunk sunk' : ℕ) (f : E) (l : Layout) (es : List Event) → IfSome left (λ bytes. Begins budget bytes l es) → AppendsPrefix reported reported' ([] ++ open_text l es) → sunk ≤ sunk' → Rose sunk sunk'
      → Answers budget left left' before now reported reported' sunk sunk' (let r : Result Verdict E = Err f in r)
  answers_cut reported reported' sunk sunk' f l es front k le rose = record {
    just = tt;
    written = tt;
    cut_short = cut_within budget left reported reported' l es front (open_first reported reported' l es k);
    cause = record { later = le; failed = rose };
    unfailed = tt;
    later = later;
  }

  module _ (reported₀ reported reported' : Option (List ℕ)) (sunk₀ sunk sunk' : ℕ) (kept : List ℕ) (l : Layout) (es : List Event) (s : Sends reported₀ [] (open_text l es) reported kept) (le : sunk₀ ≤ sunk) (front : IfSome left (λ bytes. Begins budget bytes l es)) where
    pub answers_closed : (failed : Option Event) (v : Verdict) (r : Result Verdict E) → IfOk r (λ w. w ≡ v) → OnOk r (Appends reported reported' (kept ++ closing_text)) → OnErr r (AppendsPrefix reported reported' (kept ++ closing_text)) → HasCause sunk sunk' r
        → IfSome left (λ bytes. IsReadTo budget bytes l es failed v) → IsJust budget left left' before now v → (v ≢ verdict.ReadFault → now ≡ before) → Answers budget left left' before now reported₀ reported' sunk₀ sunk' r
    answers_closed failed v (Ok w) is ok err cause read just unfailed = record {
      just = subst (IsJust budget left left' before now) (sym is) just;
      written = subst (IsWritten budget left reported₀ reported') (sym is) (written_of budget left reported₀ reported' l es failed v front read (subst (Appends reported₀ reported') (closed reported₀ reported kept l es s) (appends_then reported₀ reported reported' s.0 (kept ++ closing_text) s.1 ok)));
      cut_short = tt;
      cause = cause_then (Ok w) le cause;
      unfailed = λ ne. unfailed (λ e. ne (is ∙ e));
      later = later;
    }
    answers_closed failed v (Err f) is ok err cause read just unfailed = record {
      just = tt;
      written = tt;
      cut_short = cut_within budget left reported₀ reported' l es front (subst (AppendsPrefix reported₀ reported') (closed reported₀ reported kept l es s) (prefix_past reported₀ reported reported' s.0 (kept ++ closing_text) s.1 err));
      cause = cause_then (Err f) le cause;
      unfailed = tt;
      later = later;
    }
