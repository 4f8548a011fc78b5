-- What is kept of the events of a trace that are shown.
use Rattle.std.proofs.Common.{◌≡◌, ℕ, ◌+◌, ◌-◌, ◌^◌, ◌<◌, ◌≤◌, List, [], ◌∷◌, ◌++◌, length, refl, sym, subst, Some, None, IfSome, arith, Bool, true}
use Rattle.std.specs.declared.option.Option.{Option}
use mathlib.Core.Option.{some, some-injective, some-ne-none}
use Rattle.larch_actions.specs.declared.event.Version.{Version}
use Rattle.larch_actions.specs.declared.event.Layout.{Layout}
use Rattle.larch_actions.specs.declared.kind.Kind.TheVariants.{Thread}
use Rattle.larch_actions.proofs.Names.{few_of}
use Rattle.larch_actions.specs.declared.event.Event.{Event}
use Rattle.larch_actions.specs.declared.event.Action.{Action}
use Rattle.larch_actions.specs.declared.event.Action.TheVariants.{Acquire, Release, Enqueue, Resume, AlertEnqueue, AlertReturn, AlertRaise}
use Rattle.larch_actions.specs.Layout.{IsLawful, HasNames, IsNamed}
use Rattle.larch_actions.specs.Actions.{Spec, Acts, IsRun, at_first}
use Rattle.exact_text.specs.declared.fault.TextFault.{TextFault}
use Rattle.exact_text.specs.declared.fault.TextFault.TheVariants as fault
use Rattle.trace_check.specs.declared.checker.Summary.{Summary}
use Rattle.trace_check.specs.declared.checker.Verdict.{Verdict}
use Rattle.trace_check.specs.declared.checker.Verdict.TheVariants.{Legal}
use Rattle.trace_check.specs.Verdicts.{refusal}
use Rattle.trace_check.specs.Watching.{IsNext, IsReadTo, HasWatched}
use Rattle.trace_check.proofs.Runs.{leads-split}
use Rattle.lock_order.specs.declared.lock_graph.LockGraph.{LockGraph}
use Rattle.lock_order.specs.declared.answer.OrderAnswer.{OrderAnswer}
use Rattle.lock_order.specs.declared.answer.OrderAnswer.TheVariants.{NoCycle, Found}
use Rattle.lock_order.specs.Order.{got}
use Rattle.lock_order.specs.Answers.{IsLegalTrace, IsJustAnswer}
use Rattle.lock_order.specs.Kept.{given, HasPlace, IsKept, IsOrderOf, IsNoted, KeepsEdges}

-- one more event
pub nested_goes : (first : LockGraph) (l : Layout) (es : List Event) (on : Bool) (k k' : LockGraph) (place : ℕ) (e : Event) → KeepsEdges first l es on k → IsNext l es place e
    → (on ≡ true → (xs : List Event) (s s' : Spec) → place ≡ length xs → Acts s e s' → IsKept xs s k → IsKept (xs ++ e ∷ []) s' k') → KeepsEdges first l (es ++ e ∷ []) on k'
nested_goes first l es on k k' place e kept n notes = λ new wanted s' run.
    let p = leads-split (at_first l.version) s' es (e ∷ []) run in
    notes wanted es p.0 s' n.counted (subst (λ (z : Spec). Acts p.0 e z) p.2.2 p.2.1) (kept new wanted p.0 p.1)

legal_of : (budget : ℕ) (bytes : List ℕ) (l : Layout) (es : List Event) (failed : Option Event) (s : Summary) → IsReadTo budget bytes l es failed (Legal s) → IsLegalTrace budget bytes es
legal_of budget bytes l es failed s (t, laid, same) =
    subst (IsLegalTrace budget bytes) same (record { layout = t.layout; values = t.values; text = t.text; within = t.within; legal = (t.last, t.run) })

legal_if : (budget : ℕ) (left : Option (List ℕ)) (l : Layout) (es : List Event) (failed : Option Event) (s : Summary) → IfSome left (λ bytes. IsReadTo budget bytes l es failed (Legal s)) → IfSome left (λ bytes. IsLegalTrace budget bytes es)
legal_if budget None l es failed s h = tt
legal_if budget (Some bytes) l es failed s h = legal_of budget bytes l es failed s h

-- no refusal is legal
abbrev is_legal : Verdict → Type 0
is_legal (Legal s) = Unit {0}
is_legal _ = ⊥

never_legal : (s : Summary) (f : TextFault) → Legal s ≡ refusal f → ⊥
never_legal s (fault.BadLine k) e = subst is_legal e tt
never_legal s _ e = subst is_legal e tt

-- of a legal trace it is kept what it nests
pub noted_of : {W : Type 0} (keeps : W → Layout → List Event → W → Type 0) (budget : ℕ) (left : Option (List ℕ)) (w : W) (layout : Option Layout) (failed : Option Event) (s : Summary) (w' : W) (k : LockGraph)
    → ((l : Layout) (es : List Event) → keeps w l es w' → (now : Spec) → IsRun l.version es now → IsKept es now k) → HasWatched keeps budget left w layout failed (Legal s) w' → IsNoted budget left (Legal s) k
noted_of keeps budget left w None failed s w' k kept h = absurd (never_legal s h.2.0 h.2.1)
noted_of keeps budget left w (Some l) failed s w' k kept h =
    (h.events, h.last, kept l h.events h.kept h.last h.run, h.counted, legal_if budget left l h.events failed s h.read)

-- the answer on a legal trace is just
pub order_just : (budget : ℕ) (left left' : Option (List ℕ)) (before now : ℕ) (s : Summary) (k : LockGraph) (a : OrderAnswer) → (n : IsNoted budget left (Legal s) k) → IsOrderOf n.0 a → IsJustAnswer budget left left' before now a
order_just budget None left' before now s k (NoCycle i) n h = tt
order_just budget (Some bytes) left' before now s k (NoCycle i) n h = (n.0, n.4, h.0, h.1)
order_just budget None left' before now s k (Found c) n h = tt
order_just budget (Some bytes) left' before now s k (Found c) n h = (n.0, n.4, h)
order_just budget left left' before now s k _ n h = absurd h

named_got : (l : Layout) (a : Action) (m : ℕ) → IsNamed l a → got a ≡ some m → m < l.mutexes
named_got l (Acquire n) m h e = subst (λ z. z < l.mutexes) (some-injective n.0 m e) h
named_got l (Resume n c) m h e = subst (λ z. z < l.mutexes) (some-injective n.0 m e) h.0
named_got l (AlertReturn n c) m h e = subst (λ z. z < l.mutexes) (some-injective n.0 m e) h.0
named_got l (AlertRaise n c) m h e = subst (λ z. z < l.mutexes) (some-injective n.0 m e) h.0
named_got l _ m h e = absurd (some-ne-none m (sym e))

named_given : (l : Layout) (a : Action) (m : ℕ) → IsNamed l a → given a ≡ some m → m < l.mutexes
named_given l (Release n) m h e = subst (λ z. z < l.mutexes) (some-injective n.0 m e) h
named_given l (Enqueue n c) m h e = subst (λ z. z < l.mutexes) (some-injective n.0 m e) h.0
named_given l (AlertEnqueue n c) m h e = subst (λ z. z < l.mutexes) (some-injective n.0 m e) h.0
named_given l _ m h e = absurd (some-ne-none m (sym e))

-- lawful names have a place in the tables
pub has_place : (l : Layout) (e : Event) → IsLawful l → HasNames l e → HasPlace e
has_place l e ok named =
    let t = few_of l ok Thread in
    let m = ok.mutexes in
    let thread = named.0 in record {
      thread = omega arith;
      gets = λ n h. let low = named_got l e.action n named.1 h in omega arith;
      gives = λ n h. let low = named_given l e.action n named.1 h in omega arith;
    }
