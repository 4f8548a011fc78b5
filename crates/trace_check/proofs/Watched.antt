-- What holds between two events of a check that shows them.
use Rattle.std.proofs.Common.{◌≡◌, ℕ, ◌+◌, ◌-◌, ◌^◌, ◌<◌, ◌≤◌, List, [], ◌∷◌, ◌++◌, refl, sym, subst, ◌∙◌, Some, None, IfSome}
use Rattle.std.specs.List.{AllByRecursion}
use Rattle.std.specs.declared.option.Option.{Option}
use Rattle.larch_actions.specs.declared.event.Layout.{Layout}
use Rattle.larch_actions.specs.declared.event.Event.{Event}
use Rattle.larch_actions.specs.declared.event.Broken.{Broken}
use Rattle.larch_actions.specs.Layout.{IsLawful, HasNames}
use Rattle.larch_actions.specs.Actions.{Spec, Acts, Fails, IsRun, at_first}
use Rattle.larch_actions.specs.State.{Moment, spec_of, held, waiting, alerted}
use Rattle.exact_text.specs.declared.fault.TextFault.{TextFault}
use Rattle.exact_text.specs.declared.fault.TextFault.TheVariants as fault
use Rattle.trace_core.specs.ReaderState.{ReaderState}
use Rattle.trace_core.specs.Steps.{TakesHead, TakesEvent, TakesEnd}
use Rattle.trace_check.specs.Verdicts.{refusal}
use Rattle.trace_check.specs.Watching.{IsNext, Begins, IsReadTo, IsCount, IsFailing, HasSeen, HasStopped}
use Rattle.trace_check.specs.declared.checker.Summary.{Summary}
use Rattle.trace_check.specs.declared.checker.Verdict.{Verdict}
use Rattle.trace_check.specs.declared.checker.Verdict.TheVariants.{Legal, Illegal}
use Rattle.trace_check.proofs.UnderWay.{IsUnderWay, starts_on, step_on, fails_on, ends_on, prefix_read}

-- so far these events were read, they are a run, and the watcher was shown them
pub record IsWatching {W : Type 0} (keeps : W → Layout → List Event → W → Type 0) (budget : ℕ) (left₀ : Option (List ℕ)) (before : ℕ) (st : ReaderState) (now : ℕ) (m : Moment) (count : ℕ) (w : W) (l : Layout) (w' : W) : Type 0 where
  pub under_way : IsUnderWay budget left₀ before st now m count
  pub laid : l ≡ st.layout
  pub kept : keeps w l under_way.events w'

-- the events that were read stand at the front of the input, whatever becomes of the rest
cut_at : {W : Type 0} (keeps : W → Layout → List Event → W → Type 0) (budget : ℕ) (left₀ : Option (List ℕ)) (before now : ℕ) (p : ReaderState) (m : Moment) (count : ℕ) (w : W) (l : Layout) (w' : W)
    → (n : IsWatching keeps budget left₀ before p now m count w l w') → IfSome left₀ (λ bytes. Begins budget bytes l n.under_way.events)
unfolding prefix_read
cut_at keeps budget None before now p m count w l w' n = tt
cut_at keeps budget (Some bytes) before now p m count w l w' n = (prefix_read budget (Some bytes) before now p m count n.under_way bytes refl, sym n.laid, refl)

legal_at : {W : Type 0} (keeps : W → Layout → List Event → W → Type 0) (budget : ℕ) (left₀ : Option (List ℕ)) (before now : ℕ) (p : ReaderState) (m : Moment) (count : ℕ) (w : W) (l : Layout) (w' : W)
    → (n : IsWatching keeps budget left₀ before p now m count w l w') (p' : ReaderState) (s : Summary) → budget < 2 ^ 64 - 1 → TakesEnd p p' → s.events ≡ count → s.held ≡ held m.layout (spec_of m) → s.waiting ≡ waiting m.layout (spec_of m)
    → s.alerted ≡ alerted m.layout (spec_of m) → IfSome left₀ (λ bytes. IsReadTo budget bytes l n.under_way.events None (Legal s))
unfolding ends_on
legal_at keeps budget None before now p m count w l w' n p' s fits t e h a b = tt
legal_at keeps budget (Some bytes) before now p m count w l w' n p' s fits t e h a b = (ends_on budget (Some bytes) before now p p' m count s fits n.under_way t e h a b, sym n.laid, refl)

illegal_at : {W : Type 0} (keeps : W → Layout → List Event → W → Type 0) (budget : ℕ) (left₀ : Option (List ℕ)) (before now : ℕ) (p : ReaderState) (m : Moment) (count : ℕ) (w : W) (l : Layout) (w' : W)
    → (n : IsWatching keeps budget left₀ before p now m count w l w') (p' : ReaderState) (e : Event) (why : Broken) → TakesEvent p p' e → Fails (spec_of m) e why
    → IfSome left₀ (λ bytes. IsReadTo budget bytes l n.under_way.events (Some e) (Illegal count why))
unfolding fails_on
illegal_at keeps budget None before now p m count w l w' n p' e why t f = tt
illegal_at keeps budget (Some bytes) before now p m count w l w' n p' e why t f = (fails_on budget (Some bytes) before now p p' m count e why n.under_way t f, sym n.laid, refl, refl)

-- where a watcher stops, the input begins with what it was shown
pub stopped_at : {W E : Type 0} (keeps : W → Layout → List Event → W → Type 0) (stops : W → Layout → List Event → W → E → Type 0) (budget : ℕ) (left₀ : Option (List ℕ)) (before now : ℕ) (p : ReaderState) (m : Moment) (count : ℕ) (w : W) (l : Layout) (w' : W) (stop : E)
    → (u : IsUnderWay budget left₀ before p now m count) → l ≡ p.layout → stops w l u.events w' stop → HasStopped stops budget left₀ w w' stop
stopped_at keeps stops budget left₀ before now p m count w l w' stop u laid s =
    record { layout = l; events = u.events; stopped = s; front = cut_at (λ _ _ _ _. Unit {0}) budget left₀ before now p m count w l w' (record { under_way = u; laid = laid; kept = tt }) }

nothing : (left : Option (List ℕ)) → IfSome left (λ bytes. Unit {0})
nothing None = tt
nothing (Some bytes) = tt

module _ {W : Type 0} (keeps : W → Layout → List Event → W → Type 0) (budget : ℕ) (left₀ : Option (List ℕ)) (before now : ℕ) where
  pub watching_starts : (p p' : ReaderState) (l : Layout) (m : Moment) (w w' : W) → p.rest ≡ left₀ → p.room ≡ budget → p.lines ≡ 0 → TakesHead p p' l → before ≤ now → m.layout ≡ l → spec_of m ≡ at_first l.version
      → keeps w l [] w' → IsWatching keeps budget left₀ before p' now m 0 w l w'
  unfolding starts_on
  watching_starts p p' l m w w' rest room lines t le laid first kept = record {
    under_way = starts_on budget left₀ before now p p' l m rest room lines t le laid first;
    laid = sym t.layout;
    kept = kept;
  }

  pub stopped_starts : {E : Type 0} (stops : W → Layout → List Event → W → E → Type 0) (p p' : ReaderState) (l : Layout) (m : Moment) (w w' : W) (stop : E) → p.rest ≡ left₀ → p.room ≡ budget → p.lines ≡ 0 → TakesHead p p' l → before ≤ now
      → m.layout ≡ l → spec_of m ≡ at_first l.version → stops w l [] w' stop → HasStopped stops budget left₀ w w' stop
  unfolding starts_on
  stopped_starts stops p p' l m w w' stop rest room lines t le laid first stopped =
      stopped_at keeps stops budget left₀ before now p' m 0 w l w' stop (starts_on budget left₀ before now p p' l m rest room lines t le laid first) (sym t.layout) stopped

  module _ (p : ReaderState) (m : Moment) (count : ℕ) (w : W) (l : Layout) (w' : W) (n : IsWatching keeps budget left₀ before p now m count w l w') where
    pub next_is : (p' : ReaderState) (e : Event) (s' : Spec) → TakesEvent p p' e → Acts (spec_of m) e s' → IsNext l n.under_way.events count e
    next_is p' e s' t a =
        let u = n.under_way in
        let back = sym n.laid in record {
          last = spec_of m;
          next = s';
          lawful = subst IsLawful back u.lawful;
          names = subst (λ k. HasNames k e) back t.names;
          run = subst (λ (k : Layout). IsRun k.version u.events (spec_of m)) back u.run;
          acts = a;
          counted = sym u.counted;
        }

    pub watching_goes : (now' : ℕ) (p' : ReaderState) (m' : Moment) (e : Event) (w'' : W) → budget < 2 ^ 64 - 1 → TakesEvent p p' e → Acts (spec_of m) e (spec_of m') → m'.layout ≡ m.layout → now ≤ now'
        → keeps w l (n.under_way.events ++ e ∷ []) w'' → IsWatching keeps budget left₀ before p' now' m' (count + 1) w l w''
    unfolding step_on
    watching_goes now' p' m' e w'' fits t a same le kept = record {
      under_way = step_on budget left₀ before now now' p p' m m' count e fits n.under_way t a same le;
      laid = n.laid ∙ sym t.layout;
      kept = kept;
    }

    pub stopped_goes : {E : Type 0} (stops : W → Layout → List Event → W → E → Type 0) (now' : ℕ) (p' : ReaderState) (m' : Moment) (e : Event) (w'' : W) (stop : E) → budget < 2 ^ 64 - 1 → TakesEvent p p' e
        → Acts (spec_of m) e (spec_of m') → m'.layout ≡ m.layout → now ≤ now' → stops w l (n.under_way.events ++ e ∷ []) w'' stop → HasStopped stops budget left₀ w w'' stop
    unfolding step_on
    stopped_goes stops now' p' m' e w'' stop fits t a same le stopped =
        stopped_at keeps stops budget left₀ before now' p' m' (count + 1) w l w'' stop (step_on budget left₀ before now now' p p' m m' count e fits n.under_way t a same le) (n.laid ∙ sym t.layout) stopped

    seen_by : (failed : Option Event) (v : Verdict) → IsCount v count → IsFailing v l failed → IfSome left₀ (λ bytes. IsReadTo budget bytes l n.under_way.events failed v)
        → HasSeen keeps budget left₀ w l failed v w'
    seen_by failed v c f r =
        let u = n.under_way in
        let back = sym n.laid in record {
          events = u.events;
          last = spec_of m;
          lawful = subst IsLawful back u.lawful;
          named = subst (λ k. AllByRecursion (HasNames k) u.events) back u.named;
          run = subst (λ (k : Layout). IsRun k.version u.events (spec_of m)) back u.run;
          kept = n.kept;
          counted = subst (IsCount v) (sym u.counted) c;
          fails = f;
          front = cut_at keeps budget left₀ before now p m count w l w' n;
          read = r;
        }

    legal_read : (p' : ReaderState) (s : Summary) → budget < 2 ^ 64 - 1 → TakesEnd p p' → s.events ≡ count → s.held ≡ held m.layout (spec_of m) → s.waiting ≡ waiting m.layout (spec_of m)
        → s.alerted ≡ alerted m.layout (spec_of m) → IfSome left₀ (λ bytes. IsReadTo budget bytes l n.under_way.events None (Legal s))
    legal_read p' s fits t e h a b = legal_at keeps budget left₀ before now p m count w l w' n p' s fits t e h a b

    pub seen_legal : (p' : ReaderState) (s : Summary) → budget < 2 ^ 64 - 1 → TakesEnd p p' → s.events ≡ count → s.held ≡ held m.layout (spec_of m) → s.waiting ≡ waiting m.layout (spec_of m)
        → s.alerted ≡ alerted m.layout (spec_of m) → HasSeen keeps budget left₀ w l None (Legal s) w'
    seen_legal p' s fits t e h a b = seen_by None (Legal s) e refl (legal_read p' s fits t e h a b)

    pub seen_illegal : (p' : ReaderState) (e : Event) (why : Broken) → TakesEvent p p' e → Fails (spec_of m) e why → HasSeen keeps budget left₀ w l (Some e) (Illegal count why) w'
    seen_illegal p' e why t f = seen_by (Some e) (Illegal count why) refl (e, refl, subst (λ k. HasNames k e) (sym n.laid) t.names) (illegal_at keeps budget left₀ before now p m count w l w' n p' e why t f)

    pub seen_cut : (f : TextFault) → HasSeen keeps budget left₀ w l None (refusal f) w'
    seen_cut (fault.BadLine k) = seen_by None (refusal (fault.BadLine k)) tt refl (nothing left₀)
    seen_cut a = seen_by None (refusal a) tt refl (nothing left₀)
