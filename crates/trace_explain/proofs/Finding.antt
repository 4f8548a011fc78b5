-- What is found by a check that notes the events.
use Rattle.std.proofs.Common.{◌≡◌, ℕ, ◌+◌, List, [], ◌∷◌, ◌++◌, length, refl, ap, sym, subst, ◌∙◌, Some, None, arith}
use Rattle.std.specs.declared.option.Option.{Option}
use Rattle.larch_actions.specs.declared.event.Layout.{Layout}
use Rattle.larch_actions.specs.declared.event.Event.{Event}
use Rattle.larch_actions.specs.declared.event.Broken.{Broken}
use Rattle.exact_text.specs.declared.fault.TextFault.{TextFault}
use Rattle.exact_text.specs.declared.fault.TextFault.TheVariants as fault
use Rattle.trace_check.specs.declared.checker.Verdict.{Verdict}
use Rattle.trace_check.specs.declared.checker.Verdict.TheVariants.{Legal, Illegal, BadLine, TooLong, ReadFault}
use Rattle.trace_check.specs.Verdicts.{refusal}
use Rattle.trace_check.specs.Watching.{IsNext, HasWatched}
use Rattle.trace_board.specs.Tracked.{Tracked, tracked_after, tracked_since, extended}
use Rattle.trace_board.proofs.Extended.{extended-push, length-extended}
use Rattle.trace_board.proofs.Noting.{noted}
use Rattle.trace_explain.specs.Explained.{IsFailure, IsExplainable}

-- one more event
pub finding_steps : (l : Layout) (es : List Event) (place : ℕ) (e : Event) (k k' : Tracked) → IsNext l es place e → k ≡ tracked_since (extended [] es) → k' ≡ tracked_after place e k → k' ≡ tracked_since (extended [] (es ++ e ∷ []))
finding_steps l es place e k k' next was turns =
    let n : length (extended [] es) ≡ place = omega (arith, length-extended [] es, next.counted) in
    turns ∙ (λ i. tracked_after (sym n i) e (was i)) ∙ ap tracked_since (sym (extended-push [] es e))

-- no refusal is illegal
abbrev is_illegal : Verdict → Type 0
is_illegal (Illegal place why) = Unit {0}
is_illegal _ = ⊥

never_illegal : (place : ℕ) (why : Broken) (f : TextFault) → Illegal place why ≡ refusal f → ⊥
never_illegal place why (fault.BadLine k) e = subst is_illegal e tt
never_illegal place why fault.TooLong e = subst is_illegal e tt
never_illegal place why fault.Read e = subst is_illegal e tt
never_illegal place why fault.Memory e = subst is_illegal e tt

module _ {W : Type 0} (keeps : W → Layout → List Event → W → Type 0) (budget : ℕ) (w w' : W) (k : Tracked) (kept : (l : Layout) (es : List Event) → keeps w l es w' → k ≡ tracked_since (extended [] es)) where
  -- an event that fails is the input's
  pub failure_of : (left : Option (List ℕ)) (v : Verdict) (layout : Option Layout) (failed : Option Event) → HasWatched keeps budget left w layout failed v w' → IsFailure budget left v k layout failed
  failure_of None (Illegal place why) layout failed h = tt
  failure_of (Some bytes) (Illegal place why) None failed h = absurd (never_illegal place why h.2.0 h.2.1)
  failure_of (Some bytes) (Illegal place why) (Some l) failed h =
      let t = h.read in (t.0, ap Some (sym t.1), t.3, kept l h.events h.kept ∙ ap (λ es. tracked_since (extended [] es)) (sym t.2))
  failure_of left (Legal s) layout failed h = tt
  failure_of left (BadLine n) layout failed h = tt
  failure_of left TooLong layout failed h = tt
  failure_of left ReadFault layout failed h = tt

  pub explainable_of : (left : Option (List ℕ)) (v : Verdict) (layout : Option Layout) (failed : Option Event) → HasWatched keeps budget left w layout failed v w' → IsExplainable v layout failed
  explainable_of left (Illegal place why) None failed h = absurd (never_illegal place why h.2.0 h.2.1)
  explainable_of left (Illegal place why) (Some l) failed h = let f = h.fails in (l, f.0, refl, f.1, noted l f.0 h.lawful f.2)
  explainable_of left (Legal s) layout failed h = tt
  explainable_of left (BadLine n) layout failed h = tt
  explainable_of left TooLong layout failed h = tt
  explainable_of left ReadFault layout failed h = tt
