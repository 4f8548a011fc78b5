-- From what was found to what was told.
use Rattle.std.proofs.Common.{◌≡◌, ℕ, List, refl, subst, sym, Some, None, Result, Ok, Err, IfOk}
use Rattle.std.specs.Prelude.{OnOk, OnErr}
use Rattle.std.specs.declared.option.Option.{Option}
use Rattle.std.specs.Io.KnownBytes.{Appends}
use Rattle.firefly_outside.specs.Causes.{AppendsPrefix}
use Rattle.larch_actions.specs.declared.event.Layout.{Layout}
use Rattle.larch_actions.specs.declared.event.Event.{Event}
use Rattle.trace_check.specs.declared.checker.Verdict.{Verdict}
use Rattle.trace_check.specs.declared.checker.Verdict.TheVariants.{Legal, Illegal, BadLine, TooLong, ReadFault}
use Rattle.trace_check.specs.declared.checker.Found.{Found}
use Rattle.trace_check.specs.Verdicts.{IsJust}
use Rattle.trace_board.specs.Tracked.{Tracked}
use Rattle.trace_explain.specs.Words.{text_of, text_found}
use Rattle.trace_explain.specs.Explained.{Explains, GotText, GotPrefix, IsFailure}

-- the text for what was found explains its verdict
explains : (budget : ℕ) (left : Option (List ℕ)) (v : Verdict) (k : Tracked) (layout : Option Layout) (failed : Option Event) → IsFailure budget left v k layout failed → Explains budget left v (text_of v k layout failed)
explains budget left (Legal s) k layout failed h = refl
explains budget None (Illegal place why) k layout failed h = tt
explains budget (Some bytes) (Illegal place why) k layout failed h = (h.0, λ i. text_of (Illegal place why) (h.3 i) (h.1 i) (h.2 i))
explains budget left (BadLine n) k layout failed h = refl
explains budget left TooLong k layout failed h = refl
explains budget left ReadFault k layout failed h = refl

module _ {E : Type 0} (budget : ℕ) (left : Option (List ℕ)) (reported reported' : Option (List ℕ)) (k : Tracked) (found : Found) (h : IsFailure budget left found.verdict k found.layout found.failed) where
  pub reported_ok : (r : Result Verdict E) → IfOk r (λ v. v ≡ found.verdict) → OnOk r (Appends reported reported' (text_found k found)) → IfOk r (λ v. GotText budget left reported reported' v)
  reported_ok (Ok v) e a = (text_found k found, subst (λ x. Explains budget left x (text_found k found)) (sym e) (explains budget left found.verdict k found.layout found.failed h), a)
  reported_ok (Err f) e a = tt

  pub reported_err : (left' : Option (List ℕ)) (before now : ℕ) (r : Result Verdict E) → IsJust budget left left' before now found.verdict → OnErr r (AppendsPrefix reported reported' (text_found k found))
      → OnErr r (GotPrefix budget left left' before now reported reported')
  reported_err left' before now (Ok v) j a = tt
  reported_err left' before now (Err f) j a = (found.verdict, j, (text_found k found, explains budget left found.verdict k found.layout found.failed h, a))
