-- The one verdict that is just, where there is one.
use Rattle.std.proofs.Common.{◌≡◌, ◌≢◌, ℕ, ◌-◌, ◌^◌, ◌<◌, List, Some, Result, Ok, Err, IfOk}
use Rattle.std.specs.declared.option.Option.{Option}
use Rattle.trace_check.specs.declared.checker.Found.{Found}
use Rattle.trace_check.specs.declared.checker.Verdict.{Verdict}
use Rattle.trace_check.specs.declared.checker.Verdict.TheVariants.{ReadFault}
use Rattle.trace_check.specs.Verdicts.{IsJust}
use Rattle.trace_check.proofs.Unique.{exact_at}

module _ {E : Type 0} (budget : ℕ) (left left' : Option (List ℕ)) (before now : ℕ) where
  pub exact_if : (r : Result Verdict E) → budget < 2 ^ 64 - 1 → IfOk r (λ v. IsJust budget left left' before now v)
      → IfOk r (λ v. (bytes : List ℕ) (other : Verdict) → left ≡ Some bytes → v ≢ ReadFault → other ≢ ReadFault → IsJust budget left left' before now other → v ≡ other)
  exact_if (Ok v) fits j = λ bytes other reported a b k. exact_at budget left left' before now bytes v other fits reported a b j k
  exact_if (Err e) fits j = tt

  pub exact_found : (r : Result Found E) → budget < 2 ^ 64 - 1 → IfOk r (λ f. IsJust budget left left' before now f.verdict)
      → IfOk r (λ f. (bytes : List ℕ) (other : Verdict) → left ≡ Some bytes → f.verdict ≢ ReadFault → other ≢ ReadFault → IsJust budget left left' before now other → f.verdict ≡ other)
  exact_found (Ok f) fits j = λ bytes other reported a b k. exact_at budget left left' before now bytes f.verdict other fits reported a b j k
  exact_found (Err e) fits j = tt
