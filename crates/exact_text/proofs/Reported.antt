-- What a count of faults tells after a call, and after several.
use Rattle.std.proofs.Common.{◌≡◌, ℕ, ◌≤◌, Result, Ok, Err, refl, ◌∙◌, subst, arith}
use Rattle.exact_text.specs.declared.fault.TextFault.{TextFault}
use Rattle.exact_text.specs.declared.fault.TextFault.TheVariants.{Read}
use Rattle.exact_text.specs.Intake.{IsReported}

-- the count is as it was
pub same_reported : {T : Type 0} (before now : ℕ) (r : Result T TextFault) → now ≡ before → IsReported before now r
same_reported before now (Ok x) e = record { later = omega (arith, e); unfailed = e; otherwise = tt }
same_reported before now (Err f) e = record { later = omega (arith, e); unfailed = tt; otherwise = λ other. e }

-- a read failed
pub read_reported : {T : Type 0} (before now : ℕ) → before ≤ now → IsReported {T = T} before now (Err Read)
read_reported before now le = record { later = le; unfailed = tt; otherwise = λ other. absurd (other refl) }

-- what a call reports after one that left the count
pub then_reported : {T : Type 0} (first before now : ℕ) (r : Result T TextFault) → before ≡ first → IsReported before now r → IsReported first now r
then_reported first before now r e h = subst (λ n. IsReported n now r) e h

-- its fault, told by a call that gives something else
pub fault_reported : {T U : Type 0} (first before now : ℕ) (f : TextFault) → before ≡ first → IsReported {T = T} before now (Err f) → IsReported {T = U} first now (Err f)
fault_reported first before now f e h = record { later = omega (arith, e, h.later); unfailed = tt; otherwise = λ other. h.otherwise other ∙ e }
