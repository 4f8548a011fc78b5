-- Texts that the checker finds legal.
use Rattle.std.specs.Prelude.{◌≡◌, ◌≢◌, ℕ, ◌-◌, ◌^◌, ◌<◌, ◌≤◌, List, length, Some}
use Rattle.std.specs.declared.option.Option.{Option}
use Rattle.trace_check.specs.declared.checker.Summary.{Summary}
use Rattle.trace_check.specs.declared.checker.Verdict.{Verdict}
use Rattle.trace_check.specs.declared.checker.Verdict.TheVariants.{Legal, ReadFault}
use Rattle.trace_check.specs.Verdicts.{IsJust}

-- the verdict on the bytes is just, whatever a source that gives them does beside
abbrev pub IsJustOf : ℕ → List ℕ → Verdict → Type 0
IsJustOf budget bytes v = (left : Option (List ℕ)) (before now : ℕ) → IsJust budget (Some bytes) left before now v

-- Of these bytes the checker finds, within its budget, that they are legal, that no mutex is held and that no thread is in a wait. No other verdict is just.
abbrev pub IsAccepted : List ℕ → Type 0
IsAccepted bytes = (budget : ℕ) → length bytes ≤ budget → budget < 2 ^ 64 - 1
    → (s : Summary) × (s.held ≡ 0) × (s.waiting ≡ 0) × IsJustOf budget bytes (Legal s)
    × ((v : Verdict) (left : Option (List ℕ)) (before now : ℕ) → v ≢ ReadFault → IsJust budget (Some bytes) left before now v → v ≡ Legal s)
