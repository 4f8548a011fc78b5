-- The status of the one verdict that is just.
use Rattle.std.proofs.Common.{◌≡◌, ◌≢◌, ◌⊎◌, inl, inr, List, ℕ, refl, subst, sym}
use Rattle.trace_check.specs.declared.checker.Summary.{Summary}
use Rattle.trace_check.specs.declared.checker.Verdict.{Verdict}
use Rattle.trace_check.specs.declared.checker.Verdict.TheVariants as verdict
use Rattle.larch_actions.specs.declared.event.Broken.{Broken}
use Rattle.command_endings.specs.declared.status.Status.{Status}
use Rattle.command_endings.specs.declared.status.Status.TheVariants.{Done, SinkFault}
use Rattle.command_endings.specs.Changes.{Change, Gets, IsStill}
use Rattle.command_endings.specs.Printing.{Prints}
use Rattle.command_check.specs.Check.{CheckAnswers}
use Rattle.command_check.specs.VerdictEndings.{Finds, NotesFor, status_of}
use Rattle.command_check.specs.Lines.{legal_line}

-- the status is that of the verdict, or the sink failed
abbrev pub Fits : Status → Verdict → Type 0
Fits status v = (status ≡ status_of v) ⊎ (status ≡ SinkFault)

pub found_by : (status : Status) (v w : Verdict) → v ≡ w → Fits status v → Fits status w
found_by status v w e h = subst (λ (z : Verdict). Fits status z) e h

pub printed : (line : List ℕ) (status : Status) (out notes : Change) (answer : Status) → Prints line status out notes answer → (answer ≡ status) ⊎ (answer ≡ SinkFault)
printed line status out notes answer (inl h) = inl h.0
printed line status out notes answer (inr h) = inr h.0

-- the line of a verdict that is legal and just was printed
pub legal_printed : (input out notes : Change) (s : Summary) (line : List ℕ) (answer : Status) → Finds input (verdict.Legal s) → line ≡ legal_line s → Prints line Done out notes answer → CheckAnswers input out notes answer
legal_printed input out notes s line answer found is (inl h) = subst (λ (a : Status). CheckAnswers input out notes a) (sym h.0) (s, found, subst (Gets out) is h.1, h.2)
legal_printed input out notes s line answer found is (inr h) = subst (λ (a : Status). CheckAnswers input out notes a) (sym h.0) (line, inl (s, found, is), h.1, h.2)

-- these verdicts are not that the source failed
pub legal_read : (s : Summary) → verdict.Legal s ≢ verdict.ReadFault
legal_read s e = cc

pub illegal_read : (place : ℕ) (why : Broken) → verdict.Illegal place why ≢ verdict.ReadFault
illegal_read place why e = cc

-- a verdict on an input that can't be read, with its status and its message
pub reported_answers : (input out notes : Change) (v : Verdict) (answer : Status) → ((s : Summary) → v ≢ verdict.Legal s) → ((place : ℕ) (why : Broken) → v ≢ verdict.Illegal place why) → Finds input v
    → IsStill out → NotesFor notes v → answer ≡ status_of v → CheckAnswers input out notes answer
reported_answers input out notes (verdict.Legal s) answer legal illegal found still said is = absurd (legal s refl)
reported_answers input out notes (verdict.Illegal place why) answer legal illegal found still said is = absurd (illegal place why refl)
reported_answers input out notes (verdict.BadLine k) answer legal illegal found still said is = subst (λ (a : Status). CheckAnswers input out notes a) (sym is) (k, found, still, said)
reported_answers input out notes verdict.TooLong answer legal illegal found still said is = subst (λ (a : Status). CheckAnswers input out notes a) (sym is) (found, still, said)
reported_answers input out notes verdict.ReadFault answer legal illegal found still said is = subst (λ (a : Status). CheckAnswers input out notes a) (sym is) (found, still, said)
