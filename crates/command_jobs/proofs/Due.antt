-- One way to end is due on an input that tells its bytes.
use Rattle.std.proofs.Common.{◌≡◌, ◌≢◌, ◌⊎◌, inl, inr, ℕ, ◌-◌, List, Some, refl, sym, subst, arith}
use Rattle.std.specs.Prelude.{IfSome}
use Rattle.std.specs.declared.option.Option.{Option}
use Rattle.command_jobs.specs.declared.job_line.JobLine.{JobLine}
use Rattle.command_jobs.specs.JobLines.{ReadsAs}
use Rattle.exact_text.specs.declared.fault.TextFault.TheVariants as fault
use Rattle.exact_text.specs.Exact.{IsShown, IsTooLong, lines_room}
use Rattle.command_jobs.specs.JobLines.{IsJobs, most_lines}
use Rattle.command_jobs.proofs.JobTexts.{is_decided, text_or_bad, text_or_long}
use Rattle.command_endings.specs.declared.status.Status.{Status}
use Rattle.command_endings.specs.declared.status.Status.TheVariants.{Done, Usage, ReadFault, SinkFault, Stopped, Memory, Illegal, BadText, TooMany, TooLong}
use Rattle.command_endings.specs.Changes.{Change}
use Rattle.command_jobs.specs.Jobs.{AreDone, Fails, IsDue, IsRead, IsStopped, JobsAnswers, StopsAt}
use Rattle.command_jobs.proofs.Ran.{no_stop}

module _ (bytes : List ℕ) where
  -- the lines of one text stop or don't
  stops_so : (xs ys : List JobLine) (k : ℕ) → ReadsAs bytes xs → ReadsAs bytes ys → StopsAt ys k → StopsAt xs k
  stops_so xs ys k p q s = subst (λ (l : List JobLine). StopsAt l k) (is_decided.one_list bytes ys xs q p) s

  done_stopped : IsDue bytes Done → IsDue bytes Stopped → ⊥
  done_stopped h g = h.3 g.3.0 (stops_so h.0 g.0 g.3.0 h.1 g.1 g.3.1)

  due_done : (t : Status) → IsDue bytes Done → IsDue bytes t → Done ≡ t
  due_done Done h g = refl
  due_done Stopped h g = absurd (done_stopped h g)
  due_done BadText h g = absurd (text_or_bad bytes h.0 h.1 h.2 g.0 g.1)
  due_done TooLong h g = absurd (text_or_long bytes h.0 h.1 h.2 g)
  due_done t h g = absurd g

  due_stopped : (t : Status) → IsDue bytes Stopped → IsDue bytes t → Stopped ≡ t
  due_stopped Done h g = absurd (done_stopped g h)
  due_stopped Stopped h g = refl
  due_stopped BadText h g = absurd (text_or_bad bytes h.0 h.1 h.2 g.0 g.1)
  due_stopped TooLong h g = absurd (text_or_long bytes h.0 h.1 h.2 g)
  due_stopped t h g = absurd g

  due_bad : (t : Status) → IsDue bytes BadText → IsDue bytes t → BadText ≡ t
  due_bad Done h g = absurd (text_or_bad bytes g.0 g.1 g.2 h.0 h.1)
  due_bad Stopped h g = absurd (text_or_bad bytes g.0 g.1 g.2 h.0 h.1)
  due_bad BadText h g = refl
  due_bad TooLong h g = absurd (is_decided.one_answer.bad_or_long bytes h.0 h.1 g)
  due_bad t h g = absurd g

  due_long : (t : Status) → IsDue bytes TooLong → IsDue bytes t → TooLong ≡ t
  due_long Done h g = absurd (text_or_long bytes g.0 g.1 g.2 h)
  due_long Stopped h g = absurd (text_or_long bytes g.0 g.1 g.2 h)
  due_long BadText h g = absurd (is_decided.one_answer.bad_or_long bytes g.0 g.1 h)
  due_long TooLong h g = refl
  due_long t h g = absurd g

module _ (input : Change) (bytes : List ℕ) (reported : input.old ≡ Some bytes) where
  at_bytes : (P : List ℕ → Type 0) → IfSome input.old P → P bytes
  at_bytes P h = subst (λ (o : Option (List ℕ)). IfSome o P) reported h

  reads : (lines : List JobLine) → IsRead input lines → ReadsAs bytes lines
  reads lines h = at_bytes (λ b. ReadsAs b lines) h.whole

  done : (text : List ℕ) → AreDone input text → IsDue bytes Done
  done text h = (h.lines, reads h.lines h.read, h.read.few, λ k s. no_stop h.lines h.values k h.done s)

  stopped : (k : ℕ) → IsStopped input k → IsDue bytes Stopped
  stopped k h = (h.lines, reads h.lines h.read, h.read.few, (k, h.stops))

  -- a reason names the line itself
  shown : (k : ℕ) → Fails input (fault.BadLine k) → IfSome input.old (λ b. IsShown IsJobs (lines_room most_lines b) b k)
  shown k h = let same : k - 0 ≡ k = omega arith in let P : ℕ → Type 0 = λ j. IfSome input.old (λ b. IsShown IsJobs (lines_room most_lines b) b j) in subst P same h.1

  -- the status is the one that is due
  pub decided : (out notes : Change) (status due : Status) → JobsAnswers input out notes status → status ≢ Memory → status ≢ ReadFault → IsDue bytes due → (status ≡ due) ⊎ ((due ≡ Done) × (status ≡ SinkFault))
  decided out notes Done due h m r g = inl (due_done bytes due (done h.0 h.1) g)
  decided out notes SinkFault due h m r g = inr (sym (due_done bytes due (done h.0 h.1) g), refl)
  decided out notes Stopped due h m r g = inl (due_stopped bytes due (stopped h.0 h.1) g)
  decided out notes BadText due h m r g = inl (due_bad bytes due (h.0, at_bytes (λ b. IsShown IsJobs (lines_room most_lines b) b h.0) (shown h.0 h.1)) g)
  decided out notes TooLong due h m r g = inl (due_long bytes due (at_bytes (λ b. IsTooLong IsJobs (lines_room most_lines b) b) h.0) g)
  decided out notes Memory due h m r g = absurd (m refl)
  decided out notes ReadFault due h m r g = absurd (r refl)
  decided out notes _ due h m r g = absurd h
