-- How the command ends, by what was read.
use Rattle.std.proofs.Common.{◌≡◌, inl, inr, ℕ, List, refl, sym, subst}
use Rattle.command_jobs.specs.declared.job_line.JobLine.{JobLine}
use Rattle.exact_text.specs.declared.fault.TextFault.{TextFault}
use Rattle.exact_text.specs.declared.fault.TextFault.TheVariants as fault
use Rattle.command_endings.specs.declared.status.Status.{Status}
use Rattle.command_endings.specs.declared.status.Status.TheVariants.{Done, ReadFault, SinkFault, Stopped, Memory, BadText, TooLong}
use Rattle.command_endings.specs.Changes.{Change, IsStill}
use Rattle.command_endings.specs.Printing.{Prints}
use Rattle.command_jobs.specs.Lines.{lines_of}
use Rattle.command_endings.specs.Endings.{SaysFault}
use Rattle.command_jobs.specs.Jobs.{AreValues, AreDone, Fails, IsRead, JobsAnswers, Runs}

module _ (input out notes : Change) (status : Status) where
  so : (s : Status) → status ≡ s → JobsAnswers input out notes s → JobsAnswers input out notes status
  so s e h = subst (λ (x : Status). JobsAnswers input out notes x) (sym e) h

  done : (lines : List JobLine) (values : List ℕ) → IsRead input lines → AreValues lines values → AreDone input (lines_of values)
  done lines values read are = record { lines = lines; values = values; read = read; done = are; is_text = refl }

  printed : (lines : List JobLine) (values : List ℕ) → IsRead input lines → AreValues lines values → Prints (lines_of values) Done out notes status → JobsAnswers input out notes status
  printed lines values read are (inl h) = so Done h.0 (lines_of values, done lines values read are, h.1, h.2)
  printed lines values read are (inr h) = so SinkFault h.0 (lines_of values, done lines values read are, h.1, h.2)

  -- the lines were read
  pub answered : (lines : List JobLine) → IsRead input lines → Runs lines out notes status → JobsAnswers input out notes status
  answered lines read (inl h) = printed lines h.0 read h.1 h.2
  answered lines read (inr (inl h)) = so Stopped h.1 (h.0, record { lines = lines; read = read; stops = h.2 }, h.3, h.4)
  answered lines read (inr (inr h)) = so Memory h.0 (h.1, h.2)

  -- they were not
  pub refused : (f : TextFault) → Fails input f → IsStill out → SaysFault f notes status → JobsAnswers input out notes status
  refused (fault.BadLine k) why still h = so BadText h.0 (k, why, still, h.1)
  refused fault.TooLong why still h = so TooLong h.0 (why, still, h.1)
  refused fault.Read why still h = so ReadFault h.0 (why, still, h.1)
  refused fault.Memory why still h = so Memory h.0 (still, h.1)
