-- The results of the command `jobs`.
use Rattle.std.specs.Prelude.{◌≡◌, ◌≢◌, ◌⊎◌, ℕ, ◌≤◌, List, map, length, slice_get, Some, IfSome}
use Rattle.std.specs.Io.KnownBytes.{IsAtEnd}
use Rattle.command_jobs.specs.declared.job_line.JobLine.{JobLine}
use Rattle.command_jobs.specs.declared.job_line.JobLine.TheVariants as line
use Rattle.exact_text.specs.declared.fault.TextFault.{TextFault}
use Rattle.exact_text.specs.declared.fault.TextFault.TheVariants as fault
use Rattle.exact_text.specs.Exact.{HasReason, OrMemory, IsShown, IsTooLong, lines_room}
use Rattle.command_jobs.specs.JobLines.{IsJobs, ReadsAs, most_lines}
use Rattle.job_pool.specs.declared.job.Work.TheVariants.{Value}
use Rattle.job_pool.specs.declared.pool_end.PoolEnd.{PoolEnd}
use Rattle.job_pool.specs.declared.pool_end.PoolEnd.TheVariants as pool
use Rattle.command_endings.specs.declared.status.Status.{Status}
use Rattle.command_endings.specs.declared.status.Status.TheVariants.{Done, Usage, ReadFault, SinkFault, Stopped, Memory, Illegal, BadText, TooMany, TooLong}
use Rattle.command_endings.specs.Changes.{Change, IsStill, Gets, GetsPrefix, Notes}
use Rattle.command_endings.specs.Messages.{input_fault_message, output_fault_message, stopped_by_message, memory_message, bad_line_message, too_long_message}
use Rattle.command_endings.specs.Printing.{Prints}
use Rattle.command_jobs.specs.Lines.{lines_of}
use Rattle.command_jobs.specs.Values.{work_of}

-- each value is that of the line in its place, so no line is `stop`
abbrev pub AreValues : List JobLine → List ℕ → Type 0
AreValues lines values = map work_of lines ≡ map (λ v. Value v) values

-- the line at the place k, counted from 0, is `stop`
abbrev pub StopsAt : List JobLine → ℕ → Type 0
StopsAt lines k = slice_get lines k ≡ Some line.Stop

-- how the pool that ran the jobs of these lines ended
abbrev pub HaveRun : List JobLine → PoolEnd → Type 0
HaveRun lines (pool.Done values) = AreValues lines values.items
HaveRun lines (pool.Stopped k) = StopsAt lines k
HaveRun lines pool.Memory = Unit {0}

-- the jobs of these lines were run and their values printed; or one has stopped the others; or
-- memory ran out
abbrev pub Runs : List JobLine → Change → Change → Status → Type 0
Runs lines out notes status =
    ((values : List ℕ) × AreValues lines values × Prints (lines_of values) Done out notes status)
    ⊎ (((k : ℕ) × (status ≡ Stopped) × StopsAt lines k × IsStill out × Notes notes (stopped_by_message k))
    ⊎ ((status ≡ Memory) × IsStill out × Notes notes memory_message))

-- the whole input is the text of these lines
pub record IsRead (input : Change) (lines : List JobLine) : Type 0 where
  pub few : length lines ≤ most_lines
  pub whole : IfSome input.old (λ bytes. ReadsAs bytes lines)
  pub end : IsAtEnd input.new

-- the text has the value of each line of the input, after its place
pub record AreDone (input : Change) (text : List ℕ) : Type 0 where
  pub lines : List JobLine
  pub values : List ℕ
  pub read : IsRead input lines
  pub done : AreValues lines values
  pub is_text : text ≡ lines_of values

-- the line at the place k of the input is `stop`
pub record IsStopped (input : Change) (k : ℕ) : Type 0 where
  pub lines : List JobLine
  pub read : IsRead input lines
  pub stops : StopsAt lines k

-- why the lines aren't read
abbrev pub Fails : Change → TextFault → Type 0
Fails input f = OrMemory (HasReason IsJobs (lines_room most_lines) 0 input.old input.new input.before input.now) f

-- the cause of each status
abbrev pub JobsAnswers : Change → Change → Change → Status → Type 0
JobsAnswers input out notes Done = (text : List ℕ) × AreDone input text × Gets out text × IsStill notes
JobsAnswers input out notes SinkFault = (text : List ℕ) × AreDone input text × GetsPrefix out text × Notes notes output_fault_message
JobsAnswers input out notes Stopped = (k : ℕ) × IsStopped input k × IsStill out × Notes notes (stopped_by_message k)
JobsAnswers input out notes BadText = (k : ℕ) × Fails input (fault.BadLine k) × IsStill out × Notes notes (bad_line_message k)
JobsAnswers input out notes TooLong = Fails input fault.TooLong × IsStill out × Notes notes too_long_message
JobsAnswers input out notes ReadFault = Fails input fault.Read × IsStill out × Notes notes input_fault_message
JobsAnswers input out notes Memory = IsStill out × Notes notes memory_message
JobsAnswers input out notes Usage = ⊥
JobsAnswers input out notes Illegal = ⊥
JobsAnswers input out notes TooMany = ⊥

-- how the command is to end on an input of these bytes
abbrev pub IsDue : List ℕ → Status → Type 0
IsDue bytes Done = (lines : List JobLine) × ReadsAs bytes lines × (length lines ≤ most_lines) × ((k : ℕ) → ¬ StopsAt lines k)
IsDue bytes Stopped = (lines : List JobLine) × ReadsAs bytes lines × (length lines ≤ most_lines) × ((k : ℕ) × StopsAt lines k)
IsDue bytes BadText = (k : ℕ) × IsShown IsJobs (lines_room most_lines bytes) bytes k
IsDue bytes TooLong = IsTooLong IsJobs (lines_room most_lines bytes) bytes
IsDue bytes status = ⊥

-- if the bytes of the input are known, memory sufficed and no read failed, the status is the one
-- that is due, unless the sink failed
abbrev pub Decided : Change → Status → Type 0
Decided input status = (bytes : List ℕ) (due : Status) → input.old ≡ Some bytes → status ≢ Memory → status ≢ ReadFault → IsDue bytes due
    → (status ≡ due) ⊎ ((due ≡ Done) × (status ≡ SinkFault))
