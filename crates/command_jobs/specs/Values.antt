-- What the job of a line gives.
use Rattle.std.specs.Prelude.{ℕ, ◌+◌, List, [], ◌∷◌, sum}
use Rattle.std.specs.List.{range_with_len}
use Rattle.command_jobs.specs.declared.job_line.JobLine.{JobLine}
use Rattle.command_jobs.specs.declared.job_line.JobLine.TheVariants as line
use Rattle.job_pool.specs.declared.job.Work.{Work}
use Rattle.job_pool.specs.declared.job.Work.TheVariants.{Value, Stop}

-- the sum of the numbers from 0 to n
abbrev pub sum_to : ℕ → ℕ
sum_to n = sum (range_with_len 0 (n + 1))

abbrev pub work_of : JobLine → Work
work_of (line.Sum n) = Value (sum_to n)
work_of line.Stop = Stop

-- the job's state, which a call leaves as it is
abbrev pub state_of : JobLine → List ℕ
state_of (line.Sum n) = n ∷ []
state_of line.Stop = []
