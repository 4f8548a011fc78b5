-- The results of the command `sample`.
use Rattle.std.specs.Prelude.{◌≡◌, ◌⊎◌, ℕ}
use Rattle.index_sample.specs.declared.summary.SampleSums.{SampleSums}
use Rattle.index_sample.specs.Summary.{IsSummary}
use Rattle.index_sample.specs.Text.{summary_text}
use Rattle.command_endings.specs.declared.status.Status.{Status}
use Rattle.command_endings.specs.declared.status.Status.TheVariants.{Done, Memory}
use Rattle.command_endings.specs.Changes.{Change, IsStill, Notes}
use Rattle.command_endings.specs.Messages.{memory_message}
use Rattle.command_endings.specs.Printing.{Prints}

-- the sums of the sample tree of this seed and number of files were printed, or memory ran out
abbrev pub SampleAnswers : ℕ → ℕ → Change → Change → Status → Type 0
SampleAnswers seed files out notes answer =
    ((sums : SampleSums) × IsSummary seed files sums × Prints (summary_text sums) Done out notes answer)
    ⊎ ((answer ≡ Memory) × IsStill out × Notes notes memory_message)
