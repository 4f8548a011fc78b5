-- The results of the top call.
use Rattle.std.specs.Prelude.{◌≡◌, List, Option}
use Rattle.command_line.specs.Grammar.{Task, check, run, index, trace, sample, jobs, find, order, rounds}
use Rattle.command_endings.specs.declared.status.Status.{Status}
use Rattle.command_endings.specs.declared.status.Status.TheVariants.{Usage, Memory}
use Rattle.command_endings.specs.Changes.{Change, IsStill, Notes}
use Rattle.command_endings.specs.Messages.{usage_message, memory_message}
use Rattle.command_check.specs.Check.{CheckAnswers}
use Rattle.command_check.specs.VerdictEndings.{Found}
use Rattle.command_endings.specs.Endings.{ReportsFault}
use Rattle.command_check.specs.Order.{OrderAnswers, Ordered}
use Rattle.command_jobs.specs.Jobs.{JobsAnswers, Decided as JobsDecided}
use Rattle.command_find.specs.Find.{FindAnswers, Decided}
use Rattle.command_rounds.specs.RoundsCommand.{RoundsAnswers}
use Rattle.firefly.specs.RunCommand.{RunAnswers, Decides}
use Rattle.firefly.specs.SampleCommand.{SampleAnswers}
use Rattle.firefly.specs.Looks.{Look}
use Rattle.firefly.specs.IndexCommand.{IndexAnswers}
use Rattle.firefly.specs.IndexRun.{AreSpared}
use Rattle.firefly.specs.TraceCommand.{TraceAnswers}

-- what a call did to the objects that were passed
pub record Effects : Type 0 where
  pub trees : List (Option Look)
  pub new_trees : List (Option Look)
  pub input : Change
  pub out : Change
  pub notes : Change

abbrev pub effects_of : List (Option Look) → List (Option Look) → Change → Change → Change → Effects
effects_of trees new_trees input out notes = record { trees = trees; new_trees = new_trees; input = input; out = out; notes = notes }

-- words that name no command that there is: nothing is read or printed
abbrev pub UsageAnswers : Effects → Status → Type 0
UsageAnswers e status = (status ≡ Usage) × (e.new_trees ≡ e.trees) × IsStill e.input × IsStill e.out × Notes e.notes usage_message

-- memory ran out while the words were read
abbrev pub WordsWant : Effects → Status → Type 0
WordsWant e status = (status ≡ Memory) × (e.new_trees ≡ e.trees) × IsStill e.input × IsStill e.out × Notes e.notes memory_message

-- the results of each command
abbrev pub Answers : Task → Effects → Status → Type 0
Answers check e status =
    CheckAnswers e.input e.out e.notes status × Found e.input status × ReportsFault e.input status × (e.new_trees ≡ e.trees)
Answers run e status =
    RunAnswers e.input e.out e.notes status × Decides e.input status × ReportsFault e.input status × (e.new_trees ≡ e.trees)
Answers (index o) e status =
    IndexAnswers o e.trees e.new_trees e.out e.notes status × AreSpared o e.trees e.new_trees × IsStill e.input
Answers (trace o) e status =
    TraceAnswers o e.trees e.new_trees e.out e.notes status × AreSpared o e.trees e.new_trees × IsStill e.input
Answers (sample seed files) e status = SampleAnswers seed files e.out e.notes status × IsStill e.input × (e.new_trees ≡ e.trees)
Answers (jobs workers) e status =
    JobsAnswers e.input e.out e.notes status × JobsDecided e.input status × ReportsFault e.input status × (e.new_trees ≡ e.trees)
Answers (find tokens) e status =
    FindAnswers tokens e.input e.out e.notes status × Decided tokens e.input status × ReportsFault e.input status × (e.new_trees ≡ e.trees)
Answers order e status =
    OrderAnswers e.input e.out e.notes status × Ordered e.input status × ReportsFault e.input status × (e.new_trees ≡ e.trees)
Answers (rounds threads each) e status = RoundsAnswers threads each e.out e.notes status × IsStill e.input × (e.new_trees ≡ e.trees)
