-- What the words and the answer of `read_words` are in the grammar's terms.
use Rattle.std.specs.Prelude.{map}
use Rattle.std.specs.String.{string_bytes}
use Rattle.command_line.specs.Grammar.{Options, Task, check, find, index, jobs, order, rounds, run, sample, trace}
use Rattle.command_line.specs.declared.command.Command.{Command}
use Rattle.command_line.specs.declared.command.Command.TheVariants as command
use Rattle.command_line.specs.declared.command.IndexOptions.{IndexOptions}

abbrev pub options_of : IndexOptions → Options
options_of o = record {
  directory = o.dir.now;
  walkers = o.walkers;
  parsers = o.parsers;
  mergers = o.mergers;
  stop_after = o.stop_after;
}

abbrev pub task_of : Command → Task
task_of command.Check = check
task_of command.Run = run
task_of (command.Index o) = index (options_of o)
task_of (command.Trace o) = trace (options_of o)
task_of (command.Sample seed files) = sample seed files
task_of (command.Jobs workers) = jobs workers
task_of (command.Find words) = find (map string_bytes words.now)
task_of command.Order = order
task_of (command.Rounds threads each) = rounds threads each
