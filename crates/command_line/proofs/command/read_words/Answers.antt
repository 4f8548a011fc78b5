use Rattle.std.proofs.lemmas.Result.{IfOk-weaker}
use Rattle.command_line.specs.Tasks.{task_of}
use Rattle.command_line.proofs.Tasks.{begun_options, say-same, task_in_range}
use Rattle.command_line.proofs.command.read_words.Goals as goal

pub returns-clause-only : goal.returns-clause-only
returns-clause-only c = IfOk-weaker c.read_command.result _ _ (λ r said. λ t s. say-same _ t (task_of r) s said) c.read_command.ensures.said

pub returns-clause-in_range : goal.returns-clause-in_range
returns-clause-in_range c = IfOk-weaker c.read_command.result _ _ (λ r said. task_in_range _ (task_of r) said) c.read_command.ensures.said

pub returns-clause-memory : goal.returns-clause-memory
returns-clause-memory c = λ e t s. begun_options _ t (c.read_command.ensures.begun e) s
