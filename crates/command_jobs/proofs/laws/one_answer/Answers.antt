use Rattle.command_jobs.proofs.JobTexts.{is_decided}
use Rattle.command_jobs.proofs.laws.one_answer.Goals as goal

pub returns : goal.returns
returns c = is_decided
