use Rattle.command_jobs.proofs.Ran.{ran}
use Rattle.command_jobs.proofs.run.run_lines.Goals as goal

pub returns : goal.returns
returns g c = ran c.args.lines.items c.in-Ok.jobs.items c.run_jobs-end.result.1.items c.run_jobs-end.result.0 c.in-Ok.ensures c.run_jobs-end.ensures
