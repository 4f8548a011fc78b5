use Rattle.std.proofs.Common.{◌+◌, ◌*◌, ◌/◌, ap, ◌∙◌}
use Rattle.command_jobs.proofs.Sums.{formula}
use Rattle.command_jobs.proofs.job.sum_up.Goals as goal

pub returns : goal.returns
returns c = ap (λ n. n * (n + 1) / 2) c.from-last.ensures ∙ formula c.args.last
