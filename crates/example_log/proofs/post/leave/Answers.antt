use Rattle.std.proofs.Common.{rules}
use Rattle.example_log.proofs.post.leave.Goals as goal

pub returns : goal.returns
returns g c = λ n s i. let did = c.locked.ensures.idle n s i in search rules
