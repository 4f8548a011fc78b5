use Rattle.nub_rule.proofs.Owing.{bound-nowhere}
use Rattle.nub.proofs.laws.rest_is_bound_nowhere.Goals as goal

pub returns : goal.returns
returns g c = λ p k r o queue. bound-nowhere o queue k.number k.part r.outside.stand r.turns r.cleared
