use Rattle.std.proofs.Common.{rules}
use Rattle.larch_actions.specs.Sets.{in_set}
use Rattle.larch_actions.proofs.Sets.{leaves-part, leaves-within, leaves-apart, not-true}
use Rattle.larch_actions.proofs.thread_set.ThreadSet.may_leave.Goals as goal

pub returns-then-is_within-clause-sound : goal.returns-then-is_within-clause-sound
returns-then-is_within-clause-sound c = λ is. leaves-part (in_set c.args.self.now) (in_set c.args.left.now) (c.is_within.ensures.all (search rules)) (c.is_same.ensures.some (search rules))

pub returns-then-is_within-clause-complete : goal.returns-then-is_within-clause-complete
returns-then-is_within-clause-complete c = λ may. not-true c.is_same.result (λ same. leaves-apart (in_set c.args.self.now) (in_set c.args.left.now) may (c.is_empty.ensures.some (search rules)) (c.is_same.ensures.all same))

pub returns-else-is_within-clause-complete : goal.returns-else-is_within-clause-complete
returns-else-is_within-clause-complete c = λ may. absurd (leaves-within (in_set c.args.self.now) (in_set c.args.left.now) may (c.is_empty.ensures.some (search rules)) (c.is_within.ensures.some (search rules)))
