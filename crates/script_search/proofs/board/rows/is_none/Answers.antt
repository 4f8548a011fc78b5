use Rattle.std.proofs.Common.{refl, arith}
use Rattle.larch_actions.specs.Sets.{in_set}
use Rattle.script_search.proofs.Rows.{none_in}
use Rattle.script_search.proofs.board.rows.is_none.Goals as goal

pub returns : goal.returns
returns c = ((λ _. none_in (in_set c.args.left.now) c.args.n c.requires.within (λ t low. c.loop-t.invariant t (omega arith))), (λ _. refl))
