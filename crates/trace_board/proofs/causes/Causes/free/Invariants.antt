use Rattle.larch_actions.specs.Sets.{in_set}
use Rattle.trace_board.specs.Causes.{take_out, cause_of}
use Rattle.trace_board.proofs.Freeing.{IsPartly}
use Rattle.trace_board.proofs.causes.Causes.free.Given as goal

abbrev pub invariant-loop-t : goal.invariant-loop-t
invariant-loop-t l = IsPartly (λ k. take_out l.cond (in_set l.left k) l.by) (cause_of l.initial.self) l.t (cause_of l.self)
