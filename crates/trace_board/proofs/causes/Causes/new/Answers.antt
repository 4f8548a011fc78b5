use Rattle.std.proofs.Common.{refl, ap, arith}
use Rattle.larch_actions.proofs.Shown.{shown_at-replicate}
use Rattle.trace_board.specs.declared.causes.Cause.TheVariants.{Never}
use Rattle.trace_board.specs.Awaited.{is_awaited}
use Rattle.trace_board.proofs.causes.Causes.new.Goals as goal

pub invariant_of-result : goal.invariant_of-result
invariant_of-result c = record { within = omega arith; few = λ k l. ap is_awaited (λ i. shown_at-replicate (λ x. x) Never 256 Never refl i k) }

pub returns : goal.returns
returns c = shown_at-replicate (λ x. x) Never 256 Never refl
