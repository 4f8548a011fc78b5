use Rattle.std.proofs.Common.{ap, ◌∙◌, arith, rules}
use Rattle.larch_actions.proofs.Shown.{shown_at-set}
use Rattle.trace_board.specs.declared.causes.Cause.TheVariants.{Never}
use Rattle.trace_board.specs.Awaited.{is_awaited}
use Rattle.trace_board.proofs.Freeing.{put_there}
use Rattle.trace_board.specs.Causes.{cause_of}
use Rattle.trace_board.proofs.causes.Causes.put.Goals as goal

pub invariant_of-self-clause-few : goal.invariant_of-self-clause-few
invariant_of-self-clause-few c = λ j l.
    ap is_awaited ((λ i. shown_at-set (λ x. x) Never c.args.self.now.entries c.args.k c.args.now (search rules) i j) ∙ put_there (cause_of c.args.self.now) c.args.k j c.args.now (λ same. omega arith)) ∙ c.args.self.now.few j (omega arith)

pub returns : goal.returns
returns c = shown_at-set (λ x. x) Never c.args.self.now.entries c.args.k c.args.now (search rules)
