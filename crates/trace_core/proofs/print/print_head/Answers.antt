use Rattle.std.proofs.Common.{ℕ, List, OnErr, subst}
use Rattle.firefly_outside.specs.Causes.{AppendsPrefix}
use Rattle.trace_core.proofs.print.print_head.Goals as goal

pub returns-clause-err : goal.returns-clause-err
returns-clause-err g c =
    let P : List ℕ → Type 0 = λ t. OnErr c.put_all.result (AppendsPrefix (g.O.Sink.held c.args.out.now) (g.O.Sink.held c.put_all.new.out) t) in
    subst P c.add_head-end.ensures.text c.put_all.ensures.err
