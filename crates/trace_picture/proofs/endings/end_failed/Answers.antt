use Rattle.std.proofs.Common.{ℕ, List, subst, OnErr}
use Rattle.firefly_outside.specs.Causes.{AppendsPrefix}
use Rattle.trace_picture.proofs.endings.end_failed.Goals as goal

pub returns-clause-err : goal.returns-clause-err
returns-clause-err g c =
    let before = g.O.Sink.held c.args.out.now in
    let after = g.O.Sink.held c.put_all.new.out in
    subst (λ (x : List ℕ). OnErr c.put_all.result (AppendsPrefix before after x)) c.add_failed_ending-end.ensures.text c.put_all.ensures.err
