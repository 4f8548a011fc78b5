use Rattle.std.proofs.Common.{◌≡◌, List, ℕ, inr, rules, subst}
use Rattle.firefly_outside.specs.Causes.{AppendsPrefix}
use Rattle.command_endings.proofs.whole_answer.print.Goals as goal

pub returns-in-Err : goal.returns-in-Err
returns-in-Err g c =
    let same : c.as_bytes.result.now ≡ c.args.text.now = search rules in
    let prefix = subst (λ (x : List ℕ). AppendsPrefix (g.O.Sink.held c.args.out.now) (g.O.Sink.held c.put_all.new.out) x) same c.in-Err.ensures.err in
    inr (c.ends.ensures.status, (c.in-Err.ensures.cause.failed, prefix), c.ends.ensures.notes)
