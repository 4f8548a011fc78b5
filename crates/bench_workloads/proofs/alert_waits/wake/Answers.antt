use Rattle.std.proofs.Common.{◌≡◌, ◌∙◌, refl}
use Rattle.bench_workloads.proofs.alert_waits.wake.Goals as goal

pub returns-else-number-eq0 : goal.returns-else-number-eq0
returns-else-number-eq0 g c =
    let w = c.alternate.ensures in
    record { share = w.share; idle = w.idle; sum = w.sum; is = (λ first. absurd (c.if-number-eq0.false (c.number.ensures ∙ first)), λ other. refl) }
