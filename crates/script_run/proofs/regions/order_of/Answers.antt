use Rattle.std.proofs.Common.{◌++◌, ap, ◌∙◌}
use Rattle.script_run.specs.Regions.{region}
use Rattle.script_run.proofs.Forking.{region_forking}
use Rattle.script_run.proofs.regions.order_of.Goals as goal

pub returns : goal.returns
returns c =
    c.in_ok-add.ensures ∙ (ap (λ l. l ++ region c.deref.result.now 0) c.in_ok-order.ensures.items ∙ region_forking c.deref.result.now c.args.lines.now (c.deref.ensures.value ∙ c.in_ok-forks.ensures))
