use Rattle.std.proofs.Common.{sym, subst}
use Rattle.test_condition.specs.Free.{IsFree}
use Rattle.test_condition.proofs.Freeing.{free_done}
use Rattle.test_condition.proofs.work.put_many.Goals.{then-fetch_add-others, else-fetch_add-others}
use Rattle.test_condition.proofs.work.put_many.Goals as goal

pub returns : goal.returns
returns g c =
    let n = c.args.me.number in
    let p = c.args.pkg.now in
    let free = c.loop-i.invariant in
    free_done p n c.if-fetch_add-others.me (elim c.if-fetch_add-others.branch [
      | then-fetch_add-others w ↦ subst (λ t. IsFree p n t) (sym w.me-is) (w.shut_it.ensures.free n free)
      | else-fetch_add-others w ↦ subst (λ t. IsFree p n t) (sym w.me-is) free
    ])
