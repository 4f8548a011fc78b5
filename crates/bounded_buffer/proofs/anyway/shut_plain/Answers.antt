use Rattle.std.proofs.Common.{Some, sym, ap, subst}
use Rattle.bounded_buffer.specs.declared.did.Did.TheVariants.{Shut}
use Rattle.bounded_buffer.specs.Using.{Falls, HasUsed, did_at, settled}
use Rattle.bounded_buffer.proofs.Using.{used_on}
use Rattle.bounded_buffer.proofs.anyway.shut_plain.Goals as goal

pub returns : goal.returns
returns g c = λ n m us is was.
    let at = c.args.at.now.mutex.0 in
    let did = c.shut.ensures.shut was.share was.idle.share in
    subst (λ k. HasUsed c.args.p.now n (did_at k Shut us) c.shut.new.me) is
    (used_on was at did.share did.elsewhere (Some Shut) (c.shut.ensures.idle n was.share did.share was.idle did.is_share) (ap settled did.here)
    (subst (λ u. Falls u.puts × Falls u.takes) (sym did.here) (was.ordered at)))
