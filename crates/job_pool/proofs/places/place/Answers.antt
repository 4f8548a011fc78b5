use Rattle.std.proofs.Common.{refl, sym, arith, Some}
use Rattle.job_pool.proofs.Placing.{set_beyond}
use Rattle.job_pool.proofs.places.place.Goals as goal

pub returns-then-place-places : goal.returns-then-place-places
returns-then-place-places g c = refl

pub returns-else-place-places : goal.returns-else-place-places
returns-else-place-places g c = sym (set_beyond c.args.places.now c.args.item.place (Some c.args.item.batch) (omega arith))
