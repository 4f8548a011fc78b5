use Rattle.std.proofs.Common.{◌≡◌, ◌++◌, length, take, drop, sym, subst}
use Rattle.std.specs.Prelude.{IsTrue, ◌↔◌}
use Rattle.std.specs.List.{AllZip}
use Rattle.thread_crew.proofs.Zips.{zip_length}
use Rattle.job_pool.specs.Slots.{HasStop, MayBeCalled}
use Rattle.job_pool.proofs.Lists.{whole_back}
use Rattle.job_pool.proofs.Stopping.{stops}
use Rattle.job_pool.proofs.batch.work_on.Goals as goal

pub returns-clause-stops : goal.returns-clause-stops
returns-clause-stops g c =
    let given = c.args.batch.now.slots in
    let new = c.call_all.new.slots in
    let called = subst (λ l. AllZip (MayBeCalled g.J.Job.state g.J.Job.gives g.J.Job.next) l new) c.as_mut_slice.ensures.value c.call_all.ensures.called in
    let long = zip_length (MayBeCalled g.J.Job.state g.J.Job.gives g.J.Job.next) given.items new called in
    let ok = given.ok.0 in
    let whole : take given.len (new ++ drop (length new) given.items) ≡ new = whole_back given.len new given.items long ok in
    let said = stops c.call_all.result c.as_mut_slice.result.now new c.call_all.ensures.ends in
    subst (λ l. IsTrue c.is_some.result ↔ HasStop l) (sym whole) (subst (λ b. IsTrue b ↔ HasStop new) (sym c.is_some.ensures) said)
