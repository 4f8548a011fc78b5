use Rattle.std.proofs.Common.{◌≡◌, ◌+◌, [], length, arith, ap, sym, subst, ◌∙◌, lit≤}
use Rattle.larch_actions.specs.declared.event.Layout.{Layout}
use Rattle.nub.proofs.Users.{idle_done, idle_own}
use Rattle.bounded_buffer.proofs.Opening.{rings_begin}
use Rattle.bounded_buffer.proofs.Using.{used_first}
use Rattle.bounded_buffer.specs.Rings.{fresh}
use Rattle.bench_workloads.specs.Passing.{HasBuffers, HasPassed}
use Rattle.bench_workloads.proofs.Crewing.{came_back}
use Rattle.bench_workloads.proofs.Makers.{both_new, closes}
use Rattle.bench_workloads.proofs.buffers.pass_at_once.Goals as goal

pub open_package-requires-clause-holds : goal.open_package-requires-clause-holds
open_package-requires-clause-holds g c κs = rings_begin c.in_ok-rings.rings.items c.of-layout.result.threads (both_new c.args.capacity.number c.args.sides.first c.in_ok-rings.rings.items c.in_ok-rings.ensures)

pub at_once-requires-after_bounds : goal.at_once-requires-after_bounds
at_once-requires-after_bounds g c κs within = λ n t at.
    let layout = c.in_ok-shared.ensures.package.0 ∙ c.of-layout.ensures in
    (subst (λ l. HasBuffers l) (sym layout) (record { mutexes = lit≤ tt; conditions = lit≤ tt }), used_first c.in_ok-shared.shared t.number 2 t (idle_own c.in_ok-shared.shared (λ w t. []) n t (c.in_ok-shared.ensures.threads n t at)))

pub close_package-requires-clause-threads : goal.close_package-requires-clause-threads
close_package-requires-clause-threads g c κs = λ n t at.
    let p = c.in_ok-shared.shared in
    let back = came_back (HasPassed p c.args.sides.first c.args.times) c.in_ok-shared.threads.items c.in-Ok.sums.items n t (λ k x is. (c.in_ok-shared.ensures.threads k x is).number) (c.in-Ok.ensures.each n t at) in
    idle_done p n back.2.1.share t back.2.1.idle

pub returns : goal.returns
returns g c =
    let p = c.in_ok-shared.shared in
    let makers = c.args.sides.first in
    let threads = c.in-Ok.threads.items in
    let sums = c.in-Ok.sums.items in
    let values = c.in_ok-closed.closed.values in
    let was = c.in_ok-shared.ensures.count ∙ ap (λ l. l.threads) c.of-layout.ensures in
    let many = c.in-Ok.ensures.threads in
    let counted = c.in-Ok.ensures.results in
    let all : length threads ≡ makers + c.args.sides.second = omega arith in
    let two = c.in_ok-closed.ensures.values.0 ∙ ap (λ l. l.mutexes) (c.in_ok-shared.ensures.package.0 ∙ c.of-layout.ensures) in
    let takers = c.args.sides.in_package.1 in
    let ends = closes makers c.args.times p threads sums values c.in_ok-closed.ensures.values.1 (omega arith) (omega arith) two
    (λ n t at. came_back (HasPassed p makers c.args.times) c.in_ok-shared.threads.items sums n t (λ k x is. (c.in_ok-shared.ensures.threads k x is).number) (c.in-Ok.ensures.each n t at)) in
    record { count = ap length c.in_ok-closed.ensures.threads ∙ all; sum = ends.0; over = ends.1 }
