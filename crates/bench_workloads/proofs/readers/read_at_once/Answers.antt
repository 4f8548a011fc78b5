use Rattle.std.proofs.Common.{◌≡◌, ◌+◌, ℕ, [], length, None, arith, ap, sym, subst, ◌∙◌, lit≤}
use Rattle.larch_actions.specs.declared.event.Layout.{Layout}
use mathlib.Core.Option.{some, some-injective}
use lib.ListN.{get_elem?}
use Rattle.nub_rule.proofs.Each.{at_below}
use Rattle.nub.proofs.Users.{first_own, idle_done, from_at}
use Rattle.readers_writers.specs.declared.state.RwState.{RwState}
use Rattle.readers_writers.proofs.Opening.{roles_begin}
use Rattle.bench_workloads.specs.Reading.{HasCounted, HasState, Player, writes_by}
use Rattle.bench_workloads.proofs.Crewing.{came_back, only_value}
use Rattle.bench_workloads.proofs.Roles.{left_free, writes-sum}
use Rattle.bench_workloads.proofs.readers.read_at_once.Goals as goal

pub open_package-requires-clause-holds : goal.open_package-requires-clause-holds
open_package-requires-clause-holds g c κs =
    let few = c.args.sides.in_package.2 in
    let wide = ap (λ l. l.threads) c.of-layout.ensures in
    let new = only_value c.in_ok-values.values.items (record { readers = 0; writer = None }) c.in_ok-values.ensures in
    roles_begin c.in_ok-values.values.items c.of-layout.result.threads (omega arith) (λ m q at. (ap (λ (x : RwState). x.readers) (new m q at), ap (λ (x : RwState). x.writer) (new m q at)))

pub at_once-requires-after_bounds : goal.at_once-requires-after_bounds
at_once-requires-after_bounds g c κs within = λ n t at.
    let layout = c.in_ok-shared.ensures.package.0 ∙ c.of-layout.ensures in
    (subst (λ l. HasState l) (sym layout) (record { mutexes = lit≤ tt; conditions = lit≤ tt }), first_own c.in_ok-shared.shared (λ w t. []) n t (c.in_ok-shared.ensures.threads n t at))

pub close_package-requires-clause-count : goal.close_package-requires-clause-count
close_package-requires-clause-count g c κs = c.in-Ok.ensures.threads ∙ (c.in_ok-shared.ensures.count ∙ sym (ap (λ l. l.threads) c.in_ok-shared.ensures.package.0))

pub close_package-requires-clause-version : goal.close_package-requires-clause-version
close_package-requires-clause-version g c κs = ap (λ (l : Layout). l.version) (c.in_ok-shared.ensures.package.0 ∙ c.of-layout.ensures)

pub close_package-requires-clause-threads : goal.close_package-requires-clause-threads
close_package-requires-clause-threads g c κs = λ n t at.
    let p = c.in_ok-shared.shared in
    let readers = c.args.sides.first in
    let back = came_back (HasCounted p readers c.args.times) c.in_ok-shared.threads.items c.in-Ok.writes.items n t (λ k x is. (c.in_ok-shared.ensures.threads k x is).number) (c.in-Ok.ensures.each n t at) in
    idle_done p n back.2.0.0 t back.2.0.1

pub returns : goal.returns
returns g c =
    let p = c.in_ok-shared.shared in
    let readers = c.args.sides.first in
    let times = c.args.times in
    let threads = c.in-Ok.threads.items in
    let writes = c.in-Ok.writes.items in
    let played : (n : ℕ) (t : Player) → get_elem? threads n ≡ some t → (left : ℕ) × (get_elem? writes n ≡ some left) × HasCounted p readers times n left t
    = λ n t at. came_back (HasCounted p readers times) c.in_ok-shared.threads.items writes n t (λ k x is. (c.in_ok-shared.ensures.threads k x is).number) (c.in-Ok.ensures.each n t at) in
    let was = c.in_ok-shared.ensures.count ∙ ap (λ l. l.threads) c.of-layout.ensures in
    let many = c.in-Ok.ensures.threads in
    let results = c.in-Ok.ensures.results in
    let all : length threads ≡ readers + c.args.sides.second = omega arith in
    let one = c.in_ok-closed.ensures.values.0 ∙ ap (λ l. l.mutexes) (c.in_ok-shared.ensures.package.0 ∙ c.of-layout.ensures) in
    let same = c.in_ok-closed.ensures.threads in
    record {
      free = left_free readers times threads c.in_ok-closed.closed.values c.in_ok-closed.ensures.values.1 (λ n t at. let h = (played n t at).2.0 in (h.0, h.1.share, h.2)) one;
      count = ap length same ∙ all;
      each = λ n t there. let h = (played n t (ap (λ l. get_elem? l n) (sym same) ∙ there)).2.0 in (h.0, h.1.share, h.2);
      sum = writes-sum readers c.args.sides.second times writes (omega arith) (λ k w at.
          let low = (from_at writes k w at).0 in
          let t = at_below threads k (omega arith) in
          let h = played k t.0 t.1 in
          some-injective w h.0 (sym at ∙ h.1) ∙ h.2.1);
    }
