use Rattle.std.proofs.Common.{◌≡◌, ◌<◌, ◌*◌, ℕ, [], ◌∷◌, length, ap, sym, subst, ◌∙◌, arith, lit≤}
use Rattle.larch_actions.specs.declared.event.Layout.{Layout}
use mathlib.Core.Option.{some, some-injective}
use lib.ListN.{get_elem?}
use Rattle.nub_rule.proofs.Each.{at_below}
use Rattle.nub.proofs.Users.{all_recorded, from_at, idle_done, share_count}
use Rattle.sum_uses.specs.Sums.{added}
use Rattle.sum_uses.proofs.Adding.{sums_begin, one_zero}
use Rattle.bench_workloads.specs.Parts.{HasDonePart, Shows, adds, begun}
use Rattle.bench_workloads.specs.Workloads.{HasMade, HasObjects, HasWorked, Worker}
use Rattle.bench_workloads.proofs.Crewing.{came_back, only_one, total_alike}
use Rattle.bench_workloads.proofs.parts.run_part.Goals as goal

pub open_package-requires-clause-holds : goal.open_package-requires-clause-holds
open_package-requires-clause-holds g c κs =
    let few = c.args.threads.in_package.1 in
    let wide = ap (λ l. l.threads) c.of-layout.ensures in
    sums_begin c.in_ok-values.values.items c.of-layout.result.threads (λ m x e. one_zero m x (ap (λ l. get_elem? l m) (sym c.in_ok-values.ensures.items) ∙ e)) (omega arith)

pub at_once-requires-after_bounds : goal.at_once-requires-after_bounds
at_once-requires-after_bounds g c κs within = λ n t at.
    let p = c.in_ok-shared.shared in
    let w = c.begin_part.ensures.begun n t at in
    let objects = subst (λ l. HasObjects l) (sym (c.in_ok-shared.ensures.package.0 ∙ c.of-layout.ensures)) (record { threads = c.args.threads.in_package.0; mutexes = lit≤ tt; conditions = lit≤ tt; semaphores = lit≤ tt }) in
    (objects, subst (λ k. HasWorked p k 0 (HasMade (begun c.args.part k)) t) (sym w.idle.number) w)

pub close_package-requires-clause-threads : goal.close_package-requires-clause-threads
close_package-requires-clause-threads g c κs = λ n t at.
    let p = c.in_ok-shared.shared in
    let back = came_back (HasDonePart c.args.part p) c.begin_part.new.threads.items c.in-Ok.own.items n t (λ k x is. (c.begin_part.ensures.begun k x is).idle.number) (c.in-Ok.ensures.each n t at) in
    idle_done p n back.2.share t back.2.idle

pub returns : goal.returns
returns g c =
    let p = c.in_ok-shared.shared in
    let part = c.args.part in
    let threads = c.in-Ok.threads.items in
    let lefts = c.in-Ok.own.items in
    let same = c.in_ok-closed.ensures.threads in
    let layout = c.in_ok-shared.ensures.package.0 ∙ c.of-layout.ensures in
    let done : (n : ℕ) (t : Worker) → get_elem? threads n ≡ some t → (left : ℕ) × (get_elem? lefts n ≡ some left) × HasDonePart part p n left t
    = λ n t at. came_back (HasDonePart part p) c.begin_part.new.threads.items lefts n t (λ k x is. (c.begin_part.ensures.begun k x is).idle.number) (c.in-Ok.ensures.each n t at) in
    let started = c.begin_part.ensures.count ∙ (c.in_ok-shared.ensures.count ∙ ap (λ l. l.threads) c.of-layout.ensures) in
    let count : length threads ≡ c.args.threads.number = c.in-Ok.ensures.threads ∙ started in
    let counts : length lefts ≡ c.args.threads.number = c.in-Ok.ensures.results ∙ started in
    let one = only_one c.in_ok-closed.closed.values (c.in_ok-closed.ensures.values.0 ∙ ap (λ l. l.mutexes) layout) in
    let kept = c.in_ok-closed.ensures.values.1 in
    let all = all_recorded (λ n s. added 0 s ≡ adds part) threads kept.shares kept.each_share (λ n t at. let d = (done n t at).2 in (d.share, d.idle.share, d.sum)) in
    let many = share_count threads kept.shares kept.each_share ∙ count in
    record {
      count = ap length same ∙ count;
      lefts_count = counts;
      each = λ n t there. let d = done n t (ap (λ l. get_elem? l n) (sym same) ∙ there) in (d.0, d.2.is);
      each_left = λ n left at.
          let low = (from_at lefts n left at).0 in
          let t = at_below threads n (omega arith) in
          let d = done n t.0 t.1 in
          (t.0, subst (λ k. Shows part n k t.0) (some-injective d.0 left (sym d.1 ∙ at)) d.2.is);
      value = one.1 ∙ ap (λ k. k ∷ []) (kept.kept.sums 0 one.0 (ap (λ l. get_elem? l 0) one.1) ∙ (total_alike (adds part) kept.shares all ∙ ap (λ k. k * adds part) many));
    }
