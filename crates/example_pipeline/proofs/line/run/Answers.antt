use Rattle.std.proofs.Common.{◌≡◌, ℕ, [], length, rules, arith, ap, sym, subst, ◌∙◌, lit≤}
use Rattle.larch_actions.specs.declared.event.Layout.{Layout}
use lib.ListN.{get_elem?}
use mathlib.Core.Option.{some}
use Rattle.nub.specs.Ended.{IsDone}
use Rattle.nub.proofs.Users.{first_own, idle_done}
use Rattle.bounded_buffer.proofs.Opening.{rings_begin}
use Rattle.example_pipeline.specs.declared.stages.Came.{Came}
use Rattle.example_pipeline.specs.Stages.{HasBuffers, IsStage, HasEnded, Worker}
use Rattle.example_pipeline.proofs.Passing.{Closes, closes, both_new}
use Rattle.example_pipeline.proofs.line.run.Goals as goal

pub open_package-requires-clause-holds : goal.open_package-requires-clause-holds
open_package-requires-clause-holds g c κs = rings_begin c.in_ok-rings.rings.items c.of-layout.result.threads (both_new c.in_ok-rings.rings.items c.in_ok-rings.ensures)

pub at_once-requires-after_bounds : goal.at_once-requires-after_bounds
at_once-requires-after_bounds g c κs within = λ n t at.
    let layout = c.in_ok-p.ensures.package.0 ∙ c.of-layout.ensures in
    (subst (λ l. HasBuffers l) (sym layout) (record { mutexes = lit≤ tt; conditions = lit≤ tt }), first_own c.in_ok-p.p (λ w t. []) n t (c.in_ok-p.ensures.threads n t at))

pub close_package-requires-clause-count : goal.close_package-requires-clause-count
close_package-requires-clause-count g c κs = c.in_ok-threads.ensures.threads ∙ (c.in_ok-p.ensures.count ∙ sym (ap (λ l. l.threads) c.in_ok-p.ensures.package.0))

pub close_package-requires-clause-version : goal.close_package-requires-clause-version
close_package-requires-clause-version g c κs = ap (λ (l : Layout). l.version) (c.in_ok-p.ensures.package.0 ∙ c.of-layout.ensures)

pub close_package-requires-clause-threads : goal.close_package-requires-clause-threads
close_package-requires-clause-threads g c κs = λ n t at.
    let back = c.in_ok-threads.ensures.each n t at in
    let own : HasEnded (IsStage c.args.count back.left back.was.number) c.in_ok-p.p back.was.number t = (let goes = back.goes in search rules) in
    subst (λ k. IsDone c.in_ok-p.p k t) (c.in_ok-p.ensures.threads n back.was back.is_was).number (idle_done c.in_ok-p.p back.was.number own.used.share t own.used.idle)

pub returns : goal.returns
returns g c =
    let p = c.in_ok-p.p in
    let threads = c.in_ok-threads.threads.items in
    let lefts = c.in_ok-threads.left.items in
    let values = c.in_ok-closed.closed.values in
    let ended : (n : ℕ) (t : Worker) → get_elem? threads n ≡ some t → (left : Came) × (get_elem? lefts n ≡ some left) × HasEnded (IsStage c.args.count left n) p n t = λ n t at.
    let back = c.in_ok-threads.ensures.each n t at in
    let own : HasEnded (IsStage c.args.count back.left back.was.number) p back.was.number t = (let goes = back.goes in search rules) in
    (back.left, back.is_left, subst (λ k. HasEnded (IsStage c.args.count back.left k) p k t) (c.in_ok-p.ensures.threads n back.was back.is_was).number own) in
    let was = c.in_ok-p.ensures.count ∙ ap (λ l. l.threads) c.of-layout.ensures in
    let layout = c.in_ok-p.ensures.package.0 ∙ c.of-layout.ensures in
    let mutexes = ap (λ l. l.mutexes) layout in
    let many = c.in_ok-threads.ensures.threads in
    let three : length threads ≡ 3 = omega arith in
    let wide = c.in_ok-closed.ensures.values.0 in
    let two : length values ≡ 2 = omega arith in
    let all : Closes c.args.count c.third-items.result threads values = closes c.args.count c.third-items.result p threads lefts values c.in_ok-closed.ensures.values.1 three two c.third-items.ensures ended in
    let same = c.in_ok-closed.ensures.threads in
    record {
      squares = all.out (search rules);
      three = ap length same ∙ three;
      stages = λ n t at. all.passed n t (ap (λ l. get_elem? l n) (sym same) ∙ at);
      over = (two, all.over);
    }
