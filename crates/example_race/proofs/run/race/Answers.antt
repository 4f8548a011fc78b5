use Rattle.std.proofs.Common.{rules, ap, arith, ◌∙◌, refl}
use Rattle.firefly_threads.specs.Laws.{in_history, is_traced, one_opens}
use Rattle.example_race.specs.Races.{IsKept, begins}
use Rattle.example_race.proofs.Closing.{begins_kept, over}
use Rattle.example_race.proofs.run.race.Goals as goal

pub run_package-requires-clause-holds : goal.run_package-requires-clause-holds
run_package-requires-clause-holds g c κs within =
    one_opens IsKept begins 4 _ begins_kept _ _ c.in_ok-track.ensures.items (ap (λ l. l.threads) c.of-layout.ensures)

pub returns : goal.returns
returns g c =
    let done = c.in_ok-closed.ensures in
    let four = done.count.0 ∙ ap (λ l. l.threads) c.of-layout.ensures in
    record {
      over = over _ _ _ done.worked four;
      traced = is_traced c.of-layout.result _ (search rules) done.layout (done.traced refl);
      ran = (
        (done.traced refl).0,
        (done.traced refl).1,
        λ n low.
            let own = in_history _ _ _ _ _ _ _ _ done.worked (done.traced refl).2 n (omega arith) in
            own.3.1,
      );
    }
