use Rattle.std.proofs.Common.{◌≡◌, ℕ, List, length, arith, ap, subst, refl, ◌∙◌}
use Rattle.std.specs.List.{All}
use Rattle.std.proofs.lemmas.List.Elements.{recursion_from_All}
use Rattle.larch_actions.specs.declared.event.Layout.{Layout}
use Rattle.larch_actions.specs.Actions.{IsClosed}
use Rattle.larch_actions.specs.Layout.{HasNames}
use Rattle.larch_actions.specs.declared.event.Event.{Event}
use Rattle.nub.specs.Ended.{IsWhole, KeepsLocks, KeepsStints}
use Rattle.nub.proofs.Users.{idle_done}
use Rattle.barrier_once.specs.Rounds.{AreRounds}
use Rattle.command_rounds.specs.Playing.{AreTotals}
use Rattle.command_rounds.proofs.Apart.{all_come, stinted_of}
use Rattle.command_rounds.proofs.Closing.{begins, closed_values, parts_of}
use Rattle.command_rounds.proofs.First.{of_first}
use Rattle.command_rounds.proofs.Printed.{at_trace}
use Rattle.command_rounds.proofs.run.play_rounds.Goals as goal

pub open_package-requires-clause-holds : goal.open_package-requires-clause-holds
open_package-requires-clause-holds g c κs =
    let wide = ap (λ l. l.threads) c.of-layout.ensures in
    let some = c.requires.threads.0 in
    let few = c.requires.threads.1 in
    begins _ c.in_ok-cells.cells.items c.of-layout.result.threads c.places.ensures c.in_ok-cells.ensures (omega arith) (omega arith) wide

pub close_package-requires-clause-version : goal.close_package-requires-clause-version
close_package-requires-clause-version g c κs = ap (λ (l : Layout). l.version) (c.in_ok-p.ensures.package.0 ∙ c.of-layout.ensures)

pub close_package-requires-clause-threads : goal.close_package-requires-clause-threads
close_package-requires-clause-threads g c κs = λ n t at. let h = c.in_ok-threads.ensures.played n t at in idle_done c.in_ok-p.p n h.share t h.between.idle

pub returns-clause-trace : goal.returns-clause-trace
returns-clause-trace g c =
    let layout = c.in_ok-p.ensures.package.0 ∙ c.of-layout.ensures in
    let w = c.in_ok-closed.ensures.traced c.in_ok-p.ensures.package.1 in
    let count = c.in_ok-p.ensures.count ∙ ap (λ l. l.threads) c.of-layout.ensures in
    let same = c.in_ok-threads.ensures.count in (
      w.0,
      w.1,
      subst (λ (l : Layout). IsClosed l.version w.0) layout w.2.closed,
      recursion_from_All _ w.0 (subst (λ (l : Layout). All (HasNames l) w.0) layout w.2.names),
      λ t low. parts_of c.in_ok-p.p.layout c.in_ok-p.p c.args.rounds c.in_ok-threads.threads.items w.0 w.2 c.in_ok-threads.ensures.played t (omega arith),
    )

pub returns-clause-values : goal.returns-clause-values
returns-clause-values g c =
    let world = c.in_ok-p.ensures.package.2 in
    let locks = c.in_ok-closed.ensures.values in
    let mutexes = ap (λ l. l.mutexes) (c.in_ok-p.ensures.package.0 ∙ c.of-layout.ensures) in
    let most = c.from.ensures in
    let all = closed_values c.in_ok-p.p _ c.args.rounds c.in_ok-threads.threads.items c.in_ok-closed.closed.values c.places.ensures (locks.0 ∙ mutexes) (subst (λ w. KeepsLocks (AreRounds w) c.in_ok-threads.threads.items c.in_ok-closed.closed.values) world locks.1) c.in_ok-threads.ensures.played in
    (all.0, all.1, omega (arith, all.2, most), all.3)

pub returns-clause-totals : goal.returns-clause-totals
returns-clause-totals g c =
    subst (λ (n : ℕ). AreTotals n c.args.rounds c.in_ok-totals.totals.items) (ap (λ w. w.parties) c.in_ok-p.ensures.package.2) (c.in_ok-threads.ensures.totals 0 _ c.in_ok-totals.ensures refl)

pub returns-clause-apart : goal.returns-clause-apart
returns-clause-apart g c = λ h reported.
    let traced = c.in_ok-p.ensures.package.1 in
    let world = c.in_ok-p.ensures.package.2 in
    let threads = c.in_ok-threads.threads.items in
    let values = c.in_ok-closed.closed.values in
    let count = c.in_ok-p.ensures.count ∙ ap (λ l. l.threads) c.of-layout.ensures in
    let same = c.in_ok-threads.ensures.count in
    let here = at_trace (λ (z : List Event). IsWhole c.in_ok-p.p.layout threads z) c.in_ok-closed.closed.trace h reported (c.in_ok-closed.ensures.traced traced) in
    let keeps = at_trace (λ (z : List Event). KeepsStints (AreRounds c.in_ok-p.p.world) threads values z) c.in_ok-closed.closed.trace h reported (c.in_ok-closed.ensures.stints traced) in
    let size : length threads ≡ c.args.threads = omega arith in
    all_come c.in_ok-p.p.world c.args.threads h keeps.stints (stinted_of c.in_ok-p.p.layout c.in_ok-p.p c.in_ok-p.p.world c.args.rounds c.args.threads threads values h size here keeps c.in_ok-threads.ensures.played)

pub returns-clause-first : goal.returns-clause-first
returns-clause-first g c = λ h v reported last.
    let traced = c.in_ok-p.ensures.package.1 in
    let world = c.in_ok-p.ensures.package.2 in
    let threads = c.in_ok-threads.threads.items in
    let values = c.in_ok-closed.closed.values in
    let count = c.in_ok-p.ensures.count ∙ ap (λ l. l.threads) c.of-layout.ensures in
    let same = c.in_ok-threads.ensures.count in
    let here = at_trace (λ (z : List Event). IsWhole c.in_ok-p.p.layout threads z) c.in_ok-closed.closed.trace h reported (c.in_ok-closed.ensures.traced traced) in
    let keeps = at_trace (λ (z : List Event). KeepsStints (AreRounds c.in_ok-p.p.world) threads values z) c.in_ok-closed.closed.trace h reported (c.in_ok-closed.ensures.stints traced) in
    let size : length threads ≡ c.args.threads = omega arith in
    of_first c.in_ok-p.p.layout c.in_ok-p.p c.in_ok-p.p.world c.args.rounds c.args.threads threads values h v (ap (λ w. w.at) world ∙ c.places.ensures) (ap (λ w. w.parties) world) size here keeps c.in_ok-closed.ensures.values.1 c.in_ok-threads.ensures.played last
