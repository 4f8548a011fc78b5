use Rattle.std.proofs.Common.{None, ap, arith, ◌∙◌}
use Rattle.larch_actions.specs.declared.event.Layout.{Layout}
use Rattle.readers_writers.specs.declared.state.RwState.{RwState}
use Rattle.readers_writers.proofs.Opening.{roles_begin}
use Rattle.test_condition.proofs.Freeing.{only_value}
use Rattle.test_condition.proofs.Playing.{acting_first}
use Rattle.test_condition.proofs.turns.open_state.Goals as goal

pub open_package-requires-clause-holds : goal.open_package-requires-clause-holds
open_package-requires-clause-holds c κs =
    let state : RwState = record { readers = 0; writer = None } in
    let values = c.in_ok-values.values.items in
    let wide = ap (λ l. l.threads) c.of-layout.ensures in
    let few = c.requires.1 in
    roles_begin values c.of-layout.result.threads (omega arith) (λ m q at. let same = only_value values state c.in_ok-values.ensures m q at in (ap (λ (x : RwState). x.readers) same, ap (λ (x : RwState). x.writer) same))

pub returns-clause-threads : goal.returns-clause-threads
returns-clause-threads c = λ n t at. acting_first c.in_ok-pkg.pkg n t (c.in_ok-pkg.ensures.threads n t at)

pub returns-clause-version : goal.returns-clause-version
returns-clause-version c = ap (λ (l : Layout). l.version) (c.in_ok-pkg.ensures.package.0 ∙ c.of-layout.ensures)
