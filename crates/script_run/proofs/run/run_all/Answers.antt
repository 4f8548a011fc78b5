use Rattle.std.proofs.Common.{◌≡◌, ◌<◌, ℕ, List, length, get_or, ap, sym, subst, ◌∙◌}
use lib.ListN.{get_elem?}
use Rattle.std.proofs.lemmas.List.{length-replicate}
use Rattle.std.proofs.lemmas.List.Elements.{recursion_from_All}
use Rattle.std.specs.List.{All}
use Rattle.larch_actions.specs.declared.event.Layout.{Layout}
use Rattle.larch_actions.specs.declared.event.Version.{Version}
use Rattle.larch_actions.specs.declared.event.Version.TheVariants.{One}
use Rattle.larch_actions.specs.Actions.{IsClosed, by_thread}
use Rattle.larch_actions.specs.Layout.{HasNames}
use Rattle.nub.specs.Ended.{IsWhole}
use Rattle.larch_actions.proofs.Names.{few_of}
use Rattle.larch_actions.specs.declared.kind.Kind.TheVariants.{Thread}
use Rattle.script_text.specs.declared.line.Line.{Line}
use Rattle.script_text.specs.Operations.{none_held, MayFollow, none_forked}
use Rattle.script_text.specs.Runs.{AreEventsOf, total}
use Rattle.script_text.specs.Text.{IsScript}
use Rattle.script_text.specs.Visited.{AreVisited}
use Rattle.script_run.proofs.Closing.{events_made, if_ok, if_three, played_made, values_of, visited_of, whole_same}
use Rattle.script_run.proofs.Sums.{first_sums}
use Rattle.script_run.proofs.run.run_all.Goals as goal

pub open_package-requires-clause-holds : goal.open_package-requires-clause-holds
open_package-requires-clause-holds g c κs =
    first_sums c.layout-layout.result.mutexes c.layout-layout.result.threads c.in_ok-values.values.items (few_of c.layout-layout.result c.layout-layout.ensures.lawful Thread) c.in_ok-values.ensures

pub open_package-requires-clause-values : goal.open_package-requires-clause-values
open_package-requires-clause-values g c κs = ap length c.in_ok-values.ensures ∙ length-replicate c.layout-layout.result.mutexes 0

pub with_room-requires : goal.with_room-requires
with_room-requires g c = subst (λ (xs : List Line). length xs < 100000) (sym c.lines.ensures.lines) c.lines.ensures.few

pub play_all-requires-clause-script : goal.play_all-requires-clause-script
play_all-requires-clause-script g c κs within =
    let same = c.in_ok-pkg.ensures.package.0 ∙ c.layout-layout.ensures.layout in
    subst (λ (l : Layout). IsScript l c.lines-2.result.now) (sym same) (subst (IsScript c.args.script.now.layout) (sym c.lines-2.ensures.lines) c.lines-2.ensures.script)

pub play_all-requires-clause-few : goal.play_all-requires-clause-few
play_all-requires-clause-few g c κs within = subst (λ (xs : List Line). length xs < 100000) (sym c.lines-2.ensures.lines) c.lines-2.ensures.few

pub play_all-requires-clause-threads : goal.play_all-requires-clause-threads
play_all-requires-clause-threads g c κs within = c.in_ok-roomy.ensures.threads c.in_ok-pkg.pkg c.in_ok-pkg.ensures.threads

pub close_package-requires-clause-version : goal.close_package-requires-clause-version
close_package-requires-clause-version g c κs = ap (λ (l : Layout). l.version) (c.in_ok-pkg.ensures.package.0 ∙ c.layout-layout.ensures.layout) ∙ c.requires.version

pub close_package-requires-clause-count : goal.close_package-requires-clause-count
close_package-requires-clause-count g c κs =
    c.in_ok-threads.ensures.count ∙ (c.in_ok-roomy.ensures.count ∙ (c.in_ok-pkg.ensures.count ∙ ap (λ l. l.threads) (sym c.in_ok-pkg.ensures.package.0)))

pub close_package-requires-clause-threads : goal.close_package-requires-clause-threads
close_package-requires-clause-threads g c κs n x got = (c.in_ok-threads.ensures.played n x got).done

pub returns-clause-layout : goal.returns-clause-layout
returns-clause-layout g c = if_ok c.close_package.result _ _ (λ r same. same ∙ (c.in_ok-pkg.ensures.package.0 ∙ c.layout-layout.ensures.layout)) c.close_package.ensures.layout

pub returns-clause-count : goal.returns-clause-count
returns-clause-count g c =
    let same = c.in_ok-pkg.ensures.package.0 ∙ c.layout-layout.ensures.layout in
    if_ok c.close_package.result _ _ (λ r w. w.0 ∙ ap (λ l. l.mutexes) same) c.close_package.ensures.values

pub returns-clause-trace : goal.returns-clause-trace
returns-clause-trace g c =
    let lines = c.lines-2.ensures.lines in
    let layout = c.layout-layout.ensures.layout in
    let played = c.in_ok-threads.ensures.played in
    let count = c.in_ok-threads.ensures.count ∙ c.in_ok-roomy.ensures.count ∙ c.in_ok-pkg.ensures.count ∙ ap (λ l. l.threads) layout in
    if_ok c.close_package.result _ _
    (λ r w.
    let own : (t : ℕ) → t < c.args.script.now.layout.threads → AreEventsOf c.args.script.now.layout.version c.args.script.now.lines t (by_thread t w.0) = λ t low.
    let Q : List Line → Type 0 = λ xs. AreEventsOf One xs t (by_thread t w.0) in
    let made = played_made c.in_ok-pkg.pkg c.lines-2.result.now c.in_ok-threads.threads.items played in
    subst (λ (v : Version). AreEventsOf v c.args.script.now.lines t (by_thread t w.0)) (sym c.requires.version) (subst Q lines (events_made One c.in_ok-pkg.pkg.layout c.lines-2.result.now c.in_ok-threads.threads.items c.args.script.now.layout.threads w.0 count made w.2 t low)) in (
      w.0,
      w.1,
      subst (λ (l : Layout). IsClosed l.version w.0) (c.in_ok-pkg.ensures.package.0 ∙ layout) w.2.closed,
      recursion_from_All (HasNames c.args.script.now.layout) w.0 (subst (λ (l : Layout). All (HasNames l) w.0) (c.in_ok-pkg.ensures.package.0 ∙ layout) w.2.names),
      own,
    ))
    (c.close_package.ensures.traced c.in_ok-pkg.ensures.package.1)

pub returns-clause-values : goal.returns-clause-values
returns-clause-values g c =
    let lines = c.lines-2.ensures.lines in
    let layout = c.layout-layout.ensures.layout in
    let same = c.in_ok-pkg.ensures.package.0 ∙ layout in
    let played = c.in_ok-threads.ensures.played in
    let count = c.in_ok-threads.ensures.count ∙ c.in_ok-roomy.ensures.count ∙ c.in_ok-pkg.ensures.count ∙ ap (λ l. l.threads) layout in
    let script = c.lines-2.ensures.script in
    let F : List Line → Type 0 = λ xs. MayFollow c.args.script.now.layout none_held none_forked xs in
    if_ok c.close_package.result _ _
    (λ r w m low.
    let Q : List Line → Type 0 = λ xs. get_or r.values m 0 ≡ total xs m in
    subst Q lines (values_of c.in_ok-pkg.pkg c.args.script.now.layout c.lines-2.result.now c.in_ok-threads.threads.items r.values script.lawful (subst F (sym lines) script.follow) count played w.1 (w.0 ∙ ap (λ l. l.mutexes) same) m low))
    c.close_package.ensures.values

pub returns-clause-visits : goal.returns-clause-visits
returns-clause-visits g c =
    let p = c.in_ok-pkg.pkg in
    let xs = c.lines-2.result.now in
    let threads = c.in_ok-threads.threads.items in
    let lines = c.lines-2.ensures.lines in
    let layout = c.layout-layout.ensures.layout in
    let same = c.in_ok-pkg.ensures.package.0 ∙ layout in
    let played = c.in_ok-threads.ensures.played in
    let count = c.in_ok-threads.ensures.count ∙ c.in_ok-roomy.ensures.count ∙ c.in_ok-pkg.ensures.count ∙ ap (λ l. l.threads) layout in
    let script = c.lines-2.ensures.script in
    let l = c.args.script.now.layout in
    let F : List Line → Type 0 = λ ys. MayFollow l none_held none_forked ys in
    let traced = c.in_ok-pkg.ensures.package.1 in
    if_three c.close_package.result _ _ _ _
    (λ r values whole stints.
    let size = values.0 ∙ ap (λ z. z.mutexes) same in
    let sums = values_of p l xs threads r.values script.lawful (subst F (sym lines) script.follow) count played values.1 size in
    let here = subst (λ (z : Layout). IsWhole z threads stints.0) same (whole_same p.layout threads whole.0 stints.0 r.trace whole.1 stints.1 whole.2) in
    let visited = visited_of One l xs threads r.values stints.0 c.requires.version count (played_made p xs threads played) here stints.2 size sums in
    (stints.0, stints.1, subst (λ (ys : List Line). AreVisited l ys stints.0) lines visited))
    c.close_package.ensures.values (c.close_package.ensures.traced traced) (c.close_package.ensures.stints traced)
