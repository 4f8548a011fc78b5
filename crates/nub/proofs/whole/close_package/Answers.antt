use Rattle.std.proofs.Common.{◌≡◌, List, length, ap, sym, subst, map, ◌∙◌}
use lib.ListN.{get_elem?}
use Rattle.larch_actions.specs.declared.event.Version.TheVariants.{One, Two}
use Rattle.nub_rule.specs.declared.package.Stored.{Stored}
use Rattle.nub.specs.History.{AreStored}
use Rattle.nub.proofs.Begun.{threads-only}
use Rattle.nub.proofs.Closing.{keeps_locks, keeps_stints, whole, are_stored, left_by}
use Rattle.nub.proofs.whole.close_package.Goals as goal

pub close_package-values-requires-clause-count : goal.close_package-values-requires-clause-count
close_package-values-requires-clause-count g c κs within = ap (λ ts. length ts.items) (c.into_inner.ensures ∙ c.new-threads.ensures) ∙ c.requires.count

pub close_package-values-requires-clause-threads : goal.close_package-values-requires-clause-threads
close_package-values-requires-clause-threads g c κs within = λ n t e.
    let same = c.into_inner.ensures ∙ c.new-threads.ensures in
    let d = c.requires.threads n t (ap (λ ts. get_elem? ts.items n) (sym same) ∙ e) in
    (d.number, d.rest.of, d.rest.outside.spin, d.rest.child, d.lacks)

pub close_package-values-requires-clause-rest : goal.close_package-values-requires-clause-rest
close_package-values-requires-clause-rest g c κs within = λ n t e.
    let same = c.into_inner.ensures ∙ c.new-threads.ensures in
    ((c.requires.threads n t (ap (λ ts. get_elem? ts.items n) (sym same) ∙ e)).rest.wait, λ two. absurd (let z : One ≡ Two = sym c.requires.version ∙ two in cc))

pub history-recorded-requires : goal.history-recorded-requires
history-recorded-requires g c = λ traced.
    let v = c.close_package-values.ensures.values in
    let s = c.close_package-values.ensures.stored in
    let same = ap (λ ts. ts.items) (c.into_inner.ensures ∙ c.new-threads.ensures) in
    let holds = g.U.Uses.holds c.args.p.world in
    let values = c.close_package-values.result.values.items in
    let left = left_by c.args.p.layout holds c.into_inner.result.items c.args.threads.items values same v.1 in
    let are = are_stored c.args.p.layout holds c.args.p c.args.threads.items values c.close_package-values.result.stored.items left (λ n t at. (c.requires.threads n t at).rest.stored) (sym c.traced-traced.ensures ∙ traced) (s.0 ∙ ap (λ ts. map (λ t. t.entries) ts) same) (s.1 ∙ ap (λ ts. map (λ t. t.lost) ts) same) in
    (left.log, subst (λ (xs : List Stored). AreStored left.log xs) (sym c.as_slice.ensures.value) are)

pub returns-clause-threads : goal.returns-clause-threads
returns-clause-threads g c =
    let over = ap (λ t. t.value.items) c.of.ensures ∙ (ap (λ ts. ts.items) c.new-2.ensures ∙ c.new.ensures.items) in
    let never = ap (λ t. t.value.items) c.of-2.ensures ∙ (ap (λ ts. ts.items) c.new-4.ensures ∙ c.new-3.ensures.items) in
    threads-only c.layout-layout.result.threads (ap (λ t. t.value.items) c.of-last.ensures ∙ ap (λ ts. ts.items) c.new-threads.ensures) over never

pub returns-clause-values : goal.returns-clause-values
returns-clause-values g c =
    let v = c.close_package-values.ensures.values in
    let same = ap (λ ts. ts.items) (c.into_inner.ensures ∙ c.new-threads.ensures) in
    let holds = g.U.Uses.holds c.args.p.world in
    let values = c.close_package-values.result.values.items in
    (v.0, keeps_locks c.args.p.layout holds c.args.threads.items values (left_by c.args.p.layout holds c.into_inner.result.items c.args.threads.items values same v.1))

pub returns-clause-traced : goal.returns-clause-traced
returns-clause-traced g c = λ traced.
    let v = c.close_package-values.ensures.values in
    let s = c.close_package-values.ensures.stored in
    let same = ap (λ ts. ts.items) (c.into_inner.ensures ∙ c.new-threads.ensures) in
    let holds = g.U.Uses.holds c.args.p.world in
    let values = c.close_package-values.result.values.items in
    let left = left_by c.args.p.layout holds c.into_inner.result.items c.args.threads.items values same v.1 in
    let are = are_stored c.args.p.layout holds c.args.p c.args.threads.items values c.close_package-values.result.stored.items left (λ n t at. (c.requires.threads n t at).rest.stored) traced (s.0 ∙ ap (λ ts. map (λ t. t.entries) ts) same) (s.1 ∙ ap (λ ts. map (λ t. t.lost) ts) same) in
    let given = subst (λ (xs : List Stored). AreStored left.log xs) (sym c.as_slice.ensures.value) are in
    (left.log, c.in_ok-trace.ensures.traced (c.traced-traced.ensures ∙ traced) left.log given, whole c.args.p.layout holds c.args.threads.items values left c.requires.count)

pub returns-clause-stints : goal.returns-clause-stints
returns-clause-stints g c = λ traced.
    let v = c.close_package-values.ensures.values in
    let s = c.close_package-values.ensures.stored in
    let same = ap (λ ts. ts.items) (c.into_inner.ensures ∙ c.new-threads.ensures) in
    let holds = g.U.Uses.holds c.args.p.world in
    let values = c.close_package-values.result.values.items in
    let left = left_by c.args.p.layout holds c.into_inner.result.items c.args.threads.items values same v.1 in
    let are = are_stored c.args.p.layout holds c.args.p c.args.threads.items values c.close_package-values.result.stored.items left (λ n t at. (c.requires.threads n t at).rest.stored) traced (s.0 ∙ ap (λ ts. map (λ t. t.entries) ts) same) (s.1 ∙ ap (λ ts. map (λ t. t.lost) ts) same) in
    let given = subst (λ (xs : List Stored). AreStored left.log xs) (sym c.as_slice.ensures.value) are in
    (left.log, c.in_ok-trace.ensures.traced (c.traced-traced.ensures ∙ traced) left.log given, keeps_stints c.args.p.layout holds c.args.threads.items values left)
