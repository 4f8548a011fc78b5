use Rattle.std.proofs.Common.{◌≡◌, ◌++◌, List, ap, sym, subst, map, ◌∙◌}
use lib.ListN.{get_elem?}
use Rattle.nub_rule.specs.declared.package.Stored.{Stored}
use Rattle.nub_rule.specs.Ends.{Leaves}
use Rattle.nub_rule.specs.Forks.{with_number, in_order}
use Rattle.nub_rule.specs.Known.{Known}
use Rattle.nub_rule.proofs.Ordering.{in-order-long}
use Rattle.nub.specs.Ended.{KeepsLocks, KeepsStints, IsWhole}
use Rattle.nub.specs.History.{AreStored}
use Rattle.nub.specs.Rest.{HasStored}
use Rattle.nub.proofs.Begun.{append-same, in-order-each, threads-same}
use Rattle.nub.proofs.Closing.{keeps_locks, keeps_stints, whole, are_stored}
use Rattle.nub.proofs.whole.close_forked.Goals as goal

pub close_forked-values-requires-clause-of : goal.close_forked-values-requires-clause-of
close_forked-values-requires-clause-of g c κs within = λ n t e.
    let both = append-same (ap (λ ts. ts.items) (c.into_inner.ensures ∙ c.new-ended.ensures)) (ap (λ ts. ts.items) (c.into_inner-2.ensures ∙ c.new-unborn.ensures)) in
    (c.requires.left n t (ap (λ ts. get_elem? ts n) (sym both) ∙ e)).of

pub close_forked-values-requires-clause-all : goal.close_forked-values-requires-clause-all
close_forked-values-requires-clause-all g c κs within = λ i low.
    let both = append-same (ap (λ ts. ts.items) (c.into_inner.ensures ∙ c.new-ended.ensures)) (ap (λ ts. ts.items) (c.into_inner-2.ensures ∙ c.new-unborn.ensures)) in
    let a = c.requires.all i low in
    (a.0, ap (λ ts. with_number i ts) both ∙ a.1)

pub history-recorded-requires : goal.history-recorded-requires
history-recorded-requires g c = λ traced.
    let K = Known g.row.U-Value.Denot g.row.U-Share.Denot g.row.U-World.Denot in
    let all : List K = c.args.ended.items ++ c.args.unborn.items in
    let given : List K = c.into_inner.result.items ++ c.into_inner-2.result.items in
    let both : given ≡ all = λ j. ap (λ ts. ts.items) (c.into_inner.ensures ∙ c.new-ended.ensures) j ++ ap (λ ts. ts.items) (c.into_inner-2.ensures ∙ c.new-unborn.ensures) j in
    let layout = c.args.p.layout in
    let n = layout.threads in
    let holds = g.U.Uses.holds c.args.p.world in
    let values = c.close_forked-values.result.values.items in
    let v = c.close_forked-values.ensures.values in
    let left : Leaves layout holds (map (λ t. t.part) (in_order n all)) values = subst (λ (ts : List K). Leaves layout holds (map (λ t. t.part) (in_order n ts)) values) both v.1 in
    let traces = sym c.traced-traced.ensures ∙ traced in
    let s = c.close_forked-values.ensures.stored in
    let are = are_stored layout holds c.args.p (in_order n all) values c.close_forked-values.result.stored.items left (in-order-each (λ (k : K). HasStored c.args.p.traced k) n all c.requires.all (λ i x at. (c.requires.left i x at).stored)) traces (s.0 ∙ ap (λ ts. map (λ t. t.entries) (in_order n ts)) both) (s.1 ∙ ap (λ ts. map (λ t. t.lost) (in_order n ts)) both) in
    let given_are = subst (λ (xs : List Stored). AreStored left.log xs) (sym c.as_slice.ensures.value) are in
    (left.log, given_are)

pub returns-clause-threads : goal.returns-clause-threads
returns-clause-threads g c =
    let empty = ap (λ t. t.value.items) c.of.ensures ∙ (ap (λ ts. ts.items) c.new-2.ensures ∙ c.new.ensures.items) in
    let over = ap (λ t. t.value.items) c.of-over.ensures ∙ ap (λ ts. ts.items) c.new-ended.ensures in
    let never = ap (λ t. t.value.items) c.of-never.ensures ∙ ap (λ ts. ts.items) c.new-unborn.ensures in
    let same = threads-same empty (ap (λ l. l.threads) c.layout-layout.ensures) over never in
    same

pub returns-clause-values : goal.returns-clause-values
returns-clause-values g c =
    let K = Known g.row.U-Value.Denot g.row.U-Share.Denot g.row.U-World.Denot in
    let all : List K = c.args.ended.items ++ c.args.unborn.items in
    let given : List K = c.into_inner.result.items ++ c.into_inner-2.result.items in
    let both : given ≡ all = λ j. ap (λ ts. ts.items) (c.into_inner.ensures ∙ c.new-ended.ensures) j ++ ap (λ ts. ts.items) (c.into_inner-2.ensures ∙ c.new-unborn.ensures) j in
    let layout = c.args.p.layout in
    let n = layout.threads in
    let holds = g.U.Uses.holds c.args.p.world in
    let values = c.close_forked-values.result.values.items in
    let v = c.close_forked-values.ensures.values in
    let left : Leaves layout holds (map (λ t. t.part) (in_order n all)) values = subst (λ (ts : List K). Leaves layout holds (map (λ t. t.part) (in_order n ts)) values) both v.1 in
    let empty = ap (λ t. t.value.items) c.of.ensures ∙ (ap (λ ts. ts.items) c.new-2.ensures ∙ c.new.ensures.items) in
    let over = ap (λ t. t.value.items) c.of-over.ensures ∙ ap (λ ts. ts.items) c.new-ended.ensures in
    let never = ap (λ t. t.value.items) c.of-never.ensures ∙ ap (λ ts. ts.items) c.new-unborn.ensures in
    let same = threads-same empty (ap (λ l. l.threads) c.layout-layout.ensures) over never in
    (v.0, subst (λ (ts : List K). KeepsLocks holds ts values) (sym same) (keeps_locks layout holds (in_order n all) values left))

pub returns-clause-traced : goal.returns-clause-traced
returns-clause-traced g c = λ traces.
    let K = Known g.row.U-Value.Denot g.row.U-Share.Denot g.row.U-World.Denot in
    let all : List K = c.args.ended.items ++ c.args.unborn.items in
    let given : List K = c.into_inner.result.items ++ c.into_inner-2.result.items in
    let both : given ≡ all = λ j. ap (λ ts. ts.items) (c.into_inner.ensures ∙ c.new-ended.ensures) j ++ ap (λ ts. ts.items) (c.into_inner-2.ensures ∙ c.new-unborn.ensures) j in
    let layout = c.args.p.layout in
    let n = layout.threads in
    let holds = g.U.Uses.holds c.args.p.world in
    let values = c.close_forked-values.result.values.items in
    let v = c.close_forked-values.ensures.values in
    let left : Leaves layout holds (map (λ t. t.part) (in_order n all)) values = subst (λ (ts : List K). Leaves layout holds (map (λ t. t.part) (in_order n ts)) values) both v.1 in
    let s = c.close_forked-values.ensures.stored in
    let are = are_stored layout holds c.args.p (in_order n all) values c.close_forked-values.result.stored.items left (in-order-each (λ (k : K). HasStored c.args.p.traced k) n all c.requires.all (λ i x at. (c.requires.left i x at).stored)) traces (s.0 ∙ ap (λ ts. map (λ t. t.entries) (in_order n ts)) both) (s.1 ∙ ap (λ ts. map (λ t. t.lost) (in_order n ts)) both) in
    let given_are = subst (λ (xs : List Stored). AreStored left.log xs) (sym c.as_slice.ensures.value) are in
    let empty = ap (λ t. t.value.items) c.of.ensures ∙ (ap (λ ts. ts.items) c.new-2.ensures ∙ c.new.ensures.items) in
    let over = ap (λ t. t.value.items) c.of-over.ensures ∙ ap (λ ts. ts.items) c.new-ended.ensures in
    let never = ap (λ t. t.value.items) c.of-never.ensures ∙ ap (λ ts. ts.items) c.new-unborn.ensures in
    let same = threads-same empty (ap (λ l. l.threads) c.layout-layout.ensures) over never in
    (left.log, c.in_ok-trace.ensures.traced (c.traced-traced.ensures ∙ traces) left.log given_are, subst (λ (ts : List K). IsWhole layout ts left.log) (sym same) (whole layout holds (in_order n all) values left (in-order-long n all c.requires.all)))

pub returns-clause-stints : goal.returns-clause-stints
returns-clause-stints g c = λ traces.
    let K = Known g.row.U-Value.Denot g.row.U-Share.Denot g.row.U-World.Denot in
    let all : List K = c.args.ended.items ++ c.args.unborn.items in
    let given : List K = c.into_inner.result.items ++ c.into_inner-2.result.items in
    let both : given ≡ all = λ j. ap (λ ts. ts.items) (c.into_inner.ensures ∙ c.new-ended.ensures) j ++ ap (λ ts. ts.items) (c.into_inner-2.ensures ∙ c.new-unborn.ensures) j in
    let layout = c.args.p.layout in
    let n = layout.threads in
    let holds = g.U.Uses.holds c.args.p.world in
    let values = c.close_forked-values.result.values.items in
    let v = c.close_forked-values.ensures.values in
    let left : Leaves layout holds (map (λ t. t.part) (in_order n all)) values = subst (λ (ts : List K). Leaves layout holds (map (λ t. t.part) (in_order n ts)) values) both v.1 in
    let s = c.close_forked-values.ensures.stored in
    let are = are_stored layout holds c.args.p (in_order n all) values c.close_forked-values.result.stored.items left (in-order-each (λ (k : K). HasStored c.args.p.traced k) n all c.requires.all (λ i x at. (c.requires.left i x at).stored)) traces (s.0 ∙ ap (λ ts. map (λ t. t.entries) (in_order n ts)) both) (s.1 ∙ ap (λ ts. map (λ t. t.lost) (in_order n ts)) both) in
    let given_are = subst (λ (xs : List Stored). AreStored left.log xs) (sym c.as_slice.ensures.value) are in
    let empty = ap (λ t. t.value.items) c.of.ensures ∙ (ap (λ ts. ts.items) c.new-2.ensures ∙ c.new.ensures.items) in
    let over = ap (λ t. t.value.items) c.of-over.ensures ∙ ap (λ ts. ts.items) c.new-ended.ensures in
    let never = ap (λ t. t.value.items) c.of-never.ensures ∙ ap (λ ts. ts.items) c.new-unborn.ensures in
    let same = threads-same empty (ap (λ l. l.threads) c.layout-layout.ensures) over never in
    (left.log, c.in_ok-trace.ensures.traced (c.traced-traced.ensures ∙ traces) left.log given_are, subst (λ (ts : List K). KeepsStints holds ts values left.log) (sym same) (keeps_stints layout holds (in_order n all) values left))
