use Rattle.std.proofs.Common.{◌≡◌, ◌<◌, ◌≤◌, ◌+◌, ◌-◌, ◌++◌, [], ℕ, List, map, length, get_or, take, drop, ap, sym, subst, ◌∙◌, refl, arith}
use Rattle.std.proofs.lemmas.List.{length-map}
use Rattle.std.proofs.lemmas.List.Elements.{recursion_from_All}
use Rattle.std.specs.List.{All}
use Rattle.larch_actions.specs.declared.event.Layout.{Layout}
use Rattle.larch_actions.specs.declared.event.Version.{Version}
use Rattle.larch_actions.specs.Actions.{IsClosed, by_thread}
use Rattle.larch_actions.specs.Layout.{HasNames, IsLawful}
use Rattle.script_text.specs.Runs.{AreEventsOf, total}
use Rattle.nub.specs.Ended.{IsFirst}
use Rattle.script_text.specs.Visited.{AreVisited}
use Rattle.script_run.proofs.Closing.{events_made, if_both, if_four, visited_of, whole_same}
use Rattle.larch_actions.specs.declared.event.Version.TheVariants.{Two}
use Rattle.larch_actions.specs.declared.kind.Kind.TheVariants.{Thread}
use Rattle.larch_actions.proofs.Names.{few_of}
use Rattle.script_text.specs.declared.line.Line.{Line}
use Rattle.script_text.specs.Operations.{none_held, MayFollow, none_forked}
use Rattle.script_text.specs.Text.{IsScript}
use Rattle.nub_rule.specs.Forks.{with_number}
use Rattle.sum_uses.specs.declared.added.Added.{Added}
use Rattle.script_run.specs.declared.slots.Slot.{Slot}
use Rattle.script_run.specs.Placing.{occurs, ended_slots}
use Rattle.script_run.specs.Playing.{Player}
use Rattle.script_run.specs.Regions.{region}
use Rattle.script_run.specs.Slots.{AreOver, AreReady, slot_number}
use Rattle.script_run.proofs.Gathering.{AreBack, enough_rights, ready_first, all_ended, are_back, back_left, back_all, made_of, totals_of, below_of, over_moved, long_over}
use Rattle.script_run.proofs.Members.{written}
use Rattle.script_run.proofs.Pieces.{one_region}
use Rattle.nub.proofs.Roomy.{first_roomy}
use Rattle.script_run.proofs.Sums.{first_sums}
use Rattle.script_run.proofs.forked.run_forked.Given.{Over}
use Rattle.script_run.proofs.forked.run_forked.Goals as goal
use Rattle.script_run.proofs.forked.run_forked.Goals.{After-as_mut_slice, After-play_all, After-ends}

pub open_forked-requires-clause-holds : goal.open_forked-requires-clause-holds
open_forked-requires-clause-holds g c κs =
    first_sums c.layout-layout.result.mutexes c.layout-layout.result.threads c.in_ok-values.values.items (few_of c.layout-layout.result c.layout-layout.ensures.lawful Thread) c.in_ok-values.ensures

follows : (l k : Layout) (xs ys : List Line) → k ≡ l → ys ≡ xs → IsScript l xs → MayFollow k none_held none_forked ys
follows l k xs ys e f script =
    let L : Layout → Type 0 = λ z. MayFollow z none_held none_forked ys in
    let F : List Line → Type 0 = λ z. MayFollow l none_held none_forked z in
    subst L (sym e) (subst F (sym f) script.follow)

pub place-requires : goal.place-requires
place-requires g c n =
    let l = c.in_ok-pkg.pkg.layout in
    let xs = c.lines-lines.result.now in
    let same : l ≡ c.args.script.now.layout = c.in_ok-pkg.ensures.package.0 ∙ c.layout-layout.ensures.layout in
    let two : l.version ≡ Two = ap (λ (z : Layout). z.version) same ∙ c.requires.version in
    let follow = follows c.args.script.now.layout l c.args.script.now.lines xs same c.lines-lines.ensures.lines c.lines-lines.ensures.script in
    let count : length c.in_ok-pkg.rights.items + 1 ≡ l.threads = c.in_ok-pkg.ensures.count ∙ ap (λ (z : Layout). z.threads) (sym c.in_ok-pkg.ensures.package.0) in
    let order = below_of xs c.in_ok-order.order.items c.deref.result.now c.len-2.result c.in_ok-order.ensures c.deref.ensures.value (c.len-2.ensures ∙ c.in_ok-order.order.ok.0) in
    subst (λ (z : List ℕ). occurs n z ≤ length (with_number n c.in_ok-pkg.rights.items)) (sym order) (enough_rights l xs c.in_ok-pkg.rights.items two follow (λ i k at. (c.in_ok-pkg.ensures.rights i k at).number) count n)

ready : (g : Over) (c : After-as_mut_slice g) → AreReady c.in_ok-pkg.pkg c.lines-lines.result.now 0 0 c.as_mut_slice.result.now
ready g c =
    let xs = c.lines-lines.result.now in
    let order = below_of xs c.in_ok-order.order.items c.deref.result.now c.len-2.result c.in_ok-order.ensures c.deref.ensures.value (c.len-2.ensures ∙ c.in_ok-order.order.ok.0) in
    let first = subst (λ (k : Player). IsFirst c.in_ok-pkg.pkg (λ w n. let s : List Added = [] in s) 0 k) (sym c.reserve.ensures.same) (first_roomy c.in_ok-pkg.pkg c.reserve.new.self.capacity c.in_ok-pkg.first _ 0 c.in_ok-pkg.ensures.first) in
    subst (λ (z : List Slot). AreReady c.in_ok-pkg.pkg xs 0 0 z) (sym c.as_mut_slice.ensures.value)
    (ready_first c.in_ok-pkg.pkg xs c.reserve.new.self c.in_ok-pkg.rights.items (take (c.len-2.result - 1) c.deref.result.now) c.in_ok-slots.slots.items c.in_ok-slots.others.items c.in_ok-slots.ensures order first c.in_ok-pkg.ensures.rights)

pub play_all-requires-clause-regions : goal.play_all-requires-clause-regions
play_all-requires-clause-regions g c κs within =
    let r = ready g c in
    one_region c.in_ok-pkg.pkg c.lines-lines.result.now c.as_mut_slice.result.now (record { at = 0; t = 0; within = omega arith; ready = r })

-- the slots that are written back
all_written : (g : Over) (c : After-play_all g) → take c.in_ok-slots.slots.len (c.play_all.new.slots ++ drop (length c.play_all.new.slots) c.in_ok-slots.slots.items) ≡ c.play_all.new.slots
all_written g c =
    written c.in_ok-slots.slots.len c.play_all.new.slots c.in_ok-slots.slots.items c.in_ok-slots.slots.ok.0 (long_over c.in_ok-pkg.pkg c.lines-lines.result.now c.as_mut_slice.result.now c.play_all.new.slots c.play_all.ensures ∙ ap length c.as_mut_slice.ensures.value)

abbrev Ends : (g : Over) → After-play_all g → Type 0
Ends g c = AreOver c.in_ok-pkg.pkg c.lines-lines.result.now (region c.lines-lines.result.now 0) (take c.in_ok-slots.slots.len (c.play_all.new.slots ++ drop (length c.play_all.new.slots) c.in_ok-slots.slots.items))

over : (g : Over) (c : After-play_all g) → map slot_number c.as_mut_slice.result.now ≡ region c.lines-lines.result.now 0 → Ends g c
over g c numbers =
    over_moved c.in_ok-pkg.pkg c.lines-lines.result.now (map slot_number c.as_mut_slice.result.now) (region c.lines-lines.result.now 0) c.play_all.new.slots _ numbers (sym (all_written g c)) c.play_all.ensures

pub ends-requires-clause-over : goal.ends-requires-clause-over
ends-requires-clause-over g c =
    let a = goal.at.ends-requires-clause-over g c in
    all_ended c.in_ok-pkg.pkg c.lines-lines.result.now (region c.lines-lines.result.now 0) _ (over g a.After-play_all (ready g a.After-as_mut_slice).numbers)

pub ends-requires-clause-room : goal.ends-requires-clause-room
ends-requires-clause-room g c =
    let a = goal.at.ends-requires-clause-room g c in
    let o = over g a.After-play_all (ready g a.After-as_mut_slice).numbers in
    let long = ap length (o.numbers ∙ sym c.in_ok-order.ensures) in
    let same = length-map (take c.in_ok-slots.slots.len (c.play_all.new.slots ++ drop (length c.play_all.new.slots) c.in_ok-slots.slots.items)) slot_number in
    (c.in_ok-over.ensures.items, omega (arith, long, same, c.in_ok-over.ensures.capacity, c.len.ensures, c.in_ok-order.order.ok.0))

back : (g : Over) (c : After-ends g) → map slot_number c.as_mut_slice.result.now ≡ region c.lines-lines.result.now 0 → AreOver c.in_ok-pkg.pkg c.lines-lines.result.now (region c.lines-lines.result.now 0) (take c.in_ok-slots.slots.len (c.play_all.new.slots ++ drop (length c.play_all.new.slots) c.in_ok-slots.slots.items)) → AreBack c.in_ok-pkg.pkg c.in_ok-pkg.pkg.layout c.lines-lines.result.now c.ends.result.items c.in_ok-slots.others.items
back g c numbers over =
    let p = c.in_ok-pkg.pkg in
    let l = p.layout in
    let xs = c.lines-lines.result.now in
    let same : l ≡ c.args.script.now.layout = c.in_ok-pkg.ensures.package.0 ∙ c.layout-layout.ensures.layout in
    let two : l.version ≡ Two = ap (λ (z : Layout). z.version) same ∙ c.requires.version in
    let follow = follows c.args.script.now.layout l c.args.script.now.lines xs same c.lines-lines.ensures.lines c.lines-lines.ensures.script in
    let count : length c.in_ok-pkg.rights.items + 1 ≡ l.threads = c.in_ok-pkg.ensures.count ∙ ap (λ (z : Layout). z.threads) (sym c.in_ok-pkg.ensures.package.0) in
    let order = below_of xs c.in_ok-order.order.items c.deref.result.now c.len-2.result c.in_ok-order.ensures c.deref.ensures.value (c.len-2.ensures ∙ c.in_ok-order.order.ok.0) in
    let done : AreOver p xs (region xs 0) (ended_slots c.ends.result.items) = over_moved p xs (region xs 0) (region xs 0) _ (ended_slots c.ends.result.items) refl (sym c.ends.ensures) over in
    are_back p l xs c.reserve.new.self c.in_ok-pkg.rights.items (take (c.len-2.result - 1) c.deref.result.now) c.in_ok-slots.slots.items c.in_ok-slots.others.items c.ends.result.items two follow c.in_ok-slots.ensures order c.in_ok-pkg.ensures.rights count done

pub close_forked-requires-clause-left : goal.close_forked-requires-clause-left
close_forked-requires-clause-left g c κs =
    let a = goal.at.close_forked-requires-clause-left g c in
    let r = (ready g a.After-as_mut_slice).numbers in
    back_left c.in_ok-pkg.pkg c.in_ok-pkg.pkg.layout c.lines-lines.result.now c.ends.result.items c.in_ok-slots.others.items (back g a.After-ends r (over g a.After-play_all r))

pub close_forked-requires-clause-all : goal.close_forked-requires-clause-all
close_forked-requires-clause-all g c κs =
    let a = goal.at.close_forked-requires-clause-all g c in
    let r = (ready g a.After-as_mut_slice).numbers in
    back_all c.in_ok-pkg.pkg c.in_ok-pkg.pkg.layout c.lines-lines.result.now c.ends.result.items c.in_ok-slots.others.items (back g a.After-ends r (over g a.After-play_all r))

pub returns-clause-trace : goal.returns-clause-trace
returns-clause-trace g c =
    let a = goal.at.returns-clause-trace g c in
    let r = (ready g a.After-as_mut_slice).numbers in
    let b = back g a.After-ends r (over g a.After-play_all r) in
    let p = c.in_ok-pkg.pkg in
    let l = p.layout in
    let xs = c.lines-lines.result.now in
    let same : l ≡ c.args.script.now.layout = c.in_ok-pkg.ensures.package.0 ∙ c.layout-layout.ensures.layout in
    let two : l.version ≡ Two = ap (λ (z : Layout). z.version) same ∙ c.requires.version in
    let follow = follows c.args.script.now.layout l c.args.script.now.lines xs same c.lines-lines.ensures.lines c.lines-lines.ensures.script in
    if_both c.close_forked.result _ _ _
    (λ o threads w.
    let own : (t : ℕ) → t < c.args.script.now.layout.threads → AreEventsOf c.args.script.now.layout.version c.args.script.now.lines t (by_thread t w.0) = λ t low.
    let here : t < l.threads = subst (λ (z : Layout). t < z.threads) (sym same) low in
    let made = made_of p l xs c.ends.result.items c.in_ok-slots.others.items o.threads two follow b threads in
    let e = events_made Two l xs o.threads l.threads w.0 made.0 made.1 w.2 t here in
    subst (λ (v : Version). AreEventsOf v c.args.script.now.lines t (by_thread t w.0)) (sym c.requires.version) (subst (λ (ys : List Line). AreEventsOf Two ys t (by_thread t w.0)) c.lines-lines.ensures.lines e) in (
      w.0,
      w.1,
      subst (λ (z : Layout). IsClosed z.version w.0) same w.2.closed,
      recursion_from_All (HasNames c.args.script.now.layout) w.0 (subst (λ (z : Layout). All (HasNames z) w.0) same w.2.names),
      own,
    ))
    c.close_forked.ensures.threads (c.close_forked.ensures.traced c.in_ok-pkg.ensures.package.1)

pub returns-clause-values : goal.returns-clause-values
returns-clause-values g c =
    let a = goal.at.returns-clause-values g c in
    let r = (ready g a.After-as_mut_slice).numbers in
    let b = back g a.After-ends r (over g a.After-play_all r) in
    let p = c.in_ok-pkg.pkg in
    let l = p.layout in
    let xs = c.lines-lines.result.now in
    let same : l ≡ c.args.script.now.layout = c.in_ok-pkg.ensures.package.0 ∙ c.layout-layout.ensures.layout in
    let two : l.version ≡ Two = ap (λ (z : Layout). z.version) same ∙ c.requires.version in
    let follow = follows c.args.script.now.layout l c.args.script.now.lines xs same c.lines-lines.ensures.lines c.lines-lines.ensures.script in
    let lawful : IsLawful l = subst IsLawful (sym c.in_ok-pkg.ensures.package.0) c.layout-layout.ensures.lawful in
    if_both c.close_forked.result _ _ _
    (λ o threads w m low.
    let here : m < l.mutexes = subst (λ (z : Layout). m < z.mutexes) (sym same) low in
    let e = totals_of p l xs c.ends.result.items c.in_ok-slots.others.items o.threads o.values lawful two follow b threads w.1 w.0 m here in
    subst (λ (ys : List Line). get_or o.values m 0 ≡ total ys m) c.lines-lines.ensures.lines e)
    c.close_forked.ensures.threads c.close_forked.ensures.values

pub returns-clause-visits : goal.returns-clause-visits
returns-clause-visits g c =
    let a = goal.at.returns-clause-visits g c in
    let r = (ready g a.After-as_mut_slice).numbers in
    let b = back g a.After-ends r (over g a.After-play_all r) in
    let p = c.in_ok-pkg.pkg in
    let l = p.layout in
    let k = c.args.script.now.layout in
    let xs = c.lines-lines.result.now in
    let ended = c.ends.result.items in
    let others = c.in_ok-slots.others.items in
    let same : l ≡ k = c.in_ok-pkg.ensures.package.0 ∙ c.layout-layout.ensures.layout in
    let two : l.version ≡ Two = ap (λ (z : Layout). z.version) same ∙ c.requires.version in
    let follow = follows k l c.args.script.now.lines xs same c.lines-lines.ensures.lines c.lines-lines.ensures.script in
    let lawful : IsLawful l = subst IsLawful (sym c.in_ok-pkg.ensures.package.0) c.layout-layout.ensures.lawful in
    let traced = c.in_ok-pkg.ensures.package.1 in
    if_four c.close_forked.result _ _ _ _ _
    (λ o threads values whole stints.
    let made = made_of p l xs ended others o.threads two follow b threads in
    let sums = totals_of p l xs ended others o.threads o.values lawful two follow b threads values.1 values.0 in
    let here = whole_same l o.threads whole.0 stints.0 o.trace whole.1 stints.1 whole.2 in
    let visited = visited_of Two l xs o.threads o.values stints.0 two made.0 made.1 here stints.2 values.0 sums in
    (stints.0, stints.1, subst (λ (z : Layout). AreVisited z c.args.script.now.lines stints.0) same (subst (λ (ys : List Line). AreVisited l ys stints.0) c.lines-lines.ensures.lines visited)))
    c.close_forked.ensures.threads c.close_forked.ensures.values (c.close_forked.ensures.traced traced) (c.close_forked.ensures.stints traced)
