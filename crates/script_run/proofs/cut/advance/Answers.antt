use Rattle.std.proofs.Common.{◌≡◌, ◌+◌, ◌-◌, ◌<◌, ◌≤◌, List, [], length, get_or, take, set, refl, ap, ap₂, sym, subst, ◌∙◌, Some, true, false, arith, ℕ}
use Rattle.std.specs.Prelude.{slice_get}
use Rattle.script_run.specs.declared.slots.Slot.{Slot}
use Rattle.script_run.specs.declared.slots.Slot.TheVariants as slot
use Rattle.script_run.specs.Playing.{Player, IsPlaying}
use Rattle.nub.specs.Forks.{IsRight}
use Rattle.sum_uses.specs.declared.added.Added.{Added}
use Rattle.script_run.proofs.Births.{fork_line}
use Rattle.script_run.specs.Slots.{AreReady}
use Rattle.script_run.proofs.Parting.{Parted, region_at, at_fork, fork_is, last_read, there, width_is, right_there, filled, are_forked}
use Rattle.script_run.proofs.Starts.{not_again}
use Rattle.script_run.proofs.cut.advance.Given.{Over}
use Rattle.script_run.proofs.cut.advance.Goals.{In-Fork, After-width-width}
use Rattle.script_run.proofs.cut.advance.Goals as goal

low : (g : Over) (c : In-Fork g) → c.play_to_fork-playing.result.1 < length c.args.lines.now
low g c = let w = c.play_to_fork-playing.ensures.within.1 in let ne = c.if-next-lines.false in omega arith

read : (g : Over) (c : In-Fork g) → c.replace.result ≡ c.index-slots-last.result
read g c = c.replace.ensures.value ∙ sym c.index-slots-last.is

live : (g : Over) (c : In-Fork g) → c.index-slots-last.result ≡ slot.Live c.in-Live.playing c.in-Live.at c.in-Live.is_new
live g c = sym (read g c) ∙ c.in-Live.is

ready : (g : Over) (c : In-Fork g) → (c.in-Live.at ≤ length c.args.lines.now) × ((t : ℕ) × AreReady c.args.pkg.now c.args.lines.now c.in-Live.at t c.args.slots.now)
ready g c = region_at c.args.pkg.now c.args.lines.now c.args.slots.now c.requires.region c.index-slots-last.result c.in-Live.playing c.in-Live.at c.in-Live.is_new c.index-slots-last.is (live g c)

last : (g : Over) (c : In-Fork g) → length c.args.slots.now - 1 + 1 ≡ length c.args.slots.now
last g c = (last_read c.args.pkg.now c.args.lines.now c.requires.region.at c.requires.region.t c.args.slots.now c.requires.region.ready c.index-slots-last.result c.index-slots-last.is).1

forks : (g : Over) (c : In-Fork g) → slice_get c.args.lines.now c.play_to_fork-playing.result.1 ≡ Some (fork_line c.in-Live.playing.me.number c.in-Fork.who.0)
forks g c =
    let f = c.play_to_fork-playing.ensures.fork (low g c) in
    fork_is c.args.lines.now c.play_to_fork-playing.result.1 c.in-Live.playing.me.number _ f.0 c.in-Fork.who f.1 c.in-Fork.is

parts : (g : Over) (c : In-Fork g) → Parted c.args.pkg.now c.args.lines.now c.play_to_fork-playing.result.1 c.in-Live.playing.me.number c.in-Fork.who.0 c.args.slots.now
parts g c =
    let f = c.play_to_fork-playing.ensures.fork (low g c) in
    at_fork c.args.pkg.now c.args.lines.now c.in-Live.at c.play_to_fork-playing.result.1 c.args.slots.now (ready g c).1 c.index-slots-last.result c.in-Live.playing c.in-Live.at c.in-Live.is_new _ f.0 c.in-Fork.who c.index-slots-last.is (live g c) c.play_to_fork-playing.ensures.none f.1 c.in-Fork.is

pub width-width-requires : goal.width-width-requires
width-width-requires g c =
    there c.args.pkg.now c.args.lines.now c.play_to_fork-playing.result.1 c.in-Live.playing.me.number c.in-Fork.who.0 c.args.slots.now (parts g c) c.replace.new.dest (length c.args.slots.now - 1) (last g c)

-- how many slots stand before u's
wide : (g : Over) (c : After-width-width g) → c.width-width.result ≡ length (parts g c.before).upper + 1
wide g c =
    let a = c.before in
    width_is c.args.pkg.now c.args.lines.now c.play_to_fork-playing.result.1 c.in-Live.playing.me.number c.in-Fork.who.0 c.args.slots.now (parts g a) c.replace.new.dest (length c.args.slots.now - 1) c.width-width.result (last g a)
    c.width-width.ensures.within.0 (not_again c.args.pkg.now.layout c.args.lines.now c.play_to_fork-playing.result.1 c.in-Live.playing.me.number c.in-Fork.who.0 c.requires.version c.requires.script.follow (forks g a)) c.width-width.ensures.first c.width-width.ensures.at

place : (g : Over) (c : After-width-width g) → c.width-width.result - 1 ≡ length (parts g c.before).upper
place g c = let w = wide g c in omega arith

found : (g : Over) (c : After-width-width g) (k : Slot) → get_or (set c.args.slots.now (length c.args.slots.now - 1) c.replace.new.dest) (c.width-width.result - 1) k ≡ slot.Unborn (parts g c.before).right
found g c k =
    let a = c.before in
    right_there c.args.pkg.now c.args.lines.now c.play_to_fork-playing.result.1 c.in-Live.playing.me.number c.in-Fork.who.0 c.args.slots.now (parts g a) c.replace.new.dest k (length c.args.slots.now - 1) (c.width-width.result - 1) (last g a) (place g c)

pub unreachable-requires-in_default-replace : goal.unreachable-requires-in_default-replace
unreachable-requires-in_default-replace g c =
    let b = (goal.at.unreachable-requires-in_default-replace g c).After-width-width in
    c.in_default-replace.not-Unborn _ (c.replace-2.ensures.value ∙ found g b c.index-slots-width.result)

unborn_same : (j k : Player) → slot.Unborn j ≡ slot.Unborn k → j ≡ k
unborn_same j k e = cc

pub start-parent-requires-clause-right : goal.start-parent-requires-clause-right
start-parent-requires-clause-right g c =
    let b = (goal.at.start-parent-requires-clause-right g c).After-width-width in
    let e = unborn_same c.in-Unborn.right (parts g b.before).right (sym c.in-Unborn.is ∙ c.replace-2.ensures.value ∙ found g b c.index-slots-width.result) in
    subst (λ (k : Player). IsRight c.args.pkg.now (λ w n. let z : List Added = [] in z) k.number k) (sym e) (parts g b.before).is_right

pub start-parent-requires-clause-fork : goal.start-parent-requires-clause-fork
start-parent-requires-clause-fork g c =
    let b = (goal.at.start-parent-requires-clause-fork g c).After-width-width in
    let e = unborn_same c.in-Unborn.right (parts g b.before).right (sym c.in-Unborn.is ∙ c.replace-2.ensures.value ∙ found g b c.index-slots-width.result) in
    let own = c.play_to_fork-playing.ensures.playing.number in
    let other = ap (λ k. k.number) e ∙ (parts g b.before).number in
    forks g b.before ∙ ap₂ (λ t u. Some (fork_line t u)) (sym own) (sym other)

pub returns-clause-forked : goal.returns-clause-forked
returns-clause-forked g c =
    let b = (goal.at.returns-clause-forked g c).After-width-width in
    let p = c.args.pkg.now in
    let xs = c.args.lines.now in
    let i = c.play_to_fork-playing.result.1 in
    let t = c.in-Live.playing.me.number in
    let u = c.in-Fork.who.0 in
    let d = parts g b.before in
    let e = unborn_same c.in-Unborn.right d.right (sym c.in-Unborn.is ∙ c.replace-2.ensures.value ∙ found g b c.index-slots-width.result) in
    let other = ap (λ k. k.number) e ∙ d.number in
    let parent = subst (λ (n : ℕ). IsPlaying p n (take (i + 1) xs) c.start-parent.result.0.numbers c.start-parent.result.0.me) c.play_to_fork-playing.ensures.playing.number c.start-parent.ensures.parent in
    let child = subst (λ (n : ℕ). IsPlaying p n (take (i + 1) xs) c.start-parent.result.1.numbers c.start-parent.result.1.me) other c.start-parent.ensures.child in
    let within = low g b.before in
    are_forked p xs i t u c.args.slots.now d (i + 1) c.width-width.result (slot.Live c.start-parent.result.1 (i + 1) true) (slot.Live c.start-parent.result.0 (i + 1) false) _ refl (omega arith) (wide g b)
    (filled p xs i t u c.args.slots.now d c.replace.new.dest c.replace-2.new.dest (slot.Live c.start-parent.result.1 (i + 1) true) (slot.Live c.start-parent.result.0 (i + 1) false) (length c.args.slots.now - 1) (c.width-width.result - 1) (last g b.before) (place g b))
    child.number parent.number (refl, child) (refl, parent)
