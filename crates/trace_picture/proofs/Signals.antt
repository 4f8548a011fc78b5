-- Each thread that a Signal or a Broadcast takes out has its arrow.
use Rattle.std.proofs.Common.{◌≡◌, ℕ, ◌+◌, ◌-◌, ◌<◌, ◌≤◌, Bool, true, false, not, cond, eqb, [], length, refl, ap, sym, subst, ◌∙◌, ⊎_elim, eq-eqb, arith}
use Rattle.std.specs.Prelude.{◌==◌, ◌&&◌, nat_lt}
use Rattle.std.proofs.lemmas.Bool.{cases_lt, cond-true, cond-false, eqb-true, true≢false}
use Rattle.std.proofs.lemmas.Bool.Decides.{nat_tests}
use Rattle.larch_actions.specs.declared.event.Action.{Action}
use Rattle.larch_actions.specs.declared.event.Action.TheVariants.{Acquire, Release, Enqueue, Resume, AlertEnqueue, AlertReturn, AlertRaise, Signal, Broadcast, P, V, Alert, TestAlert, AlertPReturn, AlertPRaise, Fork, End, Join}
use Rattle.larch_actions.specs.declared.thread_set.ThreadSet.{ThreadSet}
use Rattle.larch_actions.specs.Actions.{Spec, acted}
use Rattle.larch_actions.specs.Sets.{in_set, set_of}
use Rattle.larch_actions.proofs.Sets.{in_set-none}
use Rattle.trace_board.specs.declared.history.Origin.{Origin}
use Rattle.trace_board.specs.declared.causes.Cause.{Cause}
use Rattle.trace_board.specs.declared.causes.Cause.TheVariants.{Never, Awaited, By}
use Rattle.trace_board.specs.History.{origin_of}
use Rattle.trace_board.specs.Tracked.{tracked_since, extended}
use Rattle.trace_board.specs.Marks.{marks, marks_of}
use Rattle.trace_board.proofs.Agreeing.{stands_in}
use Rattle.trace_board.proofs.Causing.{reported_run}
use Rattle.trace_shapes.specs.declared.view.Band.{Band}
use Rattle.trace_shapes.specs.declared.view.Freeing.{Freeing}
use Rattle.trace_shapes.specs.Places.{band_of}
use Rattle.trace_shapes.specs.Arrows.{is_freed, wake_if, wake_text}
use Rattle.trace_picture.specs.Bands.{arrow_by, freeing, thread_at, wake_at, wakes, wakes_by, fork_by, arrows_at, step_text}
use Rattle.trace_picture.specs.Seen.{HasText, IsSignal, SignalsAreDrawn}
use Rattle.trace_picture.proofs.Parts.{has_in, each_has}
use Rattle.trace_picture.proofs.RowsSeen.{arrows_there}

-- who stands in the condition awaits it
awaits : (c : ℕ) (x : Cause) → stands_in c x ≡ true → x ≡ Awaited c
awaits c Never h = absurd (true≢false (sym h))
awaits c (Awaited j) h = ap Awaited (sym (eqb-true c j h))
awaits c (By o) h = absurd (true≢false (sym h))

both : (b : Bool) (s : Bool) → b ≡ true → s ≡ false → (b && not s) ≡ true
both true false e f = refl
both true true e f = absurd (true≢false f)
both false s e f = absurd (true≢false (sym e))

same_true : (c : ℕ) → eqb c c ≡ true
same_true c = eq-eqb c c refl

-- each thread has its turn
is_less : (i t : ℕ) → i < t → nat_lt i t ≡ true
is_less i t h = grind (arith, nat_tests)

is_no_less : (i t : ℕ) → t ≤ i → nat_lt i t ≡ false
is_no_less i t h = grind (arith, nat_tests)

early : (f : Freeing) (i : ℕ) → i < f.by.thread.0 → thread_at f i ≡ i
early f i h = cond-true (nat_lt i f.by.thread.0) i (f.by.thread.0 + (f.band.threads - 1 - i)) (is_less i f.by.thread.0 h)

late : (f : Freeing) (i : ℕ) → f.by.thread.0 ≤ i → thread_at f i ≡ f.by.thread.0 + (f.band.threads - 1 - i)
late f i h = cond-false (nat_lt i f.by.thread.0) i (f.by.thread.0 + (f.band.threads - 1 - i)) (is_no_less i f.by.thread.0 h)

turned_within : (f : Freeing) (u : ℕ) → u < f.band.threads → thread_at f u < f.band.threads
turned_within f u lt = ⊎_elim (λ (h : u < f.by.thread.0). omega (arith, early f u h, lt)) (λ (h : f.by.thread.0 ≤ u). omega (arith, late f u h, lt)) (cases_lt u f.by.thread.0)

turned_back : (f : Freeing) (u : ℕ) → u < f.band.threads → thread_at f (thread_at f u) ≡ u
turned_back f u lt =
    ⊎_elim (λ (h : u < f.by.thread.0). ap (thread_at f) (early f u h) ∙ early f u h) (λ (h : f.by.thread.0 ≤ u).
    let v = f.by.thread.0 + (f.band.threads - 1 - u) in
    let back : f.by.thread.0 + (f.band.threads - 1 - v) ≡ u = omega (arith, h, lt) in
    ap (thread_at f) (late f u h) ∙ late f v (omega arith) ∙ back) (cases_lt u f.by.thread.0)

-- the arrow of a thread that is taken out
freed_there : (b : Band) (o : Origin) (c u : ℕ) (left : ThreadSet) (stands : ℕ → Cause) → stands u ≡ Awaited c → in_set left u ≡ false → u < b.threads
    → HasText (wakes (freeing b o c left) stands) (wake_text b o u)
freed_there b o c u left stands is gone lt =
    let f = freeing b o c left in
    let yes : is_freed f u (stands u) ≡ true = ap (is_freed f u) is ∙ both (c == c) (in_set left u) (same_true c) gone in
    let there : HasText (wakes f stands) (wake_at f stands (thread_at f u)) = each_has (wake_at f stands) b.threads (thread_at f u) (turned_within f u lt) in
    subst (HasText (wakes f stands)) (ap (λ t. wake_if f t (stands t)) (turned_back f u lt) ∙ cond-true (is_freed f u (stands u)) (wake_text b o u) [] yes) there

-- what is left of the condition after such an action
here : (c d : ℕ) (f g : ℕ → Bool) (u : ℕ) → d ≡ c → (cond (eqb c d) f g) u ≡ f u
here c d f g u same = ap (λ (h : ℕ → Bool). h u) (cond-true (eqb c d) f g (eq-eqb c d (sym same)))

wakes_there : (b : Band) (t : ℕ) (a : Action) (o : Origin) (s : Spec) (c u : ℕ) (stands : ℕ → Cause) → IsSignal c a → stands u ≡ Awaited c → (acted t s a).members c u ≡ false → u < b.threads
    → HasText (wakes_by b o stands (marks_of t a).stand) (wake_text b o u)
wakes_there b t (Signal d left) o s c u stands signal is gone lt =
    let out : in_set left u ≡ false = sym (here c d.0 (in_set left) (s.members c) u signal) ∙ gone in
    freed_there b o d.0 u left stands (is ∙ ap Awaited (sym signal)) out lt
wakes_there b t (Broadcast d) o s c u stands signal is gone lt = freed_there b o d.0 u (set_of []) stands (is ∙ ap Awaited (sym signal)) (in_set-none u) lt
wakes_there b t (Acquire m) o s c u stands signal is gone lt = absurd signal
wakes_there b t (Release m) o s c u stands signal is gone lt = absurd signal
wakes_there b t (Enqueue m d) o s c u stands signal is gone lt = absurd signal
wakes_there b t (Resume m d) o s c u stands signal is gone lt = absurd signal
wakes_there b t (AlertEnqueue m d) o s c u stands signal is gone lt = absurd signal
wakes_there b t (AlertReturn m d) o s c u stands signal is gone lt = absurd signal
wakes_there b t (AlertRaise m d) o s c u stands signal is gone lt = absurd signal
wakes_there b t (P n) o s c u stands signal is gone lt = absurd signal
wakes_there b t (V n) o s c u stands signal is gone lt = absurd signal
wakes_there b t (Alert who) o s c u stands signal is gone lt = absurd signal
wakes_there b t (TestAlert y) o s c u stands signal is gone lt = absurd signal
wakes_there b t (AlertPReturn n) o s c u stands signal is gone lt = absurd signal
wakes_there b t (AlertPRaise n) o s c u stands signal is gone lt = absurd signal
wakes_there b t (Fork who) o s c u stands signal is gone lt = absurd signal
wakes_there b t End o s c u stands signal is gone lt = absurd signal
wakes_there b t (Join who) o s c u stands signal is gone lt = absurd signal

pub signals_are_drawn : SignalsAreDrawn
unfolding arrows_at
signals_are_drawn = λ l v p es s r e c u signal member gone lt seen.
    let k = tracked_since (extended [] es) in
    let n = length es in
    let b = band_of l v p.plan n in
    let o = origin_of n e in
    let m = marks e in
    let stands = awaits c (k.stands u) (sym ((reported_run l.version es s r).stands c u) ∙ member) in
    has_in (step_text l v p k n e) (arrows_at b k o m) (wake_text b o u) (arrows_there l v p k n e seen)
    (has_in (arrows_at b k o m) (wakes_by b o k.stands m.stand) (wake_text b o u)
    (record { before = arrow_by b k o m.wait m.waker; after = fork_by b o m.life; text = refl })
    (wakes_there b e.thread.0 e.action o s c u k.stands signal stands gone lt))
