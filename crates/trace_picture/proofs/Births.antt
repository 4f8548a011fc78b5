-- The event that made a thread live is a fork, and has its arrow.
use Rattle.std.proofs.Common.{◌≡◌, ℕ, Bool, true, false, cond, eqb, List, [], ◌∷◌, length, refl, ap, sym, subst, ◌∙◌}
use Rattle.std.proofs.lemmas.Bool.{eqb-true, true≢false}
use Rattle.larch_actions.specs.declared.event.Event.{Event}
use Rattle.larch_actions.specs.declared.event.ThreadId.{ThreadId}
use Rattle.larch_actions.specs.declared.event.Action.{Action}
use Rattle.larch_actions.specs.declared.event.Action.TheVariants.{Acquire, Release, Enqueue, Resume, AlertEnqueue, AlertReturn, AlertRaise, Signal, Broadcast, P, V, Alert, TestAlert, AlertPReturn, AlertPRaise, Fork, End, Join}
use Rattle.larch_actions.specs.declared.event.Life.TheVariants.{Live, Ended}
use Rattle.larch_actions.specs.Actions.{Spec, acted}
use Rattle.trace_board.specs.declared.history.Origin.{Origin}
use Rattle.trace_board.specs.History.{origin_of}
use Rattle.trace_board.specs.Tracked.{tracked_since, extended}
use Rattle.trace_board.specs.Laws.{is_live, HoldsAlong}
use Rattle.trace_board.proofs.Causing.{forks_are_births}
use Rattle.trace_shapes.specs.Places.{in_view, band_of}
use Rattle.trace_shapes.specs.Arrows.{fork_text}
use Rattle.trace_picture.specs.Bands.{step_text}
use Rattle.trace_picture.specs.Seen.{HasText, BirthsAreDrawn}
use Rattle.trace_picture.proofs.RowsSeen.{forks_are_drawn}

-- an action that makes a thread live forks it
forks_it : (t x : ℕ) (a : Action) (old : Spec) → is_live (old.life x) ≡ false → is_live ((acted t old a).life x) ≡ true → (who : ThreadId) × (a ≡ Fork who) × (who.0 ≡ x)
forks_it t x (Acquire m) old was now = absurd (true≢false (sym now ∙ was))
forks_it t x (Release m) old was now = absurd (true≢false (sym now ∙ was))
forks_it t x (Enqueue m d) old was now = absurd (true≢false (sym now ∙ was))
forks_it t x (Resume m d) old was now = absurd (true≢false (sym now ∙ was))
forks_it t x (AlertEnqueue m d) old was now = absurd (true≢false (sym now ∙ was))
forks_it t x (AlertReturn m d) old was now = absurd (true≢false (sym now ∙ was))
forks_it t x (AlertRaise m d) old was now = absurd (true≢false (sym now ∙ was))
forks_it t x (Signal d left) old was now = absurd (true≢false (sym now ∙ was))
forks_it t x (Broadcast d) old was now = absurd (true≢false (sym now ∙ was))
forks_it t x (P n) old was now = absurd (true≢false (sym now ∙ was))
forks_it t x (V n) old was now = absurd (true≢false (sym now ∙ was))
forks_it t x (Alert who) old was now = absurd (true≢false (sym now ∙ was))
forks_it t x (TestAlert y) old was now = absurd (true≢false (sym now ∙ was))
forks_it t x (AlertPReturn n) old was now = absurd (true≢false (sym now ∙ was))
forks_it t x (AlertPRaise n) old was now = absurd (true≢false (sym now ∙ was))
forks_it t x (Fork who) old was now = at (eqb x who.0) refl now
  where
    at : (b : Bool) → eqb x who.0 ≡ b → is_live (cond b Live (old.life x)) ≡ true → (u : ThreadId) × (Fork who ≡ Fork u) × (u.0 ≡ x)
    at true same live = (who, refl, sym (eqb-true x who.0 same))
    at false other live = absurd (true≢false (sym live ∙ was))
forks_it t x End old was now = at (eqb x t) now
  where
    at : (b : Bool) → is_live (cond b Ended (old.life x)) ≡ true → (u : ThreadId) × (End ≡ Fork u) × (u.0 ≡ x)
    at true live = absurd (true≢false (sym live))
    at false live = absurd (true≢false (sym live ∙ was))
forks_it t x (Join who) old was now = absurd (true≢false (sym now ∙ was))

at_once : (test : Spec → Bool) (s : Spec) (es : List Event) → HoldsAlong test s es → test s ≡ true
at_once test s [] h = h
at_once test s (e ∷ es) h = h.0

pub births_are_drawn : BirthsAreDrawn
births_are_drawn = λ l v p es s r e may o by seen.
    let born = forks_are_births l.version es s r e may o by in
    let m = born.0 in
    let x = e.thread.0 in
    let n = length m.before in
    let live : is_live (m.new.life x) ≡ true = at_once (λ z. is_live (z.life x)) m.new m.since m.holds in
    let fork = forks_it m.cause.thread.0 x m.cause.action m.old m.was (ap (λ (z : Spec). is_live (z.life x)) (sym m.acts.1) ∙ live) in
    let back : origin_of n m.cause ≡ o = sym m.is in
    let same : fork.0.0 ≡ x = fork.2 in
    let here : in_view v n ≡ true = ap (λ (p : Origin). in_view v p.place) back ∙ seen in
    let k = tracked_since (extended [] m.before) in
    (m, born.1, subst (HasText (step_text l v p k n m.cause)) (λ i. fork_text (band_of l v p.plan (back i).place) (back i) (same i)) (forks_are_drawn l v p k n m.cause fork.0 fork.1 here))
