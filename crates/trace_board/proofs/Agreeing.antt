-- What is kept of the events agrees with the state.
use Rattle.std.proofs.Common.{◌≡◌, ℕ, Bool, true, false, not, cond, eqb, ◌⊎◌, inl, inr, [], refl, ap, sym, subst, ◌∙◌, eq-eqb, ne_eqb}
use mathlib.Core.Logic.{dite}
use native.Mathlib.Decide.{ℕ_discrete}
use Rattle.std.specs.Prelude.{◌&&◌}
use Rattle.std.proofs.lemmas.Bool.{cond_both, cond-true, cond-false, eqb-true, false_from_ne_true, true≢false, and_left, and_right}
use Rattle.larch_actions.proofs.Sets.{in_set-none}
use Rattle.larch_actions.specs.declared.event.Action.{Action}
use Rattle.larch_actions.specs.declared.event.Action.TheVariants.{Acquire, Release, Enqueue, Resume, AlertEnqueue, AlertReturn, AlertRaise, Signal, Broadcast, P, V, Alert, TestAlert, AlertPReturn, AlertPRaise, Fork, End, Join}
use Rattle.larch_actions.specs.declared.event.Pending.{Pending}
use Rattle.larch_actions.specs.declared.event.Pending.TheVariants.{Nothing, Waiting, AlertWaiting}
use Rattle.larch_actions.specs.Actions.{Spec, put, acted, KeepsOrder, MeetsWhen, MeetsChoice, MayLeave}
use Rattle.larch_actions.specs.Sets.{in_set, set_of}
use Rattle.trace_board.specs.declared.history.Origin.{Origin}
use Rattle.trace_board.specs.declared.causes.Cause.{Cause}
use Rattle.trace_board.specs.declared.causes.Cause.TheVariants.{Never, Awaited, By}
use Rattle.trace_board.specs.Awaited.{is_awaited}
use Rattle.trace_board.specs.Causes.{take_out, opened, come, moved}
use Rattle.trace_board.specs.Marks.{marks_of}

-- a thread with this cause stands in the condition c
abbrev pub stands_in : ℕ → Cause → Bool
stands_in c Never = false
stands_in c (Awaited k) = eqb c k
stands_in c (By o) = false

abbrev pub is_come : Cause → Bool
is_come Never = false
is_come (Awaited k) = false
is_come (By o) = true

-- it stands in the condition d, or was taken out
abbrev pub IsOn : ℕ → Cause → Type 0
IsOn d x = (x ≡ Awaited d) ⊎ ((o : Origin) × (x ≡ By o))

-- what a thread has begun, and where it stands
abbrev pub Fits : Pending → Cause → Type 0
Fits Nothing x = x ≡ Never
Fits (Waiting m c) x = IsOn c.0 x
Fits (AlertWaiting m c) x = IsOn c.0 x

module _ {A B : Type 0} (R : A → B → Type 0) where
  pick : (b : Bool) (x f : A) (y g : B) → (b ≡ true → R x y) → R f g → R (cond b x f) (cond b y g)
  pick true x f y g h r = h refl
  pick false x f y g h r = r

  pub both_put : (f : ℕ → A) (g : ℕ → B) (k : ℕ) (x : A) (y : B) (j : ℕ) → (j ≡ k → R x y) → R (f j) (g j) → R (put f k x j) (put g k y j)
  both_put f g k x y j h r = pick (eqb j k) x (f j) y (g j) (λ e. h (eqb-true j k e)) r

pub put_cases : {A : Type 0} (Holds : A → Type 0) (f : ℕ → A) (k : ℕ) (x : A) (j : ℕ) → (j ≡ k → Holds x) → Holds (f j) → Holds (put f k x j)
put_cases Holds f k x j h r = cond_both (eqb j k) x (f j) Holds (λ e. h (eqb-true j k e)) (λ e. r)

at_cond : (b : Bool) (g h : ℕ → Bool) (x : ℕ) → (cond b g h) x ≡ cond b (g x) (h x)
at_cond true g h x = refl
at_cond false g h x = refl

fits_taken : (c : ℕ) (stays : Bool) (o : Origin) (p : Pending) (x : Cause) → Fits p x → Fits p (take_out c stays o x)
fits_taken c stays o p Never h = h
fits_taken c stays o p (By q) h = h
fits_taken c stays o p (Awaited k) h = cond_both (eqb k c && not stays) (By o) (Awaited k) (Fits p) (λ e. came p h) (λ e. h)
  where
    came : (p : Pending) → Fits p (Awaited k) → Fits p (By o)
    came Nothing h = let bad : Awaited k ≡ Never = h in cc
    came (Waiting m d) h = inr (o, refl)
    came (AlertWaiting m d) h = inr (o, refl)

pub fits_after : (t : ℕ) (a : Action) (o : Origin) (f : ℕ → Cause) (s : Spec) → ((x : ℕ) → Fits (s.pending x) (f x)) → (x : ℕ) → Fits ((acted t s a).pending x) (moved (marks_of t a).stand o f x)
fits_after t (Acquire m) o f s h x = h x
fits_after t (Release m) o f s h x = h x
fits_after t (Enqueue m c) o f s h x = both_put Fits s.pending f t (Waiting m c) (Awaited c.0) x (λ e. inl refl) (h x)
fits_after t (Resume m c) o f s h x = both_put Fits s.pending f t Nothing Never x (λ e. refl) (h x)
fits_after t (AlertEnqueue m c) o f s h x = both_put Fits s.pending f t (AlertWaiting m c) (Awaited c.0) x (λ e. inl refl) (h x)
fits_after t (AlertReturn m c) o f s h x = both_put Fits s.pending f t Nothing Never x (λ e. refl) (h x)
fits_after t (AlertRaise m c) o f s h x = both_put Fits s.pending f t Nothing Never x (λ e. refl) (h x)
fits_after t (Signal c left) o f s h x = fits_taken c.0 (in_set left x) o (s.pending x) (f x) (h x)
fits_after t (Broadcast c) o f s h x = fits_taken c.0 (in_set (set_of []) x) o (s.pending x) (f x) (h x)
fits_after t (P n) o f s h x = h x
fits_after t (V n) o f s h x = h x
fits_after t (Alert who) o f s h x = h x
fits_after t (TestAlert b) o f s h x = h x
fits_after t (AlertPReturn n) o f s h x = h x
fits_after t (AlertPRaise n) o f s h x = h x
fits_after t (Fork who) o f s h x = h x
fits_after t End o f s h x = h x
fits_after t (Join who) o f s h x = h x

-- who is out of the condition that it waits on is in none
out_of : (c d : ℕ) (x : Cause) → IsOn d x → stands_in d x ≡ false → stands_in c x ≡ false
out_of c d x (inl e) out = absurd (true≢false (sym (eq-eqb d d refl) ∙ sym (ap (stands_in d) e) ∙ out))
out_of c d x (inr (o, e)) out = ap (stands_in c) e

-- who waits on d is in no other condition
apart : (c d : ℕ) (x : Cause) → IsOn d x → eqb c d ≡ false → stands_in c x ≡ false
apart c d x (inl e) ne = ap (stands_in c) e ∙ ne
apart c d x (inr (o, e)) ne = ap (stands_in c) e

self_true : (b v : Bool) → v ≡ false → cond b true v ≡ b
self_true true v e = refl
self_true false v e = e

twice_true : (b : Bool) → cond b true b ≡ b
twice_true true = refl
twice_true false = refl

twice_false : (b : Bool) → cond b false b ≡ false
twice_false true = refl
twice_false false = refl

nobody : (stays w : Bool) → (stays ≡ true → w ≡ true) → w ≡ false → stays ≡ false
nobody stays w h e = false_from_ne_true stays (λ y. true≢false (sym (h y) ∙ e))

freed_here : (c k d : ℕ) (stays : Bool) (o : Origin) (v : Bool) → k ≡ d → v ≡ eqb c k → cond (eqb c d) stays v ≡ stands_in c (take_out d stays o (Awaited k))
freed_here c k d true o v same e =
    ap (cond (eqb c d) true) (e ∙ ap (eqb c) same) ∙ twice_true (eqb c d) ∙ sym (ap (stands_in c) (cond-false (eqb k d && not true) (By o) (Awaited k) (and_right (eqb k d) (not true) refl)) ∙ ap (eqb c) same)
freed_here c k d false o v same e =
    ap (cond (eqb c d) false) (e ∙ ap (eqb c) same) ∙ twice_false (eqb c d) ∙ sym (ap (stands_in c) (cond-true (eqb k d && not false) (By o) (Awaited k) (both (eqb k d) (eq-eqb k d same))))
  where
    both : (b : Bool) → b ≡ true → (b && true) ≡ true
    both true h = refl
    both false h = h

freed_there : (c k d : ℕ) (stays : Bool) (o : Origin) (v w : Bool) → (k ≡ d → ⊥) → v ≡ eqb c k → w ≡ eqb d k → (stays ≡ true → w ≡ true) → cond (eqb c d) stays v ≡ stands_in c (take_out d stays o (Awaited k))
freed_there c k d stays o v w ne e f h =
    let none : eqb d k ≡ false = ne_eqb d k (λ i. ne (sym i)) in
    let gone : stays ≡ false = nobody stays w h (f ∙ none) in
    let stand : stands_in c (take_out d stays o (Awaited k)) ≡ eqb c k = ap (stands_in c) (cond-false (eqb k d && not stays) (By o) (Awaited k) (and_left (eqb k d) (not stays) (ne_eqb k d ne))) in
    cond_both (eqb c d) stays v (λ y. y ≡ eqb c k) (λ y. gone ∙ sym (ap (λ n. eqb n k) (eqb-true c d y) ∙ none)) (λ y. e) ∙ sym stand

freed_in : (c d : ℕ) (stays : Bool) (o : Origin) (x : Cause) (v w : Bool) → v ≡ stands_in c x → w ≡ stands_in d x → (stays ≡ true → w ≡ true) → cond (eqb c d) stays v ≡ stands_in c (take_out d stays o x)
freed_in c d stays o Never v w e f h = cond_both (eqb c d) stays v (λ y. y ≡ false) (λ i. nobody stays w h f) (λ i. e)
freed_in c d stays o (By p) v w e f h = cond_both (eqb c d) stays v (λ y. y ≡ false) (λ i. nobody stays w h f) (λ i. e)
freed_in c d stays o (Awaited k) v w e f h = dite (ℕ_discrete k d) (λ same. freed_here c k d stays o v same e) (λ ne. freed_there c k d stays o v w ne e f h)

may_stay : (old left : ℕ → Bool) → MayLeave old left → (x : ℕ) → left x ≡ true → old x ≡ true
may_stay old left (inl none) x e = absurd (true≢false (sym e ∙ none x))
may_stay old left (inr some) x e = some.0 x e

module _ (t : ℕ) (o : Origin) (f : ℕ → Cause) (s : Spec) (fits : (x : ℕ) → Fits (s.pending x) (f x)) (h : (c x : ℕ) → s.members c x ≡ stands_in c (f x)) (c x : ℕ) where
  other : (d : ℕ) → cond (eqb c d) (s.members d x) (s.members c x) ≡ stands_in c (f x)
  other d = cond_both (eqb c d) (s.members d x) (s.members c x) (λ v. v ≡ stands_in c (f x)) (λ e. h d x ∙ ap (λ n. stands_in n (f x)) (sym (eqb-true c d e))) (λ e. h c x)

  begins : (d : ℕ) → s.pending t ≡ Nothing → put s.members d (put (s.members d) t true) c x ≡ stands_in c (put f t (Awaited d) x)
  begins d order =
      at_cond (eqb c d) (put (s.members d) t true) (s.members c) x
      ∙ both_put (λ v y. cond (eqb c d) v (s.members c x) ≡ stands_in c y) (s.members d) f t true (Awaited d) x here (other d)
    where
      here : x ≡ t → cond (eqb c d) true (s.members c x) ≡ eqb c d
      here same =
          let never : f x ≡ Never = subst (λ p. Fits p (f x)) (ap s.pending same ∙ order) (fits x) in
          self_true (eqb c d) (s.members c x) (h c x ∙ ap (stands_in c) never)

  ends : (d : ℕ) → ((x ≡ t) → IsOn d (f x)) → s.members d t ≡ false → s.members c x ≡ stands_in c (put f t Never x)
  ends d on out = put_cases (λ y. s.members c x ≡ stands_in c y) f t Never x
      (λ same. h c x ∙ out_of c d (f x) (on same) (sym (h d x) ∙ ap (s.members d) same ∙ out))
      (h c x)

  raises : (d : ℕ) → ((x ≡ t) → IsOn d (f x)) → put s.members d (put (s.members d) t false) c x ≡ stands_in c (put f t Never x)
  raises d on =
      at_cond (eqb c d) (put (s.members d) t false) (s.members c) x
      ∙ both_put (λ v y. cond (eqb c d) v (s.members c x) ≡ stands_in c y) (s.members d) f t false Never x
      (λ same. cond_both (eqb c d) false (s.members c x) (λ v. v ≡ false) (λ e. refl) (λ ne. h c x ∙ apart c d (f x) (on same) ne))
      (other d)

  pub members_after : (a : Action) → KeepsOrder (s.pending t) a → MeetsWhen t s a → MeetsChoice t s a → (acted t s a).members c x ≡ stands_in c (moved (marks_of t a).stand o f x)
  members_after (Acquire m) order ready choice = h c x
  members_after (Release m) order ready choice = h c x
  members_after (Enqueue m d) order ready choice = begins d.0 order
  members_after (Resume m d) order ready choice = ends d.0 (λ same. subst (λ p. Fits p (f x)) (ap s.pending same ∙ order) (fits x)) ready.1
  members_after (AlertEnqueue m d) order ready choice = begins d.0 order
  members_after (AlertReturn m d) order ready choice = ends d.0 (λ same. subst (λ p. Fits p (f x)) (ap s.pending same ∙ order) (fits x)) ready.1
  members_after (AlertRaise m d) order ready choice = raises d.0 (λ same. subst (λ p. Fits p (f x)) (ap s.pending same ∙ order) (fits x))
  members_after (Signal d left) order ready choice =
      at_cond (eqb c d.0) (in_set left) (s.members c) x ∙ freed_in c d.0 (in_set left x) o (f x) (s.members c x) (s.members d.0 x) (h c x) (h d.0 x) (may_stay (s.members d.0) (in_set left) choice x)
  members_after (Broadcast d) order ready choice =
      at_cond (eqb c d.0) (λ i. false) (s.members c) x ∙ freed_in c d.0 false o (f x) (s.members c x) (s.members d.0 x) (h c x) (h d.0 x) (λ e. absurd (true≢false (sym e)))
      ∙ ap (λ b. stands_in c (take_out d.0 b o (f x))) (sym (in_set-none x))
  members_after (P n) order ready choice = h c x
  members_after (V n) order ready choice = h c x
  members_after (Alert who) order ready choice = h c x
  members_after (TestAlert b) order ready choice = h c x
  members_after (AlertPReturn n) order ready choice = h c x
  members_after (AlertPRaise n) order ready choice = h c x
  members_after (Fork who) order ready choice = h c x
  members_after End order ready choice = h c x
  members_after (Join who) order ready choice = h c x

open_now : (o : Origin) (x : Cause) → true ≡ not (is_awaited (opened o x))
open_now o Never = refl
open_now o (Awaited k) = refl
open_now o (By p) = refl

pub avail_after : (t : ℕ) (a : Action) (o : Origin) (f : ℕ → Cause) (s : Spec) → ((n : ℕ) → s.avail n ≡ not (is_awaited (f n))) → (n : ℕ) → (acted t s a).avail n ≡ not (is_awaited (moved (marks_of t a).avail o f n))
avail_after t (Acquire m) o f s h n = h n
avail_after t (Release m) o f s h n = h n
avail_after t (Enqueue m c) o f s h n = h n
avail_after t (Resume m c) o f s h n = h n
avail_after t (AlertEnqueue m c) o f s h n = h n
avail_after t (AlertReturn m c) o f s h n = h n
avail_after t (AlertRaise m c) o f s h n = h n
avail_after t (Signal c left) o f s h n = h n
avail_after t (Broadcast c) o f s h n = h n
avail_after t (P k) o f s h n = both_put (λ v y. v ≡ not (is_awaited y)) s.avail f k.0 false (Awaited k.0) n (λ e. refl) (h n)
avail_after t (V k) o f s h n = both_put (λ v y. v ≡ not (is_awaited y)) s.avail f k.0 true (opened o (f k.0)) n (λ e. open_now o (f k.0)) (h n)
avail_after t (Alert who) o f s h n = h n
avail_after t (TestAlert b) o f s h n = h n
avail_after t (AlertPReturn k) o f s h n = both_put (λ v y. v ≡ not (is_awaited y)) s.avail f k.0 false (Awaited k.0) n (λ e. refl) (h n)
avail_after t (AlertPRaise k) o f s h n = h n
avail_after t (Fork who) o f s h n = h n
avail_after t End o f s h n = h n
avail_after t (Join who) o f s h n = h n

come_now : (o : Origin) (x : Cause) → true ≡ is_come (come o x)
come_now o Never = refl
come_now o (Awaited k) = refl
come_now o (By p) = refl

pub alerts_after : (t : ℕ) (a : Action) (o : Origin) (f : ℕ → Cause) (s : Spec) → ((x : ℕ) → s.alerts x ≡ is_come (f x)) → (x : ℕ) → (acted t s a).alerts x ≡ is_come (moved (marks_of t a).alert o f x)
alerts_after t (Acquire m) o f s h x = h x
alerts_after t (Release m) o f s h x = h x
alerts_after t (Enqueue m c) o f s h x = h x
alerts_after t (Resume m c) o f s h x = h x
alerts_after t (AlertEnqueue m c) o f s h x = h x
alerts_after t (AlertReturn m c) o f s h x = h x
alerts_after t (AlertRaise m c) o f s h x = both_put (λ v y. v ≡ is_come y) s.alerts f t false Never x (λ e. refl) (h x)
alerts_after t (Signal c left) o f s h x = h x
alerts_after t (Broadcast c) o f s h x = h x
alerts_after t (P n) o f s h x = h x
alerts_after t (V n) o f s h x = h x
alerts_after t (Alert who) o f s h x = both_put (λ v y. v ≡ is_come y) s.alerts f who.0 true (come o (f who.0)) x (λ e. come_now o (f who.0)) (h x)
alerts_after t (TestAlert b) o f s h x = both_put (λ v y. v ≡ is_come y) s.alerts f t false Never x (λ e. refl) (h x)
alerts_after t (AlertPReturn n) o f s h x = h x
alerts_after t (AlertPRaise n) o f s h x = both_put (λ v y. v ≡ is_come y) s.alerts f t false Never x (λ e. refl) (h x)
alerts_after t (Fork who) o f s h x = h x
alerts_after t End o f s h x = h x
alerts_after t (Join who) o f s h x = h x
