-- The life of each thread, and which events forked and ended it.
use Rattle.std.proofs.Common.{◌≡◌, ℕ, Bool, true, false, cond, eqb, ◌⊎◌, inl, inr, List, [], ◌∷◌, ◌++◌, length, refl, ap, sym, ◌∙◌, Some, None}
use Rattle.std.proofs.lemmas.Bool.{eqb-true}
use Rattle.std.specs.declared.option.Option.{Option}
use Rattle.larch_actions.specs.declared.event.Event.{Event}
use Rattle.larch_actions.specs.declared.event.Action.{Action}
use Rattle.larch_actions.specs.declared.event.Action.TheVariants.{Acquire, Release, Enqueue, Resume, AlertEnqueue, AlertReturn, AlertRaise, Signal, Broadcast, P, V, Alert, TestAlert, AlertPReturn, AlertPRaise, Fork, End, Join}
use Rattle.larch_actions.specs.declared.event.Version.{Version}
use Rattle.larch_actions.specs.declared.event.Version.TheVariants.{One, Two}
use Rattle.larch_actions.specs.declared.event.Life.{Life}
use Rattle.larch_actions.specs.declared.event.Life.TheVariants.{Unborn, Live, Ended}
use Rattle.larch_actions.specs.Actions.{Spec, acted, MayAct, MeetsRequires, IsRun, at_first, lives_at_first}
use Rattle.trace_board.specs.declared.history.Origin.{Origin}
use Rattle.trace_board.specs.History.{changed, begun_by, ended_by, origin_of}
use Rattle.trace_board.specs.Marks.{marks_of}
use Rattle.trace_board.specs.Tracked.{Tracked, nothing_tracked, tracked_after, tracked_since, life_by, life_in}
use Rattle.trace_board.specs.Laws.{is_live, is_ended, IsMadeBy}
use Rattle.trace_board.proofs.Agreeing.{both_put}
use Rattle.trace_board.proofs.Making.{made}

ended_is : (first : Life) (b : Option Origin) (o : Origin) → Ended ≡ life_by first b (Some o)
ended_is first None o = refl
ended_is first (Some p) o = refl

over_none : (first : Life) (b c : Option Origin) → life_by first b c ≡ Unborn → c ≡ None
over_none first b None e = refl
over_none first b (Some o) e = let bad : Ended ≡ Unborn = ended_is first b o ∙ e in cc

born_not : (first : Life) (o : Origin) (c : Option Origin) → life_by first (Some o) c ≡ Unborn → ⊥
born_not first o None e = let bad : Live ≡ Unborn = e in cc
born_not first o (Some p) e = let bad : Ended ≡ Unborn = ended_is first (Some o) p ∙ e in cc

-- what is kept of a life agrees with the state
life_after : (t : ℕ) (a : Action) (o : Origin) (born over : ℕ → Option Origin) (s : Spec) (first : Life) (x : ℕ) → MeetsRequires t s a → s.life x ≡ life_by first (born x) (over x)
    → (acted t s a).life x ≡ life_by first (changed (begun_by (marks_of t a).life) o born x) (changed (ended_by (marks_of t a).life) o over x)
life_after t (Acquire m) o born over s first x may h = h
life_after t (Release m) o born over s first x may h = h
life_after t (Enqueue m c) o born over s first x may h = h
life_after t (Resume m c) o born over s first x may h = h
life_after t (AlertEnqueue m c) o born over s first x may h = h
life_after t (AlertReturn m c) o born over s first x may h = h
life_after t (AlertRaise m c) o born over s first x may h = h
life_after t (Signal c left) o born over s first x may h = h
life_after t (Broadcast c) o born over s first x may h = h
life_after t (P n) o born over s first x may h = h
life_after t (V n) o born over s first x may h = h
life_after t (Alert who) o born over s first x may h = h
life_after t (TestAlert b) o born over s first x may h = h
life_after t (AlertPReturn n) o born over s first x may h = h
life_after t (AlertPRaise n) o born over s first x may h = h
life_after t (Fork who) o born over s first x may h = both_put (λ v b. v ≡ life_by first b (over x)) s.life born who.0 Live (Some o) x here h
  where
    here : x ≡ who.0 → Live ≡ life_by first (Some o) (over x)
    here same =
        let none : over x ≡ None = over_none first (born x) (over x) (sym h ∙ ap s.life same ∙ may) in
        sym (ap (life_by first (Some o)) none)
life_after t End o born over s first x may h = both_put (λ v c. v ≡ life_by first (born x) c) s.life over t Ended (Some o) x (λ same. ended_is first (born x) o) h
life_after t (Join who) o born over s first x may h = h

put_some : (b : Bool) (o p : Origin) (y : Option Origin) → cond b (Some o) y ≡ Some p → (y ≡ Some p) ⊎ ((p ≡ o) × (b ≡ true))
put_some true o p y h = inr (same o p h, refl)
  where
    same : (o p : Origin) → Some o ≡ Some p → p ≡ o
    same o p e = cc
put_some false o p y h = inl h

-- an end that is kept was kept before, or is by this event
over_from : (t : ℕ) (a : Action) (o : Origin) (over : ℕ → Option Origin) (x : ℕ) (p : Origin) → changed (ended_by (marks_of t a).life) o over x ≡ Some p → (over x ≡ Some p) ⊎ ((p ≡ o) × (x ≡ t))
over_from t (Acquire m) o over x p h = inl h
over_from t (Release m) o over x p h = inl h
over_from t (Enqueue m c) o over x p h = inl h
over_from t (Resume m c) o over x p h = inl h
over_from t (AlertEnqueue m c) o over x p h = inl h
over_from t (AlertReturn m c) o over x p h = inl h
over_from t (AlertRaise m c) o over x p h = inl h
over_from t (Signal c left) o over x p h = inl h
over_from t (Broadcast c) o over x p h = inl h
over_from t (P n) o over x p h = inl h
over_from t (V n) o over x p h = inl h
over_from t (Alert who) o over x p h = inl h
over_from t (TestAlert b) o over x p h = inl h
over_from t (AlertPReturn n) o over x p h = inl h
over_from t (AlertPRaise n) o over x p h = inl h
over_from t (Fork who) o over x p h = inl h
over_from t End o over x p h = at (put_some (eqb x t) o p (over x) h)
  where
    at : (over x ≡ Some p) ⊎ ((p ≡ o) × (eqb x t ≡ true)) → (over x ≡ Some p) ⊎ ((p ≡ o) × (x ≡ t))
    at (inl i) = inl i
    at (inr i) = inr (i.0, eqb-true x t i.1)
over_from t (Join who) o over x p h = inl h

-- what ends a thread is its own event
pub over_own : (past : List Event) (x : ℕ) (o : Origin) → (tracked_since past).over x ≡ Some o → o.thread.0 ≡ x
over_own [] x o h = absurd (let bad : None ≡ Some o = h in cc)
over_own (e ∷ past) x o h = at (over_own past x o) (over_from e.thread.0 e.action (origin_of (length past) e) (tracked_since past).over x o h)
  where
    at : ((tracked_since past).over x ≡ Some o → o.thread.0 ≡ x) → ((tracked_since past).over x ≡ Some o) ⊎ ((o ≡ origin_of (length past) e) × (x ≡ e.thread.0)) → o.thread.0 ≡ x
    at before (inl i) = before i
    at before (inr i) = ap (λ (p : Origin). p.thread.0) i.0 ∙ sym i.1

first_not_ended : (version : Version) (x : ℕ) → lives_at_first version x ≡ Ended → ⊥
first_not_ended One x e = let bad : Live ≡ Ended = e in cc
first_not_ended Two x e = at (eqb x 0) e
  where
    at : (b : Bool) → cond b Live Unborn ≡ Ended → ⊥
    at true h = let bad : Live ≡ Ended = h in cc
    at false h = let bad : Unborn ≡ Ended = h in cc

-- of a thread that has ended the event is kept that ended it
pub over_some : (version : Version) (k : Tracked) (x : ℕ) → life_in version k x ≡ Ended → (o : Origin) × (k.over x ≡ Some o)
over_some version k x h = at (k.born x) (k.over x) h
  where
    at : (b c : Option Origin) → life_by (lives_at_first version x) b c ≡ Ended → (o : Origin) × (c ≡ Some o)
    at b (Some o) e = (o, refl)
    at None None e = absurd (first_not_ended version x e)
    at (Some o) None e = absurd (let bad : Live ≡ Ended = e in cc)

-- a fork that is kept was kept before, or is by this event
born_from : (t : ℕ) (a : Action) (o : Origin) (born : ℕ → Option Origin) (s : Spec) (x : ℕ) (p : Origin) → MeetsRequires t s a → changed (begun_by (marks_of t a).life) o born x ≡ Some p
    → (born x ≡ Some p) ⊎ ((p ≡ o) × (s.life x ≡ Unborn))
born_from t (Acquire m) o born s x p may h = inl h
born_from t (Release m) o born s x p may h = inl h
born_from t (Enqueue m c) o born s x p may h = inl h
born_from t (Resume m c) o born s x p may h = inl h
born_from t (AlertEnqueue m c) o born s x p may h = inl h
born_from t (AlertReturn m c) o born s x p may h = inl h
born_from t (AlertRaise m c) o born s x p may h = inl h
born_from t (Signal c left) o born s x p may h = inl h
born_from t (Broadcast c) o born s x p may h = inl h
born_from t (P n) o born s x p may h = inl h
born_from t (V n) o born s x p may h = inl h
born_from t (Alert who) o born s x p may h = inl h
born_from t (TestAlert b) o born s x p may h = inl h
born_from t (AlertPReturn n) o born s x p may h = inl h
born_from t (AlertPRaise n) o born s x p may h = inl h
born_from t (Fork who) o born s x p may h = at (put_some (eqb x who.0) o p (born x) h)
  where
    at : (born x ≡ Some p) ⊎ ((p ≡ o) × (eqb x who.0 ≡ true)) → (born x ≡ Some p) ⊎ ((p ≡ o) × (s.life x ≡ Unborn))
    at (inl i) = inl i
    at (inr i) = inr (i.0, ap s.life (eqb-true x who.0 i.1) ∙ may)
born_from t End o born s x p may h = inl h
born_from t (Join who) o born s x p may h = inl h

live_put : (b : Bool) (y z : Life) (A : Type 0) → (b ≡ true → y ≡ Live → A) → (z ≡ Live → A) → cond b y z ≡ Live → A
live_put true y z A here there h = here refl h
live_put false y z A here there h = there h

-- who lives lived before, or was forked by this event
live_from : (t : ℕ) (a : Action) (s : Spec) (x : ℕ) → MeetsRequires t s a → (acted t s a).life x ≡ Live → (s.life x ≡ Live) ⊎ (s.life x ≡ Unborn)
live_from t (Acquire m) s x may h = inl h
live_from t (Release m) s x may h = inl h
live_from t (Enqueue m c) s x may h = inl h
live_from t (Resume m c) s x may h = inl h
live_from t (AlertEnqueue m c) s x may h = inl h
live_from t (AlertReturn m c) s x may h = inl h
live_from t (AlertRaise m c) s x may h = inl h
live_from t (Signal c left) s x may h = inl h
live_from t (Broadcast c) s x may h = inl h
live_from t (P n) s x may h = inl h
live_from t (V n) s x may h = inl h
live_from t (Alert who) s x may h = inl h
live_from t (TestAlert b) s x may h = inl h
live_from t (AlertPReturn n) s x may h = inl h
live_from t (AlertPRaise n) s x may h = inl h
live_from t (Fork who) s x may h = live_put (eqb x who.0) Live (s.life x) ((s.life x ≡ Live) ⊎ (s.life x ≡ Unborn)) (λ b e. inr (ap s.life (eqb-true x who.0 b) ∙ may)) (λ e. inl e) h
live_from t End s x may h = live_put (eqb x t) Ended (s.life x) ((s.life x ≡ Live) ⊎ (s.life x ≡ Unborn)) (λ b e. let bad : Ended ≡ Live = e in cc) (λ e. inl e) h
live_from t (Join who) s x may h = inl h

-- what is kept of the life of x tells of the state, and which events made it live and end
pub record IsLife (version : Version) (k : Tracked) (es : List Event) (s : Spec) (x : ℕ) : Type 0 where
  pub is : s.life x ≡ life_by (lives_at_first version x) (k.born x) (k.over x)
  pub ended : (o : Origin) → k.over x ≡ Some o → IsMadeBy version (λ z. is_ended (z.life x)) es s o
  pub forked : (o : Origin) → k.born x ≡ Some o → s.life x ≡ Live → IsMadeBy version (λ z. is_live (z.life x)) es s o

pub life_first : (version : Version) (x : ℕ) → IsLife version nothing_tracked [] (at_first version) x
life_first version x = record { is = refl; ended = λ o h. absurd (none_not o h); forked = λ o h l. absurd (none_not o h) }
  where
    none_not : (o : Origin) → None ≡ Some o → ⊥
    none_not o e = cc

module _ (version : Version) (k : Tracked) (es : List Event) (s : Spec) (e : Event) (r : IsRun version es s) (may : MayAct s e) (x : ℕ) (reported : IsLife version k es s x) where
  abbrev t : ℕ
  t = e.thread.0

  abbrev o : Origin
  o = origin_of (length es) e

  abbrev next : Spec
  next = acted e.thread.0 s e.action

  abbrev later : Tracked
  later = tracked_after (length es) e k

  abbrev first : Life
  first = lives_at_first version x

  is : next.life x ≡ life_by first (later.born x) (later.over x)
  is = life_after t e.action o k.born k.over s first x may.requires_met reported.is

  ended : (p : Origin) → later.over x ≡ Some p → IsMadeBy version (λ z. is_ended (z.life x)) (es ++ e ∷ []) next p
  ended p h = made version (λ z. is_ended (z.life x)) es s e next (may, refl) (ap is_ended (is ∙ ap (life_by first (later.born x)) h ∙ sym (ended_is first (later.born x) p))) p r (was (over_from t e.action o k.over x p h))
    where
      was : (k.over x ≡ Some p) ⊎ ((p ≡ o) × (x ≡ t)) → (IsMadeBy version (λ z. is_ended (z.life x)) es s p) ⊎ ((p ≡ o) × (is_ended (s.life x) ≡ false))
      was (inl h) = inl (reported.ended p h)
      was (inr (same, own)) = inr (same, ap is_ended (ap s.life own ∙ may.live))

  forked : (p : Origin) → later.born x ≡ Some p → next.life x ≡ Live → IsMadeBy version (λ z. is_live (z.life x)) (es ++ e ∷ []) next p
  forked p h live = made version (λ z. is_live (z.life x)) es s e next (may, refl) (ap is_live live) p r (was (born_from t e.action o k.born s x p may.requires_met h))
    where
      lived : k.born x ≡ Some p → (s.life x ≡ Live) ⊎ (s.life x ≡ Unborn) → s.life x ≡ Live
      lived h (inl l) = l
      lived h (inr u) = absurd (born_not first p (k.over x) (ap (λ b. life_by first b (k.over x)) (sym h) ∙ sym reported.is ∙ u))

      was : (k.born x ≡ Some p) ⊎ ((p ≡ o) × (s.life x ≡ Unborn)) → (IsMadeBy version (λ z. is_live (z.life x)) es s p) ⊎ ((p ≡ o) × (is_live (s.life x) ≡ false))
      was (inl h) = inl (reported.forked p h (lived h (live_from t e.action s x may.requires_met live)))
      was (inr (same, unborn)) = inr (same, ap is_live unborn)

  pub life_on : IsLife version later (es ++ e ∷ []) next x
  life_on = record { is = is; ended = ended; forked = forked }
