-- Each event that lets a thread go on made hold what the thread waits for.
use Rattle.std.proofs.Common.{◌≡◌, ℕ, Bool, true, false, not, cond, eqb, ◌⊎◌, inl, inr, List, [], ◌∷◌, ◌++◌, length, refl, ap, sym, subst, ◌∙◌, append_assoc, append-nil, Some, None, arith, eq-eqb}
use Rattle.std.specs.declared.option.Option.{Option}
use Rattle.std.specs.Prelude.{◌&&◌}
use Rattle.std.proofs.lemmas.Bool.{eqb-true, true≢false}
use Rattle.larch_actions.specs.declared.event.Event.{Event}
use Rattle.larch_actions.specs.declared.event.Action.{Action}
use Rattle.larch_actions.specs.declared.event.Action.TheVariants.{Acquire, Release, Enqueue, Resume, AlertEnqueue, AlertReturn, AlertRaise, Signal, Broadcast, P, V, Alert, TestAlert, AlertPReturn, AlertPRaise, Fork, End, Join}
use Rattle.larch_actions.specs.declared.event.Pending.{Pending}
use Rattle.larch_actions.specs.declared.event.Pending.TheVariants.{Nothing, Waiting, AlertWaiting}
use Rattle.larch_actions.specs.declared.event.Version.{Version}
use Rattle.larch_actions.specs.Actions.{Spec, acted, KeepsOrder, MayAct, Leads, IsRun, at_first}
use Rattle.larch_actions.specs.Sets.{in_set, set_of}
use Rattle.trace_board.specs.declared.history.Origin.{Origin}
use Rattle.trace_board.specs.declared.causes.Cause.{Cause}
use Rattle.trace_board.specs.declared.causes.Cause.TheVariants.{Never, Awaited, By}
use Rattle.trace_board.specs.History.{origin_of}
use Rattle.trace_board.specs.Awaited.{is_awaited}
use Rattle.trace_board.specs.Causes.{take_out, opened, come, moved}
use Rattle.trace_board.specs.Marks.{marks_of}
use Rattle.trace_board.specs.Tracked.{Tracked, nothing_tracked, tracked_after, tracked_since, extended, came, let_on_by, has_run}
use Rattle.trace_board.specs.Laws.{awaited_by, IsMadeBy, ArrowsAreCauses, RowsAreLives, ForksAreBirths}
use Rattle.trace_board.proofs.Agreeing.{stands_in, is_come, Fits, IsOn, fits_after, members_after, avail_after, alerts_after}
use Rattle.trace_board.proofs.Extended.{extended-push, length-extended}
use Rattle.trace_board.proofs.Making.{leads_push, made}
use Rattle.trace_board.proofs.Living.{IsLife, life_first, life_on}
use Rattle.trace_board.proofs.Latest.{runs_are_seen}

-- the condition on which a thread waits
abbrev pub IsWaitOn : ℕ → Pending → Type 0
IsWaitOn c Nothing = ⊥
IsWaitOn c (Waiting m d) = c ≡ d.0
IsWaitOn c (AlertWaiting m d) = c ≡ d.0

-- what is kept tells of the state, and of each cause that came which event it was
pub record IsReported (version : Version) (k : Tracked) (es : List Event) (s : Spec) : Type 0 where
  pub stands : (c x : ℕ) → s.members c x ≡ stands_in c (k.stands x)
  pub fits : (x : ℕ) → Fits (s.pending x) (k.stands x)
  pub opens : (n : ℕ) → s.avail n ≡ not (is_awaited (k.opens n))
  pub alerts : (x : ℕ) → s.alerts x ≡ is_come (k.alerts x)
  pub out : (x : ℕ) (o : Origin) → k.stands x ≡ By o → (c : ℕ) → IsWaitOn c (s.pending x) → IsMadeBy version (λ z. not (z.members c x)) es s o
  pub opener : (n : ℕ) (o : Origin) → k.opens n ≡ By o → IsMadeBy version (λ z. z.avail n) es s o
  pub alerted : (x : ℕ) (o : Origin) → k.alerts x ≡ By o → IsMadeBy version (λ z. z.alerts x) es s o
  pub lives : (x : ℕ) → IsLife version k es s x

by_same : (o p : Origin) → By o ≡ By p → p ≡ o
by_same o p e = cc

-- where each cause that came is from: it had come, or it is by this event and was awaited
taken_from : (c : ℕ) (stays : Bool) (o : Origin) (x : Cause) (p : Origin) → take_out c stays o x ≡ By p → (x ≡ By p) ⊎ ((p ≡ o) × (is_awaited x ≡ true))
taken_from c stays o Never p h = inl h
taken_from c stays o (By q) p h = inl h
taken_from c stays o (Awaited k) p h = at (eqb k c && not stays) h
  where
    at : (b : Bool) → cond b (By o) (Awaited k) ≡ By p → (Awaited k ≡ By p) ⊎ ((p ≡ o) × (true ≡ true))
    at true e = inr (by_same o p e, refl)
    at false e = inl e

opened_from : (o : Origin) (x : Cause) (p : Origin) → opened o x ≡ By p → (x ≡ By p) ⊎ ((p ≡ o) × (is_awaited x ≡ true))
opened_from o Never p h = inl h
opened_from o (Awaited k) p h = inr (by_same o p h, refl)
opened_from o (By q) p h = inl h

come_from : (o : Origin) (x : Cause) (p : Origin) → come o x ≡ By p → (x ≡ By p) ⊎ ((p ≡ o) × (is_come x ≡ false))
come_from o Never p h = inr (by_same o p h, refl)
come_from o (Awaited k) p h = inr (by_same o p h, refl)
come_from o (By q) p h = inl h

-- one cause was changed, and this one isn't it
quiet : {A : Type 0} (b : Bool) (y x : Cause) (z w : A) (p : Origin) → (y ≡ By p → ⊥) → cond b y x ≡ By p → (cond b z w ≡ w) × (x ≡ By p)
quiet true y x z w p not_by h = absurd (not_by h)
quiet false y x z w p not_by h = (refl, h)

not_awaited : (k : ℕ) (p : Origin) → Awaited k ≡ By p → ⊥
not_awaited k p e = cc

not_never : (p : Origin) → Never ≡ By p → ⊥
not_never p e = cc

abbrev IsFrom : Cause → Origin → Origin → Type 0
IsFrom x p o = (x ≡ By p) ⊎ ((p ≡ o) × (is_awaited x ≡ true))

-- who was taken out was so before, or is so by this event, and waits on as before
stand_from : (t : ℕ) (a : Action) (o : Origin) (f : ℕ → Cause) (s : Spec) (x : ℕ) (p : Origin) → moved (marks_of t a).stand o f x ≡ By p → ((acted t s a).pending x ≡ s.pending x) × IsFrom (f x) p o
stand_from t (Acquire m) o f s x p h = (refl, inl h)
stand_from t (Release m) o f s x p h = (refl, inl h)
stand_from t (Enqueue m c) o f s x p h = let q = quiet (eqb x t) (Awaited c.0) (f x) (Waiting m c) (s.pending x) p (not_awaited c.0 p) h in (q.0, inl q.1)
stand_from t (Resume m c) o f s x p h = let q = quiet (eqb x t) Never (f x) Nothing (s.pending x) p (not_never p) h in (q.0, inl q.1)
stand_from t (AlertEnqueue m c) o f s x p h = let q = quiet (eqb x t) (Awaited c.0) (f x) (AlertWaiting m c) (s.pending x) p (not_awaited c.0 p) h in (q.0, inl q.1)
stand_from t (AlertReturn m c) o f s x p h = let q = quiet (eqb x t) Never (f x) Nothing (s.pending x) p (not_never p) h in (q.0, inl q.1)
stand_from t (AlertRaise m c) o f s x p h = let q = quiet (eqb x t) Never (f x) Nothing (s.pending x) p (not_never p) h in (q.0, inl q.1)
stand_from t (Signal c left) o f s x p h = (refl, taken_from c.0 (in_set left x) o (f x) p h)
stand_from t (Broadcast c) o f s x p h = (refl, taken_from c.0 (in_set (set_of []) x) o (f x) p h)
stand_from t (P n) o f s x p h = (refl, inl h)
stand_from t (V n) o f s x p h = (refl, inl h)
stand_from t (Alert who) o f s x p h = (refl, inl h)
stand_from t (TestAlert b) o f s x p h = (refl, inl h)
stand_from t (AlertPReturn n) o f s x p h = (refl, inl h)
stand_from t (AlertPRaise n) o f s x p h = (refl, inl h)
stand_from t (Fork who) o f s x p h = (refl, inl h)
stand_from t End o f s x p h = (refl, inl h)
stand_from t (Join who) o f s x p h = (refl, inl h)

-- one cause was changed to what is from the one before
changed_from : (R : Cause → Type 0) (b : Bool) (y x : Cause) (p : Origin) → (y ≡ By p → b ≡ true → R x) → (x ≡ By p → R x) → cond b y x ≡ By p → R x
changed_from R true y x p h r e = h e refl
changed_from R false y x p h r e = r e

module _ (o : Origin) (f : ℕ → Cause) (x : ℕ) (p : Origin) where
  open_from : (t : ℕ) (a : Action) → moved (marks_of t a).avail o f x ≡ By p → IsFrom (f x) p o
  open_from t (Acquire m) h = inl h
  open_from t (Release m) h = inl h
  open_from t (Enqueue m c) h = inl h
  open_from t (Resume m c) h = inl h
  open_from t (AlertEnqueue m c) h = inl h
  open_from t (AlertReturn m c) h = inl h
  open_from t (AlertRaise m c) h = inl h
  open_from t (Signal c left) h = inl h
  open_from t (Broadcast c) h = inl h
  open_from t (P n) h = changed_from (λ y. IsFrom y p o) (eqb x n.0) (Awaited n.0) (f x) p (λ e b. absurd (not_awaited n.0 p e)) (λ e. inl e) h
  open_from t (V n) h = changed_from (λ y. IsFrom y p o) (eqb x n.0) (opened o (f n.0)) (f x) p
      (λ e b. let same = eqb-true x n.0 b in opened_from o (f x) p (ap (λ i. opened o (f i)) same ∙ e))
      (λ e. inl e) h
  open_from t (Alert who) h = inl h
  open_from t (TestAlert b) h = inl h
  open_from t (AlertPReturn n) h = changed_from (λ y. IsFrom y p o) (eqb x n.0) (Awaited n.0) (f x) p (λ e b. absurd (not_awaited n.0 p e)) (λ e. inl e) h
  open_from t (AlertPRaise n) h = inl h
  open_from t (Fork who) h = inl h
  open_from t End h = inl h
  open_from t (Join who) h = inl h

  abbrev IsAlertFrom : Cause → Type 0
  IsAlertFrom y = (y ≡ By p) ⊎ ((p ≡ o) × (is_come y ≡ false))

  alert_from : (t : ℕ) (a : Action) → moved (marks_of t a).alert o f x ≡ By p → IsAlertFrom (f x)
  alert_from t (Acquire m) h = inl h
  alert_from t (Release m) h = inl h
  alert_from t (Enqueue m c) h = inl h
  alert_from t (Resume m c) h = inl h
  alert_from t (AlertEnqueue m c) h = inl h
  alert_from t (AlertReturn m c) h = inl h
  alert_from t (AlertRaise m c) h = changed_from IsAlertFrom (eqb x t) Never (f x) p (λ e b. absurd (not_never p e)) (λ e. inl e) h
  alert_from t (Signal c left) h = inl h
  alert_from t (Broadcast c) h = inl h
  alert_from t (P n) h = inl h
  alert_from t (V n) h = inl h
  alert_from t (Alert who) h = changed_from IsAlertFrom (eqb x who.0) (come o (f who.0)) (f x) p
      (λ e b. let same = eqb-true x who.0 b in come_from o (f x) p (ap (λ i. come o (f i)) same ∙ e))
      (λ e. inl e) h
  alert_from t (TestAlert b) h = changed_from IsAlertFrom (eqb x t) Never (f x) p (λ e b. absurd (not_never p e)) (λ e. inl e) h
  alert_from t (AlertPReturn n) h = inl h
  alert_from t (AlertPRaise n) h = changed_from IsAlertFrom (eqb x t) Never (f x) p (λ e b. absurd (not_never p e)) (λ e. inl e) h
  alert_from t (Fork who) h = inl h
  alert_from t End h = inl h
  alert_from t (Join who) h = inl h

-- who waits on c and stands somewhere stands in c
waits_there : (c : ℕ) (p : Pending) (x : Cause) → Fits p x → IsWaitOn c p → is_awaited x ≡ true → stands_in c x ≡ true
waits_there c p Never h w e = absurd (let bad : false ≡ true = e in cc)
waits_there c p (By q) h w e = absurd (let bad : false ≡ true = e in cc)
waits_there c Nothing (Awaited k) h w e = absurd w
waits_there c (Waiting m d) (Awaited k) h w e = here c k d.0 h w
  where
    here : (c k d : ℕ) → IsOn d (Awaited k) → c ≡ d → eqb c k ≡ true
    here c k d (inl i) w = eq-eqb c k (let same : k ≡ d = cc in w ∙ sym same)
    here c k d (inr (o, i)) w = absurd (not_awaited k o i)
waits_there c (AlertWaiting m d) (Awaited k) h w e = here c k d.0 h w
  where
    here : (c k d : ℕ) → IsOn d (Awaited k) → c ≡ d → eqb c k ≡ true
    here c k d (inl i) w = eq-eqb c k (let same : k ≡ d = cc in w ∙ sym same)
    here c k d (inr (o, i)) w = absurd (not_awaited k o i)

module _ (version : Version) (k : Tracked) (es : List Event) (s : Spec) (e : Event) (r : IsRun version es s) (may : MayAct s e) (reported : IsReported version k es s) where
  abbrev t : ℕ
  t = e.thread.0

  abbrev a : Action
  a = e.action

  abbrev o : Origin
  o = origin_of (length es) e

  abbrev next : Spec
  next = acted e.thread.0 s e.action

  abbrev later : Tracked
  later = tracked_after (length es) e k

  stands : (c x : ℕ) → next.members c x ≡ stands_in c (later.stands x)
  stands c x = members_after t o k.stands s reported.fits reported.stands c x a may.order may.when_met may.choice_met

  opens : (n : ℕ) → next.avail n ≡ not (is_awaited (later.opens n))
  opens = avail_after t a o k.opens s reported.opens

  alerts : (x : ℕ) → next.alerts x ≡ is_come (later.alerts x)
  alerts = alerts_after t a o k.alerts s reported.alerts

  out : (x : ℕ) (p : Origin) → later.stands x ≡ By p → (c : ℕ) → IsWaitOn c (next.pending x) → IsMadeBy version (λ z. not (z.members c x)) (es ++ e ∷ []) next p
  out x p h c w =
      let from = stand_from t a o k.stands s x p h in
      let waits : IsWaitOn c (s.pending x) = subst (IsWaitOn c) from.0 w in
      made version (λ z. not (z.members c x)) es s e next (may, refl) (ap not (stands c x ∙ ap (stands_in c) h)) p r (was from.1 waits)
    where
      was : IsFrom (k.stands x) p o → IsWaitOn c (s.pending x) → (IsMadeBy version (λ z. not (z.members c x)) es s p) ⊎ ((p ≡ o) × (not (s.members c x) ≡ false))
      was (inl h) w = inl (reported.out x p h c w)
      was (inr (same, aw)) w = inr (same, ap not (reported.stands c x ∙ waits_there c (s.pending x) (k.stands x) (reported.fits x) w aw))

  opener : (n : ℕ) (p : Origin) → later.opens n ≡ By p → IsMadeBy version (λ z. z.avail n) (es ++ e ∷ []) next p
  opener n p h = made version (λ z. z.avail n) es s e next (may, refl) (opens n ∙ ap (λ y. not (is_awaited y)) h) p r (was (open_from o k.opens n p t a h))
    where
      was : IsFrom (k.opens n) p o → (IsMadeBy version (λ z. z.avail n) es s p) ⊎ ((p ≡ o) × (s.avail n ≡ false))
      was (inl h) = inl (reported.opener n p h)
      was (inr (same, aw)) = inr (same, reported.opens n ∙ ap not aw)

  alerted : (x : ℕ) (p : Origin) → later.alerts x ≡ By p → IsMadeBy version (λ z. z.alerts x) (es ++ e ∷ []) next p
  alerted x p h = made version (λ z. z.alerts x) es s e next (may, refl) (alerts x ∙ ap is_come h) p r (was (alert_from o k.alerts x p t a h))
    where
      was : IsAlertFrom o k.alerts x p (k.alerts x) → (IsMadeBy version (λ z. z.alerts x) es s p) ⊎ ((p ≡ o) × (s.alerts x ≡ false))
      was (inl h) = inl (reported.alerted x p h)
      was (inr (same, un)) = inr (same, reported.alerts x ∙ un)

  reported_on : IsReported version later (es ++ e ∷ []) next
  reported_on = record { stands = stands; fits = fits_after t a o k.stands s reported.fits; opens = opens; alerts = alerts; out = out; opener = opener; alerted = alerted; lives = λ x. life_on version k es s e r may x (reported.lives x) }

reported_first : (version : Version) → IsReported version nothing_tracked [] (at_first version)
reported_first version = record {
  stands = λ c x. refl;
  fits = λ x. refl;
  opens = λ n. refl;
  alerts = λ x. refl;
  out = λ x o h. absurd (not_never o h);
  opener = λ n o h. absurd (not_never o h);
  alerted = λ x o h. absurd (not_never o h);
  lives = λ x. life_first version x;
}

kept-push : (es : List Event) (e : Event) → tracked_after (length es) e (tracked_since (extended [] es)) ≡ tracked_since (extended [] (es ++ e ∷ []))
kept-push es e =
    let n : length es ≡ length (extended [] es) = omega (arith, length-extended [] es) in
    ap (λ i. tracked_after i e (tracked_since (extended [] es))) n ∙ ap tracked_since (sym (extended-push [] es e))

reported_from : (version : Version) (done : List Event) (s : Spec) → IsRun version done s → IsReported version (tracked_since (extended [] done)) done s → (es : List Event) (u : Spec) → Leads s es u → IsReported version (tracked_since (extended [] (done ++ es))) (done ++ es) u
reported_from version done s r reported [] u l =
    subst (λ x. IsReported version (tracked_since (extended [] x)) x u) (sym (append-nil done)) (subst (IsReported version (tracked_since (extended [] done)) done) l reported)
reported_from version done s r reported (e ∷ es) u l =
    let n = acted e.thread.0 s e.action in
    let after = subst (λ k. IsReported version k (done ++ e ∷ []) n) (kept-push done e) (reported_on version (tracked_since (extended [] done)) done s e r l.1.0 reported) in
    let rest : Leads n es u = subst (λ v. Leads v es u) l.1.1 l.2 in
    subst (λ x. IsReported version (tracked_since (extended [] x)) x u) (append_assoc done (e ∷ []) es) (reported_from version (done ++ e ∷ []) n (leads_push done (at_first version) s e n r (l.1.0, refl)) after es u rest)

pub reported_run : (version : Version) (es : List Event) (s : Spec) → IsRun version es s → IsReported version (tracked_since (extended [] es)) es s
reported_run version es s r = reported_from version [] (at_first version) refl (reported_first version) es s r

came_by : (x : Cause) (o : Origin) → came x ≡ Some o → x ≡ By o
came_by Never o h = let bad : None ≡ Some o = h in cc
came_by (Awaited k) o h = let bad : None ≡ Some o = h in cc
came_by (By p) o h = let same : Some p ≡ Some o = h in cc

module _ (version : Version) (k : Tracked) (es : List Event) (s : Spec) (reported : IsReported version k es s) (t : ℕ) (o : Origin) where
  no_cause : (a : Action) → None ≡ Some o → IsMadeBy version (awaited_by t a) es s o
  no_cause a h = absurd (let bad : None ≡ Some o = h in cc)

  by_action : (a : Action) → KeepsOrder (s.pending t) a → let_on_by k (marks_of t a).waker ≡ Some o → IsMadeBy version (awaited_by t a) es s o
  by_action (Acquire m) order h = no_cause (Acquire m) h
  by_action (Release m) order h = no_cause (Release m) h
  by_action (Enqueue m c) order h = no_cause (Enqueue m c) h
  by_action (Resume m c) order h = reported.out t o (came_by (k.stands t) o h) c.0 (subst (IsWaitOn c.0) (sym order) refl)
  by_action (AlertEnqueue m c) order h = no_cause (AlertEnqueue m c) h
  by_action (AlertReturn m c) order h = reported.out t o (came_by (k.stands t) o h) c.0 (subst (IsWaitOn c.0) (sym order) refl)
  by_action (AlertRaise m c) order h = reported.alerted t o (came_by (k.alerts t) o h)
  by_action (Signal c left) order h = no_cause (Signal c left) h
  by_action (Broadcast c) order h = no_cause (Broadcast c) h
  by_action (P n) order h = reported.opener n.0 o (came_by (k.opens n.0) o h)
  by_action (V n) order h = no_cause (V n) h
  by_action (Alert who) order h = no_cause (Alert who) h
  by_action (TestAlert b) order h = reported.alerted t o (came_by (k.alerts t) o h)
  by_action (AlertPReturn n) order h = reported.opener n.0 o (came_by (k.opens n.0) o h)
  by_action (AlertPRaise n) order h = reported.alerted t o (came_by (k.alerts t) o h)
  by_action (Fork who) order h = no_cause (Fork who) h
  by_action End order h = no_cause End h
  by_action (Join who) order h = (reported.lives who.0).ended o h

pub arrows_are_causes : ArrowsAreCauses
arrows_are_causes = λ version es s r e may o h. by_action version (tracked_since (extended [] es)) es s (reported_run version es s r) e.thread.0 o e.action may.order h

pub rows_are_lives : RowsAreLives
rows_are_lives = λ version es s r t. ((reported_run version es s r).lives t).is

unrun : (b : Bool) (y : Option Origin) (o : Origin) → cond b None y ≡ Some o → (b ≡ false) × (y ≡ Some o)
unrun true y o h = absurd (let bad : None ≡ Some o = h in cc)
unrun false y o h = (refl, h)

pub forks_are_births : ForksAreBirths
forks_are_births = λ version es s r e may o h.
    let k = tracked_since (extended [] es) in
    let first = unrun (has_run k 0 e.thread.0) (k.born e.thread.0) o h in
    (((reported_run version es s r).lives e.thread.0).forked o first.1 may.live, λ had. true≢false (sym ((runs_are_seen (extended [] es) 0 e.thread.0).1 had) ∙ first.0))
