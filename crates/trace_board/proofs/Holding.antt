-- Since when a mutex is held and a semaphore is taken: what the past says, and what the state says.
use Rattle.std.proofs.Common.{◌≡◌, ℕ, Bool, true, false, cond, eqb, List, [], ◌∷◌, length, refl, ap, sym, subst, ◌∙◌, Some, None, MatchOption, eq-eqb, ne_eqb}
use mathlib.Core.Logic.{dite}
use native.Mathlib.Decide.{ℕ_discrete}
use Rattle.std.specs.declared.option.Option.{Option}
use mathlib.Core.Option.{none, some, Option as Optional}
use Rattle.larch_actions.specs.declared.event.Event.{Event}
use Rattle.larch_actions.specs.declared.event.Action.{Action}
use Rattle.larch_actions.specs.declared.event.Action.TheVariants.{Acquire, Release, Enqueue, Resume, AlertEnqueue, AlertReturn, AlertRaise, Signal, Broadcast, P, V, Alert, TestAlert, AlertPReturn, AlertPRaise, Fork, End, Join}
use Rattle.larch_actions.specs.Actions.{Spec, acted, Leads, at_first}
use Rattle.trace_board.specs.declared.history.Origin.{Origin}
use Rattle.trace_board.specs.declared.history.Change.{Change}
use Rattle.trace_board.specs.declared.history.Change.TheVariants.{Begins, Ends, Stays}
use Rattle.trace_board.specs.History.{changed, origin_of}
use Rattle.trace_board.specs.Marks.{marks, marks_of}
use Rattle.trace_board.specs.declared.rows.Bar.{Bar}
use Rattle.trace_board.specs.declared.rows.Bar.TheVariants.{Mutex, Semaphore}
use Rattle.trace_board.specs.Tracked.{tracked_since, extended}
use Rattle.trace_board.specs.Laws.{number_of, turn_of, IsLeft, IsSince, BarsAreHolds, BarsAreTakings}

-- what the past says of a mutex is what the state says
abbrev Agrees : Option Origin → Optional ℕ → Type 0
Agrees None h = h ≡ none
Agrees (Some o) h = h ≡ some o.thread.0

begun : (b : Bool) (o : Origin) (x : Option Origin) (h : Optional ℕ) → Agrees x h → Agrees (cond b (Some o) x) (cond b (some o.thread.0) h)
begun true o x h a = refl
begun false o x h a = a

over : (b : Bool) (x : Option Origin) (h : Optional ℕ) → Agrees x h → Agrees (cond b None x) (cond b none h)
over true x h a = refl
over false x h a = a

agrees_after : (o : Origin) (f : ℕ → Option Origin) (s : Spec) (a : Action) (m : ℕ) → Agrees (f m) (s.holder m) → Agrees (changed (marks_of o.thread.0 a).mutex o f m) ((acted o.thread.0 s a).holder m)
agrees_after o f s (Acquire k) m h = begun (eqb m k.0) o (f m) (s.holder m) h
agrees_after o f s (Release k) m h = over (eqb m k.0) (f m) (s.holder m) h
agrees_after o f s (Enqueue k c) m h = over (eqb m k.0) (f m) (s.holder m) h
agrees_after o f s (Resume k c) m h = begun (eqb m k.0) o (f m) (s.holder m) h
agrees_after o f s (AlertEnqueue k c) m h = over (eqb m k.0) (f m) (s.holder m) h
agrees_after o f s (AlertReturn k c) m h = begun (eqb m k.0) o (f m) (s.holder m) h
agrees_after o f s (AlertRaise k c) m h = begun (eqb m k.0) o (f m) (s.holder m) h
agrees_after o f s (Signal c left) m h = h
agrees_after o f s (Broadcast c) m h = h
agrees_after o f s (P k) m h = h
agrees_after o f s (V k) m h = h
agrees_after o f s (Alert t) m h = h
agrees_after o f s (TestAlert b) m h = h
agrees_after o f s (AlertPReturn k) m h = h
agrees_after o f s (AlertPRaise k) m h = h
agrees_after o f s (Fork t) m h = h
agrees_after o f s End m h = h
agrees_after o f s (Join t) m h = h

agrees_run : (past es : List Event) (s t : Spec) (m : ℕ) → Leads s es t → Agrees ((tracked_since past).held m) (s.holder m) → Agrees ((tracked_since (extended past es)).held m) (t.holder m)
agrees_run past [] s t m r h = subst (λ (u : Spec). Agrees ((tracked_since past).held m) (u.holder m)) r h
agrees_run past (e ∷ es) s t m r h =
    let step = agrees_after (origin_of (length past) e) ((tracked_since past).held) s e.action m h in
    agrees_run (e ∷ past) es r.0 t m r.2 (subst (λ (u : Spec). Agrees ((tracked_since (e ∷ past)).held m) (u.holder m)) (sym r.1.1) step)

-- what the past says of a semaphore is what the state says
abbrev AgreesOn : Option Origin → Bool → Type 0
AgreesOn None v = v ≡ true
AgreesOn (Some o) v = v ≡ false

shut : (b : Bool) (o : Origin) (x : Option Origin) (v : Bool) → AgreesOn x v → AgreesOn (cond b (Some o) x) (cond b false v)
shut true o x v a = refl
shut false o x v a = a

free : (b : Bool) (x : Option Origin) (v : Bool) → AgreesOn x v → AgreesOn (cond b None x) (cond b true v)
free true x v a = refl
free false x v a = a

taken_after : (o : Origin) (f : ℕ → Option Origin) (s : Spec) (a : Action) (n : ℕ) → AgreesOn (f n) (s.avail n) → AgreesOn (changed (marks_of o.thread.0 a).semaphore o f n) ((acted o.thread.0 s a).avail n)
taken_after o f s (Acquire k) n h = h
taken_after o f s (Release k) n h = h
taken_after o f s (Enqueue k c) n h = h
taken_after o f s (Resume k c) n h = h
taken_after o f s (AlertEnqueue k c) n h = h
taken_after o f s (AlertReturn k c) n h = h
taken_after o f s (AlertRaise k c) n h = h
taken_after o f s (Signal c left) n h = h
taken_after o f s (Broadcast c) n h = h
taken_after o f s (P k) n h = shut (eqb n k.0) o (f n) (s.avail n) h
taken_after o f s (V k) n h = free (eqb n k.0) (f n) (s.avail n) h
taken_after o f s (Alert t) n h = h
taken_after o f s (TestAlert b) n h = h
taken_after o f s (AlertPReturn k) n h = shut (eqb n k.0) o (f n) (s.avail n) h
taken_after o f s (AlertPRaise k) n h = h
taken_after o f s (Fork t) n h = h
taken_after o f s End n h = h
taken_after o f s (Join t) n h = h

taken_run : (past es : List Event) (s t : Spec) (n : ℕ) → Leads s es t → AgreesOn ((tracked_since past).taken n) (s.avail n) → AgreesOn ((tracked_since (extended past es)).taken n) (t.avail n)
taken_run past [] s t n r h = subst (λ (u : Spec). AgreesOn ((tracked_since past).taken n) (u.avail n)) r h
taken_run past (e ∷ es) s t n r h =
    let step = taken_after (origin_of (length past) e) ((tracked_since past).taken) s e.action n h in
    taken_run (e ∷ past) es r.0 t n r.2 (subst (λ (u : Spec). AgreesOn ((tracked_since (e ∷ past)).taken n) (u.avail n)) (sym r.1.1) step)

-- the latest event that took it, and none since that took it or gave it back
abbrev pub Since : Bar → List Event → Option Origin → Type 0
Since b past None = Unit {0}
Since b past (Some o) = IsSince b o past

kept_on : (b : Bar) (o : Origin) (e : Event) (past : List Event) → IsLeft b e → IsSince b o past → IsSince b o (e ∷ past)
kept_on b o e past left h = record {
  later = e ∷ h.later;
  taking = h.taking;
  earlier = h.earlier;
  split = ap (λ l. e ∷ l) h.split;
  place = h.place;
  by = h.by;
  takes = h.takes;
  kept = (left, h.kept);
}

taken_now : (b : Bar) (e : Event) (past : List Event) → turn_of b e ≡ Begins (number_of b) → IsSince b (origin_of (length past) e) (e ∷ past)
taken_now b e past t = record { later = []; taking = e; earlier = past; split = refl; place = refl; by = refl; takes = t; kept = tt }

stays : (b : Bar) (e : Event) (past : List Event) (x : Option Origin) → IsLeft b e → Since b past x → Since b (e ∷ past) x
stays b e past None left h = tt
stays b e past (Some o) left h = kept_on b o e past left h

since_begins : (b : Bar) (k : ℕ) (e : Event) (past : List Event) (x : Option Origin) → turn_of b e ≡ Begins k → Since b past x → Since b (e ∷ past) (cond (eqb (number_of b) k) (Some (origin_of (length past) e)) x)
since_begins b k e past x t h = dite (ℕ_discrete (number_of b) k)
    (λ same. subst (λ y. Since b (e ∷ past) (cond y (Some (origin_of (length past) e)) x)) (sym (eq-eqb (number_of b) k same)) (taken_now b e past (t ∙ ap Begins (sym same))))
    (λ ne. subst (λ y. Since b (e ∷ past) (cond y (Some (origin_of (length past) e)) x)) (sym (ne_eqb (number_of b) k ne)) (stays b e past x (λ u. ne (begins_same (number_of b) k (sym u ∙ t)), λ u. ends_no (number_of b) k (sym u ∙ t)) h))
  where
    begins_same : (m k : ℕ) → Begins m ≡ Begins k → m ≡ k
    begins_same m k u = cc

    ends_no : (m k : ℕ) → Ends m ≡ Begins k → ⊥
    ends_no m k u = cc

since_ends : (b : Bar) (k : ℕ) (e : Event) (past : List Event) (x : Option Origin) → turn_of b e ≡ Ends k → Since b past x → Since b (e ∷ past) (cond (eqb (number_of b) k) None x)
since_ends b k e past x t h = dite (ℕ_discrete (number_of b) k)
    (λ same. subst (λ y. Since b (e ∷ past) (cond y None x)) (sym (eq-eqb (number_of b) k same)) tt)
    (λ ne. subst (λ y. Since b (e ∷ past) (cond y None x)) (sym (ne_eqb (number_of b) k ne)) (stays b e past x (λ u. begins_no (number_of b) k (sym u ∙ t), λ u. ne (ends_same (number_of b) k (sym u ∙ t))) h))
  where
    ends_same : (m k : ℕ) → Ends m ≡ Ends k → m ≡ k
    ends_same m k u = cc

    begins_no : (m k : ℕ) → Begins m ≡ Ends k → ⊥
    begins_no m k u = cc

since_turn : (b : Bar) (e : Event) (past : List Event) (f : ℕ → Option Origin) (t : Change) → turn_of b e ≡ t → Since b past (f (number_of b)) → Since b (e ∷ past) (changed t (origin_of (length past) e) f (number_of b))
since_turn b e past f (Begins k) t h = since_begins b k e past (f (number_of b)) t h
since_turn b e past f (Ends k) t h = since_ends b k e past (f (number_of b)) t h
since_turn b e past f Stays t h = stays b e past (f (number_of b)) (λ u. begins_no (number_of b) (sym u ∙ t), λ u. ends_no (number_of b) (sym u ∙ t)) h
  where
    begins_no : (m : ℕ) → Begins m ≡ Stays → ⊥
    begins_no m u = cc

    ends_no : (m : ℕ) → Ends m ≡ Stays → ⊥
    ends_no m u = cc

pub held_past : (m : ℕ) (past : List Event) → Since (Mutex m) past ((tracked_since past).held m)
held_past m [] = tt
held_past m (e ∷ past) = since_turn (Mutex m) e past (tracked_since past).held (marks e).mutex refl (held_past m past)

taken_past : (n : ℕ) (past : List Event) → Since (Semaphore n) past ((tracked_since past).taken n)
taken_past n [] = tt
taken_past n (e ∷ past) = since_turn (Semaphore n) e past (tracked_since past).taken (marks e).semaphore refl (taken_past n past)

both : (m : ℕ) (past : List Event) (x : Option Origin) (h : Optional ℕ) → Agrees x h → Since (Mutex m) past x → MatchOption x (h ≡ none) (λ o. (h ≡ some o.thread.0) × IsSince (Mutex m) o past)
both m past None h a s = a
both m past (Some o) h a s = (a, s)

both_taken : (n : ℕ) (past : List Event) (x : Option Origin) (v : Bool) → AgreesOn x v → Since (Semaphore n) past x → MatchOption x (v ≡ true) (λ o. (v ≡ false) × IsSince (Semaphore n) o past)
both_taken n past None v a s = a
both_taken n past (Some o) v a s = (a, s)

pub bars_are_holds : BarsAreHolds
bars_are_holds = λ version es s r m. both m (extended [] es) ((tracked_since (extended [] es)).held m) (s.holder m) (agrees_run [] es (at_first version) s m r refl) (held_past m (extended [] es))

pub bars_are_takings : BarsAreTakings
bars_are_takings = λ version es s r n. both_taken n (extended [] es) ((tracked_since (extended [] es)).taken n) (s.avail n) (taken_run [] es (at_first version) s n r refl) (taken_past n (extended [] es))
