-- The changes of a board are those of the actions' rows.
use Rattle.std.proofs.Common.{◌≡◌, ◌≢◌, ◌⊎◌, ⊎_elim, inl, inr, ℕ, ◌<◌, ◌≤◌, Bool, true, false, cond, eqb, List, length, get_or, refl, sym, ap, subst, ◌∙◌, arith, eq-eqb, ne_eqb, get_or-set_same, get_or-set_other, set, ◌+◌}
use Rattle.std.proofs.lemmas.Bool.Decides.{nat_tests}
use Rattle.std.proofs.lemmas.List.{get_or_default}
use mathlib.Core.Logic.{dite}
use native.Mathlib.Decide.{ℕ_discrete}
use mathlib.Core.Option.{none, some}
use Rattle.larch_actions.specs.declared.event.Pending.{Pending}
use Rattle.larch_actions.specs.declared.event.Pending.TheVariants.{Nothing, Waiting, AlertWaiting}
use Rattle.larch_actions.specs.declared.event.Life.{Life}
use Rattle.larch_actions.specs.declared.event.Action.{Action}
use Rattle.script_text.specs.Runs.{event}
use Rattle.larch_actions.specs.declared.event.Life.TheVariants.{Unborn, Live}
use Rattle.larch_actions.specs.declared.event.MutexId.{MutexId}
use Rattle.larch_actions.specs.declared.event.CondId.{CondId}
use Rattle.larch_actions.specs.Actions.{Spec, put, without_member, MayLeave}
use Rattle.larch_actions.specs.State.{shown_at}
use Rattle.larch_actions.proofs.Shown.{shown_at-get_or, shown_at-past, put-same}
use Rattle.script_search.specs.declared.board.Place.{Place}
use Rattle.script_search.specs.declared.board.Place.TheVariants as place
use Rattle.script_search.specs.declared.board.Thread.{Thread}
use Rattle.script_search.specs.Boards.{Moment, SameSize, Keeps, Steps, spec_of, played_of, pending_of, life_of, life_beyond, is_inside}
use Rattle.script_search.specs.Thinned.{thin_place, thin, IsThinned, members_in}
use Rattle.script_search.proofs.Shown.{life_now, pending_now, member_now, idle_outside}

-- some thread
abbrev pub nobody : Thread
nobody = record { played = 0; place = place.Unborn; alerted = false }

-- a thread that has begun nothing is in no condition
pub outside_idle : (m : Moment) (i : ℕ) → i < length m.threads → (spec_of m).pending i ≡ Nothing → (c : ℕ) → (spec_of m).members c i ≡ false
outside_idle m i low idle c = member_now m i low nobody c ∙ idle_outside (get_or m.threads i nobody).place c (sym (pending_now m i low nobody) ∙ idle)

elsewhere : (p : Place) (m : MutexId) (c : CondId) (k : ℕ) → (pending_of p ≡ Waiting m c) ⊎ (pending_of p ≡ AlertWaiting m c) → k ≢ c.0 → is_inside k p ≡ false
elsewhere (place.Waiting m q inside) n c k h ne = elim h [
  | inl e ↦ let same : q ≡ c.0 = ap cond_of e in rw (ne_eqb k q (λ z. ne (z ∙ same))) refl
  | inr e ↦ absurd (cc)
]
  where
    cond_of : Pending → ℕ
    cond_of Nothing = 0
    cond_of (Waiting a b) = b.0
    cond_of (AlertWaiting a b) = b.0
elsewhere (place.AlertWaiting m q inside) n c k h ne = elim h [
  | inl e ↦ absurd (cc)
  | inr e ↦ let same : q ≡ c.0 = ap cond_of e in rw (ne_eqb k q (λ z. ne (z ∙ same))) refl
]
  where
    cond_of : Pending → ℕ
    cond_of Nothing = 0
    cond_of (Waiting a b) = b.0
    cond_of (AlertWaiting a b) = b.0
elsewhere _ m c k h ne = refl

-- one in a wait is in no other condition than that of the wait
pub outside_others : (m : Moment) (i : ℕ) → i < length m.threads → (u : MutexId) (c : CondId) → ((spec_of m).pending i ≡ Waiting u c) ⊎ ((spec_of m).pending i ≡ AlertWaiting u c)
    → (k : ℕ) → k ≢ c.0 → (spec_of m).members k i ≡ false
outside_others m i low u c waits k ne =
    let now = sym (pending_now m i low nobody) in
    member_now m i low nobody k ∙ elsewhere (get_or m.threads i nobody).place u c k (elim waits [ inl e ↦ inl (now ∙ e) | inr e ↦ inr (now ∙ e) ]) ne

-- and in none at all where it is out of that one
pub outside_all : (m : Moment) (i : ℕ) → i < length m.threads → (u : MutexId) (c : CondId) → ((spec_of m).pending i ≡ Waiting u c) ⊎ ((spec_of m).pending i ≡ AlertWaiting u c)
    → (spec_of m).members c.0 i ≡ false → (k : ℕ) → (spec_of m).members k i ≡ false
outside_all m i low u c waits out k = dite (ℕ_discrete k c.0)
    (λ e. ap (λ z. (spec_of m).members z i) e ∙ out)
    (λ ne. outside_others m i low u c waits k ne)

unborn_idle : (p : Place) → life_of p ≡ Unborn → pending_of p ≡ Nothing
unborn_idle (place.Waiting m q inside) e = absurd (cc)
unborn_idle (place.AlertWaiting m q inside) e = absurd (cc)
unborn_idle _ e = refl

pub idle_unborn : (m : Moment) (i : ℕ) → i < length m.threads → (spec_of m).life i ≡ Unborn → (spec_of m).pending i ≡ Nothing
idle_unborn m i low unborn = pending_now m i low nobody ∙ unborn_idle (get_or m.threads i nobody).place (sym (life_now m i low nobody) ∙ unborn)

-- the members where the thread t is put into the condition c, out of it, or into none
module _ (f : ℕ → ℕ → Bool) (t : ℕ) where
  members-in : (c : ℕ) → ((k : ℕ) → f k t ≡ false) → (λ k. put (f k) t (cond (eqb k c) true false)) ≡ put f c (put (f c) t true)
  members-in c out = λ i k j. by k j i
    where
      other : (k j : ℕ) → cond (eqb j t) false (f k j) ≡ f k j
      other k j = dite (ℕ_discrete j t)
          (λ e. rw (eq-eqb j t e) (sym (ap (f k) e ∙ out k)))
          (λ ne. rw (ne_eqb j t ne) refl)

      by : (k j : ℕ) → cond (eqb j t) (cond (eqb k c) true false) (f k j) ≡ cond (eqb k c) (put (f c) t true) (f k) j
      by k j = dite (ℕ_discrete k c)
          (λ e. rw (eq-eqb k c e) (ap (λ z. cond (eqb j t) true (f z j)) e))
          (λ ne. rw (ne_eqb k c ne) (other k j))

  members-out : (c : ℕ) → ((k : ℕ) → k ≢ c → f k t ≡ false) → (λ k. put (f k) t false) ≡ put f c (put (f c) t false)
  members-out c out = λ i k j. by k j i
    where
      other : (k j : ℕ) → k ≢ c → cond (eqb j t) false (f k j) ≡ f k j
      other k j ne = dite (ℕ_discrete j t)
          (λ e. rw (eq-eqb j t e) (sym (ap (f k) e ∙ out k ne)))
          (λ apart. rw (ne_eqb j t apart) refl)

      by : (k j : ℕ) → cond (eqb j t) false (f k j) ≡ cond (eqb k c) (put (f c) t false) (f k) j
      by k j = dite (ℕ_discrete k c)
          (λ e. rw (eq-eqb k c e) (ap (λ z. cond (eqb j t) false (f z j)) e))
          (λ ne. rw (ne_eqb k c ne) (other k j ne))

  members-none : ((k : ℕ) → f k t ≡ false) → (λ k. put (f k) t false) ≡ f
  members-none out = λ i k. put-same (f k) t false (out k) i

-- what the changes of a row come to
module _ (s : Spec) (t : ℕ) where
  pub entered : (m c : ℕ) (what : Pending) → s.life t ≡ Live → ((k : ℕ) → s.members k t ≡ false)
      → record s { holder = put s.holder m none; members = λ k. put (s.members k) t (cond (eqb k c) true false); pending = put s.pending t what; life = put s.life t Live }
      ≡ record s { holder = put s.holder m none; members = put s.members c (put (s.members c) t true); pending = put s.pending t what }
  entered m c what live out = λ i. record s {
    holder = put s.holder m none;
    members = members-in s.members t c out i;
    pending = put s.pending t what;
    life = put-same s.life t Live live i;
  }

  pub resumed : (m : ℕ) → s.life t ≡ Live → ((k : ℕ) → s.members k t ≡ false)
      → record s { holder = put s.holder m (some t); members = λ k. put (s.members k) t false; pending = put s.pending t Nothing; life = put s.life t Live }
      ≡ record s { holder = put s.holder m (some t); pending = put s.pending t Nothing }
  resumed m live out = λ i. record s {
    holder = put s.holder m (some t);
    members = members-none s.members t out i;
    pending = put s.pending t Nothing;
    life = put-same s.life t Live live i;
  }

  pub raised : (m c : ℕ) → s.life t ≡ Live → ((k : ℕ) → k ≢ c → s.members k t ≡ false)
      → record s { holder = put s.holder m (some t); members = λ k. put (s.members k) t false; alerts = put s.alerts t false; pending = put s.pending t Nothing; life = put s.life t Live }
      ≡ record s { holder = put s.holder m (some t); members = without_member s c t; alerts = put s.alerts t false; pending = put s.pending t Nothing }
  raised m c live out = λ i. record s {
    holder = put s.holder m (some t);
    members = members-out s.members t c out i;
    alerts = put s.alerts t false;
    pending = put s.pending t Nothing;
    life = put-same s.life t Live live i;
  }

  pub lived : (life : Life) → s.pending t ≡ Nothing → ((k : ℕ) → s.members k t ≡ false)
      → record s { members = λ k. put (s.members k) t false; pending = put s.pending t Nothing; life = put s.life t life } ≡ record s { life = put s.life t life }
  lived life idle out = λ i. record s {
    members = members-none s.members t out i;
    pending = put-same s.pending t Nothing idle i;
    life = put s.life t life;
  }

-- the threads that a signal takes out
inside-thin : (c : ℕ) (b : Bool) (k : ℕ) (p : Place) → is_inside k (thin_place c b p) ≡ cond (eqb k c) (cond b (is_inside c p) false) (is_inside k p)
inside-thin c b k place.Unborn = grind (arith, nat_tests)
inside-thin c b k _ = grind (arith, nat_tests)

pending-thin : (c : ℕ) (b : Bool) (p : Place) → pending_of (thin_place c b p) ≡ pending_of p
pending-thin c b place.Unborn = refl
pending-thin c b _ = refl

life-thin : (c : ℕ) (b : Bool) (p : Place) → life_of (thin_place c b p) ≡ life_of p
life-thin c b place.Unborn = refl
life-thin c b _ = refl

low_or_high : (n m : ℕ) → (n < m) ⊎ (m ≤ n)
low_or_high n m = grind arith

module _ (m : Moment) (c : ℕ) (left : ℕ → Bool) (new : List Thread) (h : IsThinned c left m.threads new) where
  shown : {Y : Type 0} (view : Thread → Y) (d : Y) (after : ℕ → Y → Y) → ((j : ℕ) → view (thin c (left j) (get_or m.threads j nobody)) ≡ after j (view (get_or m.threads j nobody)))
      → ((j : ℕ) → after j d ≡ d) → (j : ℕ) → shown_at view d new j ≡ after j (shown_at view d m.threads j)
  shown view d after same beyond j = ⊎_elim
      (λ (low : j < length m.threads).
      let size = h.size in
      shown_at-get_or view d new j nobody (omega (arith, size)) ∙ (ap view (h.each j nobody low) ∙ (same j ∙ sym (ap (after j) (shown_at-get_or view d m.threads j nobody low)))))
      (λ (high : length m.threads ≤ j).
      let size = h.size in
      shown_at-past view d new j (omega (arith, size)) ∙ (sym (beyond j) ∙ sym (ap (after j) (shown_at-past view d m.threads j high))))
      (low_or_high j (length m.threads))

  same_view : {Y : Type 0} (view : Thread → Y) (d : Y) → ((b : Bool) (x : Thread) → view (thin c b x) ≡ view x) → shown_at view d new ≡ shown_at view d m.threads
  same_view view d same = λ i j. shown view d (λ _ y. y) (λ j. same (left j) (get_or m.threads j nobody)) (λ j. refl) j i

  pub played-thinned : played_of (record m { threads = new }) ≡ played_of m
  played-thinned = same_view (λ (x : Thread). x.played) 0 (λ b x. refl)

  at_place : (k j : ℕ) → members_in new k j ≡ cond (eqb k c) (cond (left j) (members_in m.threads c j) false) (members_in m.threads k j)
  at_place k j = ⊎_elim
      (λ (low : j < length m.threads).
      let size = h.size in
      let x = get_or m.threads j nobody in
      shown_at-get_or (λ (y : Thread). is_inside k y.place) false new j nobody (omega (arith, size))
      ∙ (ap (λ (y : Thread). is_inside k y.place) (h.each j nobody low)
      ∙ (inside-thin c (left j) k x.place
      ∙ sym (ap (λ z. cond (eqb k c) (cond (left j) z false) (members_in m.threads k j)) (shown_at-get_or (λ (y : Thread). is_inside c y.place) false m.threads j nobody low)
      ∙ ap (λ z. cond (eqb k c) (cond (left j) (is_inside c x.place) false) z) (shown_at-get_or (λ (y : Thread). is_inside k y.place) false m.threads j nobody low)))))
      (λ (high : length m.threads ≤ j).
      let size = h.size in
      let absent : (q : ℕ) → members_in m.threads q j ≡ false = λ q. shown_at-past (λ (y : Thread). is_inside q y.place) false m.threads j high in
      shown_at-past (λ (y : Thread). is_inside k y.place) false new j (omega (arith, size))
      ∙ sym (ap (λ z. cond (eqb k c) (cond (left j) z false) (members_in m.threads k j)) (absent c) ∙ (ap (λ z. cond (eqb k c) (cond (left j) false false) z) (absent k) ∙ empty (eqb k c) (left j))))
      (low_or_high j (length m.threads))
    where
      empty : (a b : Bool) → cond a (cond b false false) false ≡ false
      empty true true = refl
      empty true false = refl
      empty false b = refl

  chosen : (b : Bool) (f g : ℕ → Bool) (j : ℕ) → cond b (f j) (g j) ≡ cond b f g j
  chosen true f g j = refl
  chosen false f g j = refl

  pub spec-thinned : spec_of (record m { threads = new }) ≡ record (spec_of m) { members = put (spec_of m).members c (λ j. cond (left j) ((spec_of m).members c j) false) }
  spec-thinned = λ i. record (spec_of m) {
    members = λ k j. (at_place k j ∙ chosen (eqb k c) (λ j. cond (left j) (members_in m.threads c j) false) (members_in m.threads k) j) i;
    alerts = same_view (λ (x : Thread). x.alerted) false (λ b x. refl) i;
    pending = same_view (λ (x : Thread). pending_of x.place) Nothing (λ b x. pending-thin c b x.place) i;
    life = same_view (λ (x : Thread). life_of x.place) (life_beyond m.second) (λ b x. life-thin c b x.place) i;
  }

-- what a Signal may leave is what it leaves of the condition
pub left_of : (f left : ℕ → Bool) → MayLeave f left → (λ j. cond (left j) (f j) false) ≡ left
left_of f left may = λ i j. by j (left j) refl i
  where
    by : (j : ℕ) (b : Bool) → left j ≡ b → cond (left j) (f j) false ≡ left j
    by j true e = rw e (elim may [ inl empty ↦ absurd (cc (empty j)) | inr part ↦ part.0 j e ])
    by j false e = rw e refl

-- one change, and another after it
pub sizes_both : (a b c : Moment) → SameSize a b → SameSize b c → SameSize a c
sizes_both a b c p q = record { second = q.second ∙ p.second; threads = q.threads ∙ p.threads; holders = q.holders ∙ p.holders; available = q.available ∙ p.available }

pub keeps_both : (a b c : Moment) → Keeps a b → Keeps b c → Keeps a c
keeps_both a b c p q = record { sizes = sizes_both a b c p.sizes q.sizes; played = q.played ∙ p.played }

-- the step of an event with another name for its action
pub steps_at : (old new : Moment) (t : ℕ) (a b : Action) (r : Bool) → a ≡ b → Steps old new (event t b) r → Steps old new (event t a) r
steps_at old new t a b r is h = subst (λ (x : Action). Steps old new (event t x) r) (sym is) h

-- which threads are in a condition, by their entries
pub member_here : (threads : List Thread) (c t : ℕ) (b : Bool) → t < length threads → is_inside c (get_or threads t nobody).place ≡ b → members_in threads c t ≡ b
member_here threads c t b low h = shown_at-get_or (λ (y : Thread). is_inside c y.place) false threads t nobody low ∙ h

pub member_low : (threads : List Thread) (c t : ℕ) → members_in threads c t ≡ true → t < length threads
member_low threads c t h = ⊎_elim
    (λ (low : t < length threads). low)
    (λ (high : length threads ≤ t). absurd (false_true (sym (shown_at-past (λ (y : Thread). is_inside c y.place) false threads t high) ∙ h)))
    (low_or_high t (length threads))
  where
    false_true : false ≡ true → ⊥
    false_true e = cc

-- none is in a set that has only threads below n, and none of these
pub none_in : (f : ℕ → Bool) (n : ℕ) → ((t : ℕ) → f t ≡ true → t < n) → ((t : ℕ) → t < n → f t ≡ false) → (t : ℕ) → f t ≡ false
none_in f n within low t = by (f t) refl
  where
    by : (b : Bool) → f t ≡ b → f t ≡ false
    by true e = low t (within t e)
    by false e = e

-- one thread more is thinned
pub thin_below : (c : ℕ) (left : ℕ → Bool) (old now : List Thread) (t : ℕ) (x : Thread) → t < length now → x ≡ thin c (left t) (get_or now t nobody)
    → ((k : ℕ) (d : Thread) → k < t → get_or now k d ≡ thin c (left k) (get_or old k d)) → ((k : ℕ) (d : Thread) → t ≤ k → get_or now k d ≡ get_or old k d)
    → (k : ℕ) (d : Thread) → k < t + 1 → get_or (set now t x) k d ≡ thin c (left k) (get_or old k d)
thin_below c left old now t x low is below above k d lt = dite (ℕ_discrete k t)
    (λ e. rw e (get_or-set_same now t x d low ∙ (is ∙ ap (thin c (left t)) (get_or_default now t nobody d low ∙ above t d (omega arith)))))
    (λ ne. get_or-set_other now t k x d ne ∙ below k d (omega (arith, ne)))

pub thin_above : (old now : List Thread) (t : ℕ) (x : Thread) → ((k : ℕ) (d : Thread) → t ≤ k → get_or now k d ≡ get_or old k d)
    → (k : ℕ) (d : Thread) → t + 1 ≤ k → get_or (set now t x) k d ≡ get_or old k d
thin_above old now t x above k d le = let ne : k ≢ t = omega arith in get_or-set_other now t k x d ne ∙ above k d (omega arith)
