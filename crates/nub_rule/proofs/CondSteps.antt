-- The steps on the count of a condition keep the rule.
use Rattle.std.proofs.Common.{Bool, true, false, cond, ◌≡◌, ◌^◌, ◌%◌, ℕ, ◌+◌, ◌<◌, List, [], ◌∷◌, ◌++◌, get_or, set, refl, sym, ap, ◌∙◌, subst, inl, inr, arith, get_or-set_same, Some, None, eq-eqb, ne_eqb}
use mathlib.Core.Logic.{dite}
use mathlib.Core.Option.{Option, some, none, some-injective}
use native.Mathlib.Decide.{ℕ_discrete}
use lib.ListN.{get_elem?}
use lib.Seq.{set-get_or}
use Rattle.larch_actions.specs.declared.event.Event.{Event}
use Rattle.larch_actions.specs.declared.event.Life.TheVariants.{Live}
use Rattle.larch_actions.specs.declared.event.Action.{Action}
use Rattle.larch_actions.specs.declared.event.Layout.{Layout}
use Rattle.larch_actions.specs.declared.event.Pending.TheVariants.{Nothing}
use Rattle.larch_actions.specs.Actions.{Spec, Acts, MayLeave, put}
use Rattle.larch_actions.specs.Layout.{IsNamed}
use Rattle.larch_actions.specs.Sets.{mem, in_set, set_of}
use Rattle.larch_actions.proofs.Sets.{in_set-of, mem-here, mem-else}
use Rattle.atomic_table.specs.Table.{Me, step, Allows, keeps, rest}
use Rattle.nub_rule.specs.declared.rule.Slot.{Slot}
use Rattle.nub_rule.specs.declared.view.Part.{Part}
use Rattle.nub_rule.specs.declared.view.View.{View}
use Rattle.nub_rule.specs.declared.view.Wait.{Wait}
use Rattle.nub_rule.specs.declared.view.Kind.TheVariants.{Member}
use Rattle.nub_rule.specs.Items.{Core, Holders, Shows, Distinct}
use Rattle.nub_rule.specs.Parts.{Got, MayRecord, closing_on, pending_of, waits_on, open_on}
use Rattle.nub_rule.specs.Places.{life_at, bit_at, count_at, alert_at, value_at, waits_at, sem_object, cond_object}
use Rattle.nub_rule.specs.Plays.{Becomes, Grows, recorded, with_part, tail_of, event, begun_wait, enqueue_event, signal_action, broadcast_action, load_count_records, know_count_records, advance_records}
use Rattle.nub_rule.specs.Rule.{IsKept}
use Rattle.nub_rule.proofs.Each.{each-set, put-here, put-else}
use Rattle.nub_rule.proofs.Idle.{idle-live, idle-same}
use Rattle.nub_rule.proofs.Members.{Steps, member_steps}
use Rattle.nub_rule.proofs.Frames.{lives-frame, lives-stay, lived-frame, SameShown, other, pendings-frame, holders-frame, semaphores-frame, alerts-frame, alert-seen-stays, alert-seen-frame}
use Rattle.nub_rule.proofs.Lines.{distinct-tail_of, mem-tail_of}
use Rattle.nub_rule.proofs.Beside.{idle}
use Rattle.nub_rule.proofs.Owing.{owes-frame}
use Rattle.nub_rule.proofs.Beginning.{waits-stay, begun-frame, begun-same, counted-begun}
use Rattle.nub_rule.proofs.Stinting.{GivesNone, begun-gives, givers-other, givers-own, stinted-begins, stinted-event}
use Rattle.nub_rule.proofs.Spinning.{only_here}
use Rattle.nub_rule.proofs.Showing.{pendings-put}
use Rattle.nub_rule.proofs.Conditioning.{conditions-enter, conditions-advance}
use Rattle.nub_rule.proofs.Marking.{Aside, Learns, marks}

-- a step on the count of a condition is aside of bits, queues, ready words and the pen
count-aside : (c : ℕ) → c < 64 → Aside (count_at (cond_object c))
count-aside c low = record { bits = λ k up z. omega arith; spins = λ k up z. omega arith; lengths = λ k up z. omega arith; ready = λ k up z. omega arith; pen = λ z. omega arith; number = λ z. omega arith }

-- the state after the first part of the wait
abbrev entered : Spec → ℕ → ℕ → ℕ → Wait → Spec
entered old n m c w = record old { holder = put old.holder m none; members = put old.members c (put (old.members c) n true); pending = put old.pending n (pending_of (Some w)) }

enters : (alertable : Bool) (n m c k : ℕ) (old : Spec) → old.life n ≡ Live → old.pending n ≡ Nothing → old.holder m ≡ some n → Acts old (enqueue_event alertable n m c) (entered old n m c (begun_wait alertable m c k))
enters true n m c k old lives free held = (record { live = lives; order = free; requires_met = held; when_met = tt; choice_met = tt }, refl)
enters false n m c k old lives free held = (record { live = lives; order = free; requires_met = held; when_met = tt; choice_met = tt }, refl)

-- who is after the first is in the list
more-tail_of : (t : ℕ) (xs : List ℕ) → mem t (tail_of xs) ≡ true → mem t xs ≡ true
more-tail_of t [] there = there
more-tail_of t (x ∷ xs) there = dite (ℕ_discrete x t) (λ e. mem-here t x xs e) (λ ne. mem-else t x xs ne ∙ there)

-- the threads after the first may be left
may-leave : (members : ℕ → Bool) (xs : List ℕ) → Distinct xs → ((t : ℕ) → mem t xs ≡ true → members t ≡ true) → MayLeave members (in_set (set_of (tail_of xs)))
may-leave members [] d h = inl (λ t. in_set-of t [])
may-leave members (x ∷ xs) d h = inr (
  (λ t is. h t (more-tail_of t (x ∷ xs) (sym (in_set-of t xs) ∙ is))),
  (x, h x (mem-here x x xs refl), in_set-of x xs ∙ d.0),
)

less-tail_of : (t : ℕ) (xs : List ℕ) → mem t xs ≡ false → mem t (tail_of xs) ≡ false
less-tail_of t [] out = refl
less-tail_of t (x ∷ xs) out = dite (ℕ_discrete x t)
    (λ e. absurd (let f : true ≡ false = sym (mem-here t x xs e) ∙ out in cc))
    (λ ne. sym (mem-else t x xs ne) ∙ out)

key_of : {S : Type 0} (xs : List (ℕ × S)) (j k : ℕ) (x y : S) → xs ≡ (j, x) ∷ rest xs → xs ≡ (k, y) ∷ rest xs → j ≡ k
key_of xs j k x y e f = ap (λ (z : ℕ × _). z.0) (first_of (j, x) (k, y) (rest xs) (rest xs) (sym e ∙ f))
  where
    first_of : {A : Type 0} (x y : A) (xs ys : List A) → x ∷ xs ≡ y ∷ ys → x ≡ y
    first_of x y xs ys e = cc

module _ {T H : Type 0} (words words' : List ℕ) (spinner : ℕ → Option ℕ) (queue : ℕ → List ℕ) (owner : ℕ → Option ℕ) (spec : Spec) (all : List (Part T H)) (n : ℕ) (p q : Part T H) (at : get_elem? all n ≡ some p) where
  -- the thread n, which has the mutex m, begins a wait on it
  holders-enter : (holder : ℕ → Option ℕ) (m : ℕ) (w : Wait) → owner m ≡ some n → p.wait ≡ None → q.wait ≡ Some w → w.mutex.0 ≡ m → ((k : ℕ) → open_on (Some w) k ≡ false) → Holders owner holder all → Holders owner (put holder m none) (set all n q)
  holders-enter holder m w own before ew on shut h = record {
    free = λ k is. dite (ℕ_discrete k m) (λ e. ap (put holder m none) e ∙ put-here holder m none) (λ ne. put-else holder m k none ne ∙ h.free k is);
    holds = each-set (λ j r. (k : ℕ) → owner k ≡ some j → holder k ≡ cond (waits_on r.wait k) none (some j)) (λ j r. (k : ℕ) → owner k ≡ some j → put holder m none k ≡ cond (waits_on r.wait k) none (some j)) all n q
        (λ k is. let now = ap (λ w. cond (waits_on w k) none (some n)) (sym ew) in dite (ℕ_discrete k m)
        (λ e. ap (put holder m none) e ∙ (put-here holder m none ∙ (ap (λ b. cond b none (some n)) (sym (eq-eqb w.mutex.0 k (on ∙ sym e))) ∙ now)))
        (λ ne. put-else holder m k none ne ∙ (h.holds n p at k is ∙ (ap (λ w. cond (waits_on w k) none (some n)) before ∙ (ap (λ b. cond b none (some n)) (sym (ne_eqb w.mutex.0 k (λ z. ne (sym z ∙ on)))) ∙ now)))))
        (λ j x ne at' u k is. dite (ℕ_discrete k m) (λ e. absurd (ne (some-injective j n (sym is ∙ (ap owner e ∙ own))))) (λ other. put-else holder m k none other ∙ u k is)) h.holds;
    shut = let Y : ℕ → Part T H → Type 0 = λ j r. (k : ℕ) → owner k ≡ some j → open_on r.wait k ≡ false in each-set Y Y all n q (λ k is. ap (λ w. open_on w k) ew ∙ shut k) (λ j x ne at' u. u) h.shut;
  }

  -- the thread n, which has the mutex m, begins the wait w with the count k of c
  shows-enter : (m c k : ℕ) (w : Wait) → c < 64 → SameShown words words' → k ≡ get_or words (count_at (cond_object c)) 0 → owner m ≡ some n → w.mutex.0 ≡ m → ((k : ℕ) → open_on (Some w) k ≡ false) → w.cond.0 ≡ c → w.member ≡ Some k
      → q.life ≡ p.life → p.wait ≡ None → q.wait ≡ Some w → q.left ≡ p.left → q.queue ≡ p.queue → q.count ≡ p.count → p.left ≡ p.queue
      → Shows words spinner queue owner spec all → Shows words' spinner queue owner (entered spec n m c w) (set all n q)
  shows-enter m c k w low ws read own on_mutex shut on_cond stood ei before ew el eq ec even s = record {
    holders = holders-enter spec.holder m w own before ew on_mutex shut s.holders;
    pendings = pendings-put words words' spinner queue owner all n p q at spec.pending (put spec.pending n (pending_of (Some w))) (put-here spec.pending n (pending_of (Some w)) ∙ ap pending_of (sym ew)) (λ j ne. put-else spec.pending n j (pending_of (Some w)) ne) s.pendings;
    semaphores = semaphores-frame spec.avail words words' ws.sems s.semaphores;
    alerts = alerts-frame spec.alerts words words' ws.alerts s.alerts;
    conditions = conditions-enter words words' spinner queue spec.members all n p q at s.conditions c k w low ws.counts read on_cond stood before ew el eq ec even;
    lives = lived-frame all n p q at spec.life ei s.lives;
  }

module _ {T H W : Type 0} (l : Layout) (traced : Bool) (w : W) (begin : W → ℕ → H) (holds : W → List T → List H → Type 0) where
  -- the view after the first part of a wait
  abbrev after_load : Bool → ℕ → ℕ → ℕ → ℕ → Part T H → List Event → Part T H
  after_load alertable n m c r p z = record (recorded p z (enqueue_event alertable n m c)) { wait = Some (begun_wait alertable m c r) }

  loads_at : (alertable : Bool) (n m c : ℕ) (p : Part T H) (cs : List (ℕ × Slot T)) (x : T) → c < 64 → (m < l.mutexes) × (c < l.conditions) → Got p m x → p.wait ≡ None → p.left ≡ p.queue → p.raised ≡ Some c → MayRecord traced p.life p.pen
      → Steps l traced w begin holds n (count_at (cond_object c)) (λ x. x) p cs (λ r q ds. Learns (enqueue_event alertable n m c) n p (after_load alertable n m c r p) q × (ds ≡ cs))
  loads_at alertable n m c p cs x low named got out even raised may words homes all k at small =
      let i : ℕ = count_at (cond_object c) in
      let r : ℕ = get_or words i 0 in
      let words' : List ℕ = set words i r in
      let e = enqueue_event alertable n m c in
      let same : words' ≡ words = set-get_or words i 0 in
      let stay : (j : ℕ) → get_or words' j 0 ≡ get_or words j 0 = λ j. ap (λ (z : List ℕ). get_or z j 0) same in
      let own : k.owner m ≡ some n = (k.owned.standing n p at m).0 (x, got) in
      let held : k.spec.holder m ≡ some n = k.shows.holders.holds n p at m own ∙ ap (λ w. cond (waits_on w m) none (some n)) out in
      let free : k.spec.pending n ≡ Nothing = k.shows.pendings.pends n p at ∙ ap pending_of out in
      let b = begun_wait alertable m c r in
      let done = marks l traced w holds e n i r p (after_load alertable n m c r p) words homes all k (entered k.spec n m c b) at (by_whom alertable n m c) (named_so alertable n m c named) may (count-aside c low)
      (λ z. record { version = refl; seen = refl; mine = refl; places = refl; held = refl; share = refl; spin = refl; queue = refl; owed = refl; stand = refl; pen = refl })
      (enters alertable n m c r k.spec (k.shows.lives n p at ∙ may.0) free held)
      (λ z. shows-enter words words' k.spinner k.queue k.owner k.spec all n p (after_load alertable n m c r p z) at m c r b low (record { counts = λ j lo. stay (count_at (cond_object j)); sems = λ j lo. stay (bit_at (sem_object j)); alerts = λ j lo. stay (alert_at j) }) refl own refl (λ _. refl) refl refl refl out refl refl refl refl even k.shows)
      (λ z. alert-seen-frame all n p (after_load alertable n m c r p z) at words words' k.sizes.few (λ j lo. stay (alert_at j)) refl k.alert_seen)
      (λ z. lives-frame all n p (after_load alertable n m c r p z) at words words' k.sizes.few (λ j lo. stay (life_at j)) refl k.lives)
      (λ z. owes-frame k.queue words words' all n p (after_load alertable n m c r p z) at (λ j lo. stay (bit_at j)) refl refl refl k.owes)
      (λ z. begun-frame words words' all n p (after_load alertable n m c r p z) at (λ j lo. stay (waits_at (cond_object j))) refl (λ h. counted-begun p (after_load alertable n m c r p z) refl h c b raised out refl refl refl) k.begun)
      (λ z. stinted-begins all n p (after_load alertable n m c r p z) at m (k.log ++ e ∷ []) own (givers-own m k.log e (begun-gives alertable n m c m ∙ eq-eqb m m refl)) (λ j ne. givers-other j k.log e (begun-gives alertable n m c j ∙ ne_eqb m j (λ f. ne (sym f)))) refl (λ j. ap (λ w. closing_on w j) out) (eq-eqb m m refl) (λ j ne. ne_eqb m j (λ f. ne (sym f))) k.stinted) in
      (done.0, keeps, tt, done.1, (done.2, refl))
    where
      by_whom : (alertable : Bool) (n m c : ℕ) → (enqueue_event alertable n m c).thread.0 ≡ n
      by_whom alertable n m c = refl

      named_so : (alertable : Bool) (n m c : ℕ) → (m < l.mutexes) × (c < l.conditions) → IsNamed l (enqueue_event alertable n m c).action
      named_so true n m c h = h
      named_so false n m c h = h

  load_count_at : (alertable : Bool) (slots id m c : ℕ) (s : Slot T) (me : Me (Slot T) (View T H W)) (x : T) → c < 64 → (m < l.mutexes) × (c < l.conditions) → me.0.kind ≡ Member → me.1 ≡ (value_at m, s) ∷ rest me.1 → Got me.0.part m x → me.0.part.wait ≡ None → me.0.part.left ≡ me.0.part.queue → me.0.part.raised ≡ Some c → MayRecord traced me.0.part.life me.0.part.pen
      → Allows (IsKept l traced w begin holds) slots id me (count_at (cond_object c)) (λ x. x) (load_count_records alertable (step slots (count_at (cond_object c)) 0 0 none) me)
  load_count_at alertable slots id m c s me x low named kind first got out even raised may = let v = me.0 in let n = v.number in let p = v.part in let i : ℕ = count_at (cond_object c) in
      member_steps l traced w begin holds slots id i (λ x. x) v me.1 (λ r q ds. Learns (enqueue_event alertable n m c) n p (after_load alertable n m c r p) q × (ds ≡ me.1)) (load_count_records alertable (step slots i 0 0 none) me) kind
      (λ r q ds t. idle-live p q v.child may.0 (ap (λ (z : Part T H). z.life) t.0.2))
      (λ r q ds world t m' c' s' is first'.
      let em : m ≡ m' = let z = key_of me.1 (value_at m) (value_at m') s s' first first' in omega arith in
      let ec : c ≡ c' = omega arith in
      subst (λ (z : ℕ × ℕ). (between : List Event) × Grows n p between (enqueue_event alertable n z.0 z.1) × Becomes me (after_load alertable n z.0 z.1 r p (p.seen ++ between)) (with_part v q, ds)) (λ j. (em j, ec j))
      (t.0.0, t.0.1, λ j. (with_part v (t.0.2 j), t.1 j)))
      (loads_at alertable n m c p me.1 x low named got out even raised may)

  -- the same at a word that is this place
  pub load_count_keeps : (alertable : Bool) (slots id m c : ℕ) (s : Slot T) (me : Me (Slot T) (View T H W)) (x : T) (i : ℕ) → i ≡ count_at (cond_object c) → c < 64 → (m < l.mutexes) × (c < l.conditions) → me.0.kind ≡ Member → me.1 ≡ (value_at m, s) ∷ rest me.1 → Got me.0.part m x → me.0.part.wait ≡ None → me.0.part.left ≡ me.0.part.queue → me.0.part.raised ≡ Some c → MayRecord traced me.0.part.life me.0.part.pen
      → Allows (IsKept l traced w begin holds) slots id me i (λ x. x) (load_count_records alertable (step slots i 0 0 none) me)
  load_count_keeps alertable slots id m c s me x i word low named kind first got out even raised may = subst (λ (i : ℕ). Allows (IsKept l traced w begin holds) slots id me i (λ x. x) (load_count_records alertable (step slots i 0 0 none) me)) (sym word) (load_count_at alertable slots id m c s me x low named kind first got out even raised may)

  know_count_at : (slots id c : ℕ) (me : Me (Slot T) (View T H W)) → c < 64 → me.0.kind ≡ Member → me.0.part.spin ≡ Some (cond_object c) → Allows (IsKept l traced w begin holds) slots id me (count_at (cond_object c)) (λ x. x) (know_count_records (step slots (count_at (cond_object c)) 0 0 none) me)
  know_count_at slots id c me low kind here = let v = me.0 in let n = v.number in let p = v.part in let i : ℕ = count_at (cond_object c) in
      member_steps l traced w begin holds slots id i (λ x. x) v me.1 (λ r q ds. (r ≡ p.count) × (q ≡ p) × (ds ≡ me.1)) (know_count_records (step slots i 0 0 none) me) kind
      (λ r q ds t. idle-same p q v.child t.1)
      (λ r q ds world t. (t.0, λ j. (with_part v (t.1 j), t.2 j)))
      (λ words homes all k at small. let own = ((k.spins.spinning n p at (cond_object c)).0 here).0 in let s = k.shows.conditions in
      (p, keeps, tt, idle l traced w holds words homes all i n p at k, (s.counted c low ∙ sym ((s.knows n p at).inside c own).1, refl, refl)))

  -- the same at a word that is this place
  pub know_count_keeps : (slots id c : ℕ) (me : Me (Slot T) (View T H W)) (i : ℕ) → i ≡ count_at (cond_object c) → c < 64 → me.0.kind ≡ Member → me.0.part.spin ≡ Some (cond_object c) → Allows (IsKept l traced w begin holds) slots id me i (λ x. x) (know_count_records (step slots i 0 0 none) me)
  know_count_keeps slots id c me i word low kind here = subst (λ (i : ℕ). Allows (IsKept l traced w begin holds) slots id me i (λ x. x) (know_count_records (step slots i 0 0 none) me)) (sym word) (know_count_at slots id c me low kind here)

  -- an event by which the count of c is advanced, and ys are left
  advances_at : (n c : ℕ) (e : Event) (ys : List ℕ) (f : ℕ → Bool) (p : Part T H) (cs : List (ℕ × Slot T)) → c < 64 → p.spin ≡ Some (cond_object c) → p.wait ≡ None → p.count < 18446744073709551615 → MayRecord traced p.life p.pen → e.thread.0 ≡ n → GivesNone e.action
      → ((t : ℕ) → f t ≡ mem t ys) → ((t : ℕ) → mem t p.left ≡ false → mem t ys ≡ false)
      → ((words : List ℕ) (homes : List (Option (Slot T))) (all : List (Part T H)) (k : Core l traced w holds words homes all) → get_elem? all n ≡ some p → IsNamed l e.action × Acts k.spec e (record k.spec { members = put k.spec.members c f }))
      → Steps l traced w begin holds n (count_at (cond_object c)) (λ x. (x + 1) % 2 ^ 64) p cs (λ r q ds. (r ≡ p.count) × Distinct p.queue × Learns e n p (λ z. record (recorded p z e) { left = ys; count = p.count + 1; calling = None }) q × (ds ≡ cs))
  advances_at n c e ys f p cs low here out more may by none_given is less acts words homes all k at small =
      let i : ℕ = count_at (cond_object c) in
      let r : ℕ = get_or words i 0 in
      let v : ℕ = (r + 1) % 2 ^ 64 in
      let words' : List ℕ = set words i v in
      let spins = (k.spins.spinning n p at (cond_object c)).0 here in
      let s = k.shows.conditions in
      let known : p.count ≡ r = ((s.knows n p at).inside c spins.0).1 ∙ sym (s.counted c low) in
      let up : v ≡ r + 1 = omega arith in
      let wide = k.sizes.words_wide in
      let after : List Event → Part T H = λ z. record (recorded p z e) { left = ys; count = p.count + 1; calling = None } in
      let done = marks l traced w holds e n i v p after words homes all k (record k.spec { members = put k.spec.members c f }) at by (acts words homes all k at).0 may (count-aside c low)
      (λ z. record { version = refl; seen = refl; mine = refl; places = refl; held = refl; share = refl; spin = refl; queue = refl; owed = refl; stand = refl; pen = refl })
      (acts words homes all k at).1
      (λ z. record {
        holders = holders-frame all n p (after z) at k.owner k.spec.holder refl k.shows.holders;
        pendings = pendings-frame all n p (after z) at k.spec.pending refl k.shows.pendings;
        semaphores = semaphores-frame k.spec.avail words words' (λ j lo. other words i (bit_at (sem_object j)) v (λ z. omega arith)) k.shows.semaphores;
        alerts = alerts-frame k.spec.alerts words words' (λ j lo. other words i (alert_at j) v (λ z. omega arith)) k.shows.alerts;
        conditions = conditions-advance words words' k.spinner k.queue k.spec.members all n p (after z) at s c ys f low (λ j lo ne. other words i (count_at (cond_object j)) v (λ z. ne (omega arith))) (get_or-set_same words i v 0 (omega arith) ∙ up)
            spins.0 (only_here k.spinner k.queue k.owed words homes all n p (after z) at k.spins (cond_object c) here) out refl refl refl is less;
        lives = lived-frame all n p (after z) at k.spec.life refl k.shows.lives;
      })
      (λ z. alert-seen-stays all n p (after z) at words i v k.sizes.few (λ j lo z. omega arith) refl k.alert_seen)
      (λ z. lives-frame all n p (after z) at words words' k.sizes.few (lives-stay words i v (λ j lo z. omega arith)) refl k.lives)
      (λ z. owes-frame k.queue words words' all n p (after z) at (λ j lo. other words i (bit_at j) v (λ z. omega arith)) refl refl refl k.owes)
      (λ z. begun-same words words' all n p (after z) at (waits-stay words i v (λ j lo y. omega arith)) refl refl refl k.begun)
      (λ z. stinted-event all n p (after z) at e none_given refl (λ m. refl) k.stinted) in
      (done.0, keeps, tt, done.1, (sym known, subst Distinct (sym spins.1) (distinct-tail_of (k.owed (cond_object c)) (k.queue (cond_object c)) (k.lines.distinct (cond_object c))), done.2, refl))

  advance_at : (leave : List ℕ → List ℕ) (action : ℕ → List ℕ → Action) (f : ℕ → Bool) (slots id c : ℕ) (me : Me (Slot T) (View T H W)) → c < 64 → me.0.kind ≡ Member → me.0.part.spin ≡ Some (cond_object c) → me.0.part.wait ≡ None → me.0.part.count < 18446744073709551615 → MayRecord traced me.0.part.life me.0.part.pen
      → GivesNone (action c (leave me.0.part.queue)) → ((t : ℕ) → f t ≡ mem t (leave me.0.part.queue)) → ((t : ℕ) → mem t me.0.part.left ≡ false → mem t (leave me.0.part.queue) ≡ false)
      → ((words : List ℕ) (homes : List (Option (Slot T))) (all : List (Part T H)) (k : Core l traced w holds words homes all) → get_elem? all me.0.number ≡ some me.0.part → IsNamed l (action c (leave me.0.part.queue)) × Acts k.spec (event me.0.number (action c (leave me.0.part.queue))) (record k.spec { members = put k.spec.members c f }))
      → (i : ℕ) → i ≡ count_at (cond_object c) → Allows (IsKept l traced w begin holds) slots id me i (λ x. (x + 1) % 2 ^ 64) (advance_records leave action (step slots i 1 0 none) me)
  advance_at leave action f slots id c me low kind here out more may none_given is less acts i word = let v = me.0 in let n = v.number in let p = v.part in let o : ℕ = count_at (cond_object c) in let ys : List ℕ = leave p.queue in
      let At : ℕ → Part T H → List (ℕ × Slot T) → Type 0 = λ r q ds. (r ≡ p.count) × Distinct p.queue × Learns (event n (action c ys)) n p (λ z. record (recorded p z (event n (action c ys))) { left = ys; count = p.count + 1; calling = None }) q × (ds ≡ me.1) in
      subst (λ (i : ℕ). Allows (IsKept l traced w begin holds) slots id me i (λ x. (x + 1) % 2 ^ 64) (advance_records leave action (step slots i 1 0 none) me)) (sym word)
      (member_steps l traced w begin holds slots id o (λ x. (x + 1) % 2 ^ 64) v me.1 At (advance_records leave action (step slots o 1 0 none) me) kind
      (λ r q ds t. idle-live p q v.child may.0 (ap (λ (z : Part T H). z.life) t.2.2))
      (λ r q ds world t c' is'. let ec : c ≡ c' = omega arith in
      subst (λ (z : ℕ). (r ≡ p.count) × Distinct p.queue × (between : List Event) × Grows n p between (event n (action z ys)) × Becomes me (record (recorded p (p.seen ++ between) (event n (action z ys))) { left = ys; count = p.count + 1; calling = None }) (with_part v q, ds)) ec
      (t.0, t.1, t.2.0, t.2.1, λ j. (with_part v (t.2.2 j), t.3 j)))
      (advances_at n c (event n (action c ys)) ys f p me.1 low here out more may refl none_given is less acts))

  pub advance_broadcast_keeps : (slots id c : ℕ) (me : Me (Slot T) (View T H W)) (i : ℕ) → i ≡ count_at (cond_object c) → c < 64 → c < l.conditions → me.0.kind ≡ Member → me.0.part.spin ≡ Some (cond_object c) → me.0.part.wait ≡ None → me.0.part.count < 18446744073709551615 → MayRecord traced me.0.part.life me.0.part.pen
      → Allows (IsKept l traced w begin holds) slots id me i (λ x. (x + 1) % 2 ^ 64) (advance_records (λ _. []) broadcast_action (step slots i 1 0 none) me)
  advance_broadcast_keeps slots id c me i word low named kind here out more may = advance_at (λ _. []) broadcast_action (λ _. false) slots id c me low kind here out more may (λ m. refl) (λ t. refl) (λ t is. refl)
      (λ words homes all k at. (named, (record { live = k.shows.lives me.0.number me.0.part at ∙ may.0; order = k.shows.pendings.pends me.0.number me.0.part at ∙ ap pending_of out; requires_met = tt; when_met = tt; choice_met = tt }, refl))) i word

  pub advance_signal_keeps : (slots id c : ℕ) (me : Me (Slot T) (View T H W)) (i : ℕ) → i ≡ count_at (cond_object c) → c < 64 → c < l.conditions → me.0.kind ≡ Member → me.0.part.spin ≡ Some (cond_object c) → me.0.part.wait ≡ None → me.0.part.left ≡ me.0.part.queue → me.0.part.count < 18446744073709551615 → MayRecord traced me.0.part.life me.0.part.pen
      → Allows (IsKept l traced w begin holds) slots id me i (λ x. (x + 1) % 2 ^ 64) (advance_records tail_of signal_action (step slots i 1 0 none) me)
  advance_signal_keeps slots id c me i word low named kind here out even more may = let n = me.0.number in let p = me.0.part in let ys : List ℕ = tail_of p.queue in
      advance_at tail_of signal_action (in_set (set_of ys)) slots id c me low kind here out more may (λ m. refl) (λ t. in_set-of t ys) (λ t off. less-tail_of t p.queue (ap (mem t) (sym even) ∙ off))
      (λ words homes all k at.
      let o : ℕ = cond_object c in
      let mine = (k.spins.spinning n p at o).0 here in
      let s = k.shows.conditions in
      let people : (t : ℕ) → in_set (set_of ys) t ≡ true → t < l.threads = λ t is.
      let there : mem t (k.queue o) ≡ true = subst (λ (q : List ℕ). mem t q ≡ true) mine.1 (more-tail_of t p.queue (sym (in_set-of t ys) ∙ is)) in
      subst (λ (z : ℕ). t < z) k.sizes.count (k.lines.people o t (mem-tail_of t (k.owed o) (k.queue o) there)) in (
        (named, people),
        (
          record {
            live = k.shows.lives n p at ∙ may.0;
            order = k.shows.pendings.pends n p at ∙ ap pending_of out;
            requires_met = tt;
            when_met = tt;
            choice_met = may-leave (k.spec.members c) p.queue (subst Distinct (sym mine.1) (distinct-tail_of (k.owed o) (k.queue o) (k.lines.distinct o)))
                (λ t there. s.member c t ∙ ap (λ b. cond b true (s.counting c t)) (ap (mem t) (sym ((s.knows n p at).inside c mine.0).0 ∙ even) ∙ there));
          },
          refl,
        ),
      )) i word
