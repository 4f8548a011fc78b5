-- The steps on an alert word, and leaving a semaphore's queue by an alert, keep the rule.
use Rattle.std.proofs.Common.{Bool, true, false, eqb, ◌≡◌, ◌≢◌, ℕ, ◌*◌, ◌<◌, ◌≤◌, ◌⊎◌, List, ◌∷◌, ◌++◌, length, get_or, set, refl, sym, ap, ◌∙◌, subst, inl, inr, ⊎_elim, arith, get_or-set_same, Some, None}
use Rattle.std.specs.Prelude.{Option as Opt}
use Rattle.std.specs.Int.RustNames.{bit_and, bit_or}
use Rattle.std.proofs.lemmas.Grind.{numeral_and}
use mathlib.Core.Logic.{dite}
use mathlib.Core.Option.{Option, some, none}
use native.Mathlib.Decide.{ℕ_discrete}
use lib.ListN.{get_elem?}
use Rattle.larch_actions.specs.declared.event.Event.{Event}
use Rattle.larch_actions.specs.declared.event.Layout.{Layout}
use Rattle.larch_actions.specs.declared.event.Pending.TheVariants.{Nothing}
use Rattle.larch_actions.specs.Actions.{Acts, put}
use Rattle.larch_actions.specs.Layout.{IsNamed}
use Rattle.larch_actions.specs.Sets.{mem, without}
use Rattle.larch_actions.proofs.Sets.{mem-without}
use Rattle.atomic_table.specs.Table.{Me, step, Allows, keeps}
use Rattle.nub_rule.specs.declared.rule.Slot.{Slot}
use Rattle.nub_rule.specs.declared.view.Part.{Part}
use Rattle.nub_rule.specs.declared.view.Stand.{Stand}
use Rattle.nub_rule.specs.declared.view.Stage.{Stage}
use Rattle.nub_rule.specs.declared.view.Stage.TheVariants.{Pushed, Clear, Tested, Asleep, Alerted, Found}
use Rattle.nub_rule.specs.declared.view.View.{View}
use Rattle.nub_rule.specs.declared.view.Kind.TheVariants.{Member}
use Rattle.nub_rule.specs.Items.{Says, AlertSeen, Core}
use Rattle.nub_rule.specs.Owed.{IsAsleep, WakeOwed}
use Rattle.nub_rule.specs.Parts.{IsFound, IsUntested, HasTested, MayRecord, alerted_stage, alerted_stand, left_turns, turns_from, pending_of}
use Rattle.nub_rule.specs.Places.{most_threads, bit_at, count_at, length_at, alert_at, sem_object, cond_object}
use Rattle.nub_rule.specs.Plays.{Becomes, Grows, recorded, with_part, alert_event, alert_p_raise_event, test_alert_event, less, read_alert_records, or_alert_records, swap_alert_records, swap_alert_in_p_records, leave_sem_queue_records}
use Rattle.nub_rule.specs.Rule.{IsKept}
use Rattle.nub_rule.proofs.Apart.{thread-of}
use Rattle.nub_rule.proofs.Each.{at_within, each-set, put-here, put-else}
use Rattle.nub_rule.proofs.Idle.{idle-alerted, idle-live, idle-same, idle-spun}
use Rattle.nub_rule.proofs.Members.{member_steps}
use Rattle.nub_rule.proofs.Frames.{lives-frame, lives-stay, other, ready-stay}
use Rattle.nub_rule.proofs.Lines.{some_none, distinct-tail_of, less-without, lines-leave, lines-same, lines-stage, mem-tail_of, without-absent, without-append}
use Rattle.nub_rule.proofs.Beside.{idle, still}
use Rattle.nub_rule.proofs.Beginning.{waits-stay, begun-frame, begun-same, counted-stands}
use Rattle.nub_rule.proofs.Stinting.{GivesNone, stinted-event}
use Rattle.nub_rule.proofs.Owing.{owes-frame, owes-leave, owes-leave-tested, owes-stage}
use Rattle.nub_rule.proofs.QueueSteps.{absent-before, length-gates, requeues}
use Rattle.nub_rule.proofs.Showing.{shows-alert}
use Rattle.nub_rule.proofs.Marking.{Aside, Learns, Marked, marks}

-- what an alert word says
pub said-one : (x : ℕ) (b : Bool) → Says x b → x ≡ 1 → b ≡ true
said-one x b says one = ⊎_elim (λ (t : (x ≡ 0) × (b ≡ false)). let z = t.0 in absurd (omega arith)) (λ (t : (x ≡ 1) × (b ≡ true)). t.1) says

zero-one : (x : ℕ) (b : Bool) → Says x b → (x ≡ 0) ⊎ (x ≡ 1)
zero-one x b says = ⊎_elim (λ (t : (x ≡ 0) × (b ≡ false)). inl t.0) (λ (t : (x ≡ 1) × (b ≡ true)). inr t.0) says

-- the answer of a test is what the word says
answer-is : (x : ℕ) (b : Bool) → Says x b → eqb x 1 ≡ b
answer-is x b says = ⊎_elim (λ (t : (x ≡ 0) × (b ≡ false)). ap (λ (z : ℕ). eqb z 1) t.0 ∙ sym t.1) (λ (t : (x ≡ 1) × (b ≡ true)). ap (λ (z : ℕ). eqb z 1) t.0 ∙ sym t.1) says

-- 0 or 1 with 1 is 1
one-in : (x : ℕ) → (x ≡ 0) ⊎ (x ≡ 1) → bit_or x 1 ≡ 1
one-in x is = ⊎_elim (λ (z : x ≡ 0). ap (λ (k : ℕ). bit_or k 1) z) (λ (z : x ≡ 1). ap (λ (k : ℕ). bit_or k 1) z) is

-- 1 has no bit of an even number
one-out : (x s : ℕ) → x ≡ 1 → bit_and x (2 * s) ≡ 0
one-out x s is = ap (λ (k : ℕ). bit_and k (2 * s)) is ∙ (numeral_and 0 (2 * s) refl ∙ (omega arith))

-- no stage is found, tested or slept by an alert
found-before : (g : Stage) → IsFound (alerted_stage g) → IsFound g
found-before Pushed f = f
found-before Clear f = f
found-before Tested f = f
found-before Asleep f = f
found-before Alerted f = f
found-before Found f = f

untested-still : (g : Stage) → IsUntested g → IsUntested (alerted_stage g)
untested-still Pushed u = u
untested-still Clear u = u
untested-still Tested u = u
untested-still Asleep u = u
untested-still Alerted u = u
untested-still Found u = u

awake-then : (g : Stage) → IsAsleep (alerted_stage g) → ⊥
awake-then Pushed a = a
awake-then Clear a = a
awake-then Tested a = a
awake-then Asleep a = a
awake-then Alerted a = a
awake-then Found a = a

-- who takes itself out has its turn, or has tested the bit
turn-or-tested : (g : Stage) (o : ℕ) (xs : List ℕ) → (turns_from g o xs ≡ o ∷ xs) ⊎ (HasTested g × (turns_from g o xs ≡ xs))
turn-or-tested Pushed o xs = inl refl
turn-or-tested Clear o xs = inl refl
turn-or-tested Tested o xs = inr (tt, refl)
turn-or-tested Asleep o xs = inr (tt, refl)
turn-or-tested Alerted o xs = inr (tt, refl)
turn-or-tested Found o xs = inr (tt, refl)

pub no-stand-before : (st : Opt Stand) → alerted_stand st ≡ None → st ≡ None
no-stand-before None e = refl
no-stand-before (Some s) e = absurd cc

pub alert-aside : (t : ℕ) → t < most_threads → Aside (alert_at t)
alert-aside t low = record { bits = λ k up z. omega arith; spins = λ k up z. omega arith; lengths = λ k up z. omega arith; ready = λ k up z. omega arith; pen = λ z. omega arith; number = λ z. omega arith }

module _ {T H : Type 0} (words : List ℕ) (x : ℕ) (all : List (Part T H)) (n : ℕ) (p q : Part T H) (at : get_elem? all n ≡ some p) where
  -- the alert word of the thread t is set: whoever saw its own set finds it so
  alert-seen-set : (t : ℕ) → length all ≤ most_threads → t < most_threads → get_or (set words (alert_at t) x) (alert_at t) 0 ≡ 1 → q.alerted ≡ p.alerted → AlertSeen words all → AlertSeen (set words (alert_at t) x) (set all n q)
  alert-seen-set t few low one ea h = let words' : List ℕ = set words (alert_at t) x in
      let moved : (k : ℕ) → k < most_threads → get_or words (alert_at k) 0 ≡ 1 → get_or words' (alert_at k) 0 ≡ 1 = λ k below was. dite (ℕ_discrete k t)
      (λ e. (λ i. get_or words' (alert_at (e i)) 0) ∙ one)
      (λ ne. other words (alert_at t) (alert_at k) x (λ z. ne (thread-of k t below low (omega arith))) ∙ was) in
      each-set (λ k r. r.alerted ≡ true → get_or words (alert_at k) 0 ≡ 1) (λ k r. r.alerted ≡ true → get_or words' (alert_at k) 0 ≡ 1) all n q (λ is. moved n (let y = at_within all n p at in omega arith) (h n p at (sym ea ∙ is))) (λ k r ne at' s is. moved k (let y = at_within all k r at' in omega arith) (s is)) h

  -- the thread n has cleared its own, and forgets that it saw it set
  pub alert-seen-clear : length all ≤ most_threads → q.alerted ≡ false → AlertSeen words all → AlertSeen (set words (alert_at n) x) (set all n q)
  alert-seen-clear few out h = let words' : List ℕ = set words (alert_at n) x in
      each-set (λ k r. r.alerted ≡ true → get_or words (alert_at k) 0 ≡ 1) (λ k r. r.alerted ≡ true → get_or words' (alert_at k) 0 ≡ 1) all n q
      (λ is. absurd (let z : true ≡ false = sym is ∙ out in cc))
      (λ k r ne at' s is. other words (alert_at n) (alert_at k) x (λ z. ne (thread-of k n (let y = at_within all k r at' in omega arith) (let y = at_within all n p at in omega arith) (omega arith))) ∙ s is) h

  -- the thread n saw its own set
  alert-seen-own : get_or words (alert_at n) 0 ≡ 1 → AlertSeen words all → AlertSeen words (set all n q)
  alert-seen-own one h = each-set (λ k r. r.alerted ≡ true → get_or words (alert_at k) 0 ≡ 1) (λ k r. r.alerted ≡ true → get_or words (alert_at k) 0 ≡ 1) all n q (λ is. one) (λ k r ne at' s. s) h

module _ {T H W : Type 0} (l : Layout) (traced : Bool) (w : W) (begin : W → ℕ → H) (holds : W → List T → List H → Type 0) where
  -- an event by which the alert word of the thread t becomes x
  alert-marks : (e : Event) (n t x : ℕ) (b : Bool) (p : Part T H) (saw : Bool) (words : List ℕ) (homes : List (Option (Slot T))) (all : List (Part T H)) (c : Core l traced w holds words homes all) → get_elem? all n ≡ some p → t < most_threads → e.thread.0 ≡ n → IsNamed l e.action → GivesNone e.action → MayRecord traced p.life p.pen
      → Acts c.spec e (record c.spec { alerts = put c.spec.alerts t b }) → Says x b
      → ((q : Part T H) → q.alerted ≡ saw → get_or (set words (alert_at t) x) (alert_at t) 0 ≡ x → AlertSeen (set words (alert_at t) x) (set all n q))
      → Marked l traced w holds e n (alert_at t) x p (λ z. record (recorded p z e) { alerted = saw }) words homes all
  alert-marks e n t x b p saw words homes all c at low by named none_given may acts says seen = let i = alert_at t in let wide = c.sizes.words_wide in
      let now : get_or (set words i x) i 0 ≡ x = get_or-set_same words i x 0 (omega arith) in
      let after : List Event → Part T H = λ z. record (recorded p z e) { alerted = saw } in
      marks l traced w holds e n i x p after words homes all c (record c.spec { alerts = put c.spec.alerts t b }) at by named may (alert-aside t low)
      (λ z. record { version = refl; seen = refl; mine = refl; places = refl; held = refl; share = refl; spin = refl; queue = refl; owed = refl; stand = refl; pen = refl }) acts
      (λ z. shows-alert words (set words i x) c.spinner c.queue c.owner c.spec all n p (after z) at refl t b (λ k up. other words i (count_at (cond_object k)) x (λ y. omega arith)) (λ k up. other words i (bit_at (sem_object k)) x (λ y. omega arith)) (λ k up ne. other words i (alert_at k) x (λ y. ne (thread-of k t up low (omega arith))))
      (subst (λ (z : ℕ). Says z b) (sym now) says) refl refl refl refl c.shows)
      (λ z. seen (after z) refl now)
      (λ z. lives-frame all n p (after z) at words (set words i x) c.sizes.few (lives-stay words i x (λ k lo y. omega arith)) refl c.lives)
      (λ z. owes-frame c.queue words (set words i x) all n p (after z) at (λ k lo. other words i (bit_at k) x (λ y. omega arith)) refl refl refl c.owes)
      (λ z. begun-same words (set words i x) all n p (after z) at (waits-stay words i x (λ k lo y. omega arith)) refl refl refl c.begun)
      (λ z. stinted-event all n p (after z) at e none_given refl (λ m. refl) c.stinted)

  or_alert_at : (slots id t : ℕ) (me : Me (Slot T) (View T H W)) → t < most_threads → t < l.threads → me.0.kind ≡ Member → me.0.part.wait ≡ None → MayRecord traced me.0.part.life me.0.part.pen
      → Allows (IsKept l traced w begin holds) slots id me (alert_at t) (λ x. bit_or x 1) (or_alert_records (step slots (alert_at t) 1 0 none) me)
  or_alert_at slots id t me low named kind out may = let v = me.0 in let n = v.number in let p = v.part in let i = alert_at t in let e = alert_event n t in
      member_steps l traced w begin holds slots id i (λ x. bit_or x 1) v me.1 (λ r q ds. Learns e n p (λ z. record (recorded p z e) { alerted = p.alerted }) q × (ds ≡ me.1)) (or_alert_records (step slots i 1 0 none) me) kind
      (λ r q ds u. idle-live p q v.child may.0 (ap (λ (z : Part T H). z.life) u.0.2))
      (λ r q ds world u k few is. let same : t ≡ k = thread-of t k low few (omega arith) in subst (λ (k : ℕ). (between : List Event) × Grows n p between (alert_event n k) × Becomes me (recorded p (p.seen ++ between) (alert_event n k)) (with_part v q, ds)) same
      (u.0.0, u.0.1, λ j. (with_part v (u.0.2 j), u.1 j)))
      (λ words homes all c at small.
      let r : ℕ = get_or words i 0 in
      let idle_now : c.spec.pending n ≡ Nothing = c.shows.pendings.pends n p at ∙ ap pending_of out in
      let up : bit_or r 1 ≡ 1 = one-in r (zero-one r (c.spec.alerts t) (c.shows.alerts t low)) in
      let m = alert-marks e n t 1 true p p.alerted words homes all c at low refl named (λ m. refl) may (record { live = c.shows.lives n p at ∙ may.0; order = idle_now; requires_met = tt; when_met = tt; choice_met = tt }, refl) (inr (refl, refl)) (λ q ea one. alert-seen-set words 1 all n p q at t c.sizes.few low one ea c.alert_seen) in
      (m.0, keeps, tt, subst (λ (y : ℕ). Core l traced w holds (set words i y) homes (set all n m.0)) (sym up) m.1, (m.2, refl)))

  -- the same at a word that is this place
  pub or_alert_keeps : (slots id t : ℕ) (me : Me (Slot T) (View T H W)) (i : ℕ) → i ≡ alert_at t → t < most_threads → t < l.threads → me.0.kind ≡ Member → me.0.part.wait ≡ None → MayRecord traced me.0.part.life me.0.part.pen
      → Allows (IsKept l traced w begin holds) slots id me i (λ x. bit_or x 1) (or_alert_records (step slots i 1 0 none) me)
  or_alert_keeps slots id t me i word low named kind out may = subst (λ (i : ℕ). Allows (IsKept l traced w begin holds) slots id me i (λ x. bit_or x 1) (or_alert_records (step slots i 1 0 none) me)) (sym word) (or_alert_at slots id t me low named kind out may)

  swap_alert_at : (slots id : ℕ) (me : Me (Slot T) (View T H W)) → me.0.number < most_threads → me.0.kind ≡ Member → me.0.part.wait ≡ None → MayRecord traced me.0.part.life me.0.part.pen
      → Allows (IsKept l traced w begin holds) slots id me (alert_at me.0.number) (λ _. 0) (swap_alert_records (step slots (alert_at me.0.number) 0 0 none) me)
  swap_alert_at slots id me low kind out may = let v = me.0 in let n = v.number in let p = v.part in let i = alert_at n in
      member_steps l traced w begin holds slots id i (λ _. 0) v me.1
      (λ r q ds. ((r ≡ 0) ⊎ (r ≡ 1)) × (p.alerted ≡ true → r ≡ 1) × Learns (test_alert_event n (eqb r 1)) n p (λ z. record (recorded p z (test_alert_event n (eqb r 1))) { alerted = false }) q × (ds ≡ me.1)) (swap_alert_records (step slots i 0 0 none) me) kind
      (λ r q ds u. idle-live p q v.child may.0 (ap (λ (z : Part T H). z.life) u.2.2))
      (λ r q ds world u. (u.0, u.1, u.2.0, u.2.1, λ j. (with_part v (u.2.2 j), u.3 j)))
      (λ words homes all c at small.
      let r : ℕ = get_or words i 0 in
      let e = test_alert_event n (eqb r 1) in
      let says = c.shows.alerts n low in
      let idle_now : c.spec.pending n ≡ Nothing = c.shows.pendings.pends n p at ∙ ap pending_of out in
      let m = alert-marks e n n 0 false p false words homes all c at low refl tt (λ m. refl) may (record { live = c.shows.lives n p at ∙ may.0; order = idle_now; requires_met = tt; when_met = tt; choice_met = answer-is r (c.spec.alerts n) says }, refl) (inl (refl, refl)) (λ q ea zero. alert-seen-clear words 0 all n p q at c.sizes.few ea c.alert_seen) in
      (m.0, keeps, tt, m.1, (zero-one r (c.spec.alerts n) says, c.alert_seen n p at, m.2, refl)))

  -- the same at a word that is this place
  pub swap_alert_keeps : (slots id i : ℕ) (me : Me (Slot T) (View T H W)) → i ≡ alert_at me.0.number → me.0.number < most_threads → me.0.kind ≡ Member → me.0.part.wait ≡ None → MayRecord traced me.0.part.life me.0.part.pen
      → Allows (IsKept l traced w begin holds) slots id me i (λ _. 0) (swap_alert_records (step slots i 0 0 none) me)
  swap_alert_keeps slots id i me word low kind out may = subst (λ (i : ℕ). Allows (IsKept l traced w begin holds) slots id me i (λ _. 0) (swap_alert_records (step slots i 0 0 none) me)) (sym word) (swap_alert_at slots id me low kind out may)

  swap_alert_in_p_at : (slots id s : ℕ) (me : Me (Slot T) (View T H W)) → s < l.semaphores → me.0.number < most_threads → me.0.kind ≡ Member → me.0.part.wait ≡ None → me.0.part.alerted ≡ true → MayRecord traced me.0.part.life me.0.part.pen
      → Allows (IsKept l traced w begin holds) slots id me (alert_at me.0.number) (λ x. bit_and x (2 * s)) (swap_alert_in_p_records (step slots (alert_at me.0.number) (2 * s) 0 none) me)
  swap_alert_in_p_at slots id s me named low kind out seen may = let v = me.0 in let n = v.number in let p = v.part in let i = alert_at n in let e = alert_p_raise_event n s in
      member_steps l traced w begin holds slots id i (λ x. bit_and x (2 * s)) v me.1
      (λ r q ds. (r ≡ 1) × Learns e n p (λ z. record (recorded p z e) { alerted = false }) q × (ds ≡ me.1)) (swap_alert_in_p_records (step slots i (2 * s) 0 none) me) kind
      (λ r q ds u. idle-live p q v.child may.0 (ap (λ (z : Part T H). z.life) u.1.2))
      (λ r q ds world u k is. let same : s ≡ k = omega arith in subst (λ (k : ℕ). (r ≡ 1) × (between : List Event) × Grows n p between (alert_p_raise_event n k) × Becomes me (record (recorded p (p.seen ++ between) (alert_p_raise_event n k)) { alerted = false }) (with_part v q, ds)) same
      (u.0, u.1.0, u.1.1, λ j. (with_part v (u.1.2 j), u.2 j)))
      (λ words homes all c at small.
      let r : ℕ = get_or words i 0 in
      let one : r ≡ 1 = c.alert_seen n p at seen in
      let idle_now : c.spec.pending n ≡ Nothing = c.shows.pendings.pends n p at ∙ ap pending_of out in
      let m = alert-marks e n n 0 false p false words homes all c at low refl named (λ m. refl) may (record { live = c.shows.lives n p at ∙ may.0; order = idle_now; requires_met = tt; when_met = said-one r (c.spec.alerts n) (c.shows.alerts n low) one; choice_met = tt }, refl) (inl (refl, refl)) (λ q ea zero. alert-seen-clear words 0 all n p q at c.sizes.few ea c.alert_seen) in
      (m.0, keeps, tt, subst (λ (y : ℕ). Core l traced w holds (set words i y) homes (set all n m.0)) (sym (one-out r s one)) m.1, (one, m.2, refl)))

  -- the same at a word that is this place, with this mask
  pub swap_alert_in_p_keeps : (slots id s i k : ℕ) (me : Me (Slot T) (View T H W)) → i ≡ alert_at me.0.number → k ≡ 2 * s → s < l.semaphores → me.0.number < most_threads → me.0.kind ≡ Member → me.0.part.wait ≡ None → me.0.part.alerted ≡ true → MayRecord traced me.0.part.life me.0.part.pen
      → Allows (IsKept l traced w begin holds) slots id me i (λ x. bit_and x k) (swap_alert_in_p_records (step slots i k 0 none) me)
  swap_alert_in_p_keeps slots id s i k me word mask named low kind out seen may = subst (λ (z : ℕ × ℕ). Allows (IsKept l traced w begin holds) slots id me z.0 (λ x. bit_and x z.1) (swap_alert_in_p_records (step slots z.0 z.1 0 none) me)) (λ j. (sym word j, sym mask j)) (swap_alert_in_p_at slots id s me named low kind out seen may)

  -- the thread n, which stands where it does, saw its alert word set
  sees-alert : (n i : ℕ) (p : Part T H) (words : List ℕ) (homes : List (Option (Slot T))) (all : List (Part T H)) → get_elem? all n ≡ some p → (st : Opt Stand) → p.stand ≡ st → (c : Core l traced w holds words homes all) → get_or words (alert_at n) 0 ≡ 1
      → Core l traced w holds (set words i (get_or words i 0)) homes (set all n (record p { alerted = true; stand = alerted_stand st }))
  sees-alert n i p words homes all at None stood c one = let q : Part T H = record p { alerted = true; stand = None } in
      still l traced w holds words homes all i n p q at record { version = refl; life = refl; seen = refl; mine = refl; places = refl; held = refl; share = refl; stints = refl; closing = λ m. refl } refl refl refl refl refl refl refl c
      (lines-same (λ o. c.owed o ++ c.queue o) (λ o. c.owed o ++ c.queue o) words words all n p q at c.sizes.few (λ t lo. refl) (λ o. refl) (sym stood) c.lines)
      (alert-seen-own words 0 all n p q at one c.alert_seen)
      (owes-frame c.queue words words all n p q at (λ k lo. refl) (sym stood) refl refl c.owes)
      (begun-same words words all n p q at (λ k lo. refl) refl refl (sym stood) c.begun)
  sees-alert n i p words homes all at (Some s) stood c one = let g = alerted_stage s.stage in let r : Stand = record s { stage = g } in let q : Part T H = record p { alerted = true; stand = Some r } in
      still l traced w holds words homes all i n p q at record { version = refl; life = refl; seen = refl; mine = refl; places = refl; held = refl; share = refl; stints = refl; closing = λ m. refl } refl refl refl refl refl refl refl c
      (lines-stage (λ o. c.owed o ++ c.queue o) (λ o. c.owed o ++ c.queue o) words words all n p q at c.sizes.few s r (λ t lo. refl) (λ o. refl) stood refl refl (λ f. (c.lines.stands n p at).found s stood (found-before s.stage f)) c.lines)
      (alert-seen-own words 0 all n p q at one c.alert_seen)
      (owes-stage c.queue words words all n p q at s r (λ k lo. refl) stood refl refl (λ u _. untested-still s.stage u) (λ a. absurd (awake-then s.stage a)) refl refl c.owes)
      (begun-frame words words all n p q at (λ k lo. refl) refl (λ h. counted-stands p q refl h refl (λ u d is on. (s, stood, (let z : Some r ≡ Some u = is in let y : r ≡ u = cc in λ j. (y j).at)))) c.begun)

  read_alert_at : (slots id : ℕ) (me : Me (Slot T) (View T H W)) → me.0.number < most_threads → me.0.kind ≡ Member → Allows (IsKept l traced w begin holds) slots id me (alert_at me.0.number) (λ x. x) (read_alert_records (step slots (alert_at me.0.number) 0 0 none) me)
  read_alert_at slots id me low kind = let v = me.0 in let n = v.number in let p = v.part in let i = alert_at n in let q : Part T H = record p { alerted = true; stand = alerted_stand p.stand } in
      member_steps l traced w begin holds slots id i (λ x. x) v me.1 (λ r x ds. (p.alerted ≡ true → r ≡ 1) × (((r ≡ 0) × (x ≡ p)) ⊎ ((r ≡ 1) × (x ≡ q))) × (ds ≡ me.1)) (read_alert_records (step slots i 0 0 none) me) kind
      (λ r x ds t. ⊎_elim (λ (u : (r ≡ 0) × (x ≡ p)). idle-same p x v.child u.1) (λ (u : (r ≡ 1) × (x ≡ q)). idle-alerted p x v.child u.1) t.1)
      (λ r x ds world t.
      let recorded_by : (r ≡ 0 → (with_part v x, ds) ≡ me) × (r ≢ 0 → (r ≡ 1) × Becomes me q (with_part v x, ds)) = ⊎_elim
      (λ (u : (r ≡ 0) × (x ≡ p)). ((λ _. λ j. (with_part v (u.1 j), t.2 j)), λ miss. absurd (miss u.0)))
      (λ (u : (r ≡ 1) × (x ≡ q)). ((λ hit. absurd (let z = u.0 in omega arith)), λ _. (u.0, λ j. (with_part v (u.1 j), t.2 j)))) t.1 in (t.0, recorded_by.0, recorded_by.1))
      (λ words homes all c at small. ⊎_elim
      (λ (hit : get_or words i 0 ≡ 0). (p, keeps, tt, idle l traced w holds words homes all i n p at c, (c.alert_seen n p at, inl (hit, refl), refl)))
      (λ (one : get_or words i 0 ≡ 1). (q, keeps, tt, sees-alert n i p words homes all at p.stand refl c one, (c.alert_seen n p at, inr (one, refl), refl)))
      (zero-one (get_or words i 0) (c.spec.alerts n) (c.shows.alerts n low)))

  -- the same at a word that is this place
  pub read_alert_keeps : (slots id i : ℕ) (me : Me (Slot T) (View T H W)) → i ≡ alert_at me.0.number → me.0.number < most_threads → me.0.kind ≡ Member → Allows (IsKept l traced w begin holds) slots id me i (λ x. x) (read_alert_records (step slots i 0 0 none) me)
  read_alert_keeps slots id i me word low kind = subst (λ (i : ℕ). Allows (IsKept l traced w begin holds) slots id me i (λ x. x) (read_alert_records (step slots i 0 0 none) me)) (sym word) (read_alert_at slots id me low kind)

  leave_sem_queue_at : (slots id o r : ℕ) (me : Me (Slot T) (View T H W)) (s : Stand) → o < 128 → me.0.kind ≡ Member → me.0.part.spin ≡ Some o → me.0.part.stand ≡ Some s → s.at ≡ o → mem me.0.number me.0.part.queue ≡ true → r ≡ length (less me.0.number me.0.part.queue)
      → Allows (IsKept l traced w begin holds) slots id me (length_at o) (λ _. r) (λ _. leave_sem_queue_records (step slots (length_at o) r 0 none) me r)
  leave_sem_queue_at slots id o r me s low kind here stood on there long = let v = me.0 in let n = v.number in let p = v.part in let ys : List ℕ = less n p.queue in
      let q : Part T H = record p { queue = ys; left = less n p.left; stand = None; turns = left_turns p.stand p.turns } in
      subst (λ (z : ℕ). Allows (IsKept l traced w begin holds) slots id me (length_at o) (λ _. z) (λ _. leave_sem_queue_records (step slots (length_at o) z 0 none) me z)) (sym long)
      (member_steps l traced w begin holds slots id (length_at o) (λ _. length ys) v me.1 (λ x y ds. (y ≡ q) × (ds ≡ me.1)) (λ _. leave_sem_queue_records (step slots (length_at o) (length ys) 0 none) me (length ys)) kind
      (λ x y ds t. idle-spun p y v.child o here (ap (λ (z : Part T H). z.life) t.0))
      (λ x y ds world t. (λ i. (with_part v (t.0 i), t.1 i)))
      (λ words homes all c at small.
      let mine = (c.spins.spinning n p at o).0 here in
      let words' : List ℕ = set words (length_at o) (length ys) in
      let far : o < 192 = omega arith in
      let line : ℕ → List ℕ = λ i. c.owed i ++ c.queue i in
      let line' : ℕ → List ℕ = λ i. put c.owed o (c.owed o) i ++ put c.queue o ys i in
      let d = c.lines.distinct o in
      let queued : mem n (c.queue o) ≡ true = ap (mem n) (sym mine.1) ∙ there in
      let gone : ys ≡ without n (c.queue o) = ap (less n) mine.1 ∙ less-without n (c.queue o) (distinct-tail_of (c.owed o) (c.queue o) d) in
      let is : line' o ≡ without n (line o) = (λ i. (put-here c.owed o (c.owed o) ∙ sym (without-absent n (c.owed o) (absent-before n (c.owed o) (c.queue o) d queued))) i ++ (put-here c.queue o ys ∙ gone) i) ∙ sym (without-append n (c.owed o) (c.queue o)) in
      let left : (k : ℕ) → k ≢ o → put c.queue o ys k ≡ c.queue k = λ k ne. put-else c.queue o k ys ne in
      let turn : q.turns ≡ turns_from s.stage s.at p.turns = ap (λ st. left_turns st p.turns) stood in
      let owes : WakeOwed (put c.queue o ys) words' (set all n q) = ⊎_elim
      (λ (u : turns_from s.stage s.at p.turns ≡ s.at ∷ p.turns). owes-leave c.queue (put c.queue o ys) words words' all n p q at o (length-gates o far words (length ys)) left ((c.lines.stands n p at).lined o (mem-tail_of n (c.owed o) (c.queue o) queued)).0 refl refl (turn ∙ (u ∙ λ i. on i ∷ p.turns)) c.owes)
      (λ (u : HasTested s.stage × (turns_from s.stage s.at p.turns ≡ p.turns)). owes-leave-tested c.queue (put c.queue o ys) words words' all n p q at o s (length-gates o far words (length ys)) left (λ j ne. ap (mem j) (put-here c.queue o ys ∙ gone) ∙ mem-without j n (c.queue o) ne) queued stood on u.0 refl refl (turn ∙ u.1) c.owes)
      (turn-or-tested s.stage s.at p.turns) in (
        q,
        keeps,
        tt,
        requeues l traced w begin holds n o p q ys (c.owed o) words homes all at low here record { version = refl; life = refl; seen = refl; mine = refl; places = refl; held = refl; share = refl; stints = refl; closing = λ m. refl } refl refl mine.2 (λ e. ap (less n) e) refl refl refl c
            (lines-leave line line' words words' all n p q at c.sizes.few o (ready-stay words (length_at o) (length ys) (λ k up z. omega arith)) is (λ k ne i. put-else c.owed o k (c.owed o) ne i ++ put-else c.queue o k ys ne i) (mem-tail_of n (c.owed o) (c.queue o) queued) refl c.lines)
            owes
            refl
            (λ h. counted-stands p q refl h refl (λ u d is on. absurd (some_none q.stand u refl is))),
        (refl, refl),
      )))

  -- the same at a word that is this place
  pub leave_sem_queue_keeps : (slots id o r : ℕ) (me : Me (Slot T) (View T H W)) (s : Stand) (i : ℕ) → i ≡ length_at o → o < 128 → me.0.kind ≡ Member → me.0.part.spin ≡ Some o → me.0.part.stand ≡ Some s → s.at ≡ o → mem me.0.number me.0.part.queue ≡ true → r ≡ length (less me.0.number me.0.part.queue)
      → Allows (IsKept l traced w begin holds) slots id me i (λ _. r) (λ _. leave_sem_queue_records (step slots i r 0 none) me r)
  leave_sem_queue_keeps slots id o r me s i word low kind here stood on there long = subst (λ (i : ℕ). Allows (IsKept l traced w begin holds) slots id me i (λ _. r) (λ _. leave_sem_queue_records (step slots i r 0 none) me r)) (sym word) (leave_sem_queue_at slots id o r me s low kind here stood on there long)
