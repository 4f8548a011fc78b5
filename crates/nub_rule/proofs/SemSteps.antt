-- The steps on the bit of a semaphore keep the rule.
use Rattle.std.proofs.Common.{Bool, true, false, cond, eqb, ◌≡◌, ◌≢◌, ℕ, ◌<◌, ◌⊎◌, List, ◌∷◌, ◌++◌, get_or, set, refl, sym, ap, ◌∙◌, subst, inl, inr, ⊎_elim, arith, get_or-set_same, None, eq-eqb, ne_eqb}
use mathlib.Core.Logic.{dite}
use mathlib.Core.Option.{Option, some, none}
use native.Mathlib.Decide.{ℕ_discrete}
use prog.Atomic.{either}
use lib.ListN.{get_elem?}
use Rattle.larch_actions.specs.declared.event.Event.{Event}
use Rattle.larch_actions.specs.declared.event.Life.TheVariants.{Live}
use Rattle.larch_actions.specs.declared.event.Action.{Action}
use Rattle.larch_actions.specs.declared.event.Action.TheVariants.{P, AlertPReturn}
use Rattle.larch_actions.specs.declared.event.Layout.{Layout}
use Rattle.larch_actions.specs.declared.event.SemId.{SemId}
use Rattle.larch_actions.specs.declared.event.Pending.TheVariants.{Nothing}
use Rattle.larch_actions.specs.Actions.{Spec, Acts, put}
use Rattle.larch_actions.specs.Layout.{IsNamed}
use Rattle.larch_actions.specs.Sets.{without}
use Rattle.atomic_table.specs.Table.{Me, step, Allows, keeps}
use Rattle.nub_rule.specs.declared.rule.Slot.{Slot}
use Rattle.nub_rule.specs.declared.view.Part.{Part}
use Rattle.nub_rule.specs.declared.view.View.{View}
use Rattle.nub_rule.specs.declared.view.Kind.TheVariants.{Member}
use Rattle.nub_rule.specs.Items.{Says, Core}
use Rattle.nub_rule.specs.Parts.{MayRecord, pending_of}
use Rattle.nub_rule.specs.Places.{bit_at, count_at, alert_at, sem_object, cond_object}
use Rattle.nub_rule.specs.Plays.{with_part, recorded, Grows, MayTakeSem, event, p_event, alert_p_event, p_action, v_event, try_p_records, clear_sem_records, Becomes}
use Rattle.nub_rule.specs.Rule.{IsKept}
use Rattle.nub_rule.proofs.Idle.{idle-live}
use Rattle.nub_rule.proofs.Members.{member_steps}
use Rattle.nub_rule.proofs.Frames.{lives-frame, lives-stay, other, alert-seen-stays, alert-seen-frame}
use Rattle.nub_rule.proofs.Lines.{lines-same}
use Rattle.nub_rule.proofs.Beside.{still}
use Rattle.nub_rule.specs.Owed.{WakeOwed}
use Rattle.nub_rule.proofs.Beginning.{waits-stay, begun-same}
use Rattle.nub_rule.proofs.Stinting.{GivesNone, stinted-event}
use Rattle.nub_rule.proofs.Owing.{owes-try, owes-clear}
use Rattle.nub_rule.proofs.Showing.{shows-sem}
use Rattle.nub_rule.proofs.Marking.{Learns, Marked, marks}

available : (b : Bool) → cond b false true ≡ false → b ≡ true
available true e = refl
available false e = absurd (let z : true ≡ false = e in cc)

-- a bit of 0 shows an available semaphore
zero-shows : (x : ℕ) (b : Bool) → Says x (cond b false true) → x ≡ 0 → b ≡ true
zero-shows x b says z = ⊎_elim (λ (t : (x ≡ 0) × (cond b false true ≡ false)). available b t.1) (λ (t : (x ≡ 1) × (cond b false true ≡ true)). let u = t.0 in absurd (omega arith)) says

says-flag : (x : ℕ) (b : Bool) → Says x b → (x ≡ 0) ⊎ (x ≡ 1)
says-flag x b h = ⊎_elim (λ (t : (x ≡ 0) × (b ≡ false)). inl t.0) (λ (t : (x ≡ 1) × (b ≡ true)). inr t.0) h

-- by which of the two events a semaphore is taken
pub by-alertable : (n s : ℕ) (e : Event) (x : SemId) → MayTakeSem n s e → e.action ≡ AlertPReturn x → e ≡ event n (p_action true s)
by-alertable n s e x may is = ⊎_elim (λ (u : e ≡ p_event n s). absurd (plain-not (P record { 0 = s }) x refl (sym (ap (λ (d : Event). d.action) u) ∙ is))) (λ (u : e ≡ alert_p_event n s). u) may
  where
    plain-not : (a : Action) (x : SemId) → a ≡ P record { 0 = s } → a ≡ AlertPReturn x → ⊥
    plain-not a x e d = cc

pub by-plain : (n s : ℕ) (e : Event) → MayTakeSem n s e → ((x : SemId) → e.action ≢ AlertPReturn x) → e ≡ event n (p_action false s)
by-plain n s e may not = ⊎_elim (λ (u : e ≡ p_event n s). u) (λ (u : e ≡ alert_p_event n s). absurd (not record { 0 = s } (ap (λ (d : Event). d.action) u))) may

p-gives : (alertable : Bool) (s : ℕ) → GivesNone (p_action alertable s)
p-gives true s m = refl
p-gives false s m = refl

-- the row of a P, whether an alert may end it or not
p-acts : (alertable : Bool) (n s : ℕ) (old : Spec) → old.life n ≡ Live → old.pending n ≡ Nothing → old.avail s ≡ true → Acts old (event n (p_action alertable s)) (record old { avail = put old.avail s false })
p-acts true n s old lives idle free = (record { live = lives; order = idle; requires_met = tt; when_met = free; choice_met = tt }, refl)
p-acts false n s old lives idle free = (record { live = lives; order = idle; requires_met = tt; when_met = free; choice_met = tt }, refl)

module _ {T H W : Type 0} (l : Layout) (traced : Bool) (w : W) (begin : W → ℕ → H) (holds : W → List T → List H → Type 0) where
  -- an event by which the bit of the semaphore s becomes x
  sem-marks : (e : Event) (n s x : ℕ) (b : Bool) (p : Part T H) (failed turns cleared : List ℕ) (words : List ℕ) (homes : List (Option (Slot T))) (all : List (Part T H)) (c : Core l traced w holds words homes all) → get_elem? all n ≡ some p → s < 64 → e.thread.0 ≡ n → IsNamed l e.action → GivesNone e.action → MayRecord traced p.life p.pen
      → Acts c.spec e (record c.spec { avail = put c.spec.avail s b }) → Says x (cond b false true)
      → ((q : Part T H) → q.stand ≡ p.stand → q.turns ≡ turns → q.cleared ≡ cleared → WakeOwed c.queue (set words (bit_at (sem_object s)) x) (set all n q))
      → Marked l traced w holds e n (bit_at (sem_object s)) x p (λ z. record (recorded p z e) { failed = failed; turns = turns; cleared = cleared }) words homes all
  sem-marks e n s x b p failed turns cleared words homes all c at low by named none_given may acts says owes = let o : ℕ = sem_object s in let i = bit_at o in let wide = c.sizes.words_wide in
      marks l traced w holds e n i x p (λ z. record (recorded p z e) { failed = failed; turns = turns; cleared = cleared }) words homes all c (record c.spec { avail = put c.spec.avail s b }) at by named may
      record { bits = λ k up z. omega arith; spins = λ k up z. omega arith; lengths = λ k up z. omega arith; ready = λ k up z. omega arith; pen = λ z. omega arith; number = λ z. omega arith }
      (λ z. record { version = refl; seen = refl; mine = refl; places = refl; held = refl; share = refl; spin = refl; queue = refl; owed = refl; stand = refl; pen = refl }) acts
      (λ z. shows-sem words (set words i x) c.spinner c.queue c.owner c.spec all n p (record (recorded p z e) { failed = failed; turns = turns; cleared = cleared }) at refl s b (λ k up. other words i (count_at (cond_object k)) x (λ y. omega arith)) (λ k up ne. other words i (bit_at (sem_object k)) x (λ y. ne (omega arith))) (λ k up. other words i (alert_at k) x (λ y. omega arith))
      (subst (λ (z : ℕ). Says z (cond b false true)) (sym (get_or-set_same words i x 0 (omega arith))) says) refl refl refl refl c.shows)
      (λ z. alert-seen-stays all n p (record (recorded p z e) { failed = failed; turns = turns; cleared = cleared }) at words i x c.sizes.few (λ k up y. omega arith) refl c.alert_seen)
      (λ z. lives-frame all n p (record (recorded p z e) { failed = failed; turns = turns; cleared = cleared }) at words (set words i x) c.sizes.few (lives-stay words i x (λ k up y. omega arith)) refl c.lives)
      (λ z. owes (record (recorded p z e) { failed = failed; turns = turns; cleared = cleared }) refl refl refl)
      (λ z. begun-same words (set words i x) all n p (record (recorded p z e) { failed = failed; turns = turns; cleared = cleared }) at (waits-stay words i x (λ j lo y. omega arith)) refl refl refl c.begun)
      (λ z. stinted-event all n p (record (recorded p z e) { failed = failed; turns = turns; cleared = cleared }) at e none_given refl (λ m. refl) c.stinted)

  p-named : (alertable : Bool) (s : ℕ) → s < l.semaphores → IsNamed l (p_action alertable s)
  p-named true s low = low
  p-named false s low = low

  try_p_at : (alertable : Bool) (slots id s : ℕ) (me : Me (Slot T) (View T H W)) → s < 64 → s < l.semaphores → me.0.kind ≡ Member → me.0.part.wait ≡ None → MayRecord traced me.0.part.life me.0.part.pen
      → Allows (IsKept l traced w begin holds) slots id me (bit_at (sem_object s)) (λ x. either (eqb x 0) 1 x) (try_p_records (p_action alertable) (step slots (bit_at (sem_object s)) 0 1 none) me)
  try_p_at alertable slots id s me low named kind out may = let v = me.0 in let n = v.number in let p = v.part in let o : ℕ = sem_object s in let e = event n (p_action alertable s) in
      member_steps l traced w begin holds slots id (bit_at o) (λ x. either (eqb x 0) 1 x) v me.1
      (λ r q ds. ((r ≡ 0) × Learns e n p (λ z. record (recorded p z e) { failed = without o p.failed; turns = without o p.turns; cleared = p.cleared }) q × (ds ≡ me.1)) ⊎ ((r ≢ 0) × (q ≡ record p { failed = o ∷ p.failed; turns = without o p.turns }) × (ds ≡ me.1)))
      (try_p_records (p_action alertable) (step slots (bit_at o) 0 1 none) me) kind
      (λ r q ds t. idle-live p q v.child may.0 (⊎_elim (λ (u : (r ≡ 0) × Learns e n p (λ z. record (recorded p z e) { failed = without o p.failed; turns = without o p.turns; cleared = p.cleared }) q × (ds ≡ me.1)). ap (λ (z : Part T H). z.life) u.1.2) (λ (u : (r ≢ 0) × (q ≡ record p { failed = o ∷ p.failed; turns = without o p.turns }) × (ds ≡ me.1)). ap (λ (z : Part T H). z.life) u.1) t))
      (λ r q ds world t k is. let same : s ≡ k = omega arith in subst (λ (k : ℕ).
      (r ≡ 0 → (between : List Event) × Grows n p between (event n (p_action alertable k)) × Becomes me (record (recorded p (p.seen ++ between) (event n (p_action alertable k))) { failed = without (sem_object k) p.failed; turns = without (sem_object k) p.turns }) (with_part v q, ds))
      × (r ≢ 0 → Becomes me (record p { failed = sem_object k ∷ p.failed; turns = without (sem_object k) p.turns }) (with_part v q, ds))) same (⊎_elim
      (λ (u : (r ≡ 0) × Learns e n p (λ z. record (recorded p z e) { failed = without o p.failed; turns = without o p.turns; cleared = p.cleared }) q × (ds ≡ me.1)). ((λ _. (u.1.0, u.1.1, λ i. (with_part v (u.1.2 i), u.2 i))), λ miss. absurd (miss u.0)))
      (λ (u : (r ≢ 0) × (q ≡ record p { failed = o ∷ p.failed; turns = without o p.turns }) × (ds ≡ me.1)). ((λ hit. absurd (u.0 hit)), λ _ i. (with_part v (u.1 i), u.2 i))) t))
      (λ words homes all c at small. let r : ℕ = get_or words (bit_at o) 0 in dite (ℕ_discrete r 0)
      (λ hit.
      let free = zero-shows r (c.spec.avail s) (c.shows.semaphores s low) hit in
      let idle : c.spec.pending n ≡ Nothing = c.shows.pendings.pends n p at ∙ ap pending_of out in
      let m = sem-marks e n s 1 false p (without o p.failed) (without o p.turns) p.cleared words homes all c at low refl (p-named alertable s named) (p-gives alertable s) may (p-acts alertable n s c.spec (c.shows.lives n p at ∙ may.0) idle free) (inr (refl, refl))
      (λ q es et ec. owes-try c.queue words (set words (bit_at o) 1) all n p q at o (λ k lo ne. other words (bit_at o) (bit_at k) 1 (λ z. ne (omega arith))) (λ z. let y = get_or-set_same words (bit_at o) 1 0 (omega arith) in omega arith) es ec et c.owes) in
      (m.0, keeps, tt, subst (λ b. Core l traced w holds (set words (bit_at o) (either b 1 r)) homes (set all n m.0)) (sym (eq-eqb r 0 hit)) m.1, inl (hit, m.2, refl)))
      (λ miss. let q : Part T H = record p { failed = o ∷ p.failed; turns = without o p.turns } in (
        q,
        keeps,
        tt,
        subst (λ b. Core l traced w holds (set words (bit_at o) (either b 1 r)) homes (set all n q)) (sym (ne_eqb r 0 miss))
            (still l traced w holds words homes all (bit_at o) n p q at record { version = refl; life = refl; seen = refl; mine = refl; places = refl; held = refl; share = refl; stints = refl; closing = λ m. refl } refl refl refl refl refl refl refl c
            (lines-same (λ k. c.owed k ++ c.queue k) (λ k. c.owed k ++ c.queue k) words words all n p q at c.sizes.few (λ t lo. refl) (λ k. refl) refl c.lines)
            (alert-seen-frame all n p q at words words c.sizes.few (λ k lo. refl) refl c.alert_seen)
            (owes-try c.queue words words all n p q at o (λ k lo ne. refl) miss refl refl refl c.owes)
            (begun-same words words all n p q at (λ j lo. refl) refl refl refl c.begun)),
        inr (miss, refl, refl),
      )))

  -- the same at a word that is this place
  pub try_p_keeps : (alertable : Bool) (slots id s : ℕ) (me : Me (Slot T) (View T H W)) (i : ℕ) → i ≡ bit_at (sem_object s) → s < 64 → s < l.semaphores → me.0.kind ≡ Member → me.0.part.wait ≡ None → MayRecord traced me.0.part.life me.0.part.pen
      → Allows (IsKept l traced w begin holds) slots id me i (λ x. either (eqb x 0) 1 x) (try_p_records (p_action alertable) (step slots i 0 1 none) me)
  try_p_keeps alertable slots id s me i word low named kind out may = subst (λ (i : ℕ). Allows (IsKept l traced w begin holds) slots id me i (λ x. either (eqb x 0) 1 x) (try_p_records (p_action alertable) (step slots i 0 1 none) me)) (sym word) (try_p_at alertable slots id s me low named kind out may)

  clear_sem_at : (slots id s : ℕ) (me : Me (Slot T) (View T H W)) → s < 64 → s < l.semaphores → me.0.kind ≡ Member → me.0.part.wait ≡ None → me.0.part.stand ≡ None → MayRecord traced me.0.part.life me.0.part.pen
      → Allows (IsKept l traced w begin holds) slots id me (bit_at (sem_object s)) (λ _. 0) (clear_sem_records (step slots (bit_at (sem_object s)) 0 0 none) me)
  clear_sem_at slots id s me low named kind out apart may = let v = me.0 in let n = v.number in let p = v.part in let o : ℕ = sem_object s in let e = v_event n s in
      member_steps l traced w begin holds slots id (bit_at o) (λ _. 0) v me.1
      (λ r q ds. ((r ≡ 0) ⊎ (r ≡ 1)) × Learns e n p (λ z. record (recorded p z e) { failed = p.failed; turns = p.turns; cleared = o ∷ p.cleared }) q × (ds ≡ me.1)) (clear_sem_records (step slots (bit_at o) 0 0 none) me) kind
      (λ r q ds t. idle-live p q v.child may.0 (ap (λ (z : Part T H). z.life) t.1.2))
      (λ r q ds world t k is. let same : s ≡ k = omega arith in subst (λ (k : ℕ). ((r ≡ 0) ⊎ (r ≡ 1)) × (between : List Event) × Grows n p between (v_event n k) × Becomes me (record (recorded p (p.seen ++ between) (v_event n k)) { cleared = sem_object k ∷ p.cleared }) (with_part v q, ds)) same
      (t.0, t.1.0, t.1.1, λ i. (with_part v (t.1.2 i), t.2 i)))
      (λ words homes all c at small.
      let idle : c.spec.pending n ≡ Nothing = c.shows.pendings.pends n p at ∙ ap pending_of out in
      let m = sem-marks e n s 0 true p p.failed p.turns (o ∷ p.cleared) words homes all c at low refl named (λ m. refl) may (record { live = c.shows.lives n p at ∙ may.0; order = idle; requires_met = tt; when_met = tt; choice_met = tt }, refl) (inl (refl, refl))
      (λ q es et ec. owes-clear c.queue words (set words (bit_at o) 0) all n p q at o (λ k lo ne. other words (bit_at o) (bit_at k) 0 (λ z. ne (omega arith))) apart es ec et c.owes) in
      (m.0, keeps, tt, m.1, (says-flag (get_or words (bit_at o) 0) (cond (c.spec.avail s) false true) (c.shows.semaphores s low), m.2, refl)))

  -- the same at a word that is this place
  pub clear_sem_keeps : (slots id s : ℕ) (me : Me (Slot T) (View T H W)) (i : ℕ) → i ≡ bit_at (sem_object s) → s < 64 → s < l.semaphores → me.0.kind ≡ Member → me.0.part.wait ≡ None → me.0.part.stand ≡ None → MayRecord traced me.0.part.life me.0.part.pen
      → Allows (IsKept l traced w begin holds) slots id me i (λ _. 0) (clear_sem_records (step slots i 0 0 none) me)
  clear_sem_keeps slots id s me i word low named kind out apart may = subst (λ (i : ℕ). Allows (IsKept l traced w begin holds) slots id me i (λ _. 0) (clear_sem_records (step slots i 0 0 none) me)) (sym word) (clear_sem_at slots id s me low named kind out apart may)
