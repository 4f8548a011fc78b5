-- The swap of the own alert word with the bit taken keeps the rule.
use Rattle.std.proofs.Common.{Bool, true, false, cond, eqb, ◌≡◌, ℕ, ◌<◌, List, ◌++◌, get_or, set, get_or-set_same, refl, sym, ap, ◌∙◌, subst, inl, arith, Some, None, eq-eqb, ne_eqb}
use mathlib.Core.Option.{some, none}
use Rattle.larch_actions.specs.declared.event.Event.{Event}
use Rattle.larch_actions.specs.declared.event.Layout.{Layout}
use Rattle.larch_actions.specs.declared.event.Pending.TheVariants.{Nothing, Waiting, AlertWaiting}
use Rattle.larch_actions.specs.Actions.{acted, put}
use Rattle.larch_actions.specs.Sets.{mem}
use Rattle.atomic_table.specs.Table.{Me, step, Allows, keeps}
use Rattle.nub_rule.specs.declared.rule.Slot.{Slot}
use Rattle.nub_rule.specs.declared.view.Part.{Part}
use Rattle.nub_rule.specs.declared.view.View.{View}
use Rattle.nub_rule.specs.declared.view.Wait.{Wait}
use Rattle.nub_rule.specs.declared.view.WaitBit.TheVariants.{Quiet}
use Rattle.nub_rule.specs.declared.view.Kind.TheVariants.{Member}
use Rattle.nub_rule.specs.Parts.{Got, MayRecord, closing_on, is_closing, pending_of, waits_on}
use Rattle.nub_rule.specs.Places.{most_threads, alert_at, bit_at, count_at, sem_object, cond_object}
use Rattle.nub_rule.specs.Plays.{Becomes, Grows, recorded, with_part, alert_raise_event, swap_alert_in_raise_records}
use Rattle.nub_rule.specs.Rule.{IsKept}
use Rattle.nub_rule.proofs.Apart.{thread-of}
use Rattle.nub_rule.proofs.Each.{put-here, put-else}
use Rattle.nub_rule.proofs.Idle.{idle-live}
use Rattle.nub_rule.proofs.Members.{Steps, member_steps}
use Rattle.nub_rule.proofs.Frames.{lives-frame, lives-stay, lived-frame, other, semaphores-frame}
use Rattle.nub_rule.proofs.Lines.{not_true, stand_none, mem-tail_of}
use Rattle.nub_rule.proofs.Beginning.{waits-stay, begun-frame, counted-over}
use Rattle.nub_rule.proofs.Stinting.{stinted-event}
use Rattle.nub_rule.proofs.Owing.{owes-frame}
use Rattle.nub_rule.proofs.Showing.{holders-take, pendings-put, alerts-set}
use Rattle.nub_rule.proofs.Conditioning.{conditions-out}
use Rattle.nub_rule.proofs.Marking.{Learns, marks}
use Rattle.nub_rule.proofs.AlertSteps.{said-one, alert-aside, alert-seen-clear}

same-wait : (x y : Wait) → Some x ≡ Some y → x ≡ y
same-wait x y e = cc

module _ {T H W : Type 0} (l : Layout) (traced : Bool) (w : W) (begin : W → ℕ → H) (holds : W → List T → List H → Type 0) where
  -- the view after the raise
  abbrev raised : ℕ → Wait → Part T H → List Event → Part T H
  raised n x p z = record (recorded p z (alert_raise_event n x.mutex.0 x.cond.0)) { wait = None; alerted = false }

  raises_at : (n : ℕ) (p : Part T H) (cs : List (ℕ × Slot T)) (x : Wait) (y : T) → n < most_threads → (x.mutex.0 < l.mutexes) × (x.cond.0 < l.conditions) → p.wait ≡ Some x → x.alertable ≡ true → x.bit ≡ Quiet → Got p x.mutex.0 y → p.stand ≡ None → p.alerted ≡ true → MayRecord traced p.life p.pen
      → Steps l traced w begin holds n (alert_at n) (λ _. 0) p cs (λ r q ds. (r ≡ 1) × Learns (alert_raise_event n x.mutex.0 x.cond.0) n p (raised n x p) q × (ds ≡ cs))
  raises_at n p cs x y low named before alertable quiet got apart seen may words homes all k at small =
      let m : ℕ = x.mutex.0 in
      let c : ℕ = x.cond.0 in
      let i : ℕ = alert_at n in
      let e = alert_raise_event n m c in
      let words' : List ℕ = set words i 0 in
      let wide = k.sizes.words_wide in
      let one : get_or words i 0 ≡ 1 = k.alert_seen n p at seen in
      let zero_now : get_or words' i 0 ≡ 0 = get_or-set_same words i 0 0 (omega arith) in
      let own : k.owner m ≡ some n = (k.owned.standing n p at m).0 (y, got) in
      let nobody : k.spec.holder m ≡ none = k.shows.holders.holds n p at m own ∙ ap (λ b. cond b none (some n)) (ap (λ z. waits_on z m) before ∙ eq-eqb m m refl) in
      let begun : k.spec.pending n ≡ AlertWaiting x.mutex x.cond = k.shows.pendings.pends n p at ∙ (ap pending_of before ∙ ap (λ b. cond b (AlertWaiting x.mutex x.cond) (Waiting x.mutex x.cond)) alertable) in
      let alerted : k.spec.alerts n ≡ true = said-one (get_or words i 0) (k.spec.alerts n) (k.shows.alerts n low) one in
      let unqueued : mem n (k.queue (cond_object c)) ≡ false = not_true (mem n (k.queue (cond_object c))) (λ is. stand_none p.stand (cond_object c) apart ((k.lines.stands n p at).lined (cond_object c) (mem-tail_of n (k.owed (cond_object c)) (k.queue (cond_object c)) is)).0) in
      let done = marks l traced w holds e n i 0 p (raised n x p) words homes all k (acted n k.spec e.action) at refl named may (alert-aside n low)
      (λ z. record { version = refl; seen = refl; mine = refl; places = refl; held = refl; share = refl; spin = refl; queue = refl; owed = refl; stand = refl; pen = refl })
      (record { live = k.shows.lives n p at ∙ may.0; order = begun; requires_met = tt; when_met = (nobody, alerted); choice_met = tt }, refl)
      (λ z. record {
        holders = holders-take words words' k.spinner k.queue k.owner all n p (raised n x p z) at k.owner k.spec.holder m own (λ j ne. refl) refl (λ j ne. ap (λ v. waits_on v j) before ∙ ne_eqb m j (λ f. ne (sym f))) k.shows.holders;
        pendings = pendings-put words words' k.spinner k.queue k.owner all n p (raised n x p z) at k.spec.pending (put k.spec.pending n Nothing) (put-here k.spec.pending n Nothing) (λ j ne. put-else k.spec.pending n j Nothing ne) k.shows.pendings;
        semaphores = semaphores-frame k.spec.avail words words' (λ j lo. other words i (bit_at (sem_object j)) 0 (λ f. omega arith)) k.shows.semaphores;
        alerts = alerts-set words words' k.spec.alerts n false (λ j lo ne. other words i (alert_at j) 0 (λ f. ne (thread-of j n lo low (omega arith)))) (inl (zero_now, refl)) k.shows.alerts;
        conditions = conditions-out words words' k.spinner k.queue k.spec.members all n p (raised n x p z) at k.shows.conditions c x (λ j lo. other words i (count_at (cond_object j)) 0 (λ f. omega arith)) before refl refl refl refl unqueued;
        lives = lived-frame all n p (raised n x p z) at k.spec.life refl k.shows.lives;
      })
      (λ z. alert-seen-clear words 0 all n p (raised n x p z) at k.sizes.few refl k.alert_seen)
      (λ z. lives-frame all n p (raised n x p z) at words words' k.sizes.few (lives-stay words i 0 (λ j lo f. omega arith)) refl k.lives)
      (λ z. owes-frame k.queue words words' all n p (raised n x p z) at (λ j lo. other words i (bit_at j) 0 (λ f. omega arith)) refl refl refl k.owes)
      (λ z. begun-frame words words' all n p (raised n x p z) at (waits-stay words i 0 (λ j lo f. omega arith)) refl (λ h. counted-over p (raised n x p z) refl h refl apart) k.begun)
      (λ z. stinted-event all n p (raised n x p z) at e (λ j. refl) refl (λ j. sym (ap (λ v. closing_on v j) before ∙ ap (λ b. cond (is_closing b) (eqb m j) false) quiet)) k.stinted) in
      (done.0, keeps, tt, done.1, (one, done.2, refl))

  pub swap_alert_in_raise_keeps : (slots id m c : ℕ) (me : Me (Slot T) (View T H W)) (i : ℕ) (x : Wait) (y : T) → i ≡ alert_at me.0.number → me.0.number < most_threads → me.0.kind ≡ Member → (m < l.mutexes) × (c < l.conditions) → me.0.part.wait ≡ Some x → x.mutex.0 ≡ m → x.cond.0 ≡ c → x.alertable ≡ true → x.bit ≡ Quiet
      → Got me.0.part m y → me.0.part.stand ≡ None → me.0.part.alerted ≡ true → MayRecord traced me.0.part.life me.0.part.pen → Allows (IsKept l traced w begin holds) slots id me i (λ _. 0) (swap_alert_in_raise_records (step slots i 0 0 none) me)
  swap_alert_in_raise_keeps slots id m c me i x y word low kind named before on_mutex on_cond alertable quiet got apart seen may = subst (λ (i : ℕ). Allows (IsKept l traced w begin holds) slots id me i (λ _. 0) (swap_alert_in_raise_records (step slots i 0 0 none) me)) (sym word) here
    where
      here : Allows (IsKept l traced w begin holds) slots id me (alert_at me.0.number) (λ _. 0) (swap_alert_in_raise_records (step slots (alert_at me.0.number) 0 0 none) me)
      here = let v = me.0 in let n = v.number in let p = v.part in member_steps l traced w begin holds slots id (alert_at n) (λ _. 0) v me.1
          (λ r q ds. (r ≡ 1) × Learns (alert_raise_event n x.mutex.0 x.cond.0) n p (raised n x p) q × (ds ≡ me.1)) (swap_alert_in_raise_records (step slots (alert_at n) 0 0 none) me) kind
          (λ r q ds t. idle-live p q v.child may.0 (ap (λ (z : Part T H). z.life) t.1.2))
          (λ r q ds world t x' is. let same : x ≡ x' = same-wait x x' (sym before ∙ is) in
          subst (λ (z : Wait). (r ≡ 1) × (between : List Event) × Grows n p between (alert_raise_event n z.mutex.0 z.cond.0) × Becomes me (raised n z p (p.seen ++ between)) (with_part v q, ds)) same
          (t.0, t.1.0, t.1.1, λ j. (with_part v (t.1.2 j), t.2 j)))
          (raises_at n p me.1 x y low (subst (λ (z : ℕ × ℕ). (z.0 < l.mutexes) × (z.1 < l.conditions)) (λ j. (sym on_mutex j, sym on_cond j)) named) before alertable quiet (subst (λ (k : ℕ). Got p k y) (sym on_mutex) got) apart seen may)
