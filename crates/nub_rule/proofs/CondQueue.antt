-- The steps on the queue of a condition keep the rule.
use Rattle.std.proofs.Common.{Bool, true, false, cond, ◌≡◌, ◌≢◌, ℕ, ◌<◌, List, [], ◌∷◌, ◌++◌, length, get_or, set, refl, sym, ap, ◌∙◌, subst, arith, append_assoc, Some, None}
use mathlib.Core.Logic.{dite}
use mathlib.Core.Option.{Option, some, none}
use native.Mathlib.Decide.{ℕ_discrete}
use lib.ListN.{get_elem?}
use lib.Seq.{set-get_or}
use Rattle.larch_actions.specs.declared.event.Layout.{Layout}
use Rattle.larch_actions.specs.Actions.{Spec, put}
use Rattle.larch_actions.specs.Sets.{mem, without}
use Rattle.atomic_table.specs.Table.{Me, step, Allows, keeps}
use Rattle.nub_rule.specs.declared.rule.Slot.{Slot}
use Rattle.nub_rule.specs.declared.view.Part.{Part}
use Rattle.nub_rule.specs.declared.view.Stand.{Stand}
use Rattle.nub_rule.specs.declared.view.Stage.TheVariants.{Tested}
use Rattle.nub_rule.specs.declared.view.View.{View}
use Rattle.nub_rule.specs.declared.view.Wait.{Wait}
use Rattle.nub_rule.specs.declared.view.Kind.TheVariants.{Member}
use Rattle.nub_rule.specs.Items.{Core, Conditions, Holders, Shows}
use Rattle.nub_rule.specs.Parts.{pending_of, waits_on, open_on}
use Rattle.nub_rule.specs.Places.{count_at, length_at, cond_object}
use Rattle.nub_rule.specs.Plays.{with_part, tail_of, front, less, unread, recounted, compare_count_records, push_cond_records, pop_cond_records, leave_cond_queue_records}
use Rattle.nub_rule.specs.Rule.{IsKept}
use Rattle.nub_rule.proofs.Each.{each-set, put-here, put-else}
use Rattle.nub_rule.proofs.Idle.{idle-spun}
use Rattle.nub_rule.proofs.Members.{member_steps}
use Rattle.nub_rule.proofs.Frames.{lived-frame, SameShown, ready-stay, spins-frame, lines-frame, semaphores-frame, alerts-frame, pens-frame, alert-seen-frame}
use Rattle.nub_rule.proofs.Lines.{mem-tail_of, distinct-tail_of, without-append, without-absent, less-without, lines-push, lines-leave, lines-same}
use Rattle.nub_rule.proofs.Spinning.{only_here}
use Rattle.nub_rule.proofs.Showing.{pendings-put}
use Rattle.nub_rule.proofs.Conditioning.{conditions-compare, conditions-push, conditions-leave, conditions-pop}
use Rattle.nub_rule.proofs.Owing.{owes-frame, owes-beside, owes-queued, owes-unqueued}
use Rattle.nub_rule.proofs.Stinting.{closing-unread, closing-recounted}
use Rattle.nub_rule.proofs.Beginning.{begun-frame, counted-same, counted-unread, counted-pushed, counted-left}
use Rattle.nub_rule.proofs.Beside.{beside, idle}
use Rattle.nub_rule.proofs.QueueSteps.{absent-before, requeues_by, length-shown, length-gates, popped-line}

module _ {T H : Type 0} (words words' : List ℕ) (spinner : ℕ → Option ℕ) (queue : ℕ → List ℕ) (owner : ℕ → Option ℕ) (spec : Spec) (all : List (Part T H)) (n : ℕ) (p q : Part T H) (at : get_elem? all n ≡ some p) where
  -- of its wait the thread n changed neither the mutex nor what it has of the bit
  abbrev SameOn : Type 0
  SameOn = (m : ℕ) → (waits_on q.wait m ≡ waits_on p.wait m) × (open_on q.wait m ≡ open_on p.wait m)

  holders-wait : (holder : ℕ → Option ℕ) → SameOn → Holders owner holder all → Holders owner holder (set all n q)
  holders-wait holder same h = let X : ℕ → Part T H → Type 0 = λ n p. (m : ℕ) → owner m ≡ some n → holder m ≡ cond (waits_on p.wait m) none (some n) in
      let Y : ℕ → Part T H → Type 0 = λ n p. (m : ℕ) → owner m ≡ some n → open_on p.wait m ≡ false in record {
        free = h.free;
        holds = each-set X X all n q (λ m is. h.holds n p at m is ∙ ap (λ b. cond b none (some n)) (sym (same m).0)) (λ j x ne at' u. u) h.holds;
        shut = each-set Y Y all n q (λ m is. (same m).1 ∙ h.shut n p at m is) (λ j x ne at' u. u) h.shut;
      }

  -- a step that changes at most the conditions, and of the wait neither the mutex nor what is pending
  shows-wait : SameShown words words' → q.life ≡ p.life → (queue' : ℕ → List ℕ) → SameOn → pending_of q.wait ≡ pending_of p.wait → Shows words spinner queue owner spec all → Conditions words' spinner queue' spec.members (set all n q) → Shows words' spinner queue' owner spec (set all n q)
  shows-wait ws ei queue' same pending s c = record {
    holders = holders-wait spec.holder same s.holders;
    pendings = pendings-put words words' spinner queue owner all n p q at spec.pending spec.pending (s.pendings.pends n p at ∙ sym pending) (λ j ne. refl) s.pendings;
    semaphores = semaphores-frame spec.avail words words' ws.sems s.semaphores;
    alerts = alerts-frame spec.alerts words words' ws.alerts s.alerts;
    conditions = c;
    lives = lived-frame all n p q at spec.life ei s.lives;
  }

same-wait : (x y : Wait) → Some x ≡ Some y → x ≡ y
same-wait x y e = cc

same-count : (j k : ℕ) → Some j ≡ Some k → j ≡ k
same-count j k e = cc

module _ {T H W : Type 0} (l : Layout) (traced : Bool) (w : W) (begin : W → ℕ → H) (holds : W → List T → List H → Type 0) where
  compare_count_at : (slots id c j : ℕ) (x : Wait) (me : Me (Slot T) (View T H W)) (i : ℕ) → i ≡ count_at (cond_object c) → c < 64 → me.0.kind ≡ Member → me.0.part.spin ≡ Some (cond_object c) → me.0.part.wait ≡ Some x → x.cond.0 ≡ c → x.member ≡ Some j
      → Allows (IsKept l traced w begin holds) slots id me i (λ x. x) (compare_count_records (step slots i 0 0 none) me)
  compare_count_at slots id c j x me i word low kind here before on stood = let v = me.0 in let n = v.number in let p = v.part in let q : Part T H = record p { wait = unread p.wait } in
      member_steps l traced w begin holds slots id i (λ x. x) v me.1 (λ r s ds. (r ≡ p.count) × (r ≡ j → s ≡ p) × (r ≢ j → s ≡ q) × (ds ≡ me.1)) (compare_count_records (step slots i 0 0 none) me) kind
      (λ r s ds t. idle-spun p s v.child (cond_object c) here (dite (ℕ_discrete r j) (λ hit. ap (λ (z : Part T H). z.life) (t.1 hit)) (λ miss. ap (λ (z : Part T H). z.life) (t.2 miss))))
      (λ r s ds world t. (
        t.0,
        λ y k is stood'.
            let e : j ≡ k = same-count j k (sym stood ∙ (ap (λ (z : Wait). z.member) (same-wait x y (sym before ∙ is)) ∙ stood')) in
            ((λ hit z. (with_part v (t.1 (hit ∙ sym e) z), t.3 z)), λ miss z. (with_part v (t.2 (λ f. miss (f ∙ e)) z), t.3 z)),
      ))
      (λ words homes all k at small.
      let r : ℕ = get_or words i 0 in
      let own = ((k.spins.spinning n p at (cond_object c)).0 here).0 in
      let s = k.shows.conditions in
      let read : r ≡ get_or words (count_at (cond_object c)) 0 = ap (λ (z : ℕ). get_or words z 0) word in
      let known : r ≡ p.count = read ∙ (s.counted c low ∙ sym ((s.knows n p at).inside c own).1) in dite (ℕ_discrete r j)
      (λ hit. (p, keeps, tt, idle l traced w holds words homes all i n p at k, (known, (λ _. refl), (λ miss. absurd (miss hit)), refl)))
      (λ miss. (
        q,
        keeps,
        tt,
        subst (λ (z : List ℕ). Core l traced w holds z homes (set all n q)) (sym (set-get_or words i 0))
            (beside l traced w holds words words homes homes all n p q at refl refl (λ m lo. refl) (λ k lo. refl) (λ m. refl) record { version = refl; life = refl; seen = refl; mine = refl; places = refl; held = refl; share = refl; stints = refl; closing = closing-unread p.wait } k.spinner k.writer k.queue k.owed k
            (spins-frame all n p q at k.spinner k.queue k.owed words words homes homes (λ o lo. (refl, refl)) (λ o lo. refl) refl refl refl k.spins)
            (lines-frame all n p q at (λ o. k.owed o ++ k.queue o) words words k.sizes.few (λ t lo. refl) refl k.lines)
            (shows-wait words words k.spinner k.queue k.owner k.spec all n p q at record { counts = λ m lo. refl; sems = λ m lo. refl; alerts = λ m lo. refl } refl k.queue (λ m. (ap (λ z. waits_on (unread z) m) before ∙ sym (ap (λ z. waits_on z m) before), ap (λ z. open_on (unread z) m) before ∙ sym (ap (λ z. open_on z m) before))) (ap (λ z. pending_of (unread z)) before ∙ sym (ap pending_of before)) k.shows
            (conditions-compare words words k.spinner k.queue k.spec.members all n p q at s c j x (record x { member = None }) (λ m lo. refl) low before on stood (λ e. miss (read ∙ sym e)) (ap unread before) refl refl refl refl))
            (pens-frame all n p q at traced (length k.log) k.writer words words (refl, refl) refl k.pens)
            (alert-seen-frame all n p q at words words k.sizes.few (λ m lo. refl) refl k.alert_seen)
            (owes-frame k.queue words words all n p q at (λ m lo. refl) refl refl refl k.owes)
            (begun-frame words words all n p q at (λ m lo. refl) refl (λ h. counted-unread p q refl h refl refl) k.begun)),
        (known, (λ hit. absurd (miss hit)), (λ _. refl), refl),
      )))

  pub compare_count_keeps : (slots id c j : ℕ) (x : Wait) (me : Me (Slot T) (View T H W)) (i : ℕ) → i ≡ count_at (cond_object c) → c < 64 → me.0.kind ≡ Member → me.0.part.spin ≡ Some (cond_object c) → me.0.part.wait ≡ Some x → x.cond.0 ≡ c → x.member ≡ Some j
      → Allows (IsKept l traced w begin holds) slots id me i (λ x. x) (compare_count_records (step slots i 0 0 none) me)
  compare_count_keeps = compare_count_at

  push_cond_at : (slots id c r : ℕ) (x : Wait) (me : Me (Slot T) (View T H W)) → c < 64 → me.0.kind ≡ Member → me.0.part.spin ≡ Some (cond_object c) → me.0.part.stand ≡ None → me.0.part.wait ≡ Some x → x.cond.0 ≡ c → x.member ≡ Some me.0.part.count → r ≡ length (me.0.part.queue ++ me.0.number ∷ [])
      → Allows (IsKept l traced w begin holds) slots id me (length_at (cond_object c)) (λ _. r) (λ _. push_cond_records (step slots (length_at (cond_object c)) r 0 none) me r)
  push_cond_at slots id c r me_wait me low kind here out before on stood long = let v = me.0 in let n = v.number in let p = v.part in let o : ℕ = cond_object c in let ys : List ℕ = p.queue ++ n ∷ [] in let st : Stand = record { at = o; stage = Tested } in
      let q : Part T H = record p { queue = ys; left = p.left ++ n ∷ []; stand = Some st; wait = unread p.wait } in
      subst (λ (z : ℕ). Allows (IsKept l traced w begin holds) slots id me (length_at o) (λ _. z) (λ _. push_cond_records (step slots (length_at o) z 0 none) me z)) (sym long)
      (member_steps l traced w begin holds slots id (length_at o) (λ _. length ys) v me.1 (λ x s ds. (s ≡ q) × (ds ≡ me.1)) (λ _. push_cond_records (step slots (length_at o) (length ys) 0 none) me (length ys)) kind
      (λ x s ds t. idle-spun p s v.child o here (ap (λ (z : Part T H). z.life) t.0))
      (λ x s ds world t k is. let e : o ≡ k = omega arith in (λ i. (with_part v (t.0 i), t.1 i)) ∙ (λ i. (with_part v (record p { queue = ys; left = p.left ++ n ∷ []; stand = Some record { at = e i; stage = Tested }; wait = unread p.wait }), me.1)))
      (λ words homes all k at small.
      let mine = (k.spins.spinning n p at o).0 here in
      let words' : List ℕ = set words (length_at o) (length ys) in
      let far : o < 192 = omega arith in
      let ws = length-shown l traced w begin holds o far words (length ys) in
      let line : ℕ → List ℕ = λ i. k.owed i ++ k.queue i in
      let line' : ℕ → List ℕ = λ i. put k.owed o (k.owed o) i ++ put k.queue o ys i in
      let now : ys ≡ k.queue o ++ n ∷ [] = ap (λ z. z ++ n ∷ []) mine.1 in
      let is : line' o ≡ line o ++ n ∷ [] = (λ i. put-here k.owed o (k.owed o) i ++ (put-here k.queue o ys ∙ now) i) ∙ sym (append_assoc (k.owed o) (k.queue o) (n ∷ [])) in
      let x' : Wait = record me_wait { member = None } in (
        q,
        keeps,
        tt,
        requeues_by l traced w begin holds n o p q ys (k.owed o) words homes all at far here record { version = refl; life = refl; seen = refl; mine = refl; places = refl; held = refl; share = refl; stints = refl; closing = closing-unread p.wait } refl refl mine.2 refl refl k
            (lines-push line line' words words' all n p q at k.sizes.few o st (ready-stay words (length_at o) (length ys) (λ j up z. omega arith)) is (λ j ne i. put-else k.owed o j (k.owed o) ne i ++ put-else k.queue o j ys ne i) out refl refl (λ f. f) k.lines)
            (shows-wait words words' k.spinner k.queue k.owner k.spec all n p q at ws refl (put k.queue o ys) (λ m. (ap (λ z. waits_on (unread z) m) before ∙ sym (ap (λ z. waits_on z m) before), ap (λ z. open_on (unread z) m) before ∙ sym (ap (λ z. open_on z m) before))) (ap (λ z. pending_of (unread z)) before ∙ sym (ap pending_of before)) k.shows
            (conditions-push words words' k.spinner k.queue k.spec.members all n p q at k.shows.conditions c me_wait x' ys ws.counts mine.0 (only_here k.spinner k.queue k.owed words homes all n p q at k.spins o here) before on stood (ap unread before) refl refl refl refl now))
            (owes-queued k.queue (put k.queue o ys) words words' all n p q at o (length-gates o far words (length ys)) (omega arith) (λ j ne. put-else k.queue o j ys ne) out st refl (λ f. f) refl refl k.owes)
            refl
            (λ h. counted-pushed p q refl h c me_wait p.count st before on stood refl refl refl),
        (refl, refl),
      )))

  -- the same at a word that is this place
  pub push_cond_keeps : (slots id c r : ℕ) (x : Wait) (me : Me (Slot T) (View T H W)) (i : ℕ) → i ≡ length_at (cond_object c) → c < 64 → me.0.kind ≡ Member → me.0.part.spin ≡ Some (cond_object c) → me.0.part.stand ≡ None → me.0.part.wait ≡ Some x → x.cond.0 ≡ c → x.member ≡ Some me.0.part.count → r ≡ length (me.0.part.queue ++ me.0.number ∷ [])
      → Allows (IsKept l traced w begin holds) slots id me i (λ _. r) (λ _. push_cond_records (step slots i r 0 none) me r)
  push_cond_keeps slots id c r x me i word low kind here out before on stood long = subst (λ (i : ℕ). Allows (IsKept l traced w begin holds) slots id me i (λ _. r) (λ _. push_cond_records (step slots i r 0 none) me r)) (sym word) (push_cond_at slots id c r x me low kind here out before on stood long)

  pop_cond_at : (slots id c r : ℕ) (me : Me (Slot T) (View T H W)) → c < 64 → me.0.kind ≡ Member → me.0.part.spin ≡ Some (cond_object c) → me.0.part.wait ≡ None → ((t : ℕ) → mem t (tail_of me.0.part.queue) ≡ false → mem t me.0.part.left ≡ false) → r ≡ length (tail_of me.0.part.queue)
      → Allows (IsKept l traced w begin holds) slots id me (length_at (cond_object c)) (λ _. r) (λ _. pop_cond_records (step slots (length_at (cond_object c)) r 0 none) me r)
  pop_cond_at slots id c r me low kind here out taken long = let v = me.0 in let n = v.number in let p = v.part in let o : ℕ = cond_object c in let ys : List ℕ = tail_of p.queue in
      let q : Part T H = record p { queue = ys; owed = p.owed ++ front p.queue } in
      subst (λ (z : ℕ). Allows (IsKept l traced w begin holds) slots id me (length_at o) (λ _. z) (λ _. pop_cond_records (step slots (length_at o) z 0 none) me z)) (sym long)
      (member_steps l traced w begin holds slots id (length_at o) (λ _. length ys) v me.1 (λ x s ds. (s ≡ q) × (ds ≡ me.1)) (λ _. pop_cond_records (step slots (length_at o) (length ys) 0 none) me (length ys)) kind
      (λ x s ds t. idle-spun p s v.child o here (ap (λ (z : Part T H). z.life) t.0))
      (λ x s ds world t i. (with_part v (t.0 i), t.1 i))
      (λ words homes all k at small.
      let mine = (k.spins.spinning n p at o).0 here in
      let words' : List ℕ = set words (length_at o) (length ys) in
      let far : o < 192 = omega arith in
      let ws = length-shown l traced w begin holds o far words (length ys) in
      let zs : List ℕ = p.owed ++ front p.queue in
      let line : ℕ → List ℕ = λ i. k.owed i ++ k.queue i in
      let line' : ℕ → List ℕ = λ i. put k.owed o zs i ++ put k.queue o ys i in
      let is : line' o ≡ line o = (λ i. put-here k.owed o zs i ++ put-here k.queue o ys i) ∙ (popped-line p.owed p.queue ∙ λ i. mine.2 i ++ mine.1 i) in
      let same : (j : ℕ) → line' j ≡ line j = λ j. dite (ℕ_discrete j o) (λ e. (λ i. line' (e i)) ∙ (is ∙ λ i. line (sym e i))) (λ ne i. put-else k.owed o j zs ne i ++ put-else k.queue o j ys ne i) in (
        q,
        keeps,
        tt,
        requeues_by l traced w begin holds n o p q ys zs words homes all at far here record { version = refl; life = refl; seen = refl; mine = refl; places = refl; held = refl; share = refl; stints = refl; closing = λ m. refl } refl refl refl refl refl k
            (lines-same line line' words words' all n p q at k.sizes.few (ready-stay words (length_at o) (length ys) (λ j up z. omega arith)) same refl k.lines)
            (shows-wait words words' k.spinner k.queue k.owner k.spec all n p q at ws refl (put k.queue o ys) (λ m. (refl, refl)) refl k.shows (conditions-pop words words' k.spinner k.queue k.spec.members all n p q at k.shows.conditions c ys ws.counts mine.0 out refl refl refl taken))
            (owes-beside k.queue (put k.queue o ys) words words' all n p q at (length-gates o far words (length ys)) (λ j lo. put-else k.queue o j ys (λ z. omega arith)) refl refl refl k.owes)
            refl
            (λ h. counted-same p q refl h refl refl),
        (refl, refl),
      )))

  -- the same at a word that is this place
  pub pop_cond_keeps : (slots id c r : ℕ) (me : Me (Slot T) (View T H W)) (i : ℕ) → i ≡ length_at (cond_object c) → c < 64 → me.0.kind ≡ Member → me.0.part.spin ≡ Some (cond_object c) → me.0.part.wait ≡ None → ((t : ℕ) → mem t (tail_of me.0.part.queue) ≡ false → mem t me.0.part.left ≡ false) → r ≡ length (tail_of me.0.part.queue)
      → Allows (IsKept l traced w begin holds) slots id me i (λ _. r) (λ _. pop_cond_records (step slots i r 0 none) me r)
  pop_cond_keeps slots id c r me i word low kind here out taken long = subst (λ (i : ℕ). Allows (IsKept l traced w begin holds) slots id me i (λ _. r) (λ _. pop_cond_records (step slots i r 0 none) me r)) (sym word) (pop_cond_at slots id c r me low kind here out taken long)

  leave_cond_queue_at : (slots id c r : ℕ) (x : Wait) (me : Me (Slot T) (View T H W)) → c < 64 → me.0.kind ≡ Member → me.0.part.spin ≡ Some (cond_object c) → me.0.part.wait ≡ Some x → x.cond.0 ≡ c → mem me.0.number me.0.part.queue ≡ true → r ≡ length (less me.0.number me.0.part.queue)
      → Allows (IsKept l traced w begin holds) slots id me (length_at (cond_object c)) (λ _. r) (λ _. leave_cond_queue_records (step slots (length_at (cond_object c)) r 0 none) me r)
  leave_cond_queue_at slots id c r me_wait me low kind here before on there long = let v = me.0 in let n = v.number in let p = v.part in let o : ℕ = cond_object c in let ys : List ℕ = less n p.queue in
      let q : Part T H = record p { queue = ys; left = less n p.left; stand = None; wait = recounted p.count p.wait } in
      subst (λ (z : ℕ). Allows (IsKept l traced w begin holds) slots id me (length_at o) (λ _. z) (λ _. leave_cond_queue_records (step slots (length_at o) z 0 none) me z)) (sym long)
      (member_steps l traced w begin holds slots id (length_at o) (λ _. length ys) v me.1 (λ x s ds. (s ≡ q) × (ds ≡ me.1)) (λ _. leave_cond_queue_records (step slots (length_at o) (length ys) 0 none) me (length ys)) kind
      (λ x s ds t. idle-spun p s v.child o here (ap (λ (z : Part T H). z.life) t.0))
      (λ x s ds world t i. (with_part v (t.0 i), t.1 i))
      (λ words homes all k at small.
      let mine = (k.spins.spinning n p at o).0 here in
      let words' : List ℕ = set words (length_at o) (length ys) in
      let far : o < 192 = omega arith in
      let ws = length-shown l traced w begin holds o far words (length ys) in
      let line : ℕ → List ℕ = λ i. k.owed i ++ k.queue i in
      let line' : ℕ → List ℕ = λ i. put k.owed o (k.owed o) i ++ put k.queue o ys i in
      let d = k.lines.distinct o in
      let distinct = distinct-tail_of (k.owed o) (k.queue o) d in
      let queued : mem n (k.queue o) ≡ true = ap (mem n) (sym mine.1) ∙ there in
      let lined = mem-tail_of n (k.owed o) (k.queue o) queued in
      let now : ys ≡ less n (k.queue o) = ap (less n) mine.1 in
      let gone : ys ≡ without n (k.queue o) = now ∙ less-without n (k.queue o) distinct in
      let is : line' o ≡ without n (line o) = (λ i. (put-here k.owed o (k.owed o) ∙ sym (without-absent n (k.owed o) (absent-before n (k.owed o) (k.queue o) d queued))) i ++ (put-here k.queue o ys ∙ gone) i) ∙ sym (without-append n (k.owed o) (k.queue o)) in
      let x' : Wait = record me_wait { member = Some p.count } in (
        q,
        keeps,
        tt,
        requeues_by l traced w begin holds n o p q ys (k.owed o) words homes all at far here record { version = refl; life = refl; seen = refl; mine = refl; places = refl; held = refl; share = refl; stints = refl; closing = closing-recounted p.count p.wait } refl refl mine.2 refl refl k
            (lines-leave line line' words words' all n p q at k.sizes.few o (ready-stay words (length_at o) (length ys) (λ j up z. omega arith)) is (λ j ne i. put-else k.owed o j (k.owed o) ne i ++ put-else k.queue o j ys ne i) lined refl k.lines)
            (shows-wait words words' k.spinner k.queue k.owner k.spec all n p q at ws refl (put k.queue o ys) (λ m. (ap (λ z. waits_on (recounted p.count z) m) before ∙ sym (ap (λ z. waits_on z m) before), ap (λ z. open_on (recounted p.count z) m) before ∙ sym (ap (λ z. open_on z m) before))) (ap (λ z. pending_of (recounted p.count z)) before ∙ sym (ap pending_of before)) k.shows
            (conditions-leave words words' k.spinner k.queue k.spec.members all n p q at k.shows.conditions c me_wait x' ys ws.counts mine.0 (only_here k.spinner k.queue k.owed words homes all n p q at k.spins o here) before on (ap (recounted p.count) before) on refl refl refl refl mine.1 distinct queued now))
            (owes-unqueued k.queue (put k.queue o ys) words words' all n p q at o (length-gates o far words (length ys)) (omega arith) (λ j ne. put-else k.queue o j ys ne) ((k.lines.stands n p at).lined o lined).0 refl refl refl k.owes)
            refl
            (λ h. counted-left p q refl h c me_wait p.count ((k.lines.stands n p at).lined o lined).0 on (ap (recounted p.count) before) refl),
        (refl, refl),
      )))

  -- the same at a word that is this place
  pub leave_cond_queue_keeps : (slots id c r : ℕ) (x : Wait) (me : Me (Slot T) (View T H W)) (i : ℕ) → i ≡ length_at (cond_object c) → c < 64 → me.0.kind ≡ Member → me.0.part.spin ≡ Some (cond_object c) → me.0.part.wait ≡ Some x → x.cond.0 ≡ c → mem me.0.number me.0.part.queue ≡ true → r ≡ length (less me.0.number me.0.part.queue)
      → Allows (IsKept l traced w begin holds) slots id me i (λ _. r) (λ _. leave_cond_queue_records (step slots i r 0 none) me r)
  leave_cond_queue_keeps slots id c r x me i word low kind here before on there long = subst (λ (i : ℕ). Allows (IsKept l traced w begin holds) slots id me i (λ _. r) (λ _. leave_cond_queue_records (step slots i r 0 none) me r)) (sym word) (leave_cond_queue_at slots id c r x me low kind here before on there long)
