-- What the words and the views show of the specification's state, when a spin word is taken or given, or the queue of a gate changes.
use Rattle.std.proofs.Common.{Bool, true, false, cond, ◌≡◌, ◌≢◌, ℕ, ◌-◌, ◌<◌, ◌≤◌, List, get_or, set, sym, ap, ◌∙◌, subst, arith, length-set, None}
use mathlib.Core.Logic.{dite}
use mathlib.Core.Option.{Option, some, none, some-injective, some-ne-none}
use native.Mathlib.Decide.{ℕ_discrete}
use lib.ListN.{get_elem?}
use Rattle.larch_actions.specs.declared.event.Pending.{Pending}
use Rattle.larch_actions.specs.declared.event.Pending.TheVariants.{Nothing}
use Rattle.larch_actions.specs.Actions.{Spec, put}
use Rattle.larch_actions.specs.Sets.{mem}
use Rattle.nub_rule.specs.declared.view.Part.{Part}
use Rattle.nub_rule.specs.Items.{Says, Semaphores, Alerts, Holders, Pendings, Knows, Conditions, Shows}
use Rattle.nub_rule.specs.Parts.{waits_on, open_on, counts_in, pending_of}
use Rattle.nub_rule.specs.Places.{most_threads, alert_at, bit_at, sem_object, cond_object}
use Rattle.nub_rule.proofs.Each.{at_within, each-set, put-here, put-else}
use Rattle.nub_rule.proofs.Frames.{lived-frame, SameCounts, SameSems, SameAlerts, SameShown, holders-frame, pendings-frame, semaphores-frame, alerts-frame, conditions-frame}
use Rattle.nub_rule.proofs.Lines.{some_none}

module _ {T H : Type 0} (words words' : List ℕ) (spinner : ℕ → Option ℕ) (queue : ℕ → List ℕ) (owner : ℕ → Option ℕ) (all : List (Part T H)) (n : ℕ) (p q : Part T H) (at : get_elem? all n ≡ some p) where
  -- the thread n takes the spin word of o
  conditions-spin : (members : ℕ → ℕ → Bool) (o : ℕ) → SameCounts words words' → q.wait ≡ p.wait → q.left ≡ queue o → q.queue ≡ queue o → spinner o ≡ none → ((k : ℕ) → spinner k ≡ some n → ⊥)
      → (s : Conditions words spinner queue members all) → q.count ≡ s.count (o - 128) → Conditions words' (put spinner o (some n)) queue members (set all n q)
  conditions-spin members o ws ew el eq free idle s ec = let t = s.knows n p at in let spinner' = put spinner o (some n) in record {
    left = s.left;
    count = s.count;
    counting = s.counting;
    member = s.member;
    counted = λ c lo. ws c lo ∙ s.counted c lo;
    whole = λ c is. dite (ℕ_discrete (cond_object c) o)
        (λ e. absurd (some-ne-none n (sym (put-here spinner o (some n)) ∙ (ap spinner' (sym e) ∙ is))))
        (λ ne. s.whole c (sym (put-else spinner o (cond_object c) (some n) ne) ∙ is));
    queued = s.queued;
    knows = each-set (Knows spinner s.left s.count s.counting) (Knows spinner' s.left s.count s.counting) all n q record {
      counts = λ c. t.counts c ∙ ap (λ w. counts_in w c (s.count c)) (sym ew);
      risen = λ c k hi. ap (λ w. counts_in w c k) ew ∙ t.risen c k hi;
      inside = λ c own. dite (ℕ_discrete (cond_object c) o)
          (λ e. let at_c : o - 128 ≡ c = omega arith in (el ∙ (ap queue (sym e) ∙ sym (s.whole c (ap spinner e ∙ free))), ec ∙ ap s.count at_c))
          (λ ne. absurd (idle (cond_object c) (sym (put-else spinner o (cond_object c) (some n) ne) ∙ own)));
      even = λ w is. el ∙ sym eq;
    } (λ j x ne at' u. record {
      counts = u.counts;
      risen = u.risen;
      inside = λ c own. dite (ℕ_discrete (cond_object c) o)
          (λ e. absurd (ne (some-injective j n (sym own ∙ (ap spinner' e ∙ put-here spinner o (some n))))))
          (λ other. u.inside c (sym (put-else spinner o (cond_object c) (some n) other) ∙ own));
      even = u.even;
    }) s.knows;
  }

  -- the thread n gives the spin word of o back
  conditions-unspin : (members : ℕ → ℕ → Bool) (o : ℕ) → SameCounts words words' → q.wait ≡ p.wait → q.left ≡ q.queue → spinner o ≡ some n → ((k : ℕ) → spinner k ≡ some n → k ≡ o) → p.left ≡ queue o
      → Conditions words spinner queue members all → Conditions words' (put spinner o none) queue members (set all n q)
  conditions-unspin members o ws ew even own only back s = let t = s.knows n p at in let spinner' = put spinner o none in record {
    left = s.left;
    count = s.count;
    counting = s.counting;
    member = s.member;
    counted = λ c lo. ws c lo ∙ s.counted c lo;
    whole = λ c is. dite (ℕ_discrete (cond_object c) o)
        (λ e. sym (t.inside c (ap spinner e ∙ own)).0 ∙ (back ∙ ap queue (sym e)))
        (λ ne. s.whole c (sym (put-else spinner o (cond_object c) none ne) ∙ is));
    queued = s.queued;
    knows = each-set (Knows spinner s.left s.count s.counting) (Knows spinner' s.left s.count s.counting) all n q record {
      counts = λ c. t.counts c ∙ ap (λ w. counts_in w c (s.count c)) (sym ew);
      risen = λ c k hi. ap (λ w. counts_in w c k) ew ∙ t.risen c k hi;
      inside = λ c has. dite (ℕ_discrete (cond_object c) o)
          (λ e. absurd (some-ne-none n (sym has ∙ (ap spinner' e ∙ put-here spinner o none))))
          (λ ne. absurd (ne (only (cond_object c) (sym (put-else spinner o (cond_object c) none ne) ∙ has))));
      even = λ w is. even;
    } (λ j x ne at' u. record {
      counts = u.counts;
      risen = u.risen;
      inside = λ c has. dite (ℕ_discrete (cond_object c) o)
          (λ e. absurd (some-ne-none j (sym has ∙ (ap spinner' e ∙ put-here spinner o none))))
          (λ other. u.inside c (sym (put-else spinner o (cond_object c) none other) ∙ has));
      even = u.even;
    }) s.knows;
  }

  -- the thread n, which has the spin word of the gate o, changes its queue
  conditions-gate : (members : ℕ → ℕ → Bool) (o : ℕ) (ys : List ℕ) → o < 128 → SameCounts words words' → q.wait ≡ p.wait → (p.left ≡ p.queue → q.left ≡ q.queue) → ((k : ℕ) → spinner k ≡ some n → k ≡ o)
      → Conditions words spinner queue members all → Conditions words' spinner (put queue o ys) members (set all n q)
  conditions-gate members o ys low ws ew even only s = let t = s.knows n p at in let other : (c : ℕ) → cond_object c ≢ o = λ c e. omega arith in let X = Knows spinner s.left s.count s.counting in record {
    left = s.left;
    count = s.count;
    counting = s.counting;
    member = s.member;
    counted = λ c lo. ws c lo ∙ s.counted c lo;
    whole = λ c is. s.whole c is ∙ sym (put-else queue o (cond_object c) ys (other c));
    queued = λ c i out. s.queued c i (ap (mem i) (sym (put-else queue o (cond_object c) ys (other c))) ∙ out);
    knows = each-set X X all n q record {
      counts = λ c. t.counts c ∙ ap (λ w. counts_in w c (s.count c)) (sym ew);
      risen = λ c k hi. ap (λ w. counts_in w c k) ew ∙ t.risen c k hi;
      inside = λ c has. absurd (other c (only (cond_object c) has));
      even = λ w is. even (t.even w (sym ew ∙ is));
    } (λ j x ne at' u. u) s.knows;
  }

  -- the thread n, which isn't in a condition, waits no longer
  conditions-back : (members : ℕ → ℕ → Bool) → SameCounts words words' → q.wait ≡ None → q.left ≡ p.left → q.count ≡ p.count → ((c k : ℕ) → counts_in p.wait c k ≡ false)
      → Conditions words spinner queue members all → Conditions words' spinner queue members (set all n q)
  conditions-back members ws ew el ec out s = let t = s.knows n p at in let X = Knows spinner s.left s.count s.counting in record {
    left = s.left;
    count = s.count;
    counting = s.counting;
    member = s.member;
    counted = λ c lo. ws c lo ∙ s.counted c lo;
    whole = s.whole;
    queued = s.queued;
    knows = each-set X X all n q record {
      counts = λ c. t.counts c ∙ (out c (s.count c) ∙ ap (λ w. counts_in w c (s.count c)) (sym ew));
      risen = λ c k hi. ap (λ w. counts_in w c k) ew;
      inside = λ c own. let o = t.inside c own in (el ∙ o.0, ec ∙ o.1);
      even = λ w is. absurd (some_none q.wait w ew is);
    } (λ j x ne at' u. u) s.knows;
  }

  -- the thread n, who has the bit of the mutex m now, holds it and waits no longer
  pub holders-take : (owner' holder : ℕ → Option ℕ) (m : ℕ) → owner' m ≡ some n → ((k : ℕ) → k ≢ m → owner' k ≡ owner k) → q.wait ≡ None → ((k : ℕ) → k ≢ m → waits_on p.wait k ≡ false) → Holders owner holder all → Holders owner' (put holder m (some n)) (set all n q)
  holders-take owner' holder m mine others ew apart h = record {
    free = λ k is. dite (ℕ_discrete k m)
        (λ e. absurd (some-ne-none n (sym mine ∙ (ap owner' (sym e) ∙ is))))
        (λ ne. put-else holder m k (some n) ne ∙ h.free k (sym (others k ne) ∙ is));
    holds = each-set (λ j r. (k : ℕ) → owner k ≡ some j → holder k ≡ cond (waits_on r.wait k) none (some j)) (λ j r. (k : ℕ) → owner' k ≡ some j → put holder m (some n) k ≡ cond (waits_on r.wait k) none (some j)) all n q
        (λ k is. let now : cond (waits_on q.wait k) none (some n) ≡ some n = ap (λ w. cond (waits_on w k) none (some n)) ew in dite (ℕ_discrete k m)
        (λ e. ap (put holder m (some n)) e ∙ (put-here holder m (some n) ∙ sym now))
        (λ ne. put-else holder m k (some n) ne ∙ (h.holds n p at k (sym (others k ne) ∙ is) ∙ (ap (λ b. cond b none (some n)) (apart k ne) ∙ sym now))))
        (λ j x ne at' u k is. dite (ℕ_discrete k m)
        (λ e. absurd (ne (some-injective j n (sym is ∙ (ap owner' e ∙ mine)))))
        (λ other. put-else holder m k (some n) other ∙ u k (sym (others k other) ∙ is))) h.holds;
    shut = each-set (λ j r. (k : ℕ) → owner k ≡ some j → open_on r.wait k ≡ false) (λ j r. (k : ℕ) → owner' k ≡ some j → open_on r.wait k ≡ false) all n q
        (λ k is. ap (λ w. open_on w k) ew)
        (λ j x ne at' u k is. dite (ℕ_discrete k m)
        (λ e. absurd (ne (some-injective j n (sym is ∙ (ap owner' e ∙ mine)))))
        (λ other. u k (sym (others k other) ∙ is))) h.shut;
  }

  -- the bit of the mutex m is nobody's, and nobody holds it
  holders-give : (holder holder' : ℕ → Option ℕ) (m : ℕ) → q.wait ≡ p.wait → holder' m ≡ none → ((k : ℕ) → k ≢ m → holder' k ≡ holder k) → Holders owner holder all → Holders (put owner m none) holder' (set all n q)
  holders-give holder holder' m ew here there h = let owner' = put owner m none in let gone : (j k : ℕ) → k ≡ m → owner' k ≡ some j → ⊥ = λ j k e is. some-ne-none j (sym is ∙ (ap owner' e ∙ put-here owner m none)) in record {
    free = λ k is. dite (ℕ_discrete k m) (λ e. ap holder' e ∙ here) (λ ne. there k ne ∙ h.free k (sym (put-else owner m k none ne) ∙ is));
    holds = each-set (λ j r. (k : ℕ) → owner k ≡ some j → holder k ≡ cond (waits_on r.wait k) none (some j)) (λ j r. (k : ℕ) → owner' k ≡ some j → holder' k ≡ cond (waits_on r.wait k) none (some j)) all n q
        (λ k is. dite (ℕ_discrete k m) (λ e. absurd (gone n k e is)) (λ ne. there k ne ∙ (h.holds n p at k (sym (put-else owner m k none ne) ∙ is) ∙ ap (λ w. cond (waits_on w k) none (some n)) (sym ew))))
        (λ j x ne at' u k is. dite (ℕ_discrete k m) (λ e. absurd (gone j k e is)) (λ other. there k other ∙ u k (sym (put-else owner m k none other) ∙ is))) h.holds;
    shut = each-set (λ j r. (k : ℕ) → owner k ≡ some j → open_on r.wait k ≡ false) (λ j r. (k : ℕ) → owner' k ≡ some j → open_on r.wait k ≡ false) all n q
        (λ k is. dite (ℕ_discrete k m) (λ e. absurd (gone n k e is)) (λ ne. ap (λ w. open_on w k) ew ∙ h.shut n p at k (sym (put-else owner m k none ne) ∙ is)))
        (λ j x ne at' u k is. dite (ℕ_discrete k m) (λ e. absurd (gone j k e is)) (λ other. u k (sym (put-else owner m k none other) ∙ is))) h.shut;
  }

  -- what the thread n has begun becomes another
  pub pendings-put : (pending pending' : ℕ → Pending) → pending' n ≡ pending_of q.wait → ((j : ℕ) → j ≢ n → pending' j ≡ pending j) → Pendings pending all → Pendings pending' (set all n q)
  pendings-put pending pending' mine others h = record {
    strangers = λ i past. let few = subst (λ (z : ℕ). z ≤ i) (length-set all n q) past in others i (λ e. let low = at_within all n p at in omega arith) ∙ h.strangers i few;
    pends = each-set (λ j r. pending j ≡ pending_of r.wait) (λ j r. pending' j ≡ pending_of r.wait) all n q mine (λ j x ne at' u. others j ne ∙ u) h.pends;
  }

-- the bit of the semaphore s is set or cleared, and with it the semaphore taken or made available
semaphores-set : (words words' : List ℕ) (avail : ℕ → Bool) (s : ℕ) (b : Bool) → ((i : ℕ) → i < 64 → i ≢ s → get_or words' (bit_at (sem_object i)) 0 ≡ get_or words (bit_at (sem_object i)) 0) → Says (get_or words' (bit_at (sem_object s)) 0) (cond b false true)
    → Semaphores words avail → Semaphores words' (put avail s b)
semaphores-set words words' avail s b bs now h i lo = dite (ℕ_discrete i s)
    (λ e. subst (λ (z : ℕ). Says (get_or words' (bit_at (sem_object z)) 0) (cond (put avail s b z) false true)) (sym e) (subst (λ (z : Bool). Says (get_or words' (bit_at (sem_object s)) 0) (cond z false true)) (sym (put-here avail s b)) now))
    (λ ne. subst (λ (z : ℕ × Bool). Says z.0 (cond z.1 false true)) (λ j. (sym (bs i lo ne) j, sym (put-else avail s i b ne) j)) (h i lo))

-- the alert word of the thread t is set or cleared, and with it the thread alerted or not
pub alerts-set : (words words' : List ℕ) (alerted : ℕ → Bool) (t : ℕ) (b : Bool) → ((i : ℕ) → i < most_threads → i ≢ t → get_or words' (alert_at i) 0 ≡ get_or words (alert_at i) 0) → Says (get_or words' (alert_at t) 0) b
    → Alerts words alerted → Alerts words' (put alerted t b)
alerts-set words words' alerted t b as' now h i lo = dite (ℕ_discrete i t)
    (λ e. subst (λ (z : ℕ). Says (get_or words' (alert_at z) 0) (put alerted t b z)) (sym e) (subst (λ (z : Bool). Says (get_or words' (alert_at t) 0) z) (sym (put-here alerted t b)) now))
    (λ ne. subst (λ (z : ℕ × Bool). Says z.0 z.1) (λ j. (sym (as' i lo ne) j, sym (put-else alerted t i b ne) j)) (h i lo))

module _ {T H : Type 0} (words words' : List ℕ) (ws : SameShown words words') (spinner : ℕ → Option ℕ) (queue : ℕ → List ℕ) (owner : ℕ → Option ℕ) (spec : Spec) (all : List (Part T H)) (n : ℕ) (p q : Part T H) (at : get_elem? all n ≡ some p) (ei : q.life ≡ p.life) where
  -- a step that changes at most the conditions, and no wait
  shows-but-conditions : (spinner' : ℕ → Option ℕ) (queue' : ℕ → List ℕ) → q.wait ≡ p.wait → Shows words spinner queue owner spec all → Conditions words' spinner' queue' spec.members (set all n q) → Shows words' spinner' queue' owner spec (set all n q)
  shows-but-conditions spinner' queue' ew s c = record {
    holders = holders-frame all n p q at owner spec.holder ew s.holders;
    pendings = pendings-frame all n p q at spec.pending ew s.pendings;
    semaphores = semaphores-frame spec.avail words words' ws.sems s.semaphores;
    alerts = alerts-frame spec.alerts words words' ws.alerts s.alerts;
    conditions = c;
    lives = lived-frame all n p q at spec.life ei s.lives;
  }

  pub shows-spin : (o : ℕ) → q.wait ≡ p.wait → q.left ≡ queue o → q.queue ≡ queue o → spinner o ≡ none → ((k : ℕ) → spinner k ≡ some n → ⊥)
      → (s : Shows words spinner queue owner spec all) → q.count ≡ s.conditions.count (o - 128) → Shows words' (put spinner o (some n)) queue owner spec (set all n q)
  shows-spin o ew el eq free idle s ec = shows-but-conditions (put spinner o (some n)) queue ew s (conditions-spin words words' spinner queue owner all n p q at spec.members o ws.counts ew el eq free idle s.conditions ec)

  pub shows-unspin : (o : ℕ) → q.wait ≡ p.wait → q.left ≡ q.queue → spinner o ≡ some n → ((k : ℕ) → spinner k ≡ some n → k ≡ o) → p.left ≡ queue o
      → Shows words spinner queue owner spec all → Shows words' (put spinner o none) queue owner spec (set all n q)
  shows-unspin o ew even own only back s = shows-but-conditions (put spinner o none) queue ew s (conditions-unspin words words' spinner queue owner all n p q at spec.members o ws.counts ew even own only back s.conditions)

  pub shows-gate : (o : ℕ) (ys : List ℕ) → o < 128 → q.wait ≡ p.wait → (p.left ≡ p.queue → q.left ≡ q.queue) → ((k : ℕ) → spinner k ≡ some n → k ≡ o)
      → Shows words spinner queue owner spec all → Shows words' spinner (put queue o ys) owner spec (set all n q)
  shows-gate o ys low ew even only s = shows-but-conditions spinner (put queue o ys) ew s (conditions-gate words words' spinner queue owner all n p q at spec.members o ys low ws.counts ew even only s.conditions)

  -- the thread n, which isn't in a condition, takes the mutex m, and waits no longer
  pub shows-wins : (m : ℕ) (f : ℕ → Pending) → q.wait ≡ None → q.left ≡ p.left → q.count ≡ p.count
      → ((k : ℕ) → k ≢ m → waits_on p.wait k ≡ false) → ((c k : ℕ) → counts_in p.wait c k ≡ false) → f n ≡ Nothing → ((j : ℕ) → j ≢ n → f j ≡ spec.pending j)
      → Shows words spinner queue owner spec all → Shows words' spinner queue (put owner m (some n)) (record spec { holder = put spec.holder m (some n); pending = f }) (set all n q)
  shows-wins m f ew el ec apart out mine others s = record {
    holders = holders-take words words' spinner queue owner all n p q at (put owner m (some n)) spec.holder m (put-here owner m (some n)) (λ k ne. put-else owner m k (some n) ne) ew apart s.holders;
    pendings = pendings-put words words' spinner queue owner all n p q at spec.pending f (mine ∙ ap pending_of (sym ew)) others s.pendings;
    semaphores = semaphores-frame spec.avail words words' ws.sems s.semaphores;
    alerts = alerts-frame spec.alerts words words' ws.alerts s.alerts;
    conditions = conditions-back words words' spinner queue owner all n p q at spec.members ws.counts ew el ec out s.conditions;
    lives = lived-frame all n p q at spec.life ei s.lives;
  }

  -- the thread n gives the mutex m back
  pub shows-clears : (m : ℕ) (h : ℕ → Option ℕ) → q.wait ≡ p.wait → q.left ≡ p.left → q.queue ≡ p.queue → q.count ≡ p.count → h m ≡ none → ((k : ℕ) → k ≢ m → h k ≡ spec.holder k)
      → Shows words spinner queue owner spec all → Shows words' spinner queue (put owner m none) (record spec { holder = h }) (set all n q)
  shows-clears m h ew el eq ec here there s = record {
    holders = holders-give words words' spinner queue owner all n p q at spec.holder h m ew here there s.holders;
    pendings = pendings-frame all n p q at spec.pending ew s.pendings;
    semaphores = semaphores-frame spec.avail words words' ws.sems s.semaphores;
    alerts = alerts-frame spec.alerts words words' ws.alerts s.alerts;
    conditions = conditions-frame all n p q at spinner queue spec.members words words' ws.counts ew el eq ec s.conditions;
    lives = lived-frame all n p q at spec.life ei s.lives;
  }

module _ {T H : Type 0} (words words' : List ℕ) (spinner : ℕ → Option ℕ) (queue : ℕ → List ℕ) (owner : ℕ → Option ℕ) (spec : Spec) (all : List (Part T H)) (n : ℕ) (p q : Part T H) (at : get_elem? all n ≡ some p) (ei : q.life ≡ p.life) where
  -- the bit of the semaphore s is set or cleared
  pub shows-sem : (s : ℕ) (b : Bool) → SameCounts words words' → ((i : ℕ) → i < 64 → i ≢ s → get_or words' (bit_at (sem_object i)) 0 ≡ get_or words (bit_at (sem_object i)) 0) → SameAlerts words words' → Says (get_or words' (bit_at (sem_object s)) 0) (cond b false true) → q.wait ≡ p.wait → q.left ≡ p.left → q.queue ≡ p.queue → q.count ≡ p.count
      → Shows words spinner queue owner spec all → Shows words' spinner queue owner (record spec { avail = put spec.avail s b }) (set all n q)
  shows-sem s b cs ss al now ew el eq ec h = record {
    holders = holders-frame all n p q at owner spec.holder ew h.holders;
    pendings = pendings-frame all n p q at spec.pending ew h.pendings;
    semaphores = semaphores-set words words' spec.avail s b ss now h.semaphores;
    alerts = alerts-frame spec.alerts words words' al h.alerts;
    conditions = conditions-frame all n p q at spinner queue spec.members words words' cs ew el eq ec h.conditions;
    lives = lived-frame all n p q at spec.life ei h.lives;
  }

  -- the alert word of the thread t is set or cleared
  pub shows-alert : (t : ℕ) (b : Bool) → SameCounts words words' → SameSems words words' → ((i : ℕ) → i < most_threads → i ≢ t → get_or words' (alert_at i) 0 ≡ get_or words (alert_at i) 0) → Says (get_or words' (alert_at t) 0) b → q.wait ≡ p.wait → q.left ≡ p.left → q.queue ≡ p.queue → q.count ≡ p.count
      → Shows words spinner queue owner spec all → Shows words' spinner queue owner (record spec { alerts = put spec.alerts t b }) (set all n q)
  shows-alert t b cs ss as' now ew el eq ec h = record {
    holders = holders-frame all n p q at owner spec.holder ew h.holders;
    pendings = pendings-frame all n p q at spec.pending ew h.pendings;
    semaphores = semaphores-frame spec.avail words words' ss h.semaphores;
    alerts = alerts-set words words' spec.alerts t b as' now h.alerts;
    conditions = conditions-frame all n p q at spinner queue spec.members words words' cs ew el eq ec h.conditions;
    lives = lived-frame all n p q at spec.life ei h.lives;
  }
