-- The steps on the begun waits of a condition keep the rule.
use Rattle.std.proofs.Common.{Bool, true, false, cond, ◌≡◌, ◌≢◌, ◌^◌, ◌%◌, ℕ, ◌+◌, ◌-◌, ◌<◌, ◌⊎◌, List, [], ◌++◌, length, get_or, set, refl, sym, ap, ◌∙◌, subst, inl, inr, ⊎_elim, arith, get_or-set_same, length-set, Some, None}
use Rattle.std.specs.Prelude.{Option as Opt}
use mathlib.Core.Logic.{dite}
use mathlib.Core.Option.{Option, some, none}
use native.Mathlib.Decide.{ℕ_discrete}
use lib.ListN.{get_elem?}
use lib.Seq.{set-get_or}
use Rattle.larch_actions.specs.declared.event.Event.{Event}
use Rattle.larch_actions.specs.declared.event.Action.{Action}
use Rattle.larch_actions.specs.declared.event.Layout.{Layout}
use Rattle.larch_actions.specs.Actions.{Acts, put}
use Rattle.larch_actions.specs.Layout.{IsNamed}
use Rattle.larch_actions.specs.Sets.{mem, in_set, set_of}
use Rattle.larch_actions.proofs.Sets.{in_set-of}
use Rattle.atomic_table.specs.Table.{Me, step, Allows, keeps}
use Rattle.larch_actions.specs.declared.event.Life.TheVariants.{Live}
use Rattle.nub_rule.specs.declared.rule.Slot.{Slot}
use Rattle.nub_rule.specs.declared.view.Part.{Part}
use Rattle.nub_rule.specs.declared.view.Wait.{Wait}
use Rattle.nub_rule.specs.declared.view.View.{View}
use Rattle.nub_rule.specs.declared.view.Kind.TheVariants.{Member}
use Rattle.nub_rule.specs.Begun.{BegunWaits}
use Rattle.nub_rule.specs.Items.{Core, Conditions, Knows}
use Rattle.nub_rule.specs.Parts.{MayRecord, counts_in, pending_of}
use Rattle.nub_rule.specs.Places.{life_at, bit_at, count_at, alert_at, waits_at, sem_object, cond_object}
use Rattle.nub_rule.specs.Plays.{Becomes, Grows, recorded, with_part, event, signal_action, broadcast_action, raise_waits_records, lower_waits_records, read_waits_records}
use Rattle.nub_rule.specs.Rule.{IsKept}
use Rattle.nub_rule.proofs.Each.{each-set, at_below, put-at, put-else}
use Rattle.nub_rule.proofs.Idle.{idle-live, idle-raised}
use Rattle.nub_rule.proofs.Members.{member_steps}
use Rattle.nub_rule.proofs.Frames.{lives-frame, lived-frame, lives-stay, SameCounts, other, bits-stay, spins-stay, ready-stay, shown-stay, pen-stay, spins-frame, lines-frame, shows-frame, pens-frame, holders-frame, pendings-frame, semaphores-frame, alerts-frame, alert-seen-frame, alert-seen-stays}
use Rattle.nub_rule.proofs.Lines.{some_none, not_true, both_ways, mem-tail_of, stand_some}
use Rattle.nub_rule.proofs.Beside.{beside}
use Rattle.nub_rule.proofs.Owing.{owes-frame}
use Rattle.nub_rule.proofs.Beginning.{raisers-few, raisers-some, begun-same, begun-raise, begun-lower, counts-some}
use Rattle.nub_rule.proofs.Stinting.{GivesNone, stinted-event}
use Rattle.nub_rule.proofs.Marking.{Aside, Learns, marks}

-- a step on the begun waits of a condition is aside of bits, queues, ready words and the pen
waits-aside : (c : ℕ) → c < 64 → Aside (waits_at (cond_object c))
waits-aside c low = record { bits = λ k up z. omega arith; spins = λ k up z. omega arith; lengths = λ k up z. omega arith; ready = λ k up z. omega arith; pen = λ z. omega arith; number = λ z. omega arith }

module _ {T H : Type 0} (words words' : List ℕ) (spinner : ℕ → Option ℕ) (queue : ℕ → List ℕ) (members : ℕ → ℕ → Bool) (all : List (Part T H)) (n : ℕ) (p q : Part T H) (at : get_elem? all n ≡ some p) (s : Conditions words spinner queue members all) where
  -- nobody is in the condition c, and it is made empty
  conditions-quiet : (c : ℕ) (f : ℕ → Bool) → SameCounts words words' → q.wait ≡ p.wait → q.left ≡ p.left → q.queue ≡ p.queue → q.count ≡ p.count → ((t : ℕ) → f t ≡ false) → ((t : ℕ) → mem t (s.left c) ≡ false)
      → ((j : ℕ) (r : Part T H) → get_elem? all j ≡ some r → (k : ℕ) → counts_in r.wait c k ≡ false) → Conditions words' spinner queue (put members c f) (set all n q)
  conditions-quiet c f ws ew el eq ec none_f none_left none_counts = let t = s.knows n p at in let counting' = put s.counting c (λ _. false) in record {
    left = s.left;
    count = s.count;
    counting = counting';
    member = λ i j. dite (ℕ_discrete i c)
        (λ e. (λ x. put-at members c f i e x j) ∙ (none_f j ∙ sym ((λ x. cond (mem j (s.left (e x))) true (put-at s.counting c (λ _. false) i e x j)) ∙ ap (λ b. cond b true false) (none_left j))))
        (λ ne. (λ x. put-else members c i f ne x j) ∙ (s.member i j ∙ λ x. cond (mem j (s.left i)) true (sym (put-else s.counting c i (λ _. false) ne) x j)));
    counted = λ i lo. ws i lo ∙ s.counted i lo;
    whole = s.whole;
    queued = s.queued;
    knows = each-set (Knows spinner s.left s.count s.counting) (Knows spinner s.left s.count counting') all n q record {
      counts = λ i. dite (ℕ_discrete i c)
          (λ e. (λ x. put-at s.counting c (λ _. false) i e x n) ∙ (sym (none_counts n p at (s.count i)) ∙ ((λ x. counts_in p.wait (sym e x) (s.count i)) ∙ ap (λ w. counts_in w i (s.count i)) (sym ew))))
          (λ ne. (λ x. put-else s.counting c i (λ _. false) ne x n) ∙ (t.counts i ∙ ap (λ w. counts_in w i (s.count i)) (sym ew)));
      risen = λ i k hi. ap (λ w. counts_in w i k) ew ∙ t.risen i k hi;
      inside = λ i has. let o = t.inside i has in (el ∙ o.0, ec ∙ o.1);
      even = λ w is. el ∙ (t.even w (sym ew ∙ is) ∙ sym eq);
    } (λ j x ne at' u. record {
      counts = λ i. dite (ℕ_discrete i c)
          (λ e. (λ y. put-at s.counting c (λ _. false) i e y j) ∙ (sym (none_counts j x at' (s.count i)) ∙ λ y. counts_in x.wait (sym e y) (s.count i)))
          (λ other. (λ y. put-else s.counting c i (λ _. false) other y j) ∙ u.counts i);
      risen = u.risen;
      inside = u.inside;
      even = u.even;
    }) s.knows;
  }

module _ {T H W : Type 0} (l : Layout) (traced : Bool) (w : W) (begin : W → ℕ → H) (holds : W → List T → List H → Type 0) where
  -- a step on the begun waits of c that changes of the view only which it raised, and what is under way
  recounts : (n c x : ℕ) (p : Part T H) (raised calling : Opt ℕ) (words : List ℕ) (homes : List (Option (Slot T))) (all : List (Part T H)) → get_elem? all n ≡ some p → c < 64 → (k : Core l traced w holds words homes all)
      → BegunWaits (set words (waits_at (cond_object c)) x) (set all n (record p { raised = raised; calling = calling })) → Core l traced w holds (set words (waits_at (cond_object c)) x) homes (set all n (record p { raised = raised; calling = calling }))
  recounts n c x p raised calling words homes all at low k begun = let i : ℕ = waits_at (cond_object c) in let q : Part T H = record p { raised = raised; calling = calling } in let words' : List ℕ = set words i x in
      beside l traced w holds words words' homes homes all n p q at (length-set words i x) refl (bits-stay words i x (λ j up z. omega arith)) (lives-stay words i x (λ j up z. omega arith)) (λ m. refl) record { version = refl; life = refl; seen = refl; mine = refl; places = refl; held = refl; share = refl; stints = refl; closing = λ m. refl } k.spinner k.writer k.queue k.owed k
      (spins-frame all n p q at k.spinner k.queue k.owed words words' homes homes (spins-stay words i x (λ j up z. omega arith) (λ j up z. omega arith)) (λ o lo. refl) refl refl refl k.spins)
      (lines-frame all n p q at (λ o. k.owed o ++ k.queue o) words words' k.sizes.few (ready-stay words i x (λ j up z. omega arith)) refl k.lines)
      (shows-frame all n p q at k.spinner k.queue k.owner k.spec words words' (shown-stay words i x (λ j up z. omega arith) (λ j up z. omega arith) (λ j up z. omega arith)) refl refl refl refl refl k.shows)
      (pens-frame all n p q at traced (length k.log) k.writer words words' (pen-stay words i x (λ z. omega arith) (λ z. omega arith)) refl k.pens)
      (alert-seen-stays all n p q at words i x k.sizes.few (λ j up z. omega arith) refl k.alert_seen)
      (owes-frame k.queue words words' all n p q at (λ j lo. other words i (bit_at j) x (λ z. omega arith)) refl refl refl k.owes)
      begun

  raise_waits_at : (slots id c : ℕ) (me : Me (Slot T) (View T H W)) → c < 64 → me.0.kind ≡ Member → me.0.part.life ≡ Live → me.0.part.raised ≡ None
      → Allows (IsKept l traced w begin holds) slots id me (waits_at (cond_object c)) (λ x. (x + 1) % 2 ^ 64) (raise_waits_records (step slots (waits_at (cond_object c)) 1 0 none) me)
  raise_waits_at slots id c me low kind live out = let v = me.0 in let n = v.number in let p = v.part in let i : ℕ = waits_at (cond_object c) in let q : Part T H = record p { raised = Some c } in
      member_steps l traced w begin holds slots id i (λ x. (x + 1) % 2 ^ 64) v me.1 (λ r s ds. (s ≡ q) × (ds ≡ me.1)) (raise_waits_records (step slots i 1 0 none) me) kind
      (λ r s ds t. idle-live p s v.child live (ap (λ (z : Part T H). z.life) t.0))
      (λ r s ds world t d is. let e : c ≡ d = omega arith in (λ j. (with_part v (t.0 j), t.1 j)) ∙ (λ j. (with_part v (record p { raised = Some (e j) }), me.1)))
      (λ words homes all k at small.
      let r : ℕ = get_or words i 0 in
      let x : ℕ = (r + 1) % 2 ^ 64 in
      let few = raisers-few c all in
      let so = k.begun.counted c low in
      let size = k.sizes.few in
      let wide = k.sizes.words_wide in
      let up : x ≡ r + 1 = omega arith in (
        q,
        keeps,
        tt,
        recounts n c x p (Some c) p.calling words homes all at low k (begun-raise words (set words i x) all n p q at c (λ j lo ne. other words i (waits_at (cond_object j)) x (λ z. ne (omega arith))) (get_or-set_same words i x 0 (omega arith) ∙ up) out refl refl refl k.begun),
        (refl, refl),
      ))

  -- the same at a word that is this place
  pub raise_waits_keeps : (slots id c : ℕ) (me : Me (Slot T) (View T H W)) (i : ℕ) → i ≡ waits_at (cond_object c) → c < 64 → me.0.kind ≡ Member → me.0.part.life ≡ Live → me.0.part.raised ≡ None
      → Allows (IsKept l traced w begin holds) slots id me i (λ x. (x + 1) % 2 ^ 64) (raise_waits_records (step slots i 1 0 none) me)
  raise_waits_keeps slots id c me i word low kind live out = subst (λ (i : ℕ). Allows (IsKept l traced w begin holds) slots id me i (λ x. (x + 1) % 2 ^ 64) (raise_waits_records (step slots i 1 0 none) me)) (sym word) (raise_waits_at slots id c me low kind live out)

  lower_waits_at : (slots id c : ℕ) (me : Me (Slot T) (View T H W)) → c < 64 → me.0.kind ≡ Member → me.0.part.raised ≡ Some c → ((x : Wait) → me.0.part.wait ≡ Some x → x.member ≡ None) → me.0.part.stand ≡ None
      → Allows (IsKept l traced w begin holds) slots id me (waits_at (cond_object c)) (λ x. (x + (2 ^ 64 - 1)) % 2 ^ 64) (lower_waits_records (step slots (waits_at (cond_object c)) 1 0 none) me)
  lower_waits_at slots id c me low kind has out nowhere = let v = me.0 in let n = v.number in let p = v.part in let i : ℕ = waits_at (cond_object c) in let q : Part T H = record p { raised = None } in
      member_steps l traced w begin holds slots id i (λ x. (x + (2 ^ 64 - 1)) % 2 ^ 64) v me.1 (λ r s ds. (s ≡ q) × (ds ≡ me.1)) (lower_waits_records (step slots i 1 0 none) me) kind
      (λ r s ds t. idle-raised p s v.child c has (ap (λ (z : Part T H). z.life) t.0))
      (λ r s ds world t j. (with_part v (t.0 j), t.1 j))
      (λ words homes all k at small.
      let r : ℕ = get_or words i 0 in
      let x : ℕ = (r + (2 ^ 64 - 1)) % 2 ^ 64 in
      let few = raisers-few c all in
      let some_there = raisers-some c all n p at has in
      let so = k.begun.counted c low in
      let size = k.sizes.few in
      let wide = k.sizes.words_wide in
      let down : x + 1 ≡ r = omega arith in (
        q,
        keeps,
        tt,
        recounts n c x p None p.calling words homes all at low k (begun-lower words (set words i x) all n p q at c (λ j lo ne. other words i (waits_at (cond_object j)) x (λ z. ne (omega arith))) (ap (λ (z : ℕ). z + 1) (get_or-set_same words i x 0 (omega arith)) ∙ down) has refl (λ y j is stood. some_none y.member j (out y is) stood) nowhere k.begun),
        (refl, refl),
      ))

  -- the same at a word that is this place
  pub lower_waits_keeps : (slots id c : ℕ) (me : Me (Slot T) (View T H W)) (i : ℕ) → i ≡ waits_at (cond_object c) → c < 64 → me.0.kind ≡ Member → me.0.part.raised ≡ Some c → ((x : Wait) → me.0.part.wait ≡ Some x → x.member ≡ None) → me.0.part.stand ≡ None
      → Allows (IsKept l traced w begin holds) slots id me i (λ x. (x + (2 ^ 64 - 1)) % 2 ^ 64) (lower_waits_records (step slots i 1 0 none) me)
  lower_waits_keeps slots id c me i word low kind has out nowhere = subst (λ (i : ℕ). Allows (IsKept l traced w begin holds) slots id me i (λ x. (x + (2 ^ 64 - 1)) % 2 ^ 64) (lower_waits_records (step slots i 1 0 none) me)) (sym word) (lower_waits_at slots id c me low kind has out nowhere)

  -- where the begun waits of c are 0, nobody has raised them, nobody is left in its queue, and nobody is in it by a count
  module _ (c : ℕ) (words : List ℕ) (homes : List (Option (Slot T))) (all : List (Part T H)) (k : Core l traced w holds words homes all) (low : c < 64) (zero : get_or words (waits_at (cond_object c)) 0 ≡ 0) where
    nobody-raised : (n : ℕ) (p : Part T H) → get_elem? all n ≡ some p → p.raised ≡ Some c → ⊥
    nobody-raised n p at is = let a = raisers-some c all n p at is in let b = k.begun.counted c low in absurd (omega arith)

    nobody-left : (t : ℕ) → mem t (k.shows.conditions.left c) ≡ false
    nobody-left t = let o : ℕ = cond_object c in k.shows.conditions.queued c t (not_true (mem t (k.queue o)) (λ there.
        let lined = mem-tail_of t (k.owed o) (k.queue o) there in
        let v = at_below all t (k.lines.people o t lined) in
        let st = stand_some v.0.stand o ((k.lines.stands t v.0 v.1).lined o lined).0 in
        nobody-raised t v.0 v.1 ((k.begun.covered t v.0 v.1).stander st.0 c st.1 st.2).0))

    nobody-counts : (j : ℕ) (r : Part T H) → get_elem? all j ≡ some r → (i : ℕ) → counts_in r.wait c i ≡ false
    nobody-counts j r at i = not_true (counts_in r.wait c i) (λ is. let u = counts-some r.wait c i is in nobody-raised j r at ((k.begun.covered j r at).member u.0 i u.1 u.3 ∙ ap (λ (z : ℕ). Some z) u.2))

  read_waits_at : (action : ℕ → List ℕ → Action) (f : ℕ → Bool) (slots id c : ℕ) (me : Me (Slot T) (View T H W)) → c < 64 → me.0.kind ≡ Member → me.0.part.wait ≡ None → MayRecord traced me.0.part.life me.0.part.pen → GivesNone (action c []) → ((t : ℕ) → f t ≡ false)
      → ((words : List ℕ) (homes : List (Option (Slot T))) (all : List (Part T H)) (k : Core l traced w holds words homes all) → get_elem? all me.0.number ≡ some me.0.part → IsNamed l (action c []) × Acts k.spec (event me.0.number (action c [])) (record k.spec { members = put k.spec.members c f }))
      → (i : ℕ) → i ≡ waits_at (cond_object c) → Allows (IsKept l traced w begin holds) slots id me i (λ x. x) (read_waits_records action (step slots i 0 0 none) me)
  read_waits_at action f slots id c me low kind out may none_given none_f acts i word = let v = me.0 in let n = v.number in let p = v.part in let o : ℕ = waits_at (cond_object c) in let e = event n (action c []) in
      subst (λ (i : ℕ). Allows (IsKept l traced w begin holds) slots id me i (λ x. x) (read_waits_records action (step slots i 0 0 none) me)) (sym word)
      (member_steps l traced w begin holds slots id o (λ x. x) v me.1
      (λ r q ds. ((r ≡ 0) × Learns e n p (λ z. recorded p z e) q × (ds ≡ me.1)) ⊎ ((r ≢ 0) × (q ≡ record p { calling = Some c }) × (ds ≡ me.1))) (read_waits_records action (step slots o 0 0 none) me) kind
      (λ r q ds t. idle-live p q v.child may.0 (⊎_elim (λ (u : (r ≡ 0) × Learns e n p (λ z. recorded p z e) q × (ds ≡ me.1)). ap (λ (z : Part T H). z.life) u.1.2) (λ (u : (r ≢ 0) × (q ≡ record p { calling = Some c }) × (ds ≡ me.1)). ap (λ (z : Part T H). z.life) u.1) t))
      (λ r q ds world t d is. let same : c ≡ d = omega arith in
      subst (λ (d : ℕ). (r ≡ 0 → (between : List Event) × Grows n p between (event n (action d [])) × Becomes me (recorded p (p.seen ++ between) (event n (action d []))) (with_part v q, ds)) × (r ≢ 0 → Becomes me (record p { calling = Some d }) (with_part v q, ds))) same
      (⊎_elim
      (λ (u : (r ≡ 0) × Learns e n p (λ z. recorded p z e) q × (ds ≡ me.1)). ((λ _. (u.1.0, u.1.1, λ j. (with_part v (u.1.2 j), u.2 j))), λ miss. absurd (miss u.0)))
      (λ (u : (r ≢ 0) × (q ≡ record p { calling = Some c }) × (ds ≡ me.1)). ((λ hit. absurd (u.0 hit)), λ _ j. (with_part v (u.1 j), u.2 j))) t))
      (λ words homes all k at small.
      let r : ℕ = get_or words o 0 in
      let words' : List ℕ = set words o r in
      let stay : (j : ℕ) → get_or words' j 0 ≡ get_or words j 0 = λ j. ap (λ (z : List ℕ). get_or z j 0) (set-get_or words o 0) in dite (ℕ_discrete r 0)
      (λ hit.
      let done = marks l traced w holds e n o r p (λ z. recorded p z e) words homes all k (record k.spec { members = put k.spec.members c f }) at refl (acts words homes all k at).0 may (waits-aside c low)
      (λ z. record { version = refl; seen = refl; mine = refl; places = refl; held = refl; share = refl; spin = refl; queue = refl; owed = refl; stand = refl; pen = refl })
      (acts words homes all k at).1
      (λ z. record {
        holders = holders-frame all n p (recorded p z e) at k.owner k.spec.holder refl k.shows.holders;
        pendings = pendings-frame all n p (recorded p z e) at k.spec.pending refl k.shows.pendings;
        semaphores = semaphores-frame k.spec.avail words words' (λ j lo. stay (bit_at (sem_object j))) k.shows.semaphores;
        alerts = alerts-frame k.spec.alerts words words' (λ j lo. stay (alert_at j)) k.shows.alerts;
        conditions = conditions-quiet words words' k.spinner k.queue k.spec.members all n p (recorded p z e) at k.shows.conditions c f (λ j lo. stay (count_at (cond_object j))) refl refl refl refl none_f (nobody-left c words homes all k low hit) (nobody-counts c words homes all k low hit);
        lives = lived-frame all n p (recorded p z e) at k.spec.life refl k.shows.lives;
      })
      (λ z. alert-seen-frame all n p (recorded p z e) at words words' k.sizes.few (λ j lo. stay (alert_at j)) refl k.alert_seen)
      (λ z. lives-frame all n p (recorded p z e) at words words' k.sizes.few (λ j lo. stay (life_at j)) refl k.lives)
      (λ z. owes-frame k.queue words words' all n p (recorded p z e) at (λ j lo. stay (bit_at j)) refl refl refl k.owes)
      (λ z. begun-same words words' all n p (recorded p z e) at (λ j lo. stay (waits_at (cond_object j))) refl refl refl k.begun)
      (λ z. stinted-event all n p (recorded p z e) at e none_given refl (λ m. refl) k.stinted) in
      (done.0, keeps, tt, done.1, inl (hit, done.2, refl)))
      (λ miss. (
        record p { calling = Some c },
        keeps,
        tt,
        recounts n c r p p.raised (Some c) words homes all at low k (begun-same words words' all n p (record p { calling = Some c }) at (λ j lo. stay (waits_at (cond_object j))) refl refl refl k.begun),
        inr (miss, refl, refl),
      ))))

  pub read_waits_broadcast_keeps : (slots id c : ℕ) (me : Me (Slot T) (View T H W)) (i : ℕ) → i ≡ waits_at (cond_object c) → c < 64 → c < l.conditions → me.0.kind ≡ Member → me.0.part.wait ≡ None → MayRecord traced me.0.part.life me.0.part.pen
      → Allows (IsKept l traced w begin holds) slots id me i (λ x. x) (read_waits_records broadcast_action (step slots i 0 0 none) me)
  read_waits_broadcast_keeps slots id c me i word low named kind out may = read_waits_at broadcast_action (λ _. false) slots id c me low kind out may (λ m. refl) (λ t. refl)
      (λ words homes all k at. (named, (record { live = k.shows.lives me.0.number me.0.part at ∙ may.0; order = k.shows.pendings.pends me.0.number me.0.part at ∙ ap pending_of out; requires_met = tt; when_met = tt; choice_met = tt }, refl))) i word

  pub read_waits_signal_keeps : (slots id c : ℕ) (me : Me (Slot T) (View T H W)) (i : ℕ) → i ≡ waits_at (cond_object c) → c < 64 → c < l.conditions → me.0.kind ≡ Member → me.0.part.wait ≡ None → MayRecord traced me.0.part.life me.0.part.pen
      → Allows (IsKept l traced w begin holds) slots id me i (λ x. x) (read_waits_records signal_action (step slots i 0 0 none) me)
  read_waits_signal_keeps slots id c me i word low named kind out may = read_waits_at signal_action (in_set (set_of [])) slots id c me low kind out may (λ m. refl) (λ t. in_set-of t [])
      (λ words homes all k at. ((named, λ t is. both_ways (in_set (set_of []) t) is (in_set-of t [])), (record { live = k.shows.lives me.0.number me.0.part at ∙ may.0; order = k.shows.pendings.pends me.0.number me.0.part at ∙ ap pending_of out; requires_met = tt; when_met = tt; choice_met = inl (λ t. in_set-of t []) }, refl))) i word
