-- The own end and the reading of a life word keep the rule.
use Rattle.std.proofs.Common.{Bool, ◌≡◌, ◌≢◌, ℕ, suc, ◌<◌, ◌≤◌, ◌⊎◌, List, [], ◌∷◌, ◌++◌, length, get_or, set, refl, sym, ap, ◌∙◌, subst, inl, inr, ⊎_elim, arith, get_or-set_same, None}
use mathlib.Core.Logic.{dite}
use mathlib.Core.Option.{Option, some, none, some-ne-none}
use native.Mathlib.Decide.{ℕ_discrete}
use lib.ListN.{get_elem?}
use lib.Seq.{set-get_or}
use Rattle.larch_actions.specs.declared.event.Action.{Action}
use Rattle.larch_actions.specs.declared.event.Action.TheVariants.{Fork, End}
use Rattle.larch_actions.specs.declared.event.Event.{Event}
use Rattle.larch_actions.specs.declared.event.Layout.{Layout}
use Rattle.larch_actions.specs.declared.event.Life.{Life}
use Rattle.larch_actions.specs.declared.event.Life.TheVariants.{Unborn, Live, Ended}
use Rattle.larch_actions.specs.declared.event.Pending.TheVariants.{Nothing}
use Rattle.larch_actions.specs.declared.event.Version.{Version}
use Rattle.larch_actions.specs.declared.event.Version.TheVariants.{One, Two}
use Rattle.larch_actions.specs.Actions.{Spec, Leads, acted, at_first, lives_at_first, put}
use Rattle.larch_actions.specs.Layout.{IsNamed}
use Rattle.atomic_table.specs.Table.{Me, step, Allows, keeps}
use Rattle.nub_rule.specs.declared.rule.Slot.{Slot}
use Rattle.nub_rule.specs.declared.view.Part.{Part}
use Rattle.nub_rule.specs.declared.view.View.{View}
use Rattle.nub_rule.specs.declared.view.Child.TheVariants.{No as Childless}
use Rattle.nub_rule.specs.declared.view.Kind.TheVariants.{Member}
use Rattle.nub_rule.specs.Items.{Each, Lives, Shows, Core}
use Rattle.nub_rule.specs.Parts.{Got, HasNothing, MayRecord, number_of, pending_of, waits_on}
use Rattle.nub_rule.specs.Places.{most_threads, alert_at, bit_at, count_at, life_at, cond_object, sem_object, waits_at}
use Rattle.nub_rule.specs.Plays.{Becomes, Grows, recorded, with_part, end_event, join_event, end_life_records, read_life_records}
use Rattle.nub_rule.specs.Rule.{IsKept}
use Rattle.nub_rule.proofs.Apart.{thread-of}
use Rattle.nub_rule.proofs.Each.{at_below, at_within, each-set, put-here, put-else, same_at}
use Rattle.nub_rule.proofs.Idle.{idle-ended, idle-live}
use Rattle.nub_rule.proofs.Members.{Steps, member_steps}
use Rattle.nub_rule.proofs.Frames.{SameShown, other, alert-seen-frame, alert-seen-stays, alerts-frame, conditions-frame, holders-frame, lives-frame, pendings-frame, semaphores-frame, shown-stay, shows-frame}
use Rattle.nub_rule.proofs.Beside.{idle}
use Rattle.nub_rule.proofs.Beginning.{waits-stay, begun-same}
use Rattle.nub_rule.proofs.Stinting.{stinted-event}
use Rattle.nub_rule.proofs.Law.{whose, holder-of}
use Rattle.nub_rule.proofs.Marking.{Aside, Learns, marks}
use Rattle.nub_rule.proofs.Owing.{owes-frame}

pub life-aside : (t : ℕ) → t < most_threads → Aside (life_at t)
life-aside t low = record { bits = λ k up z. omega arith; spins = λ k up z. omega arith; lengths = λ k up z. omega arith; ready = λ k up z. omega arith; pen = λ z. omega arith; number = λ z. omega arith }

-- no life changes in version one
life-stays : (l : Layout) (t : ℕ) (s : Spec) (a : Action) → l.version ≡ One → IsNamed l a → (acted t s a).life ≡ s.life
life-stays l t s (Fork who) one named = absurd (let z : One ≡ Two = sym one ∙ named.0 in cc)
life-stays l t s End one named = absurd (let z : One ≡ Two = sym one ∙ named.0 in cc)
life-stays l t s _ one named = refl

lives-stay-on : (l : Layout) (s t : Spec) (es : List Event) → l.version ≡ One → Each (λ i e. IsNamed l e.action) es → Leads s es t → t.life ≡ s.life
lives-stay-on l s t [] one named is = ap (λ (z : Spec). z.life) (sym is)
lives-stay-on l s t (e ∷ es) one named is = lives-stay-on l is.0 t es one (λ i f at. named (suc i) f at) is.2 ∙ (ap (λ (z : Spec). z.life) is.1.1 ∙ life-stays l e.thread.0 s e.action one (named 0 e refl))

ended-of : (x : Life) → number_of x ≡ 2 → x ≡ Ended
ended-of Unborn e = absurd (omega arith)
ended-of Live e = absurd (omega arith)
ended-of Ended e = refl

module _ {T H : Type 0} (words : List ℕ) (x : ℕ) (all : List (Part T H)) (n : ℕ) (p q : Part T H) (at : get_elem? all n ≡ some p) where
  -- the life word of the thread n, and its life, become others
  pub lives-own : length all ≤ most_threads → get_or (set words (life_at n) x) (life_at n) 0 ≡ number_of q.life → Lives words all → Lives (set words (life_at n) x) (set all n q)
  lives-own few now h = let low : n < most_threads = let z = at_within all n p at in omega arith in let X : List ℕ → ℕ → Part T H → Type 0 = λ ws k r. get_or ws (life_at k) 0 ≡ number_of r.life in
      each-set (X words) (X (set words (life_at n) x)) all n q now (λ k r ne at' u. other words (life_at n) (life_at k) x (λ z. ne (thread-of k n (let y = at_within all k r at' in omega arith) low (omega arith))) ∙ u) h

module _ {T H : Type 0} (words words' : List ℕ) (ws : SameShown words words') (spinner : ℕ → Option ℕ) (queue : ℕ → List ℕ) (owner : ℕ → Option ℕ) (spec : Spec) (all : List (Part T H)) (n : ℕ) (p q : Part T H) (at : get_elem? all n ≡ some p) where
  -- the life of the thread n, and no other, becomes that of its view
  pub shows-life : q.wait ≡ p.wait → q.left ≡ p.left → q.queue ≡ p.queue → q.count ≡ p.count → Shows words spinner queue owner spec all → Shows words' spinner queue owner (record spec { life = put spec.life n q.life }) (set all n q)
  shows-life ew el eq ec s = record {
    holders = holders-frame all n p q at owner spec.holder ew s.holders;
    pendings = pendings-frame all n p q at spec.pending ew s.pendings;
    semaphores = semaphores-frame spec.avail words words' ws.sems s.semaphores;
    alerts = alerts-frame spec.alerts words words' ws.alerts s.alerts;
    conditions = conditions-frame all n p q at spinner queue spec.members words words' ws.counts ew el eq ec s.conditions;
    lives = each-set (λ j r. spec.life j ≡ r.life) (λ j r. put spec.life n q.life j ≡ r.life) all n q (put-here spec.life n q.life) (λ j r ne at' u. put-else spec.life n j q.life ne ∙ u) s.lives;
  }

module _ {T H W : Type 0} (l : Layout) (traced : Bool) (w : W) (holds : W → List T → List H → Type 0) (words : List ℕ) (homes : List (Option (Slot T))) (all : List (Part T H)) (c : Core l traced w holds words homes all) where
  -- whoever doesn't live shows the version
  pub two-of : (t : ℕ) → c.spec.life t ≢ Live → l.version ≡ Two
  two-of t out = by l.version refl
    where
      by : (v : Version) → l.version ≡ v → l.version ≡ Two
      by One e = absurd (out (ap (λ (f : ℕ → Life). f t) (lives-stay-on l (at_first l.version) c.spec c.log e c.recorded.names c.run) ∙ ap (λ (v : Version). lives_at_first v t) e))
      by Two e = e

  -- who has no mutex holds none
  pub unheld : (n : ℕ) (p : Part T H) → get_elem? all n ≡ some p → ((m : ℕ) (x : T) → ¬ Got p m x) → (m : ℕ) → c.spec.holder m ≢ some n
  unheld n p at lacks m is = whose (c.owner m)
      (λ free. some-ne-none n (sym is ∙ c.shows.holders.free m free))
      (λ k own. let v = at_below all k (c.owned.within m k own).1 in let h = holder-of (waits_on v.0.wait m) k n (c.spec.holder m) (c.shows.holders.holds k v.0 v.1 m own) is in let has = (c.owned.standing k v.0 v.1 m).1 own in
      let same : p ≡ v.0 = same_at all n p v.0 at (ap (get_elem? all) (sym h.1) ∙ v.1) in lacks m has.0 (ap (λ (z : Part T H). get_elem? z.held m) same ∙ has.1))

module _ {T H W : Type 0} (l : Layout) (traced : Bool) (w : W) (begin : W → ℕ → H) (holds : W → List T → List H → Type 0) where
  -- the view after the end
  abbrev ended : ℕ → Part T H → List Event → Part T H
  ended n p z = record (recorded p z (end_event n)) { life = Ended }

  ends_at : (n : ℕ) (p : Part T H) (cs : List (ℕ × Slot T)) → l.version ≡ Two → ((m : ℕ) (x : T) → ¬ Got p m x) → p.wait ≡ None → MayRecord traced p.life p.pen
      → Steps l traced w begin holds n (life_at n) (λ _. 2) p cs (λ r q ds. Learns (end_event n) n p (ended n p) q × (ds ≡ cs))
  ends_at n p cs two lacks out may words homes all k at small =
      let i : ℕ = life_at n in
      let e = end_event n in
      let words' : List ℕ = set words i 2 in
      let few = k.sizes.few in
      let wide = k.sizes.words_wide in
      let inside = at_within all n p at in
      let low : n < most_threads = omega arith in
      let idle_now : k.spec.pending n ≡ Nothing = k.shows.pendings.pends n p at ∙ ap pending_of out in
      let done = marks l traced w holds e n i 2 p (ended n p) words homes all k (record k.spec { life = put k.spec.life n Ended }) at refl (two, tt) may (life-aside n low)
      (λ z. record { version = refl; seen = refl; mine = refl; places = refl; held = refl; share = refl; spin = refl; queue = refl; owed = refl; stand = refl; pen = refl })
      (record { live = k.shows.lives n p at ∙ may.0; order = idle_now; requires_met = unheld l traced w holds words homes all k n p at lacks; when_met = tt; choice_met = tt }, refl)
      (λ z. shows-life words words' (shown-stay words i 2 (λ j up f. omega arith) (λ j up f. omega arith) (λ j up f. omega arith)) k.spinner k.queue k.owner k.spec all n p (ended n p z) at refl refl refl refl k.shows)
      (λ z. alert-seen-stays all n p (ended n p z) at words i 2 few (λ j up f. omega arith) refl k.alert_seen)
      (λ z. lives-own words 2 all n p (ended n p z) at few (get_or-set_same words i 2 0 (omega arith)) k.lives)
      (λ z. owes-frame k.queue words words' all n p (ended n p z) at (λ j lo. other words i (bit_at j) 2 (λ f. omega arith)) refl refl refl k.owes)
      (λ z. begun-same words words' all n p (ended n p z) at (waits-stay words i 2 (λ j lo f. omega arith)) refl refl refl k.begun)
      (λ z. stinted-event all n p (ended n p z) at e (λ m. refl) refl (λ m. refl) k.stinted) in
      (done.0, keeps, tt, done.1, (done.2, refl))

  end_life_at : (slots id : ℕ) (me : Me (Slot T) (View T H W)) → l.version ≡ Two → me.0.kind ≡ Member → HasNothing me.0.part → me.0.child ≡ Childless → MayRecord traced me.0.part.life me.0.part.pen
      → Allows (IsKept l traced w begin holds) slots id me (life_at me.0.number) (λ _. 2) (λ _. end_life_records (step slots (life_at me.0.number) 2 0 none) me 2)
  end_life_at slots id me two kind nothing alone may = let v = me.0 in let n = v.number in let p = v.part in
      member_steps l traced w begin holds slots id (life_at n) (λ _. 2) v me.1 (λ r q ds. Learns (end_event n) n p (ended n p) q × (ds ≡ me.1)) (λ _. end_life_records (step slots (life_at n) 2 0 none) me 2) kind
      (λ r q ds u _. idle-ended p q v.child (p.seen ++ u.0.0) (end_event n) u.0.2 nothing alone)
      (λ r q ds world u. (u.0.0, u.0.1, λ j. (with_part v (u.0.2 j), u.1 j)))
      (ends_at n p me.1 two nothing.none nothing.wait may)

  -- the same at a word that is this place
  pub end_life_keeps : (slots id : ℕ) (me : Me (Slot T) (View T H W)) (i : ℕ) → i ≡ life_at me.0.number → l.version ≡ Two → me.0.kind ≡ Member → HasNothing me.0.part → me.0.child ≡ Childless → MayRecord traced me.0.part.life me.0.part.pen
      → Allows (IsKept l traced w begin holds) slots id me i (λ _. 2) (λ _. end_life_records (step slots i 2 0 none) me 2)
  end_life_keeps slots id me i word two kind nothing alone may = subst (λ (i : ℕ). Allows (IsKept l traced w begin holds) slots id me i (λ _. 2) (λ _. end_life_records (step slots i 2 0 none) me 2)) (sym word) (end_life_at slots id me two kind nothing alone may)

  reads_at : (n t : ℕ) (p : Part T H) (cs : List (ℕ × Slot T)) → t < l.threads → p.wait ≡ None → MayRecord traced p.life p.pen
      → Steps l traced w begin holds n (life_at t) (λ x. x) p cs (λ r q ds. ((r ≡ 2) × Learns (join_event n t) n p (λ z. recorded p z (join_event n t)) q × (ds ≡ cs)) ⊎ ((r ≢ 2) × (q ≡ p) × (ds ≡ cs)))
  reads_at n t p cs named out may words homes all k at small =
      let i : ℕ = life_at t in
      let r : ℕ = get_or words i 0 in
      let e = join_event n t in
      let words' : List ℕ = set words i r in
      let few = k.sizes.few in
      let many = k.sizes.count in
      let low : t < most_threads = omega arith in
      let stay : (j : ℕ) → get_or words' j 0 ≡ get_or words j 0 = λ j. ap (λ (z : List ℕ). get_or z j 0) (set-get_or words i 0) in
      let idle_now : k.spec.pending n ≡ Nothing = k.shows.pendings.pends n p at ∙ ap pending_of out in dite (ℕ_discrete r 2)
      (λ hit.
      let there = at_below all t (omega arith) in
      let ended_there : k.spec.life t ≡ Ended = k.shows.lives t there.0 there.1 ∙ ended-of there.0.life (sym (k.lives t there.0 there.1) ∙ hit) in
      let two : l.version ≡ Two = two-of l traced w holds words homes all k t (λ f. let z : Ended ≡ Live = sym ended_there ∙ f in cc) in
      let done = marks l traced w holds e n i r p (λ z. recorded p z e) words homes all k k.spec at refl (two, named) may (life-aside t low)
      (λ z. record { version = refl; seen = refl; mine = refl; places = refl; held = refl; share = refl; spin = refl; queue = refl; owed = refl; stand = refl; pen = refl })
      (record { live = k.shows.lives n p at ∙ may.0; order = idle_now; requires_met = tt; when_met = ended_there; choice_met = tt }, refl)
      (λ z. shows-frame all n p (recorded p z e) at k.spinner k.queue k.owner k.spec words words' (record { counts = λ j lo. stay (count_at (cond_object j)); sems = λ j lo. stay (bit_at (sem_object j)); alerts = λ j lo. stay (alert_at j) }) refl refl refl refl refl k.shows)
      (λ z. alert-seen-frame all n p (recorded p z e) at words words' few (λ j lo. stay (alert_at j)) refl k.alert_seen)
      (λ z. lives-frame all n p (recorded p z e) at words words' few (λ j lo. stay (life_at j)) refl k.lives)
      (λ z. owes-frame k.queue words words' all n p (recorded p z e) at (λ j lo. stay (bit_at j)) refl refl refl k.owes)
      (λ z. begun-same words words' all n p (recorded p z e) at (λ j lo. stay (waits_at (cond_object j))) refl refl refl k.begun)
      (λ z. stinted-event all n p (recorded p z e) at e (λ m. refl) refl (λ m. refl) k.stinted) in
      (done.0, keeps, tt, done.1, inl (hit, done.2, refl)))
      (λ miss. (p, keeps, tt, idle l traced w holds words homes all i n p at k, inr (miss, refl, refl)))

  read_life_at : (slots id t : ℕ) (me : Me (Slot T) (View T H W)) → t < most_threads → t < l.threads → me.0.kind ≡ Member → me.0.part.wait ≡ None → MayRecord traced me.0.part.life me.0.part.pen
      → Allows (IsKept l traced w begin holds) slots id me (life_at t) (λ x. x) (read_life_records (step slots (life_at t) 0 0 none) me)
  read_life_at slots id t me low named kind out may = let v = me.0 in let n = v.number in let p = v.part in let e = join_event n t in
      member_steps l traced w begin holds slots id (life_at t) (λ x. x) v me.1
      (λ r q ds. ((r ≡ 2) × Learns e n p (λ z. recorded p z e) q × (ds ≡ me.1)) ⊎ ((r ≢ 2) × (q ≡ p) × (ds ≡ me.1))) (read_life_records (step slots (life_at t) 0 0 none) me) kind
      (λ r q ds u. idle-live p q v.child may.0 (⊎_elim (λ (y : (r ≡ 2) × Learns e n p (λ z. recorded p z e) q × (ds ≡ me.1)). ap (λ (z : Part T H). z.life) y.1.2) (λ (y : (r ≢ 2) × (q ≡ p) × (ds ≡ me.1)). ap (λ (z : Part T H). z.life) y.1) u))
      (λ r q ds world u k few is. let same : t ≡ k = thread-of t k low few (omega arith) in
      subst (λ (k : ℕ). (r ≡ 2 → (between : List Event) × Grows n p between (join_event n k) × Becomes me (recorded p (p.seen ++ between) (join_event n k)) (with_part v q, ds)) × (r ≢ 2 → (let z : Me (Slot T) (View T H W) = (with_part v q, ds) in z) ≡ me)) same
      (⊎_elim
      (λ (u : (r ≡ 2) × Learns e n p (λ z. recorded p z e) q × (ds ≡ me.1)). ((λ _. (u.1.0, u.1.1, λ j. (with_part v (u.1.2 j), u.2 j))), λ miss. absurd (miss u.0)))
      (λ (u : (r ≢ 2) × (q ≡ p) × (ds ≡ me.1)). ((λ hit. absurd (u.0 hit)), λ _ j. (with_part v (u.1 j), u.2 j))) u))
      (reads_at n t p me.1 named out may)

  -- the same at a word that is this place
  pub read_life_keeps : (slots id t : ℕ) (me : Me (Slot T) (View T H W)) (i : ℕ) → i ≡ life_at t → t < most_threads → t < l.threads → me.0.kind ≡ Member → me.0.part.wait ≡ None → MayRecord traced me.0.part.life me.0.part.pen
      → Allows (IsKept l traced w begin holds) slots id me i (λ x. x) (read_life_records (step slots i 0 0 none) me)
  read_life_keeps slots id t me i word low named kind out may = subst (λ (i : ℕ). Allows (IsKept l traced w begin holds) slots id me i (λ x. x) (read_life_records (step slots i 0 0 none) me)) (sym word) (read_life_at slots id t me low named kind out may)
