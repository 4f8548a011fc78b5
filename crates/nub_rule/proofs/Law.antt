-- The invariant says the rule in its own words: from the items to what is said of words, slots and views.
use Rattle.std.proofs.Common.{Bool, true, false, cond, ◌≡◌, ◌≢◌, ℕ, suc, ◌+◌, ◌<◌, ◌≤◌, ◌⊎◌, List, [], ◌∷◌, ◌++◌, append-nil, length, get_or, refl, sym, ap, ◌∙◌, subst, inl, inr, ⊎_elim, arith, Some, None, eq-eqb}
use Rattle.std.specs.Prelude.{◌↔◌, Option as Opt}
use Rattle.std.proofs.lemmas.Bool.{cases_lt}
use mathlib.Core.Logic.{dite}
use mathlib.Core.Option.{Option, some, none, some-injective, some-ne-none}
use native.Mathlib.Decide.{ℕ_discrete}
use lib.ListN.{get_elem?}
use Rattle.larch_actions.specs.declared.event.Event.{Event}
use Rattle.larch_actions.specs.declared.event.Action.{Action}
use Rattle.larch_actions.specs.declared.event.Action.TheVariants.{Enqueue, AlertEnqueue, AlertRaise, Signal, Broadcast}
use Rattle.larch_actions.specs.declared.event.Layout.{Layout}
use Rattle.larch_actions.specs.declared.event.Life.TheVariants.{Live}
use Rattle.larch_actions.specs.Actions.{Spec, MeetsChoice, Leads, acted, at_first, put}
use Rattle.larch_actions.specs.Sets.{mem, in_set}
use Rattle.larch_actions.proofs.Sets.{mem-here, mem-else}
use Rattle.nub_rule.specs.declared.rule.Slot.{Slot}
use Rattle.nub_rule.specs.declared.rule.Slot.TheVariants.{Queue}
use Rattle.nub_rule.specs.declared.view.Part.{Part}
use Rattle.nub_rule.specs.declared.view.Pen.{Pen}
use Rattle.nub_rule.specs.declared.view.Pen.TheVariants.{No, Taken, Read, Made, Written}
use Rattle.nub_rule.specs.declared.view.Stand.{Stand}
use Rattle.nub_rule.specs.declared.view.Wait.{Wait}
use Rattle.nub_rule.specs.declared.view.WaitBit.{WaitBit}
use Rattle.nub_rule.specs.declared.view.WaitBit.TheVariants.{Closing, Open, Quiet}
use Rattle.nub_rule.specs.declared.view.View.{View}
use Rattle.nub_rule.specs.declared.view.Child.{Child}
use Rattle.nub_rule.specs.declared.view.Child.TheVariants.{No as Childless, May, Forked}
use Rattle.nub_rule.specs.declared.view.Kind.{Kind}
use Rattle.nub_rule.specs.declared.view.Kind.TheVariants.{Root, Member, Collector, Spent}
use Rattle.nub_rule.specs.Rule.{ChildFits, FitsAs, IsKept, IsOfChild, IsWith}
use Rattle.atomic_table.specs.Table.{State}
use Rattle.nub_rule.specs.Items.{Each, Marks, Says, PenFits, Core, queue_of}
use Rattle.nub_rule.specs.Parts.{Has, HasNothing, closing_on, counts_in, is_at, is_open, open_on, stands_at, waits_on}
use Rattle.nub_rule.specs.Places.{alert_at, bit_at, cond_object, count_at, number_at, pen_at, ready_at, sem_object, spin_at}
use Rattle.nub_rule.specs.PackageRule.{AnyView, HasBitInWait, IsFlagOf, IsKnown, SaysHolds, OwesAt, Owes, History, Meaning, MutexBits, SpinWords, QueuedThreads, ReadyWords, NoWakeLost, IsReady, CountsRead, BegunWaits, ValuesAndShares, ValuesAlong, Numbering, PackageRule, AreViews, ChildIs}
use Rattle.nub_rule.proofs.Each.{at_below, put-at, put-else, same_at}
use Rattle.nub_rule.proofs.Owing.{bound-nowhere, bound-asleep}
use Rattle.nub_rule.specs.Stints.{stinters}
use Rattle.nub_rule.proofs.Stinting.{given, lead-in-turn}
use Rattle.nub_rule.proofs.Beginning.{counts-some, raisers-none, raisers-some}
use Rattle.nub_rule.proofs.Lines.{both_ways, distinct-apart, distinct-tail_of, eqb_is, false_true, mem-append, mem-tail_of, not_true, stand_none, stand_same, stand_some}

-- who has something is nobody or somebody
pub whose : {A : Type 0} (o : Option ℕ) → (o ≡ none → A) → ((n : ℕ) → o ≡ some n → A) → A
whose none f g = f refl
whose (some n) f g = g n refl

either : {A : Type 0} (b : Bool) → (b ≡ true → A) → (b ≡ false → A) → A
either true f g = f refl
either false f g = g refl

mem-either : (t : ℕ) (xs ys : List ℕ) → mem t (xs ++ ys) ≡ true → (mem t xs ≡ true) ⊎ (mem t ys ≡ true)
mem-either t [] ys e = inr e
mem-either t (x ∷ xs) ys e = dite (ℕ_discrete x t)
    (λ is. inl (mem-here t x xs is))
    (λ ne. ⊎_elim (λ (l : mem t xs ≡ true). inl (mem-else t x xs ne ∙ l)) (λ (r : mem t ys ≡ true). inr r) (mem-either t xs ys (sym (mem-else t x (xs ++ ys) ne) ∙ e)))

pub holder-of : (b : Bool) (k n : ℕ) (h : Option ℕ) → h ≡ cond b none (some k) → h ≡ some n → (b ≡ false) × (k ≡ n)
holder-of true k n h e is = absurd (some-ne-none n (sym is ∙ e))
holder-of false k n h e is = (refl, some-injective k n (sym e ∙ is))

when-true : (b : Bool) → cond b true false ≡ false → b ≡ false
when-true true e = e
when-true false e = refl

bit-of : (b : WaitBit) → is_open b ≡ false → (b ≡ Closing) ⊎ (b ≡ Quiet)
bit-of Closing e = inl refl
bit-of Open e = absurd (false_true (sym e))
bit-of Quiet e = inr refl

-- a wait on m whose bit isn't open has it
bit-in : (wait : Opt Wait) (m : ℕ) → waits_on wait m ≡ true → open_on wait m ≡ false → HasBitInWait wait m
bit-in None m on shut = absurd (false_true on)
bit-in (Some w) m on shut = (w, refl, eqb_is w.mutex.0 m on, bit-of w.bit (when-true (is_open w.bit) (ap (λ z. cond (is_open w.bit) z false) (sym on) ∙ shut)))

one-zero : (x : ℕ) → x ≡ 0 → x ≡ 1 → ⊥
one-zero x a b = absurd (omega arith)

says-not : (x : ℕ) (b : Bool) → Says x (cond b false true) → (b ≡ true) ↔ (x ≡ 0)
says-not x true s = ((λ _. ⊎_elim (λ (t : (x ≡ 0) × (false ≡ false)). t.0) (λ (t : (x ≡ 1) × (false ≡ true)). absurd (false_true t.1)) s), λ _. refl)
says-not x false s = ((λ e. absurd (false_true e)), λ e. ⊎_elim (λ (t : (x ≡ 0) × (true ≡ false)). absurd (false_true (sym t.1))) (λ (t : (x ≡ 1) × (true ≡ true)). absurd (one-zero x e t.0)) s)

says-is : (x : ℕ) (b : Bool) → Says x b → (b ≡ true) ↔ (x ≡ 1)
says-is x true s = ((λ _. ⊎_elim (λ (t : (x ≡ 0) × (true ≡ false)). absurd (false_true (sym t.1))) (λ (t : (x ≡ 1) × (true ≡ true)). t.0) s), λ _. refl)
says-is x false s = ((λ e. absurd (false_true e)), λ e. ⊎_elim (λ (t : (x ≡ 0) × (false ≡ false)). absurd (one-zero x t.0 e)) (λ (t : (x ≡ 1) × (false ≡ true)). absurd (false_true t.1)) s)

-- a condition that no action of the threads puts a stranger into
putting : (f : ℕ → ℕ → Bool) (c₀ : ℕ) (g : ℕ → Bool) (k : ℕ) → g k ≡ false → ((c : ℕ) → f c k ≡ false) → (c : ℕ) → put f c₀ g c k ≡ false
putting f c₀ g k own h c = dite (ℕ_discrete c c₀) (λ e. ap (λ (z : ℕ → Bool). z k) (put-at f c₀ g c e) ∙ own) (λ ne. ap (λ (z : ℕ → Bool). z k) (put-else f c₀ c g ne) ∙ h c)

past : (t k n : ℕ) → t < n → n ≤ k → k ≢ t
past t k n a b e = absurd (omega arith)

strangers-stay : (n t : ℕ) (s : Spec) (a : Action) → t < n → MeetsChoice t s a → ((c k : ℕ) → n ≤ k → s.members c k ≡ false) → (c k : ℕ) → n ≤ k → (acted t s a).members c k ≡ false
strangers-stay n t s (Enqueue m d) low met h c k hi = putting s.members d.0 (put (s.members d.0) t true) k (put-else (s.members d.0) t k true (past t k n low hi) ∙ h d.0 k hi) (λ e. h e k hi) c
strangers-stay n t s (AlertEnqueue m d) low met h c k hi = putting s.members d.0 (put (s.members d.0) t true) k (put-else (s.members d.0) t k true (past t k n low hi) ∙ h d.0 k hi) (λ e. h e k hi) c
strangers-stay n t s (AlertRaise m d) low met h c k hi = putting s.members d.0 (put (s.members d.0) t false) k (put-else (s.members d.0) t k false (past t k n low hi) ∙ h d.0 k hi) (λ e. h e k hi) c
strangers-stay n t s (Signal d left) low met h c k hi = putting s.members d.0 (in_set left) k
    (⊎_elim (λ (none_stays : (j : ℕ) → in_set left j ≡ false). none_stays k)
    (λ (r : ((j : ℕ) → in_set left j ≡ true → s.members d.0 j ≡ true) × ((j : ℕ) × (s.members d.0 j ≡ true) × (in_set left j ≡ false))). not_true (in_set left k) (λ e. false_true (sym (h d.0 k hi) ∙ r.0 k e))) met)
    (λ e. h e k hi) c
strangers-stay n t s (Broadcast d) low met h c k hi = putting s.members d.0 (λ _. false) k refl (λ e. h e k hi) c
strangers-stay n t s _ low met h c k hi = h c k hi

strangers-out : (n : ℕ) (s t : Spec) (es : List Event) → Leads s es t → Each (λ i e. e.thread.0 < n) es → ((c k : ℕ) → n ≤ k → s.members c k ≡ false) → (c k : ℕ) → n ≤ k → t.members c k ≡ false
strangers-out n s t [] is low h = λ c k hi. ap (λ (z : Spec). z.members c k) (sym is) ∙ h c k hi
strangers-out n s t (e ∷ es) is low h = strangers-out n is.0 t es is.2 (λ i f at. low (i + 1) f (ap (get_elem? (e ∷ es)) (one-more i) ∙ at))
    (λ c k hi. ap (λ (z : Spec). z.members c k) is.1.1 ∙ strangers-stay n e.thread.0 s e.action (low 0 e refl) is.1.0.choice_met h c k hi)
  where
    one-more : (i : ℕ) → i + 1 ≡ suc i
    one-more i = omega arith

pen-has : (total word n : ℕ) (writer : Option ℕ) (pen : Pen) → PenFits total word writer n pen → (pen ≢ No → writer ≡ some n) × (writer ≡ some n → pen ≢ No)
pen-has total word n writer No f = ((λ ne. absurd (ne refl)), λ is _. f is)
pen-has total word n writer Taken f = ((λ _. f.0), λ _ e. cc)
pen-has total word n writer (Read k) f = ((λ _. f.0), λ _ e. cc)
pen-has total word n writer (Made k) f = ((λ _. f.0), λ _ e. cc)
pen-has total word n writer Written f = ((λ _. f.0), λ _ e. cc)

module _ {T H : Type 0} where
  -- a word that marks an owner is the flag of what the owner alone says
  flag-of : (all : List (Part T H)) (x : ℕ) (owner : Option ℕ) (P : Part T H → Type 0) → Marks x owner → ((n : ℕ) → owner ≡ some n → n < length all) → Each (λ n p. (P p → owner ≡ some n) × (owner ≡ some n → P p)) all → IsFlagOf x P all
  flag-of all x owner P marks within each = ⊎_elim
      (λ (t : (x ≡ 0) × (owner ≡ none)). inl (t.0, λ n p at has. some-ne-none n (sym ((each n p at).0 has) ∙ t.1)))
      (λ (t : (x ≡ 1) × ((n : ℕ) × (owner ≡ some n))). let n = t.1.0 in let own = t.1.1 in let v = at_below all n (within n own) in
      inr (t.0, (n, v.0, v.1, (each n v.0 v.1).1 own, λ k q at has. some-injective k n (sym ((each k q at).0 has) ∙ own))))
      marks

module _ {T H W : Type 0} (l : Layout) (traced : Bool) (w : W) (holds : W → List T → List H → Type 0) (words : List ℕ) (homes : List (Option (Slot T))) (all : List (Part T H)) (c : Core l traced w holds words homes all) where
  history : History l c.log all
  history = record {
    begins = λ n p at. (c.recorded.each n p at).begins;
    longest = c.recorded.longest;
    own = λ n p at. (c.recorded.each n p at).own;
    people = c.recorded.people;
    names = c.recorded.names;
  }

  -- who has the spin word of an object has its queue in its view, and those whom it owes
  spins-at : (o n : ℕ) → c.spinner o ≡ some n → (p : Part T H) × (get_elem? all n ≡ some p) × (p.spin ≡ Some o) × (p.queue ≡ c.queue o) × (p.owed ≡ c.owed o)
  spins-at o n is = let v = at_below all n (c.spins.within o n is) in let t = c.spins.spinning n v.0 v.1 o in let here = t.1 is in let k = t.0 here in (v.0, v.1, here, k.1, k.2)

  -- a thread that is owed is in the line of the object
  owed-line : (o k t : ℕ) (q : Part T H) → get_elem? all k ≡ some q → OwesAt o q t → (c.spinner o ≡ some k) × (mem t (c.owed o) ≡ true)
  owed-line o k t q at owes = let s = (c.spins.spinning k q at o).0 owes.0 in (s.0, ap (mem t) (sym s.2) ∙ owes.1)

  -- whoever is in a line stands there and isn't ready
  in-line : (o n : ℕ) (p : Part T H) → get_elem? all n ≡ some p → mem n (c.owed o ++ c.queue o) ≡ true → (stands_at p.stand o ≡ true) × (get_or words (ready_at n) 0 ≡ 0)
  in-line o n p at there = (c.lines.stands n p at).lined o there

  queued : (o n : ℕ) (p : Part T H) → get_elem? all n ≡ some p → mem n (c.queue o) ≡ true → (stands_at p.stand o ≡ true) × (get_or words (ready_at n) 0 ≡ 0)
  queued o n p at there = in-line o n p at (mem-tail_of n (c.owed o) (c.queue o) there)

  owed : (o k n : ℕ) (q p : Part T H) → get_elem? all k ≡ some q → get_elem? all n ≡ some p → OwesAt o q n → (stands_at p.stand o ≡ true) × (get_or words (ready_at n) 0 ≡ 0)
  owed o k n q p at' at owes = in-line o n p at (mem-append n (c.owed o) (c.queue o) (owed-line o k n q at' owes).1)

  holding : (m n : ℕ) (p : Part T H) → get_elem? all n ≡ some p → Has p m → c.spec.holder m ≡ cond (waits_on p.wait m) none (some n)
  holding m n p at has = c.shows.holders.holds n p at m ((c.owned.standing n p at m).0 has)

  holder : (m n : ℕ) → (c.spec.holder m ≡ some n) ↔ ((p : Part T H) × (get_elem? all n ≡ some p) × SaysHolds p m)
  holder m n = (
    (λ is. whose (c.owner m)
        (λ free. absurd (some-ne-none n (sym is ∙ c.shows.holders.free m free)))
        (λ k own. let v = at_below all k (c.owned.within m k own).1 in let has = (c.owned.standing k v.0 v.1 m).1 own in
        let h = holder-of (waits_on v.0.wait m) k n (c.spec.holder m) (holding m k v.0 v.1 has) is in
        (v.0, ap (get_elem? all) (sym h.1) ∙ v.1, (has, h.0)))),
    λ (p, at, says). holding m n p at says.0 ∙ ap (λ b. cond b none (some n)) says.1,
  )

  known : (of : Part T H → List ℕ) (o : ℕ) (xs : List ℕ) → o < 192 → ((n : ℕ) (p : Part T H) → get_elem? all n ≡ some p → c.spinner o ≡ some n → of p ≡ xs) → (c.spinner o ≡ none → c.queue o ≡ xs) → IsKnown of homes all o xs
  known of o xs low has free = whose (c.spinner o)
      (λ e. inr ((λ n p at is. some-ne-none n (sym ((c.spins.spinning n p at o).0 is).0 ∙ e)), c.spins.home o low e ∙ ap (λ (z : List ℕ). some (some (Queue (queue_of z)))) (free e)))
      (λ n e. let v = spins-at o n e in inl (n, v.0, v.1, (v.2, has n v.0 v.1 e)))

  out-of-all : (d n : ℕ) → length all ≤ n → c.spec.members d n ≡ false
  out-of-all = strangers-out (length all) (at_first l.version) c.spec c.log c.run c.recorded.people (λ _ _ _. refl)

  members : (d n : ℕ) → d < 64 → (c.spec.members d n ≡ true) ↔ ((mem n (c.shows.conditions.left d) ≡ true) ⊎ ((p : Part T H) × (get_elem? all n ≡ some p) × (counts_in p.wait d (get_or words (count_at (cond_object d)) 0) ≡ true)))
  members d n low =
      let is = c.shows.conditions.member d n in
      let now = c.shows.conditions.counted d low in
      let own : (p : Part T H) → get_elem? all n ≡ some p → c.shows.conditions.counting d n ≡ counts_in p.wait d (get_or words (count_at (cond_object d)) 0) = λ p at. (c.shows.conditions.knows n p at).counts d ∙ ap (counts_in p.wait d) (sym now) in (
        (λ e. either (mem n (c.shows.conditions.left d)) (λ there. inl there)
            (λ gone. ⊎_elim
            (λ (lo : n < length all). let v = at_below all n lo in inr (v.0, v.1, sym (own v.0 v.1) ∙ (sym (ap (λ b. cond b true (c.shows.conditions.counting d n)) gone) ∙ (sym is ∙ e))))
            (λ (hi : length all ≤ n). both_ways (c.spec.members d n) e (out-of-all d n hi))
            (cases_lt n (length all)))),
        ⊎_elim (λ (there : mem n (c.shows.conditions.left d) ≡ true). is ∙ ap (λ b. cond b true (c.shows.conditions.counting d n)) there)
            (λ (t : (p : Part T H) × (get_elem? all n ≡ some p) × (counts_in p.wait d (get_or words (count_at (cond_object d)) 0) ≡ true)). is ∙ (ap (λ b. cond (mem n (c.shows.conditions.left d)) true b) (own t.0 t.1 ∙ t.2) ∙ yes (mem n (c.shows.conditions.left d)))),
      )
    where
      yes : (b : Bool) → cond b true true ≡ true
      yes true = refl
      yes false = refl

  meaning : Meaning words homes all c.queue c.shows.conditions.left c.spec
  meaning = record {
    holder = holder;
    avail = λ s low. says-not (get_or words (bit_at (sem_object s)) 0) (c.spec.avail s) (c.shows.semaphores s low);
    alerts = λ t low. says-is (get_or words (alert_at t) 0) (c.spec.alerts t) (c.shows.alerts t low);
    pending = λ n p at. c.shows.pendings.pends n p at;
    nobody = c.shows.pendings.strangers;
    members = members;
    left_known = λ d low. known (λ p. p.left) (cond_object d) (c.shows.conditions.left d) (omega arith) (λ n p at is. ((c.shows.conditions.knows n p at).inside d is).0) (λ free. sym (c.shows.conditions.whole d free));
    left_in = λ d t there. either (mem t (c.queue (cond_object d))) (λ e. e) (λ out. both_ways (mem t (c.shows.conditions.left d)) there (c.shows.conditions.queued d t out));
    none_taken = λ n p at v d waits spins. let s = (c.spins.spinning n p at (cond_object d)).0 spins in let t = c.shows.conditions.knows n p at in sym (t.inside d s.0).0 ∙ (t.even v waits ∙ s.1);
  }

  mutex_bits : MutexBits l.mutexes words all c.spec
  mutex_bits = record {
    bit = λ m low. flag-of all (get_or words (bit_at m) 0) (c.owner m) (λ p. Has p m) (c.owned.bits m low) (λ n own. (c.owned.within m n own).1) (λ n p at. c.owned.standing n p at m);
    holder_has = λ n p at m is. let t = (holder m n).0 is in subst (λ (z : Part T H). Has z m) (same_at all n t.0 p t.1 at) t.2.0;
    between = λ n p at m has ne. either (waits_on p.wait m) (λ e. bit-in p.wait m e (c.shows.holders.shut n p at m ((c.owned.standing n p at m).0 has))) (λ out. absurd (ne (holding m n p at has ∙ ap (λ b. cond b none (some n)) out)));
  }

  spin_words : SpinWords words homes all c.queue
  spin_words = record {
    spin = λ o low. flag-of all (get_or words (spin_at o) 0) (c.spinner o) (λ p. p.spin ≡ Some o) (c.spins.spin o low) (c.spins.within o) (λ n p at. let t = c.spins.spinning n p at o in ((λ is. (t.0 is).0), t.1));
    queue_known = λ o low. known (λ p. p.queue) o (c.queue o) low (λ n p at is. let t = c.spins.spinning n p at o in (t.0 (t.1 is)).1) (λ _. refl);
    distinct = λ o. distinct-tail_of (c.owed o) (c.queue o) (c.lines.distinct o);
    threads = λ o t there. c.lines.people o t (mem-tail_of t (c.owed o) (c.queue o) there);
    length_word = c.spins.measured;
  }

  queued_threads : QueuedThreads words all c.queue
  queued_threads = record {
    waits = λ n p at o there. stand_some p.stand o (queued o n p at there).0;
    waits_in = λ n p at d there. let st = stand_some p.stand (cond_object d) (queued (cond_object d) n p at there).0 in let w = (c.begun.covered n p at).stander st.0 d st.1 st.2 in (w.1, w.2, w.3);
    elsewhere = λ n p at out. (
      (λ o. not_true (mem n (c.queue o)) (λ there. stand_none p.stand o out (queued o n p at there).0)),
      ⊎_elim (λ (z : get_or words (ready_at n) 0 ≡ 0). z) (λ (z : get_or words (ready_at n) 0 ≡ 1). let u = (c.lines.stands n p at).ready z in absurd (stand_none p.stand u.0.at out (ap (λ s. stands_at s u.0.at) u.1 ∙ eq-eqb u.0.at u.0.at refl))) (c.lines.stands n p at).flag,
      λ k q at' owes. stand_none p.stand owes.0 out (owed owes.0 k n q p at' at owes.1).0,
    );
  }

  -- a thread that is owed at an object stands there and is in no queue
  owed-only : (n : ℕ) (p : Part T H) → get_elem? all n ≡ some p → AnyView (λ q. Owes q n) all → ((o : ℕ) → mem n (c.queue o) ≡ false) × ((s : Stand) × (p.stand ≡ Some s))
  owed-only n p at (k, q, at', some_object) = let o = some_object.0 in let owes = some_object.1 in let here = owed o k n q p at' at owes in let s = stand_some p.stand o here.0 in (
    (λ j. not_true (mem n (c.queue j)) (λ there.
        let e : j ≡ o = stand_same p.stand j o (queued j n p at there).0 here.0 in
        both_ways (mem n (c.queue o)) (ap (λ i. mem n (c.queue i)) (sym e) ∙ there) (distinct-apart n (c.owed o) (c.queue o) (c.lines.distinct o) (owed-line o k n q at' owes).1))),
    (s.0, s.1),
  )

  ready_words : ReadyWords words all c.queue
  ready_words = record {
    flag = λ n p at. (c.lines.stands n p at).flag;
    kept = λ n p at s is. ⊎_elim
        (λ (there : mem n (c.owed s.at ++ c.queue s.at) ≡ true). ⊎_elim
        (λ (o : mem n (c.owed s.at) ≡ true). inr (inr (whose (c.spinner s.at)
        (λ free. absurd (false_true (sym (ap (mem n) (c.spins.settled s.at free)) ∙ o)))
        (λ k own. let v = spins-at s.at k own in (k, v.0, v.1, (v.2, ap (mem n) v.4 ∙ o))))))
        (λ (o : mem n (c.queue s.at) ≡ true). inl o)
        (mem-either n (c.owed s.at) (c.queue s.at) there))
        (λ (one : get_or words (ready_at n) 0 ≡ 1). inr (inl one))
        ((c.lines.stands n p at).kept s is);
    ready = λ n p at. ⊎_elim
        (λ (one : get_or words (ready_at n) 0 ≡ 1). ((λ o. not_true (mem n (c.queue o)) (λ there. one-zero (get_or words (ready_at n) 0) (queued o n p at there).1 one)), (c.lines.stands n p at).ready one))
        (λ (owes : AnyView (λ q. Owes q n) all). owed-only n p at owes);
    unowed = λ n p at one k q at' owes. one-zero (get_or words (ready_at n) 0) (owed owes.0 k n q p at' at owes.1).1 one;
    owed_once = λ t j q at owes k r at' owes'.
        let a = owed-line owes.0 j t q at owes.1 in
        let b = owed-line owes'.0 k t r at' owes'.1 in
        let v = at_below all t (c.lines.people owes.0 t (mem-append t (c.owed owes.0) (c.queue owes.0) a.1)) in
        let e : owes.0 ≡ owes'.0 = stand_same v.0.stand owes.0 owes'.0 (owed owes.0 j t q v.0 at v.1 owes.1).0 (owed owes'.0 k t r v.0 at' v.1 owes'.1).0 in
        some-injective j k (sym a.0 ∙ (ap c.spinner e ∙ b.0));
    found = λ n p at. (c.lines.stands n p at).found;
  }

  -- who is left in a condition is in it
  left-member : (d n : ℕ) → mem n (c.shows.conditions.left d) ≡ true → c.spec.members d n ≡ true
  left-member d n there = c.shows.conditions.member d n ∙ ap (λ b. cond b true (c.shows.conditions.counting d n)) there

  no_wake_lost : NoWakeLost words all c.queue c.spec
  no_wake_lost = record {
    looks = c.owes.looks;
    at_rest = λ n p at out none_left none_cleared o. bound-nowhere o (c.queue o) n p out none_left none_cleared;
    asleep = λ n p at s is sleeps o. bound-asleep o (c.queue o) n p s is sleeps (c.owes.sound n p at s is sleeps);
    waits = λ n p at s is low. ⊎_elim
        (λ (queued : mem n (c.queue s.at) ≡ true). inr (inr (dite (ℕ_discrete (get_or words (bit_at s.at) 0) 0)
        (λ free. inr (c.owes.looks s.at low free (λ none_there. false_true (sym (ap (mem n) none_there) ∙ queued))))
        (λ set_there. inl set_there))))
        (λ (r : IsReady words n ⊎ AnyView (λ q. OwesAt s.at q n) all). ⊎_elim (λ (one : IsReady words n). inl one) (λ (owed : AnyView (λ q. OwesAt s.at q n) all). inr (inl owed)) r)
        (ready_words.kept n p at s is);
    waits_in = λ n p at d s low is there out. let o : ℕ = cond_object d in ⊎_elim
        (λ (queued : mem n (c.queue s.at) ≡ true).
        let here : mem n (c.queue o) ≡ true = (λ i. mem n (c.queue (sym there i))) ∙ queued in
        let gone : mem n (c.shows.conditions.left d) ≡ false = not_true (mem n (c.shows.conditions.left d)) (λ l. false_true (sym out ∙ left-member d n l)) in inr (inr (whose (c.spinner o)
        (λ free. both_ways (mem n (c.queue o)) here (ap (mem n) (sym (c.shows.conditions.whole d free)) ∙ gone))
        (λ k own. let v = spins-at o k own in (k, v.0, v.1, (v.2, ap (mem n) v.3 ∙ here, ap (mem n) ((c.shows.conditions.knows k v.0 v.1).inside d own).0 ∙ gone))))))
        (λ (r : IsReady words n ⊎ AnyView (λ q. OwesAt s.at q n) all). ⊎_elim (λ (one : IsReady words n). inl one) (λ (owed : AnyView (λ q. OwesAt s.at q n) all). inr (inl (subst (λ (z : ℕ). AnyView (λ q. OwesAt z q n) all) there owed))) r)
        (ready_words.kept n p at s is);
  }

  counts_read : CountsRead words all
  counts_read = record {
    risen = λ n p at v k waits read low. ⊎_elim
        (λ (hi : get_or words (count_at (cond_object v.cond.0)) 0 < k).
        let now = c.shows.conditions.counted v.cond.0 low in
        let out = (c.shows.conditions.knows n p at).risen v.cond.0 k (omega arith) in
        let in' : counts_in p.wait v.cond.0 k ≡ true = ap (λ z. counts_in z v.cond.0 k) waits ∙ (ap (λ b. cond b (is_at v.member k) false) (eq-eqb v.cond.0 v.cond.0 refl) ∙ (ap (λ z. is_at z k) read ∙ eq-eqb k k refl)) in
        both_ways (counts_in p.wait v.cond.0 k) in' out)
        (λ (lo : k ≤ get_or words (count_at (cond_object v.cond.0)) 0). lo)
        (cases_lt (get_or words (count_at (cond_object v.cond.0)) 0) k);
    known = λ n p at d low spins. ((c.shows.conditions.knows n p at).inside d ((c.spins.spinning n p at (cond_object d)).0 spins).0).1 ∙ sym (c.shows.conditions.counted d low);
  }

  begun_waits : BegunWaits words all c.spec
  begun_waits = record {
    word = c.begun.counted;
    none_begun = λ d low. (
      (λ zero n p at is. let a = raisers-some d all n p at is in let b = c.begun.counted d low in absurd (omega arith)),
      (λ none. c.begun.counted d low ∙ raisers-none d all none),
    );
    covers = λ d n low is. let o : ℕ = cond_object d in ⊎_elim
        (λ (there : mem n (c.shows.conditions.left d) ≡ true).
        let inside : mem n (c.queue o) ≡ true = either (mem n (c.queue o)) (λ e. e) (λ off. both_ways (mem n (c.shows.conditions.left d)) there (c.shows.conditions.queued d n off)) in
        let lined = mem-tail_of n (c.owed o) (c.queue o) inside in
        let v = at_below all n (c.lines.people o n lined) in
        let st = stand_some v.0.stand o (in-line o n v.0 v.1 lined).0 in (v.0, v.1, ((c.begun.covered n v.0 v.1).stander st.0 d st.1 st.2).0))
        (λ (t : (p : Part T H) × (get_elem? all n ≡ some p) × (counts_in p.wait d (get_or words (count_at (cond_object d)) 0) ≡ true)).
        let u = counts-some t.0.wait d (get_or words (count_at (cond_object d)) 0) t.2 in (t.0, t.1, (c.begun.covered n t.0 t.1).member u.0 (get_or words (count_at (cond_object d)) 0) u.1 u.3 ∙ ap (λ (z : ℕ). Some z) u.2))
        ((members d n low).0 is);
  }

  values_and_shares : ValuesAndShares l.mutexes (holds w) homes all c.values c.shares
  values_and_shares = record {
    kept = c.owned.kept;
    each_value = c.owned.values_wide;
    got = c.owned.current;
    home = λ m x low at none_has. c.owned.at_home m low x at (whose (c.owner m) (λ free. free)
        (λ k own. let v = at_below all k (c.owned.within m k own).1 in absurd (none_has k v.0 v.1 ((c.owned.standing k v.0 v.1 m).1 own))));
    each_share = c.owned.shares_wide;
    share = c.owned.shared;
  }

  values_along : ValuesAlong (holds w) c.log all c.values c.shares
  values_along = let k = c.stinted in record {
    first = k.first;
    first_shares = k.first_shares;
    stints = k.stints;
    lead = k.lead;
    in_turn = λ m x y here there. lead-in-turn (holds w) m k.first k.first_shares k.stints c.values c.shares x y k.lead here there;
    own = k.own;
    gives = λ m. whose (c.owner m)
        (λ free. inl (
          (λ n p at yet. some-ne-none n (sym ((c.owned.standing n p at m).0 yet.0) ∙ free)),
          k.gives m ∙ (ap (λ ts. stinters m k.stints ++ ts) (k.free m free) ∙ append-nil (stinters m k.stints)),
        ))
        (λ n own. let v = at_below all n (c.owned.within m n own).1 in let g = λ (b : Bool) (is : closing_on v.0.wait m ≡ b). given all n v.0 v.0 v.1 m b k own is in either (closing_on v.0.wait m)
        (λ yet. inr (n, (v.0, v.1, ((c.owned.standing n v.0 v.1 m).1 own, yet)), g true yet))
        (λ done. inl (
          (λ j q at yet. let e : j ≡ n = some-injective j n (sym ((c.owned.standing j q at m).0 yet.0) ∙ own) in let s : q ≡ v.0 = same_at all n q v.0 (ap (get_elem? all) (sym e) ∙ at) v.1 in both_ways (closing_on q.wait m) yet.1 (ap (λ (z : Part T H). closing_on z.wait m) s ∙ done)),
          g false done ∙ append-nil (stinters m k.stints),
        )));
  }

  numbering : Numbering traced c.log words all
  numbering = let has = λ (n : ℕ) (p : Part T H) (at : get_elem? all n ≡ some p). pen-has (length c.log) (get_or words number_at 0) n c.writer p.pen (c.pens.pens n p at) in record {
    pen = flag-of all (get_or words pen_at 0) c.writer (λ p. p.pen ≢ No) c.pens.flag c.pens.within has;
    untraced = λ lacks n p at other. some-ne-none n (sym ((has n p at).0 other) ∙ c.pens.untraced lacks);
    free = λ traces zero. c.pens.free traces (⊎_elim (λ (t : (get_or words pen_at 0 ≡ 0) × (c.writer ≡ none)). t.1) (λ (t : (get_or words pen_at 0 ≡ 1) × ((n : ℕ) × (c.writer ≡ some n))). absurd (one-zero (get_or words pen_at 0) zero t.0)) c.pens.flag);
    read = λ n p at k is. let f = subst (PenFits (length c.log) (get_or words number_at 0) c.writer n) is (c.pens.pens n p at) in f.2 ∙ f.1;
    made = λ n p at k is. let f = subst (PenFits (length c.log) (get_or words number_at 0) c.writer n) is (c.pens.pens n p at) in f.1;
    places = λ n p at. (c.recorded.each n p at).placed;
  }

  pub rule-of : Each (λ n p. p.life ≢ Live → HasNothing p) all → PackageRule l traced (holds w) words homes all
  rule-of idle = record {
    log = c.log;
    state = c.spec;
    queue = c.queue;
    left = c.shows.conditions.left;
    values = c.values;
    shares = c.shares;
    history = history;
    run = c.run;
    meaning = meaning;
    mutex_bits = mutex_bits;
    spin_words = spin_words;
    queued_threads = queued_threads;
    ready_words = ready_words;
    no_wake_lost = no_wake_lost;
    alert_seen = c.alert_seen;
    life_words = record { word = c.lives; life = c.shows.lives; idle = idle };
    counts_read = counts_read;
    begun_waits = begun_waits;
    values_and_shares = values_and_shares;
    values_along = values_along;
    numbering = numbering;
  }

module _ {T H W : Type 0} (l : Layout) (traced : Bool) (w : W) (begin : W → ℕ → H) (holds : W → List T → List H → Type 0) (s : State (Slot T) (View T H W)) (k : IsKept l traced w begin holds s) where
  fits-as : (id : ℕ) (v : View T H W) (kind : Kind) → get_elem? s.views id ≡ some v → v.kind ≡ kind → FitsAs l.version l.threads k.given w begin k.all k.seat_of id v kind
  fits-as id v kind at is = subst (FitsAs l.version l.threads k.given w begin k.all k.seat_of id v) is (k.fits id v at)

  -- a child is with the seat that says something of it
  child-by : (id : ℕ) (v : View T H W) (c : Child) (n : ℕ) → ChildFits l.version l.threads k.given w begin k.all k.seat_of id v c → IsOfChild c n → id ≡ k.seat_of n
  child-by id v Childless n f h = absurd h
  child-by id v (May t) n f h = sym f.0 ∙ ap k.seat_of h
  child-by id v (Forked t seen) n f h = sym f.0 ∙ ap k.seat_of h

  child-is : (id : ℕ) (v : View T H W) (c : Child) → ChildFits l.version l.threads k.given w begin k.all k.seat_of id v c → ChildIs l.version w begin k.all c
  child-is id v Childless f = tt
  child-is id v (May t) f = f.3
  child-is id v (Forked t seen) f = f.3

  -- a thread is with the seat that it is said to have
  seat-by : (id : ℕ) (v : View T H W) (kind : Kind) (n : ℕ) → n < l.threads → FitsAs l.version l.threads k.given w begin k.all k.seat_of id v kind → IsWith v kind n → id ≡ k.seat_of n
  seat-by id v Root n lo f h = f.first ∙ sym (f.unborn n (subst (λ (z : ℕ). z ≤ n) f.next h) lo).0
  seat-by id v Member n lo f h = ⊎_elim (λ (is : v.number ≡ n). sym f.sits ∙ ap k.seat_of is) (λ (is : IsOfChild v.child n). child-by id v v.child n f.child is) h
  seat-by id v Collector n lo f h = let o = at_below v.back n h in sym (f.came_back n o.0 o.1).0
  seat-by id v Spent n lo f h = absurd h

  pub are-views : AreViews l.version l.threads w begin s.views k.all
  are-views = record {
    count = k.core.sizes.count;
    seated = λ id v at is. (fits-as id v Member at is).own;
    back = λ id v at is n p there. ((fits-as id v Collector at is).came_back n p there).1;
    child = λ id v at is. child-is id v v.child (fits-as id v Member at is).child;
    childless = λ id v at is dead. ((fits-as id v Member at is).idle dead).1;
    each = λ n lo. let o = k.placed n lo in (k.seat_of n, o.0, o.1, o.2);
    once = λ n i j v u lo at there here too. seat-by i v v.kind n lo (k.fits i v at) here ∙ sym (seat-by j u u.kind n lo (k.fits j u there) too);
    to_come = λ id v at is n lo hi. let r = fits-as id v Root at is in (r.unborn n (subst (λ (z : ℕ). z ≤ n) r.next lo) hi).1;
  }
