-- What is kept stays what the events nest.
use Rattle.std.proofs.Common.{◌≡◌, ℕ, ◌+◌, ◌*◌, ◌<◌, ◌≤◌, ◌||◌, ◌⊎◌, Bool, true, false, cond, eqb, inl, inr, List, [], ◌∷◌, ◌++◌, length, refl, sym, ap, subst, ◌∙◌, arith, eq-eqb, ne_eqb}
use mathlib.Core.Option.{Option, none, some, some-injective, some-ne-none}
use Rattle.larch_actions.specs.declared.event.Version.{Version}
use Rattle.larch_actions.specs.declared.event.Event.{Event}
use Rattle.larch_actions.specs.Actions.{Spec, Acts, IsRun, acted, put, at_first}
use Rattle.larch_actions.specs.State.{shown_at}
use Rattle.trace_check.proofs.Runs.{leads-push}
use Rattle.lock_order.specs.declared.mutex_set.MutexSet.{MutexSet}
use Rattle.lock_order.specs.declared.lock_graph.First.{First}
use Rattle.lock_order.specs.declared.lock_graph.LockGraph.{LockGraph}
use Rattle.lock_order.specs.Sets.{in_mutexes}
use Rattle.lock_order.specs.Order.{got, Nests}
use Rattle.lock_order.specs.Kept.{given, is_thread, holds, has_held, stands, first_thread, first_place, Before, IsKept, HasGot, HasGiven}
use Rattle.lock_order.proofs.Numbers.{false_true, both_ways, same_or, true_or}
use Rattle.lock_order.proofs.Events.{NestsNow, nests-more, nests-now, nests-either, nests-early, got_when, got_after, given_requires, given_after}

holder_is : (now : Spec) (t m : ℕ) → holds now t m ≡ true → now.holder m ≡ some t
holder_is now t m e = from (now.holder m) e
  where
    from : (o : Option ℕ) → is_thread o t ≡ true → o ≡ some t
    from none e = absurd (false_true e)
    from (some u) e = elim (same_or u t) [ inl p ↦ ap some p.0 | inr p ↦ both_ways (eqb u t) e p.1 ]

is_holder : (now : Spec) (t m : ℕ) → now.holder m ≡ some t → holds now t m ≡ true
is_holder now t m e = ap (λ o. is_thread o t) e ∙ eq-eqb t t refl

or_cases : (b c : Bool) → (b || c) ≡ true → (b ≡ true) ⊎ ((b ≡ false) × (c ≡ true))
or_cases true c e = inl refl
or_cases false c e = inr (refl, e)

or-true : (c : Bool) → (true || c) ≡ true
or-true c = refl

or-here : (b : Bool) → (b || true) ≡ true
or-here true = refl
or-here false = refl

-- what stands before what, once a mutex was got: what stood, or the new ones
stood : {A : Type 0} (k k' : LockGraph) (t n place : ℕ) → HasGot k t n place k' → (m i : ℕ) → Before k' m i
    → (Before k m i → A) → (n ≡ i → stands k m n ≡ false → has_held k t m ≡ true → A) → A
stood k k' t n place got m i b old new =
    let e = sym (got.standing m i) ∙ b in
    elim (same_or n i) [
      | inl p ↦
          let f : (stands k m i || has_held k t m) ≡ true = sym (ap (λ c. cond c (stands k m i || has_held k t m) (stands k m i)) p.1) ∙ e in
          elim (or_cases (stands k m i) (has_held k t m) f) [
            | inl q ↦ old q
            | inr q ↦ new p.0 (ap (λ z. stands k m z) p.0 ∙ q.0) q.1
          ]
      | inr p ↦ old (sym (ap (λ c. cond c (stands k m i || has_held k t m) (stands k m i)) p.1) ∙ e)
    ]

still : (k k' : LockGraph) (t n place : ℕ) → HasGot k t n place k' → (m i : ℕ) → Before k m i → Before k' m i
still k k' t n place got m i b =
    got.standing m i ∙ ap (λ c. cond (eqb n i) (c || has_held k t m) c) b ∙ either (eqb n i) (has_held k t m)
  where
    either : (c d : Bool) → cond c (true || d) true ≡ true
    either true d = refl
    either false d = refl

-- who is held before, stands before
here : (k k' : LockGraph) (t n place : ℕ) → HasGot k t n place k' → (m : ℕ) → has_held k t m ≡ true → Before k' m n
here k k' t n place got m h =
    got.standing m n ∙ ap (λ c. cond c (stands k m n || has_held k t m) (stands k m n)) (eq-eqb n n refl) ∙ ap (λ c. stands k m n || c) h ∙ or-here (stands k m n)

-- a thread that holds with the new one held before, or has got it
got_low : (k k' : LockGraph) (t n place : ℕ) → n < 64 → HasGot k t n place k' → ((u m : ℕ) → has_held k u m ≡ true → m < 64) → (u m : ℕ) → has_held k' u m ≡ true → m < 64
got_low k k' t n place small got low u m is =
    elim (same_or n m) [
      | inl p ↦ subst (λ z. z < 64) p.0 small
      | inr p ↦ low u m (either (eqb t u) (has_held k u m) (sym (got.held u m ∙ ap (λ c. cond (eqb t u) (cond c true (has_held k u m)) (has_held k u m)) p.1) ∙ is))
    ]
  where
    either : (c d : Bool) → cond c d d ≡ true → d ≡ true
    either true d h = h
    either false d h = h

nests_at : (es : List Event) (m i t t' p p' : ℕ) → t' ≡ t → p' ≡ p → Nests es m i t p → Nests es m i t' p'
nests_at es m i t t' p p' same at h = subst (λ z. Nests es m i z p') (sym same) (subst (λ z. Nests es m i t z) (sym at) h)

pub turned_eqb : (a b : ℕ) (v : Bool) → eqb a b ≡ v → eqb b a ≡ v
turned_eqb a b v e = elim (same_or a b) [
  | inl p ↦ eq-eqb b a (sym p.0) ∙ sym p.1 ∙ e
  | inr p ↦ ne_eqb b a (λ z. p.0 (sym z)) ∙ sym p.1 ∙ e
]

as_it_is : (b : Bool) → cond b true false ≡ b
as_it_is true = refl
as_it_is false = refl

same_both : (b c : Bool) → cond b c c ≡ c
same_both true c = refl
same_both false c = refl

none_left : (b : Bool) → cond b false b ≡ false
none_left true = refl
none_left false = refl

-- who holds what, once a thread has got a free mutex
got_holds : (now : Spec) (t n u m : ℕ) → now.holder n ≡ none → is_thread (put now.holder n (some t) m) u ≡ cond (eqb t u) (cond (eqb n m) true (holds now u m)) (holds now u m)
got_holds now t n u m free =
    elim (same_or n m) [
      | inl p ↦
          let nobody : holds now u m ≡ false = ap (λ z. is_thread (now.holder z) u) (sym p.0) ∙ ap (λ o. is_thread o u) free in
          ap (λ b. is_thread (cond b (some t) (now.holder m)) u) (turned_eqb n m true p.1) ∙ sym (as_it_is (eqb t u))
          ∙ ap (λ b. cond (eqb t u) true b) (sym nobody) ∙ sym (ap (λ b. cond (eqb t u) (cond b true (holds now u m)) (holds now u m)) p.1)
      | inr p ↦
          ap (λ b. is_thread (cond b (some t) (now.holder m)) u) (turned_eqb n m false p.1) ∙ sym (same_both (eqb t u) (holds now u m))
          ∙ sym (ap (λ b. cond (eqb t u) (cond b true (holds now u m)) (holds now u m)) p.1)
    ]

-- who holds what, once a holder has given a mutex back
given_holds : (now : Spec) (t n u m : ℕ) → now.holder n ≡ some t → is_thread (put now.holder n none m) u ≡ cond (eqb t u) (cond (eqb n m) false (holds now u m)) (holds now u m)
given_holds now t n u m mine =
    elim (same_or n m) [
      | inl p ↦
          let only : holds now u m ≡ eqb t u = ap (λ z. is_thread (now.holder z) u) (sym p.0) ∙ ap (λ o. is_thread o u) mine in
          ap (λ b. is_thread (cond b none (now.holder m)) u) (turned_eqb n m true p.1) ∙ sym (none_left (eqb t u))
          ∙ ap (λ b. cond (eqb t u) false b) (sym only) ∙ sym (ap (λ b. cond (eqb t u) (cond b false (holds now u m)) (holds now u m)) p.1)
      | inr p ↦
          ap (λ b. is_thread (cond b none (now.holder m)) u) (turned_eqb n m false p.1) ∙ sym (same_both (eqb t u) (holds now u m))
          ∙ sym (ap (λ b. cond (eqb t u) (cond b false (holds now u m)) (holds now u m)) p.1)
    ]

given_was : (b c d : Bool) → cond b (cond c false d) d ≡ true → d ≡ true
given_was true true d h = absurd (false_true h)
given_was true false d h = h
given_was false c d h = h

module _ (es : List Event) (now next : Spec) (e : Event) (a : Acts now e next) where
  next_holds : (h : ℕ → Option ℕ) → (acted e.thread.0 now e.action).holder ≡ h → (u m : ℕ) → holds next u m ≡ is_thread (h m) u
  next_holds h same u m = ap (λ (z : Spec). holds z u m) a.1 ∙ ap (λ (f : ℕ → Option ℕ). is_thread (f m) u) same

  -- an event that gets no mutex nests nothing
  old_nests : (v : Version) (m n t p : ℕ) → got e.action ≡ none → IsRun v es now → Nests (es ++ e ∷ []) m n t p → Nests es m n t p
  old_nests v m n t p idle run h =
      elim (nests-either v es now e m n t p run h) [
        | inl old ↦ old
        | inr new ↦ absurd (some-ne-none n (sym new.gets ∙ idle))
      ]

  -- the event changes nothing of what is kept
  pub keeps : (k : LockGraph) → got e.action ≡ none → (acted e.thread.0 now e.action).holder ≡ now.holder → IsKept es now k → IsKept (es ++ e ∷ []) next k
  keeps k idle same kept = record {
    version = kept.version;
    run = leads-push (at_first kept.version) now next es e kept.run a;
    held = λ t m. kept.held t m ∙ sym (next_holds now.holder same t m);
    held_low = kept.held_low;
    low = kept.low;
    edge = λ m n b. nests-more es e m n (first_thread k m n) (first_place k m n) (kept.edge m n b);
    least = λ m n t p h. kept.least m n t p (old_nests kept.version m n t p idle kept.run h);
  }

  -- the event gives a mutex back
  pub keeps_given : (k k' : LockGraph) (n : ℕ) → got e.action ≡ none → given e.action ≡ some n → HasGiven k e.thread.0 n k' → IsKept es now k → IsKept (es ++ e ∷ []) next k'
  keeps_given k k' n idle gives g kept =
      let t = e.thread.0 in
      let mine = given_requires t now e.action n gives a.0.requires_met in
      let holding : (u m : ℕ) → has_held k' u m ≡ holds next u m = λ u m.
      g.held u m ∙ ap (λ b. cond (eqb t u) (cond (eqb n m) false b) b) (kept.held u m) ∙ sym (given_holds now t n u m mine)
      ∙ sym (next_holds (put now.holder n none) (given_after t now e.action n gives) u m)
      in
      let before : (m i : ℕ) → stands k' m i ≡ stands k m i = λ m i. ap (λ (l : List MutexSet). shown_at in_mutexes (λ _. false) l i m) g.outers in
      let thread : (m i : ℕ) → first_thread k' m i ≡ first_thread k m i = λ m i. ap (λ (l : List First). shown_at (λ (f : First). f.thread.0) 0 l (i * 64 + m)) g.firsts in
      let place : (m i : ℕ) → first_place k' m i ≡ first_place k m i = λ m i. ap (λ (l : List First). shown_at (λ (f : First). f.place) 0 l (i * 64 + m)) g.firsts in record {
        version = kept.version;
        run = leads-push (at_first kept.version) now next es e kept.run a;
        held = holding;
        held_low = λ u m is. kept.held_low u m (given_was (eqb t u) (eqb n m) (has_held k u m) (sym (g.held u m) ∙ is));
        low = λ m i b. kept.low m i (sym (before m i) ∙ b);
        edge = λ m i b.
            nests_at (es ++ e ∷ []) m i (first_thread k m i) (first_thread k' m i) (first_place k m i) (first_place k' m i) (thread m i) (place m i)
            (nests-more es e m i (first_thread k m i) (first_place k m i) (kept.edge m i (sym (before m i) ∙ b)));
        least = λ m i u p h. let l = kept.least m i u p (old_nests kept.version m i u p idle kept.run h) in (before m i ∙ l.0, subst (λ z. z ≤ p) (sym (place m i)) l.1);
      }

  -- the event gets a mutex
  pub keeps_got : (k k' : LockGraph) (n : ℕ) → n < 64 → got e.action ≡ some n → HasGot k e.thread.0 n (length es) k' → IsKept es now k → IsKept (es ++ e ∷ []) next k'
  keeps_got k k' n small gets g kept =
      let t = e.thread.0 in
      let free = got_when t now e.action n gets a.0.when_met in
      let holding : (u m : ℕ) → has_held k' u m ≡ holds next u m = λ u m.
      g.held u m ∙ ap (λ b. cond (eqb t u) (cond (eqb n m) true b) b) (kept.held u m) ∙ sym (got_holds now t n u m free)
      ∙ sym (next_holds (put now.holder n (some t)) (got_after t now e.action n gets) u m)
      in record {
        version = kept.version;
        run = leads-push (at_first kept.version) now next es e kept.run a;
        held = holding;
        held_low = got_low k k' t n (length es) small g kept.held_low;
        low = λ m i b. stood k k' t n (length es) g m i b (kept.low m i) (λ same new h. kept.held_low t m h);
        edge = λ m i b. stood k k' t n (length es) g m i b (got_old k k' n g kept m i) (got_new k k' n gets g kept m i);
        least = λ m i u p h. elim (nests-either kept.version es now e m i u p kept.run h) [
          | inl old ↦
              let l = kept.least m i u p old in
              let s = g.stays m i (kept.low m i l.0) l.0 in
              (still k k' t n (length es) g m i l.0, subst (λ z. z ≤ p) (sym s.1) l.1)
          | inr new ↦ got_least k k' n gets g kept m i u p new
        ];
      }
    where
      got_old : (k k' : LockGraph) (n : ℕ) → HasGot k e.thread.0 n (length es) k' → IsKept es now k → (m i : ℕ) → Before k m i → Nests (es ++ e ∷ []) m i (first_thread k' m i) (first_place k' m i)
      got_old k k' n g kept m i old =
          let s = g.stays m i (kept.low m i old) old in
          nests_at (es ++ e ∷ []) m i (first_thread k m i) (first_thread k' m i) (first_place k m i) (first_place k' m i) s.0 s.1
          (nests-more es e m i (first_thread k m i) (first_place k m i) (kept.edge m i old))

      got_new : (k k' : LockGraph) (n : ℕ) → got e.action ≡ some n → HasGot k e.thread.0 n (length es) k' → IsKept es now k → (m i : ℕ) → n ≡ i → stands k m n ≡ false → has_held k e.thread.0 m ≡ true
          → Nests (es ++ e ∷ []) m i (first_thread k' m i) (first_place k' m i)
      got_new k k' n gets g kept m i same new h =
          let s = g.fresh m new h in
          let mine : now.holder m ≡ some e.thread.0 = holder_is now e.thread.0 m (sym (kept.held e.thread.0 m) ∙ h) in
          subst (λ z. Nests (es ++ e ∷ []) m z (first_thread k' m z) (first_place k' m z)) same
          (nests_at (es ++ e ∷ []) m n e.thread.0 (first_thread k' m n) (length es) (first_place k' m n) s.0 s.1
          (nests-now kept.version es now e m n e.thread.0 (length es) kept.run (record { counted = refl; actor = refl; gets = gets; holds = mine })))

      got_least : (k k' : LockGraph) (n : ℕ) → got e.action ≡ some n → HasGot k e.thread.0 n (length es) k' → IsKept es now k → (m i u p : ℕ) → NestsNow es now e m i u p → Before k' m i × (first_place k' m i ≤ p)
      got_least k k' n gets g kept m i u p new =
          let same : n ≡ i = some-injective n i (sym gets ∙ new.gets) in
          let h : has_held k e.thread.0 m ≡ true = kept.held e.thread.0 m ∙ is_holder now e.thread.0 m (new.holds ∙ ap some (sym new.actor)) in
          let b : Before k' m n = here k k' e.thread.0 n (length es) g m h in
          let least : first_place k' m n ≤ p = elim (true_or (stands k m n)) [
            | inl old ↦
                let s = g.stays m n (kept.low m n old) old in
                let early = nests-early es m n (first_thread k m n) (first_place k m n) (kept.edge m n old) in
                omega (arith, s.1, new.counted, early)
            | inr out ↦ let s = g.fresh m out h in omega (arith, s.1, new.counted)
          ]
          in subst (λ z. Before k' m z × (first_place k' m z ≤ p)) same (b, least)
