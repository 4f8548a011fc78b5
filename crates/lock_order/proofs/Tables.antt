-- The tables of what is kept.
use Rattle.std.proofs.Common.{◌≡◌, ◌≢◌, ℕ, ◌+◌, ◌*◌, ◌<◌, ◌||◌, ◌&&◌, not, Bool, true, false, cond, eqb, inl, inr, List, [], ◌∷◌, length, length-append, get_or, set, replicate, refl, sym, ap, subst, ◌∙◌, arith, eq-eqb, ne_eqb}
use Rattle.larch_actions.specs.declared.event.Version.{Version}
use Rattle.larch_actions.specs.declared.event.MutexId.{MutexId}
use Rattle.larch_actions.specs.Actions.{at_first}
use Rattle.larch_actions.specs.State.{shown_at}
use Rattle.larch_actions.proofs.Shown.{shown_at-get_or, shown_at-set, shown_at-replicate}
use Rattle.lock_order.specs.declared.answer.Edge.{Edge}
use Rattle.lock_order.specs.declared.mutex_set.MutexSet.{MutexSet}
use Rattle.lock_order.specs.declared.lock_graph.First.{First}
use Rattle.lock_order.specs.declared.lock_graph.LockGraph.{LockGraph}
use Rattle.lock_order.specs.Sets.{in_mutexes}
use Rattle.lock_order.specs.Order.{Nests}
use Rattle.lock_order.specs.Kept.{has_held, stands, first_thread, first_place, IsKept, HasGot, HasEdge}
use Rattle.lock_order.specs.Circles.{first_of}
use Rattle.lock_order.proofs.Numbers.{false_true, both_ways, same_or}

module _ {X Y : Type 0} where
  shown_at-same : (view : X → Y) (d : Y) (xs : List X) (i : ℕ) (v : X) → i < length xs → shown_at view d (set xs i v) i ≡ view v
  shown_at-same view d xs i v low = ap (λ (f : ℕ → Y). f i) (shown_at-set view d xs i v low) ∙ ap (λ b. cond b (view v) (shown_at view d xs i)) (eq-eqb i i refl)

  shown_at-other : (view : X → Y) (d : Y) (xs : List X) (i j : ℕ) (v : X) → i < length xs → j ≢ i → shown_at view d (set xs i v) j ≡ shown_at view d xs j
  shown_at-other view d xs i j v low ne = ap (λ (f : ℕ → Y). f j) (shown_at-set view d xs i v low) ∙ ap (λ b. cond b (view v) (shown_at view d xs j)) (ne_eqb j i ne)

-- the sets of a list
abbrev words : List MutexSet → ℕ → ℕ → Bool
words xs = shown_at in_mutexes (λ _. false) xs

-- the sets of a list in which one is changed
pub set_word : (xs : List MutexSet) (t : ℕ) (w : MutexSet) (change : ℕ → Bool → Bool) → t < length xs
    → ((m : ℕ) → in_mutexes w m ≡ change m (in_mutexes (get_or xs t (record { bits = 0 })) m))
    → (u m : ℕ) → words (set xs t w) u m ≡ cond (eqb t u) (change m (words xs u m)) (words xs u m)
set_word xs t w change low new u m =
    elim (same_or t u) [
      | inl p ↦
          let was = shown_at-get_or in_mutexes (λ _. false) xs t (record { bits = 0 }) low in
          ap (λ z. words (set xs t w) z m) (sym p.0) ∙ ap (λ (f : ℕ → Bool). f m) (shown_at-same in_mutexes (λ _. false) xs t w low) ∙ new m
          ∙ ap (λ (f : ℕ → Bool). change m (f m)) (sym was) ∙ ap (λ z. change m (words xs z m)) p.0
          ∙ sym (ap (λ b. cond b (change m (words xs u m)) (words xs u m)) p.1)
      | inr p ↦
          ap (λ (f : ℕ → Bool). f m) (shown_at-other in_mutexes (λ _. false) xs t u w low (λ e. p.0 (sym e)))
          ∙ sym (ap (λ b. cond b (change m (words xs u m)) (words xs u m)) p.1)
    ]

-- the first edge as the table has it
pub first_is : (k : LockGraph) (outer inner : MutexId) → inner.0 * 64 + outer.0 < length k.firsts
    → (let f = get_or k.firsts (inner.0 * 64 + outer.0) (record { thread = record { 0 = 0 }; place = 0 }) in
    let n : Edge = record { outer = outer; inner = inner; thread = f.thread; place = f.place } in n) ≡ first_of k outer.0 inner.0
first_is k outer inner low =
    let d : First = record { thread = record { 0 = 0 }; place = 0 } in
    let t = sym (shown_at-get_or (λ (f : First). f.thread.0) 0 k.firsts (inner.0 * 64 + outer.0) d low) in
    let p = sym (shown_at-get_or (λ (f : First). f.place) 0 k.firsts (inner.0 * 64 + outer.0) d low) in
    (λ i. record { outer = outer; inner = inner; thread = record { 0 = t i }; place = p i })

no_nests : {A : Type 0} (m n t p : ℕ) → Nests [] m n t p → A
no_nests m n t p h = absurd (omega (arith, ap length h.split, length-append h.before (h.event ∷ h.after)))

-- what is kept of no event
pub starts : (none : MutexSet) → ((m : ℕ) → in_mutexes none m ≡ false)
    → (v : Version) → IsKept [] (at_first v) (record { held = replicate 256 none; outers = replicate 64 none; firsts = replicate 4096 (record { thread = record { 0 = 0 }; place = 0 }) })
starts empty h v =
    let nobody : (n t m : ℕ) → words (replicate n empty) t m ≡ false = λ n t m. ap (λ (f : ℕ → ℕ → Bool). f t m) (shown_at-replicate in_mutexes (λ _. false) n empty (λ i j. h j i)) in record {
      version = v;
      run = refl;
      held = nobody 256;
      held_low = λ t m is. both_ways (words (replicate 256 empty) t m) is (nobody 256 t m);
      low = λ m n is. both_ways (words (replicate 64 empty) n m) is (nobody 64 n m);
      edge = λ m n is. both_ways (words (replicate 64 empty) n m) is (nobody 64 n m);
      least = λ m n t p x. no_nests m n t p x;
    }

-- Of the set's mutexes those that aren't in the rest are noted.
pub record IsNesting (old now : LockGraph) (these rest : MutexSet) (t n place : ℕ) : Type 0 where
  pub held : now.held ≡ old.held
  pub outers : now.outers ≡ old.outers
  pub within : (m : ℕ) → in_mutexes rest m ≡ true → in_mutexes these m ≡ true
  pub stays : (m k : ℕ) → m < 64 → (n ≡ k → in_mutexes these m ≡ false) → (first_thread now m k ≡ first_thread old m k) × (first_place now m k ≡ first_place old m k)
  pub noted : (m : ℕ) → in_mutexes these m ≡ true → in_mutexes rest m ≡ false → (first_thread now m n ≡ t) × (first_place now m n ≡ place)

pub nesting_starts : (old : LockGraph) (these : MutexSet) (t n place : ℕ) → IsNesting old old these these t n place
nesting_starts old these t n place = record {
  held = refl;
  outers = refl;
  within = λ m e. e;
  stays = λ m k low out. (refl, refl);
  noted = λ m e f. both_ways (in_mutexes these m) e f;
}

-- the table in which the first edge of m before n was noted
abbrev noting : LockGraph → ℕ → ℕ → First → LockGraph
noting k m n f = record k { firsts = set k.firsts (n * 64 + m) f }

noted_same : (k : LockGraph) (m n : ℕ) (f : First) → n * 64 + m < length k.firsts → (first_thread (noting k m n f) m n ≡ f.thread.0) × (first_place (noting k m n f) m n ≡ f.place)
noted_same k m n f low = (shown_at-same (λ (f : First). f.thread.0) 0 k.firsts (n * 64 + m) f low, shown_at-same (λ (f : First). f.place) 0 k.firsts (n * 64 + m) f low)

noted_other : (k : LockGraph) (m n i j : ℕ) (f : First) → n * 64 + m < length k.firsts → j * 64 + i ≢ n * 64 + m → (first_thread (noting k m n f) i j ≡ first_thread k i j) × (first_place (noting k m n f) i j ≡ first_place k i j)
noted_other k m n i j f low ne = (shown_at-other (λ (f : First). f.thread.0) 0 k.firsts (n * 64 + m) (j * 64 + i) f low ne, shown_at-other (λ (f : First). f.place) 0 k.firsts (n * 64 + m) (j * 64 + i) f low ne)

was_in : (b c : Bool) → cond b false c ≡ true → c ≡ true
was_in true c e = absurd (false_true e)
was_in false c e = e

apart : (m n i j : ℕ) → m < 64 → i < 64 → (n ≡ j → m ≡ i → ⊥) → j * 64 + i ≢ n * 64 + m
apart m n i j a b ne = λ e. let same : n ≡ j = omega arith in let also : m ≡ i = omega arith in ne same also

-- one more of the rest is noted
pub nesting_goes : (old now : LockGraph) (these rest rest' : MutexSet) (f : First) (n m : ℕ) → IsNesting old now these rest f.thread.0 n f.place → in_mutexes rest m ≡ true → m < 64
    → ((k : ℕ) → in_mutexes rest' k ≡ cond (eqb m k) false (in_mutexes rest k)) → n * 64 + m < length now.firsts
    → IsNesting old (noting now m n f) these rest' f.thread.0 n f.place
nesting_goes old now these rest rest' f n m s here low less fits = record {
  held = s.held;
  outers = s.outers;
  within = λ k e. s.within k (was_in (eqb m k) (in_mutexes rest k) (sym (less k) ∙ e));
  stays = λ k j small out.
      let was = s.stays k j small out in
      let ne = apart m n k j low small (λ p q. both_ways (in_mutexes these k) (ap (in_mutexes these) (sym q) ∙ s.within m here) (out p)) in
      let new = noted_other now m n k j f fits ne in (new.0 ∙ was.0, new.1 ∙ was.1);
  noted = λ k e out. elim (same_or m k) [
    | inl p ↦ subst (λ z. (first_thread (noting now m n f) z n ≡ f.thread.0) × (first_place (noting now m n f) z n ≡ f.place)) p.0 (noted_same now m n f fits)
    | inr p ↦
        let was = s.noted k e (sym (less k ∙ ap (λ b. cond b false (in_mutexes rest k)) p.1) ∙ out) in
        let ne : n * 64 + k ≢ n * 64 + m = λ i. p.0 (omega arith) in
        let new = noted_other now m n k n f fits ne in (new.0 ∙ was.0, new.1 ∙ was.1)
  ];
}

-- all are noted
pub nesting_ends : (old now : LockGraph) (these rest w : MutexSet) (t n place : ℕ) → IsNesting old now these rest t n place → ((m : ℕ) → in_mutexes rest m ≡ false) → n < length now.outers
    → ((m : ℕ) → in_mutexes w m ≡ (in_mutexes (get_or now.outers n (record { bits = 0 })) m || in_mutexes these m))
    → HasEdge old these t n place (record now { outers = set now.outers n w })
nesting_ends old now these rest w t n place s gone low all = record {
  held = s.held;
  standing = λ m k. set_word now.outers n w (λ m b. b || in_mutexes these m) low all k m ∙ ap (λ (o : List MutexSet). cond (eqb n k) (words o k m || in_mutexes these m) (words o k m)) s.outers;
  stays = s.stays;
  fresh = λ m e. s.noted m e (gone m);
}

-- nothing is new
pub none_nested : (old : LockGraph) (these : MutexSet) (t n place : ℕ) → ((m : ℕ) → in_mutexes these m ≡ false) → HasEdge old these t n place old
none_nested old these t n place gone = record {
  held = refl;
  standing = λ m k. sym (ap (λ b. cond (eqb n k) (stands old m k || b) (stands old m k)) (gone m) ∙ same (eqb n k) (stands old m k));
  stays = λ m k low out. (refl, refl);
  fresh = λ m e. both_ways (in_mutexes these m) e (gone m);
}
  where
    same : (b c : Bool) → cond b (c || false) c ≡ c
    same true true = refl
    same true false = refl
    same false c = refl

or_new : (b h : Bool) → (b || (h && not b)) ≡ (b || h)
or_new true h = refl
or_new false true = refl
or_new false false = refl

none_new : (b h : Bool) → b ≡ true → (h && not b) ≡ false
none_new true true e = refl
none_new true false e = refl
none_new false h e = absurd (false_true e)

-- the mutexes held before have come to stand before the one that was got
pub got_from : (old mid : LockGraph) (these w : MutexSet) (t n place : ℕ) → HasEdge old these t n place mid
    → ((m : ℕ) → in_mutexes these m ≡ (in_mutexes (get_or old.held t (record { bits = 0 })) m && not (in_mutexes (get_or old.outers n (record { bits = 0 })) m)))
    → t < length old.held → n < length old.outers
    → ((m : ℕ) → in_mutexes w m ≡ cond (eqb n m) true (in_mutexes (get_or old.held t (record { bits = 0 })) m))
    → HasGot old t n place (record mid { held = set mid.held t w })
got_from old mid these w t n place h minus low_t low_n with_it =
    let new : (m : ℕ) → in_mutexes these m ≡ (has_held old t m && not (stands old m n)) = λ m. minus m
    ∙ ap (λ (f : ℕ → Bool). f m && not (in_mutexes (get_or old.outers n (record { bits = 0 })) m)) (sym (shown_at-get_or in_mutexes (λ _. false) old.held t (record { bits = 0 }) low_t))
    ∙ ap (λ (f : ℕ → Bool). has_held old t m && not (f m)) (sym (shown_at-get_or in_mutexes (λ _. false) old.outers n (record { bits = 0 }) low_n))
    in record {
      held = λ u m. ap (λ (l : List MutexSet). words (set l t w) u m) h.held ∙ set_word old.held t w (λ m b. cond (eqb n m) true b) low_t with_it u m;
      standing = λ m k. h.standing m k ∙ elim (same_or n k) [
        | inl p ↦
            let here : in_mutexes these m ≡ (has_held old t m && not (stands old m k)) = new m ∙ ap (λ z. has_held old t m && not (stands old m z)) p.0 in
            ap (λ b. cond b (stands old m k || in_mutexes these m) (stands old m k)) p.1 ∙ ap (λ b. stands old m k || b) here ∙ or_new (stands old m k) (has_held old t m)
            ∙ sym (ap (λ b. cond b (stands old m k || has_held old t m) (stands old m k)) p.1)
        | inr p ↦
            ap (λ b. cond b (stands old m k || in_mutexes these m) (stands old m k)) p.1 ∙ sym (ap (λ b. cond b (stands old m k || has_held old t m) (stands old m k)) p.1)
      ];
      stays = λ m k small b. h.stays m k small (λ e. new m ∙ none_new (stands old m n) (has_held old t m) (ap (λ z. stands old m z) e ∙ b));
      fresh = λ m out is. h.fresh m (new m ∙ ap (λ b. b && not (stands old m n)) is ∙ ap not out);
    }
