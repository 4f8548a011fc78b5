-- Conditions: how the steps on a count, and on the queue of a condition, change who is in one and what threads know of it.
use Rattle.std.proofs.Common.{Bool, true, false, cond, eqb, ◌≡◌, ◌≢◌, ℕ, ◌+◌, ◌<◌, ◌⊎◌, List, [], ◌∷◌, ◌++◌, get_or, set, refl, sym, ap, ◌∙◌, subst, inl, inr, ⊎_elim, arith, Some, None, eq-eqb, ne_eqb}
use mathlib.Core.Logic.{dite}
use mathlib.Core.Option.{Option, some, some-injective, some-ne-none}
use native.Mathlib.Decide.{ℕ_discrete}
use lib.ListN.{get_elem?}
use Rattle.larch_actions.specs.Actions.{put}
use Rattle.larch_actions.specs.Sets.{mem, without}
use Rattle.larch_actions.proofs.Sets.{mem-last, mem-snoc, mem-gone, mem-without}
use Rattle.nub_rule.specs.declared.view.Part.{Part}
use Rattle.nub_rule.specs.declared.view.Wait.{Wait}
use Rattle.nub_rule.specs.Items.{Distinct, Knows, Conditions}
use Rattle.nub_rule.specs.Parts.{is_at, counts_in}
use Rattle.nub_rule.specs.Places.{count_at, cond_object}
use Rattle.nub_rule.specs.Plays.{less}
use Rattle.nub_rule.proofs.Each.{each-set, put-here, put-else, put-at}
use Rattle.nub_rule.proofs.Frames.{SameCounts}
use Rattle.nub_rule.proofs.Lines.{some_none, false_true, less-without}

both_false : (b : Bool) → cond b false false ≡ false
both_false true = refl
both_false false = refl

always : (b : Bool) → cond b true true ≡ true
always true = refl
always false = refl

itself : (b : Bool) → cond b true false ≡ b
itself true = refl
itself false = refl

-- where a wait says that its thread is in the condition c while the count is k
pub counts-none : (w : Wait) (c k : ℕ) → w.member ≡ None → counts_in (Some w) c k ≡ false
counts-none w c k e = ap (λ m. cond (eqb w.cond.0 c) (is_at m k) false) e ∙ both_false (eqb w.cond.0 c)

counts-here : (w : Wait) (c k : ℕ) → w.cond.0 ≡ c → (j : ℕ) → w.member ≡ Some j → j ≡ k → counts_in (Some w) c k ≡ true
counts-here w c k e j m is = ap (λ b. cond b (is_at w.member k) false) (eq-eqb w.cond.0 c e) ∙ (ap (λ m. is_at m k) m ∙ eq-eqb j k is)

counts-else : (w : Wait) (c k : ℕ) → w.cond.0 ≢ c → counts_in (Some w) c k ≡ false
counts-else w c k ne = ap (λ b. cond b (is_at w.member k) false) (ne_eqb w.cond.0 c ne)

counts-past : (w : Wait) (c k j : ℕ) → w.member ≡ Some j → j ≢ k → counts_in (Some w) c k ≡ false
counts-past w c k j m ne = ap (λ m. cond (eqb w.cond.0 c) (is_at m k) false) m ∙ (ap (λ b. cond (eqb w.cond.0 c) b false) (ne_eqb j k ne) ∙ both_false (eqb w.cond.0 c))

module _ (f : ℕ → ℕ → Bool) (c n : ℕ) (b : Bool) where
  twice-same : (i j : ℕ) → i ≡ c → j ≡ n → put f c (put (f c) n b) i j ≡ b
  twice-same i j e g = (λ x. put f c (put (f c) n b) (e x) (g x)) ∙ ((λ x. put-here f c (put (f c) n b) x n) ∙ put-here (f c) n b)

  twice-else : (i j : ℕ) → (i ≢ c) ⊎ (j ≢ n) → put f c (put (f c) n b) i j ≡ f i j
  twice-else i j ne = dite (ℕ_discrete i c)
      (λ e. (λ x. put f c (put (f c) n b) (e x) j) ∙ ((λ x. put-here f c (put (f c) n b) x j) ∙ (⊎_elim (λ (a : i ≢ c). absurd (a e)) (λ (a : j ≢ n). put-else (f c) n j b a) ne ∙ λ x. f (sym e x) j)))
      (λ other x. put-else f c i (put (f c) n b) other x j)

twice-either : {A : Type 0} (i j c n : ℕ) → (i ≡ c → j ≡ n → A) → ((i ≢ c) ⊎ (j ≢ n) → A) → A
twice-either i j c n f g = dite (ℕ_discrete i c) (λ e. dite (ℕ_discrete j n) (λ h. f e h) (λ ne. g (inr ne))) (λ ne. g (inl ne))

apart : (c i n : ℕ) → (i ≢ c) ⊎ (n ≢ n) → c ≡ i → ⊥
apart c i n ne e = ⊎_elim (λ (a : i ≢ c). a (sym e)) (λ (a : n ≢ n). a refl) ne

module _ {T H : Type 0} (words words' : List ℕ) (spinner : ℕ → Option ℕ) (queue : ℕ → List ℕ) (members : ℕ → ℕ → Bool) (all : List (Part T H)) (n : ℕ) (p q : Part T H) (at : get_elem? all n ≡ some p) (s : Conditions words spinner queue members all) where
  -- the thread n, which has taken nobody, begins a wait with the count k of c, and is in c
  pub conditions-enter : (c k : ℕ) (w : Wait) → c < 64 → SameCounts words words' → k ≡ get_or words (count_at (cond_object c)) 0 → w.cond.0 ≡ c → w.member ≡ Some k
      → p.wait ≡ None → q.wait ≡ Some w → q.left ≡ p.left → q.queue ≡ p.queue → q.count ≡ p.count → p.left ≡ p.queue → Conditions words' spinner queue (put members c (put (members c) n true)) (set all n q)
  conditions-enter c k w low ws read on stood before ew el eq ec even =
      let t = s.knows n p at in
      let counting' = put s.counting c (put (s.counting c) n true) in
      let known : k ≡ s.count c = read ∙ s.counted c low in
      let was : (i : ℕ) → s.counting i n ≡ false = λ i. t.counts i ∙ ap (λ w. counts_in w i (s.count i)) before in record {
        left = s.left;
        count = s.count;
        counting = counting';
        member = λ i j. twice-either i j c n
            (λ e f. twice-same members c n true i j e f ∙ sym (ap (λ b. cond (mem j (s.left i)) true b) (twice-same s.counting c n true i j e f) ∙ always (mem j (s.left i))))
            (λ ne. twice-else members c n true i j ne ∙ (s.member i j ∙ ap (λ b. cond (mem j (s.left i)) true b) (sym (twice-else s.counting c n true i j ne))));
        counted = λ i lo. ws i lo ∙ s.counted i lo;
        whole = s.whole;
        queued = s.queued;
        knows = each-set (Knows spinner s.left s.count s.counting) (Knows spinner s.left s.count counting') all n q record {
          counts = λ i. let now = ap (λ w. counts_in w i (s.count i)) (sym ew) in twice-either i n c n
              (λ e f. twice-same s.counting c n true i n e f ∙ (sym (counts-here w i (s.count i) (on ∙ sym e) k stood (known ∙ ap s.count (sym e))) ∙ now))
              (λ ne. twice-else s.counting c n true i n ne ∙ (was i ∙ (sym (counts-else w i (s.count i) (λ e. apart c i n ne (sym on ∙ e))) ∙ now)));
          risen = λ i j hi. ap (λ w. counts_in w i j) ew ∙ dite (ℕ_discrete w.cond.0 i)
              (λ e. counts-past w i j k stood (λ z. let f = ap s.count (sym on ∙ e) in absurd (omega arith)))
              (λ ne. counts-else w i j ne);
          inside = λ i own. let o = t.inside i own in (el ∙ o.0, ec ∙ o.1);
          even = λ x is. el ∙ (even ∙ sym eq);
        } (λ j x ne at' u. record { counts = λ i. twice-else s.counting c n true i j (inr ne) ∙ u.counts i; risen = u.risen; inside = u.inside; even = u.even }) s.knows;
      }

  -- the thread n, which has the spin word of c and is in no wait, advances the count, and of the condition it leaves the threads ys of those in the queue
  pub conditions-advance : (c : ℕ) (ys : List ℕ) (f : ℕ → Bool) → c < 64 → ((i : ℕ) → i < 64 → i ≢ c → get_or words' (count_at (cond_object i)) 0 ≡ get_or words (count_at (cond_object i)) 0)
      → get_or words' (count_at (cond_object c)) 0 ≡ get_or words (count_at (cond_object c)) 0 + 1 → spinner (cond_object c) ≡ some n → ((k : ℕ) → spinner k ≡ some n → k ≡ cond_object c)
      → p.wait ≡ None → q.wait ≡ p.wait → q.left ≡ ys → q.count ≡ p.count + 1 → ((t : ℕ) → f t ≡ mem t ys) → ((t : ℕ) → mem t p.left ≡ false → mem t ys ≡ false)
      → Conditions words' spinner queue (put members c f) (set all n q)
  conditions-advance c ys f low ws up own only out ew el ec is less =
      let t = s.knows n p at in
      let left' = put s.left c ys in
      let count' = put s.count c (s.count c + 1) in
      let counting' = put s.counting c (λ _. false) in
      let mine = t.inside c own in
      let none_waits : (i k : ℕ) → counts_in q.wait i k ≡ false = λ i k. ap (λ w. counts_in w i k) (ew ∙ out) in record {
        left = left';
        count = count';
        counting = counting';
        member = λ i j. dite (ℕ_discrete i c)
            (λ e. (λ x. put-at members c f i e x j) ∙ (is j ∙ (sym (itself (mem j ys)) ∙ λ x. cond (mem j (sym (put-at s.left c ys i e) x)) true (sym (put-at s.counting c (λ _. false) i e) x j))))
            (λ ne. (λ x. put-else members c i f ne x j) ∙ (s.member i j ∙ λ x. cond (mem j (sym (put-else s.left c i ys ne) x)) true (sym (put-else s.counting c i (λ _. false) ne) x j)));
        counted = λ i lo. dite (ℕ_discrete i c)
            (λ e. ap (λ (z : ℕ). get_or words' (count_at (cond_object z)) 0) e ∙ (up ∙ (ap (λ (z : ℕ). z + 1) (s.counted c low) ∙ sym (put-at s.count c (s.count c + 1) i e))))
            (λ ne. ws i lo ne ∙ (s.counted i lo ∙ sym (put-else s.count c i (s.count c + 1) ne)));
        whole = λ i free. dite (ℕ_discrete i c)
            (λ e. absurd (some-ne-none n (sym own ∙ (ap (λ (z : ℕ). spinner (cond_object z)) (sym e) ∙ free))))
            (λ ne. put-else s.left c i ys ne ∙ s.whole i free);
        queued = λ i j off. dite (ℕ_discrete i c)
            (λ e. ap (mem j) (put-at s.left c ys i e) ∙ less j (ap (mem j) mine.0 ∙ s.queued c j (ap (λ (z : ℕ). mem j (queue (cond_object z))) (sym e) ∙ off)))
            (λ ne. ap (mem j) (put-else s.left c i ys ne) ∙ s.queued i j off);
        knows = each-set (Knows spinner s.left s.count s.counting) (Knows spinner left' count' counting') all n q record {
          counts = λ i. dite (ℕ_discrete i c)
              (λ e. (λ x. put-at s.counting c (λ _. false) i e x n) ∙ sym (none_waits i (count' i)))
              (λ ne. (λ x. put-else s.counting c i (λ _. false) ne x n) ∙ (t.counts i ∙ (ap (λ w. counts_in w i (s.count i)) out ∙ sym (none_waits i (count' i)))));
          risen = λ i k hi. none_waits i k;
          inside = λ i has. dite (ℕ_discrete i c)
              (λ e. (el ∙ sym (put-at s.left c ys i e), ec ∙ (ap (λ (z : ℕ). z + 1) mine.1 ∙ sym (put-at s.count c (s.count c + 1) i e))))
              (λ ne. absurd (ne (let z = only (cond_object i) has in omega arith)));
          even = λ w in_wait. absurd (some_none q.wait w (ew ∙ out) in_wait);
        } (λ j x ne at' u. record {
          counts = λ i. dite (ℕ_discrete i c)
              (λ e. (λ z. put-at s.counting c (λ _. false) i e z j) ∙ (sym (u.risen c (s.count c + 1) (omega arith)) ∙ λ z. counts_in x.wait (sym e z) (sym (put-at s.count c (s.count c + 1) i e) z)))
              (λ other. (λ z. put-else s.counting c i (λ _. false) other z j) ∙ (u.counts i ∙ ap (counts_in x.wait i) (sym (put-else s.count c i (s.count c + 1) other))));
          risen = λ i k hi. u.risen i k (dite (ℕ_discrete i c)
              (λ e. let a = put-at s.count c (s.count c + 1) i e in let b = ap s.count e in omega arith)
              (λ other. let a = put-else s.count c i (s.count c + 1) other in omega arith));
          inside = λ i has. dite (ℕ_discrete i c)
              (λ e. absurd (ne (some-injective j n (sym has ∙ (ap (λ (z : ℕ). spinner (cond_object z)) e ∙ own)))))
              (λ other. let o = u.inside i has in (o.0 ∙ sym (put-else s.left c i ys other), o.1 ∙ sym (put-else s.count c i (s.count c + 1) other)));
          even = u.even;
        }) s.knows;
      }

  -- the thread n, whose count still stands, is put last into the queue of c
  pub conditions-push : (c : ℕ) (w w' : Wait) (ys : List ℕ) → SameCounts words words' → spinner (cond_object c) ≡ some n → ((k : ℕ) → spinner k ≡ some n → k ≡ cond_object c)
      → p.wait ≡ Some w → w.cond.0 ≡ c → w.member ≡ Some p.count → q.wait ≡ Some w' → w'.member ≡ None → q.left ≡ p.left ++ n ∷ [] → q.queue ≡ p.queue ++ n ∷ [] → q.count ≡ p.count → ys ≡ queue (cond_object c) ++ n ∷ []
      → Conditions words' spinner (put queue (cond_object c) ys) members (set all n q)
  conditions-push c w w' ys ws own only before on stood after none_now el eq ec is =
      let t = s.knows n p at in
      let xs : List ℕ = s.left c ++ n ∷ [] in
      let left' = put s.left c xs in
      let counting' = put s.counting c (put (s.counting c) n false) in
      let queue' = put queue (cond_object c) ys in
      let other_place : (i : ℕ) → i ≢ c → cond_object i ≢ cond_object c = λ i ne z. ne (omega arith) in
      let mine = t.inside c own in
      let was : s.counting c n ≡ true = t.counts c ∙ (ap (λ w. counts_in w c (s.count c)) before ∙ counts-here w c (s.count c) on p.count stood mine.1) in
      let now : (i k : ℕ) → counts_in q.wait i k ≡ false = λ i k. ap (λ w. counts_in w i k) after ∙ counts-none w' i k none_now in record {
        left = left';
        count = s.count;
        counting = counting';
        member = λ i j. s.member i j ∙ twice-either i j c n
            (λ e g. (λ x. cond (mem j (s.left i)) true (s.counting (e x) (g x))) ∙ (ap (λ b. cond (mem j (s.left i)) true b) was ∙ (always (mem j (s.left i))
            ∙ sym (ap (λ b. cond b true (counting' i j)) ((λ x. mem (g x) (put-at s.left c xs i e x)) ∙ mem-last n (s.left c))))))
            (λ ne. (λ x. cond (mem j (s.left i)) true (sym (twice-else s.counting c n false i j ne) x)) ∙ ap (λ b. cond b true (counting' i j)) (sym (dite (ℕ_discrete i c)
            (λ e. ap (mem j) (put-at s.left c xs i e) ∙ (⊎_elim (λ (a : i ≢ c). absurd (a e)) (λ (a : j ≢ n). mem-snoc j n (s.left c) (λ z. a (sym z))) ne ∙ ap (λ (z : ℕ). mem j (s.left z)) (sym e)))
            (λ other. ap (mem j) (put-else s.left c i xs other)))));
        counted = λ i lo. ws i lo ∙ s.counted i lo;
        whole = λ i free. dite (ℕ_discrete i c)
            (λ e. absurd (some-ne-none n (sym own ∙ (ap (λ (z : ℕ). spinner (cond_object z)) (sym e) ∙ free))))
            (λ ne. put-else s.left c i xs ne ∙ (s.whole i free ∙ sym (put-else queue (cond_object c) (cond_object i) ys (other_place i ne))));
        queued = λ i j off. dite (ℕ_discrete i c)
            (λ e.
            let gone : mem j (queue (cond_object c) ++ n ∷ []) ≡ false = ap (mem j) (sym (put-at queue (cond_object c) ys (cond_object i) (ap cond_object e) ∙ is)) ∙ off in
            let other : n ≢ j = λ z. false_true (sym gone ∙ (ap (λ (y : ℕ). mem y (queue (cond_object c) ++ n ∷ [])) (sym z) ∙ mem-last n (queue (cond_object c)))) in
            ap (mem j) (put-at s.left c xs i e) ∙ (mem-snoc j n (s.left c) other ∙ s.queued c j (sym (mem-snoc j n (queue (cond_object c)) other) ∙ gone)))
            (λ ne. ap (mem j) (put-else s.left c i xs ne) ∙ s.queued i j (ap (mem j) (sym (put-else queue (cond_object c) (cond_object i) ys (other_place i ne))) ∙ off));
        knows = each-set (Knows spinner s.left s.count s.counting) (Knows spinner left' s.count counting') all n q record {
          counts = λ i. twice-either i n c n
              (λ e g. twice-same s.counting c n false i n e g ∙ sym (now i (s.count i)))
              (λ ne. twice-else s.counting c n false i n ne ∙ (t.counts i ∙ (ap (λ w. counts_in w i (s.count i)) before ∙ (counts-else w i (s.count i) (λ e. apart c i n ne (sym on ∙ e)) ∙ sym (now i (s.count i))))));
          risen = λ i k hi. now i k;
          inside = λ i has. dite (ℕ_discrete i c)
              (λ e. (el ∙ (ap (λ l. l ++ n ∷ []) mine.0 ∙ sym (put-at s.left c xs i e)), ec ∙ (mine.1 ∙ ap s.count (sym e))))
              (λ ne. absurd (ne (let z = only (cond_object i) has in omega arith)));
          even = λ x in_wait. el ∙ (ap (λ l. l ++ n ∷ []) (t.even w before) ∙ sym eq);
        } (λ j x ne at' u. record {
          counts = λ i. twice-else s.counting c n false i j (inr ne) ∙ u.counts i;
          risen = u.risen;
          inside = λ i has. dite (ℕ_discrete i c)
              (λ e. absurd (ne (some-injective j n (sym has ∙ (ap (λ (z : ℕ). spinner (cond_object z)) e ∙ own)))))
              (λ other. let o = u.inside i has in (o.0 ∙ sym (put-else s.left c i xs other), o.1));
          even = u.even;
        }) s.knows;
      }

  -- the thread n has seen that the count that it read no longer stands
  pub conditions-compare : (c k : ℕ) (w w' : Wait) → SameCounts words words' → c < 64 → p.wait ≡ Some w → w.cond.0 ≡ c → w.member ≡ Some k → k ≢ get_or words (count_at (cond_object c)) 0
      → q.wait ≡ Some w' → w'.member ≡ None → q.left ≡ p.left → q.queue ≡ p.queue → q.count ≡ p.count → Conditions words' spinner queue members (set all n q)
  conditions-compare c k w w' ws low before on stood moved after none_now el eq ec =
      let t = s.knows n p at in
      let X = Knows spinner s.left s.count s.counting in
      let now : (i k : ℕ) → counts_in q.wait i k ≡ false = λ i k. ap (λ w. counts_in w i k) after ∙ counts-none w' i k none_now in
      let was : (i : ℕ) → counts_in (Some w) i (s.count i) ≡ false = λ i. dite (ℕ_discrete w.cond.0 i)
      (λ e. counts-past w i (s.count i) k stood (λ z. moved (z ∙ (ap s.count (sym e ∙ on) ∙ sym (s.counted c low)))))
      (λ ne. counts-else w i (s.count i) ne) in record {
        left = s.left;
        count = s.count;
        counting = s.counting;
        member = s.member;
        counted = λ i lo. ws i lo ∙ s.counted i lo;
        whole = s.whole;
        queued = s.queued;
        knows = each-set X X all n q record {
          counts = λ i. t.counts i ∙ (ap (λ w. counts_in w i (s.count i)) before ∙ (was i ∙ sym (now i (s.count i))));
          risen = λ i k hi. now i k;
          inside = λ i has. let o = t.inside i has in (el ∙ o.0, ec ∙ o.1);
          even = λ x in_wait. el ∙ (t.even w before ∙ sym eq);
        } (λ j x ne at' u. u) s.knows;
      }

  -- the thread n, which is in a wait on c, leaves the queue of c, in which it was, and is in c by the count that stands
  pub conditions-leave : (c : ℕ) (w w' : Wait) (ys : List ℕ) → SameCounts words words' → spinner (cond_object c) ≡ some n → ((k : ℕ) → spinner k ≡ some n → k ≡ cond_object c)
      → p.wait ≡ Some w → w.cond.0 ≡ c → q.wait ≡ Some w' → w'.cond.0 ≡ c → w'.member ≡ Some p.count → q.left ≡ less n p.left → q.queue ≡ less n p.queue → q.count ≡ p.count
      → p.queue ≡ queue (cond_object c) → Distinct (queue (cond_object c)) → mem n (queue (cond_object c)) ≡ true → ys ≡ less n (queue (cond_object c))
      → Conditions words' spinner (put queue (cond_object c) ys) members (set all n q)
  conditions-leave c w w' ys ws own only before on after on' stood el eq ec known distinct there is =
      let t = s.knows n p at in
      let mine = t.inside c own in
      let all_left : queue (cond_object c) ≡ s.left c = sym known ∙ (sym (t.even w before) ∙ mine.0) in
      let xs : List ℕ = less n (s.left c) in
      let left' = put s.left c xs in
      let counting' = put s.counting c (put (s.counting c) n true) in
      let other_place : (i : ℕ) → i ≢ c → cond_object i ≢ cond_object c = λ i ne z. ne (omega arith) in
      let fewer : xs ≡ without n (s.left c) = less-without n (s.left c) (subst Distinct all_left distinct) in
      let out : mem n xs ≡ false = ap (mem n) fewer ∙ mem-gone n (s.left c) in
      let others : (j : ℕ) → j ≢ n → mem j xs ≡ mem j (s.left c) = λ j ne. ap (mem j) fewer ∙ mem-without j n (s.left c) ne in
      let now : (i k : ℕ) → counts_in q.wait i k ≡ counts_in (Some w') i k = λ i k. ap (λ z. counts_in z i k) after in record {
        left = left';
        count = s.count;
        counting = counting';
        member = λ i j. s.member i j ∙ twice-either i j c n
            (λ e g. (λ x. cond (mem (g x) (s.left (e x))) true (s.counting i j)) ∙ (ap (λ b. cond b true (s.counting i j)) (ap (mem n) (sym all_left) ∙ there)
            ∙ sym (ap (λ b. cond (mem j (left' i)) true b) (twice-same s.counting c n true i j e g) ∙ always (mem j (left' i)))))
            (λ ne. (λ x. cond (mem j (s.left i)) true (sym (twice-else s.counting c n true i j ne) x)) ∙ ap (λ b. cond b true (counting' i j)) (sym (dite (ℕ_discrete i c)
            (λ e. ap (mem j) (put-at s.left c xs i e) ∙ (⊎_elim (λ (a : i ≢ c). absurd (a e)) (λ (a : j ≢ n). others j a) ne ∙ ap (λ (z : ℕ). mem j (s.left z)) (sym e)))
            (λ other. ap (mem j) (put-else s.left c i xs other)))));
        counted = λ i lo. ws i lo ∙ s.counted i lo;
        whole = λ i free. dite (ℕ_discrete i c)
            (λ e. absurd (some-ne-none n (sym own ∙ (ap (λ (z : ℕ). spinner (cond_object z)) (sym e) ∙ free))))
            (λ ne. put-else s.left c i xs ne ∙ (s.whole i free ∙ sym (put-else queue (cond_object c) (cond_object i) ys (other_place i ne))));
        queued = λ i j off. dite (ℕ_discrete i c)
            (λ e.
            let same : put queue (cond_object c) ys (cond_object i) ≡ xs = put-at queue (cond_object c) ys (cond_object i) (ap cond_object e) ∙ (is ∙ ap (less n) all_left) in
            ap (mem j) (put-at s.left c xs i e) ∙ (ap (mem j) (sym same) ∙ off))
            (λ ne. ap (mem j) (put-else s.left c i xs ne) ∙ s.queued i j (ap (mem j) (sym (put-else queue (cond_object c) (cond_object i) ys (other_place i ne))) ∙ off));
        knows = each-set (Knows spinner s.left s.count s.counting) (Knows spinner left' s.count counting') all n q record {
          counts = λ i. twice-either i n c n
              (λ e g. twice-same s.counting c n true i n e g ∙ sym (now i (s.count i) ∙ counts-here w' i (s.count i) (on' ∙ sym e) p.count stood (mine.1 ∙ ap s.count (sym e))))
              (λ ne. twice-else s.counting c n true i n ne ∙ (t.counts i ∙ (ap (λ w. counts_in w i (s.count i)) before ∙ (counts-else w i (s.count i) (λ e. apart c i n ne (sym on ∙ e))
              ∙ sym (now i (s.count i) ∙ counts-else w' i (s.count i) (λ e. apart c i n ne (sym on' ∙ e)))))));
          risen = λ i k hi. now i k ∙ dite (ℕ_discrete w'.cond.0 i)
              (λ e. counts-past w' i k p.count stood (λ z. let f = ap s.count (sym on' ∙ e) in let g = mine.1 in absurd (omega arith)))
              (λ ne. counts-else w' i k ne);
          inside = λ i has. dite (ℕ_discrete i c)
              (λ e. (el ∙ (ap (less n) mine.0 ∙ sym (put-at s.left c xs i e)), ec ∙ (mine.1 ∙ ap s.count (sym e))))
              (λ ne. absurd (ne (let z = only (cond_object i) has in omega arith)));
          even = λ x in_wait. el ∙ (ap (less n) (t.even w before) ∙ sym eq);
        } (λ j x ne at' u. record {
          counts = λ i. twice-else s.counting c n true i j (inr ne) ∙ u.counts i;
          risen = u.risen;
          inside = λ i has. dite (ℕ_discrete i c)
              (λ e. absurd (ne (some-injective j n (sym has ∙ (ap (λ (z : ℕ). spinner (cond_object z)) e ∙ own)))))
              (λ other. let o = u.inside i has in (o.0 ∙ sym (put-else s.left c i xs other), o.1));
          even = u.even;
        }) s.knows;
      }

  -- the first leaves the queue of c, of which an advance had taken it
  pub conditions-pop : (c : ℕ) (ys : List ℕ) → SameCounts words words' → spinner (cond_object c) ≡ some n → p.wait ≡ None → q.wait ≡ p.wait → q.left ≡ p.left → q.count ≡ p.count
      → ((t : ℕ) → mem t ys ≡ false → mem t p.left ≡ false) → Conditions words' spinner (put queue (cond_object c) ys) members (set all n q)
  conditions-pop c ys ws own out ew el ec taken =
      let other_place : (i : ℕ) → i ≢ c → cond_object i ≢ cond_object c = λ i ne z. ne (omega arith) in
      let t = s.knows n p at in let mine = t.inside c own in let X = Knows spinner s.left s.count s.counting in record {
        left = s.left;
        count = s.count;
        counting = s.counting;
        member = s.member;
        counted = λ i lo. ws i lo ∙ s.counted i lo;
        whole = λ i free. dite (ℕ_discrete i c)
            (λ e. absurd (some-ne-none n (sym own ∙ (ap (λ (z : ℕ). spinner (cond_object z)) (sym e) ∙ free))))
            (λ ne. s.whole i free ∙ sym (put-else queue (cond_object c) (cond_object i) ys (other_place i ne)));
        queued = λ i j off. dite (ℕ_discrete i c)
            (λ e. ap (λ (z : ℕ). mem j (s.left z)) e ∙ (ap (mem j) (sym mine.0) ∙ taken j (ap (mem j) (sym (put-at queue (cond_object c) ys (cond_object i) (ap cond_object e))) ∙ off)))
            (λ ne. s.queued i j (ap (mem j) (sym (put-else queue (cond_object c) (cond_object i) ys (other_place i ne))) ∙ off));
        knows = each-set X X all n q record {
          counts = λ i. t.counts i ∙ ap (λ w. counts_in w i (s.count i)) (sym ew);
          risen = λ i k hi. ap (λ w. counts_in w i k) ew ∙ t.risen i k hi;
          inside = λ i has. let o = t.inside i has in (el ∙ o.0, ec ∙ o.1);
          even = λ w in_wait. absurd (some_none q.wait w (ew ∙ out) in_wait);
        } (λ j x ne at' u. u) s.knows;
      }

  -- the thread n, which isn't queued at c, is taken out of c, on which it waited, and waits no longer
  pub conditions-out : (c : ℕ) (w : Wait) → SameCounts words words' → p.wait ≡ Some w → w.cond.0 ≡ c → q.wait ≡ None → q.left ≡ p.left → q.count ≡ p.count → mem n (queue (cond_object c)) ≡ false → Conditions words' spinner queue (put members c (put (members c) n false)) (set all n q)
  conditions-out c w ws before on after el ec off =
      let t = s.knows n p at in
      let counting' = put s.counting c (put (s.counting c) n false) in
      let now : (i k : ℕ) → counts_in q.wait i k ≡ false = λ i k. ap (λ z. counts_in z i k) after in record {
        left = s.left;
        count = s.count;
        counting = counting';
        member = λ i j. twice-either i j c n
            (λ e f. twice-same members c n false i j e f ∙ sym ((λ x. cond (mem (f x) (s.left (e x))) true (counting' i j)) ∙ (ap (λ b. cond b true (counting' i j)) (s.queued c n off) ∙ twice-same s.counting c n false i j e f)))
            (λ ne. twice-else members c n false i j ne ∙ (s.member i j ∙ ap (λ b. cond (mem j (s.left i)) true b) (sym (twice-else s.counting c n false i j ne))));
        counted = λ i lo. ws i lo ∙ s.counted i lo;
        whole = s.whole;
        queued = s.queued;
        knows = each-set (Knows spinner s.left s.count s.counting) (Knows spinner s.left s.count counting') all n q record {
          counts = λ i. twice-either i n c n
              (λ e f. twice-same s.counting c n false i n e f ∙ sym (now i (s.count i)))
              (λ ne. twice-else s.counting c n false i n ne ∙ (t.counts i ∙ (ap (λ w. counts_in w i (s.count i)) before ∙ (counts-else w i (s.count i) (λ e. apart c i n ne (sym on ∙ e)) ∙ sym (now i (s.count i))))));
          risen = λ i k hi. now i k;
          inside = λ i own. let o = t.inside i own in (el ∙ o.0, ec ∙ o.1);
          even = λ x is. absurd (some_none q.wait x after is);
        } (λ j x ne at' u. record { counts = λ i. twice-else s.counting c n false i j (inr ne) ∙ u.counts i; risen = u.risen; inside = u.inside; even = u.even }) s.knows;
      }

  -- the wait of the thread n changes in nothing that the conditions read
  pub conditions-wait : (w w' : Wait) → SameCounts words words' → p.wait ≡ Some w → q.wait ≡ Some w' → w'.cond ≡ w.cond → w'.member ≡ w.member → q.left ≡ p.left → q.queue ≡ p.queue → q.count ≡ p.count → Conditions words' spinner queue members (set all n q)
  conditions-wait w w' ws before after ec em el eq ek =
      let t = s.knows n p at in let X = Knows spinner s.left s.count s.counting in
      let same : (i k : ℕ) → counts_in q.wait i k ≡ counts_in p.wait i k = λ i k. ap (λ z. counts_in z i k) after ∙ ((λ j. cond (eqb (ec j).0 i) (is_at (em j) k) false) ∙ sym (ap (λ z. counts_in z i k) before)) in record {
        left = s.left;
        count = s.count;
        counting = s.counting;
        member = s.member;
        counted = λ i lo. ws i lo ∙ s.counted i lo;
        whole = s.whole;
        queued = s.queued;
        knows = each-set X X all n q record {
          counts = λ i. t.counts i ∙ sym (same i (s.count i));
          risen = λ i k hi. same i k ∙ t.risen i k hi;
          inside = λ i has. let o = t.inside i has in (el ∙ o.0, ek ∙ o.1);
          even = λ x is. el ∙ (t.even w before ∙ sym eq);
        } (λ j x ne at' u. u) s.knows;
      }
