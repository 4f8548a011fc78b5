-- The slots at hand, and the values as contracts see them.
use Rattle.std.proofs.Common.{◌≡◌, ◌≢◌, ℕ, ◌<◌, List, [], ◌∷◌, map, length, set, refl, sym, ap, ◌∙◌, subst, arith, Some, None, zero-add, length-set}
use Rattle.std.specs.Prelude.{Option as Opt}
use Rattle.std.specs.List.{range_with_len}
use Rattle.std.proofs.lemmas.List.FromFn.{length-map-range_with_len}
use mathlib.Core.Logic.{dite}
use mathlib.Core.Option.{some, some-injective}
use native.Mathlib.Decide.{ℕ_discrete}
use lib.ListN.{get_elem?}
use Rattle.atomic_table.specs.Table.{rest}
use Rattle.atomic_table.proofs.Lists.{set_else, set_here}
use Rattle.nub_rule.specs.declared.rule.Slot.{Slot}
use Rattle.nub_rule.specs.declared.rule.Slot.TheVariants.{Value, Queue}
use Rattle.nub_rule.specs.declared.view.Part.{Part}
use Rattle.nub_rule.specs.Items.{queue_of}
use Rattle.nub_rule.specs.Known.{value_in, values_of, Hands}
use Rattle.nub_rule.specs.Places.{most_threads, queue_at, value_at}
use Rattle.nub_rule.specs.Slots.{find, IsDistinct, Below}
use Rattle.nub_rule.proofs.Each.{at_within, same_elements, at_firsts}
use Rattle.nub_rule.proofs.Lines.{same_object, some_none}
use Rattle.nub_rule.proofs.Turns.{find-here, find-else, keys}

head_is : {A : Type 0} (x y : A) (xs ys : List A) → x ∷ xs ≡ y ∷ ys → x ≡ y
head_is x y xs ys e = cc

value_in_some : {T : Type 0} (o : Opt (Slot T)) (z : Opt T) → value_in o ≡ Some z → o ≡ Some (Value z)
value_in_some None z e = absurd cc
value_in_some (Some (Value y)) z e = cc
value_in_some (Some (Queue q)) z e = absurd cc

module _ {T : Type 0} where
  -- the first slot has gone
  pub gone : (slot : ℕ) (xs : List (ℕ × Slot T)) (s : Slot T) → IsDistinct xs → xs ≡ (slot, s) ∷ rest xs → (find slot (rest xs) ≡ None) × ((k : ℕ) → k ≢ slot → find k (rest xs) ≡ find k xs) × IsDistinct (rest xs)
  gone slot [] s d e = absurd cc
  gone slot (x ∷ xs) s d e = let h : x ≡ (slot, s) = head_is x (slot, s) xs xs e in let key : x.0 ≡ slot = ap (λ (z : ℕ × Slot T). z.0) h in
      (subst (λ (z : ℕ). find z xs ≡ None) key d.0, (λ k ne. sym (find-else k x xs (λ z. ne (sym z ∙ key)))), d.1)

  pub values-same : (xs ys : List (ℕ × Slot T)) → ((m : ℕ) → find (value_at m) ys ≡ find (value_at m) xs) → values_of ys ≡ values_of xs
  values-same xs ys h = λ i. map (λ m. value_in (h m i)) (range_with_len 0 64)

  at_values : (xs : List (ℕ × Slot T)) (m : ℕ) → m < 64 → get_elem? (values_of xs) m ≡ some (value_in (find (value_at m) xs))
  at_values xs m low = at_firsts (λ i. value_in (find (value_at i) xs)) 0 64 m low ∙ ap (λ (z : ℕ). some (value_in (find (value_at z) xs))) (zero-add m)

  values_wide : (xs : List (ℕ × Slot T)) → length (values_of xs) ≡ 64
  values_wide xs = length-map-range_with_len (λ i. value_in (find (value_at i) xs)) 0 64

  pub values-set : (m : ℕ) (y : Opt (Opt T)) (xs ys : List (ℕ × Slot T)) → m < 64 → value_in (find (value_at m) ys) ≡ y → ((k : ℕ) → k ≢ m → find (value_at k) ys ≡ find (value_at k) xs) → values_of ys ≡ set (values_of xs) m y
  values-set m y xs ys low now h = same_elements (values_of ys) (set (values_of xs) m y) (values_wide ys ∙ (sym (values_wide xs) ∙ sym (length-set (values_of xs) m y)))
      (λ i x at. let lo : i < 64 = subst (λ (z : ℕ). i < z) (values_wide ys) (at_within (values_of ys) i x at) in
      dite (ℕ_discrete i m)
      (λ e. (λ j. get_elem? (set (values_of xs) m y) (e j)) ∙ (set_here (values_of xs) m y (subst (λ (z : ℕ). m < z) (sym (values_wide xs)) low) ∙ (ap some (sym now) ∙ (sym (at_values ys m low) ∙ ((λ j. get_elem? (values_of ys) (sym e j)) ∙ at)))))
      (λ ne. set_else (values_of xs) m i y ne ∙ (at_values xs i lo ∙ (ap (λ o. some (value_in o)) (sym (h i ne)) ∙ (sym (at_values ys i lo) ∙ at)))))

  pub value-found : (m : ℕ) (z : Opt T) (xs : List (ℕ × Slot T)) → get_elem? (values_of xs) m ≡ some (Some z) → find (value_at m) xs ≡ Some (Value z)
  value-found m z xs at = let low : m < 64 = subst (λ (k : ℕ). m < k) (values_wide xs) (at_within (values_of xs) m (Some z) at) in
      value_in_some (find (value_at m) xs) z (some-injective (value_in (find (value_at m) xs)) (Some z) (sym (at_values xs m low) ∙ at))

  pub value-there : (m : ℕ) (z : Opt T) (xs : List (ℕ × Slot T)) → m < 64 → find (value_at m) xs ≡ Some (Value z) → get_elem? (values_of xs) m ≡ some (Some z)
  value-there m z xs low is = at_values xs m low ∙ ap (λ o. some (value_in o)) is

module _ {T H : Type 0} (p q : Part T H) (xs ys : List (ℕ × Slot T)) where
  -- nothing of this has changed
  pub hands-same : ((k : ℕ) → find k ys ≡ find k xs) → q.spin ≡ p.spin → q.queue ≡ p.queue → q.held ≡ p.held → ((o : ℕ) → q.spin ≡ Some o → q.stand ≡ None → length q.queue < most_threads) → (q.spin ≡ None → q.owed ≡ []) → Hands p xs → Hands q ys
  hands-same f es eq eh room settled h = record {
    below = λ o is. h.below o (sym es ∙ is);
    queue_in = λ o is. f (queue_at o) ∙ (h.queue_in o (sym es ∙ is) ∙ ap (λ (l : List ℕ). Some (Queue (queue_of l))) (sym eq));
    queue_out = λ o lo out. f (queue_at o) ∙ h.queue_out o lo (λ z. out (es ∙ z));
    value_got = λ m x g. let u = h.value_got m x (ap (λ l. get_elem? l m) (sym eh) ∙ g) in (u.0, f (value_at m) ∙ u.1);
    value_lacked = λ m g. f (value_at m) ∙ h.value_lacked m (ap (λ l. get_elem? l m) (sym eh) ∙ g);
    settled = settled;
    room = room;
  }

  -- a spin word was taken, with its queue
  pub hands-spun : (o : ℕ) (zs : List ℕ) → o < 192 → ys ≡ (queue_at o, Queue (queue_of zs)) ∷ xs → p.spin ≡ None → q.spin ≡ Some o → q.queue ≡ zs → q.held ≡ p.held → q.stand ≡ p.stand → (p.stand ≡ None → length zs < most_threads) → Hands p xs → Hands q ys
  hands-spun o zs low is out now eq eh est room h =
      let old : (k : ℕ) → k ≢ o → find k ys ≡ find k xs = λ k ne. ap (find k) is ∙ find-else k (queue_at o, Queue (queue_of zs)) xs (λ z. ne (sym z)) in record {
        below = λ k there. let e : o ≡ k = same_object o k (sym now ∙ there) in omega arith;
        queue_in = λ k there. let e : o ≡ k = same_object o k (sym now ∙ there) in ap (find (queue_at k)) is ∙ (find-here (queue_at k) (queue_at o, Queue (queue_of zs)) xs e ∙ ap (λ (l : List ℕ). Some (Queue (queue_of l))) (sym eq));
        queue_out = λ k lo away. dite (ℕ_discrete k o) (λ e. absurd (away (now ∙ ap (λ (z : ℕ). Some z) (sym e)))) (λ ne. old k ne ∙ h.queue_out k lo (λ z. some_none p.spin k out z));
        value_got = λ m x g. let u = h.value_got m x (ap (λ l. get_elem? l m) (sym eh) ∙ g) in (u.0, old (value_at m) (λ z. omega arith) ∙ u.1);
        value_lacked = λ m g. old (value_at m) (λ z. omega arith) ∙ h.value_lacked m (ap (λ l. get_elem? l m) (sym eh) ∙ g);
        settled = λ none_now. absurd (some_none q.spin o none_now now);
        room = λ k there nowhere. subst (λ (l : List ℕ). length l < most_threads) (sym eq) (room (sym est ∙ nowhere));
      }

  -- a spin word was given back, with its queue
  pub hands-unspun : (o : ℕ) (s : Slot T) → o < 192 → IsDistinct xs → xs ≡ (queue_at o, s) ∷ rest xs → ys ≡ rest xs → p.spin ≡ Some o → q.spin ≡ None → q.held ≡ p.held → q.owed ≡ [] → Hands p xs → Hands q ys
  hands-unspun o s low d first is was now eh eo h =
      let g = gone (queue_at o) xs s d first in
      let old : (k : ℕ) → k ≢ o → find k ys ≡ find k xs = λ k ne. ap (find k) is ∙ g.1 k ne in record {
        below = λ k there. absurd (some_none q.spin k now there);
        queue_in = λ k there. absurd (some_none q.spin k now there);
        queue_out = λ k lo away. dite (ℕ_discrete k o) (λ e. (λ i. find (e i) (is i)) ∙ g.0) (λ ne. old k ne ∙ h.queue_out k lo (λ z. ne (same_object k o (sym z ∙ was))));
        value_got = λ m x got. let u = h.value_got m x (ap (λ l. get_elem? l m) (sym eh) ∙ got) in (u.0, old (value_at m) (λ z. omega arith) ∙ u.1);
        value_lacked = λ m got. old (value_at m) (λ z. omega arith) ∙ h.value_lacked m (ap (λ l. get_elem? l m) (sym eh) ∙ got);
        settled = λ _. eo;
        room = λ k there. absurd (some_none q.spin k now there);
      }

  -- the queue at hand has changed
  pub hands-queue : (o : ℕ) (zs : List ℕ) → o < 192 → find (queue_at o) ys ≡ Some (Queue (queue_of zs)) → ((k : ℕ) → k ≢ queue_at o → find k ys ≡ find k xs) → p.spin ≡ Some o → q.spin ≡ p.spin → q.queue ≡ zs → q.held ≡ p.held → (q.stand ≡ None → length zs < most_threads) → Hands p xs → Hands q ys
  hands-queue o zs low now f was es eq eh room h = record {
    below = λ k there. h.below k (sym es ∙ there);
    queue_in = λ k there. let e : o ≡ k = same_object o k (sym was ∙ (sym es ∙ there)) in (λ i. find (sym e i) ys) ∙ (now ∙ ap (λ (l : List ℕ). Some (Queue (queue_of l))) (sym eq));
    queue_out = λ k lo away. dite (ℕ_discrete k o) (λ e. absurd (away (es ∙ (was ∙ ap (λ (z : ℕ). Some z) (sym e))))) (λ ne. f k ne ∙ h.queue_out k lo (λ z. away (es ∙ z)));
    value_got = λ m x g. let u = h.value_got m x (ap (λ l. get_elem? l m) (sym eh) ∙ g) in (u.0, f (value_at m) (λ z. omega arith) ∙ u.1);
    value_lacked = λ m g. f (value_at m) (λ z. omega arith) ∙ h.value_lacked m (ap (λ l. get_elem? l m) (sym eh) ∙ g);
    settled = λ none_now. absurd (some_none q.spin o none_now (es ∙ was));
    room = λ k there nowhere. subst (λ (l : List ℕ). length l < most_threads) (sym eq) (room nowhere);
  }

  -- a mutex was taken, with its value
  pub hands-won : (m : ℕ) (x : T) → m < 64 → length p.held ≡ 64 → ys ≡ (value_at m, Value (Some x)) ∷ xs → q.held ≡ set p.held m (Some x) → p.spin ≡ None → q.spin ≡ p.spin → q.owed ≡ p.owed → Hands p xs → Hands q ys
  hands-won m x low wide is eh out es eo h =
      let old : (k : ℕ) → k ≢ value_at m → find k ys ≡ find k xs = λ k ne. ap (find k) is ∙ find-else k (value_at m, Value (Some x)) xs (λ z. ne (sym z)) in
      let here : (k : ℕ) → k ≡ m → find (value_at k) ys ≡ Some (Value (Some x)) = λ k e. ap (find (value_at k)) is ∙ find-here (value_at k) (value_at m, Value (Some x)) xs (let z : value_at m ≡ value_at k = omega arith in z) in
      let before : (k : ℕ) → k ≢ m → get_elem? q.held k ≡ get_elem? p.held k = λ k ne. ap (λ l. get_elem? l k) eh ∙ set_else p.held m k (Some x) ne in record {
        below = λ o there. absurd (some_none p.spin o out (sym es ∙ there));
        queue_in = λ o there. absurd (some_none p.spin o out (sym es ∙ there));
        queue_out = λ o lo away. old (queue_at o) (λ z. omega arith) ∙ h.queue_out o lo (λ z. away (es ∙ z));
        value_got = λ k y g. dite (ℕ_discrete k m) (λ e. (Some x, here k e)) (λ ne. let u = h.value_got k y (sym (before k ne) ∙ g) in (u.0, old (value_at k) (λ z. ne (omega arith)) ∙ u.1));
        value_lacked = λ k g. dite (ℕ_discrete k m)
            (λ e. let z : Some x ≡ None = some-injective (Some x) None (sym (set_here p.held m (Some x) (omega arith)) ∙ ((λ i. get_elem? (set p.held m (Some x)) (sym e i)) ∙ (ap (λ l. get_elem? l k) (sym eh) ∙ g))) in absurd cc)
            (λ ne. old (value_at k) (λ z. ne (omega arith)) ∙ h.value_lacked k (sym (before k ne) ∙ g));
        settled = λ _. eo ∙ h.settled out;
        room = λ o there. absurd (some_none p.spin o out (sym es ∙ there));
      }

  -- a mutex was given back, with its value
  pub hands-freed : (m : ℕ) (s : Slot T) → m < 64 → length p.held ≡ 64 → IsDistinct xs → xs ≡ (value_at m, s) ∷ rest xs → ys ≡ rest xs → q.held ≡ set p.held m None → q.spin ≡ p.spin → q.queue ≡ p.queue → q.stand ≡ p.stand → q.owed ≡ p.owed → Hands p xs → Hands q ys
  hands-freed m s low wide d first is eh es eq est eo h =
      let g = gone (value_at m) xs s d first in
      let old : (k : ℕ) → k ≢ value_at m → find k ys ≡ find k xs = λ k ne. ap (find k) is ∙ g.1 k ne in
      let before : (k : ℕ) → k ≢ m → get_elem? q.held k ≡ get_elem? p.held k = λ k ne. ap (λ l. get_elem? l k) eh ∙ set_else p.held m k None ne in record {
        below = λ o there. h.below o (sym es ∙ there);
        queue_in = λ o there. old o (λ z. let lo = h.below o (sym es ∙ there) in omega arith) ∙ (h.queue_in o (sym es ∙ there) ∙ ap (λ (l : List ℕ). Some (Queue (queue_of l))) (sym eq));
        queue_out = λ o lo away. old (queue_at o) (λ z. omega arith) ∙ h.queue_out o lo (λ z. away (es ∙ z));
        value_got = λ k y got. dite (ℕ_discrete k m)
            (λ e. let z : None ≡ Some y = some-injective None (Some y) (sym (set_here p.held m None (omega arith)) ∙ ((λ i. get_elem? (set p.held m None) (sym e i)) ∙ (ap (λ l. get_elem? l k) (sym eh) ∙ got))) in absurd cc)
            (λ ne. let u = h.value_got k y (sym (before k ne) ∙ got) in (u.0, old (value_at k) (λ z. ne (omega arith)) ∙ u.1));
        value_lacked = λ k got. dite (ℕ_discrete k m) (λ e. (λ i. find (value_at (e i)) (is i)) ∙ g.0) (λ ne. old (value_at k) (λ z. ne (omega arith)) ∙ h.value_lacked k (sym (before k ne) ∙ got));
        settled = λ none_now. eo ∙ h.settled (sym es ∙ none_now);
        room = λ o there nowhere. subst (λ (l : List ℕ). length l < most_threads) (sym eq) (h.room o (sym es ∙ there) (sym est ∙ nowhere));
      }

  -- the value in a slot has changed
  pub hands-value : (m : ℕ) (y z : Opt T) → find (value_at m) xs ≡ Some (Value y) → find (value_at m) ys ≡ Some (Value z) → ((k : ℕ) → k ≢ value_at m → find k ys ≡ find k xs) → (q ≡ p) → Hands p xs → Hands q ys
  hands-value m y z was now f is h = subst (λ (r : Part T H). Hands r ys) (sym is) record {
    below = h.below;
    queue_in = λ o there. f (queue_at o) (λ e. let lo = h.below o there in omega arith) ∙ h.queue_in o there;
    queue_out = λ o lo away. f (queue_at o) (λ e. omega arith) ∙ h.queue_out o lo away;
    value_got = λ k x g. dite (ℕ_discrete k m) (λ e. (z, (λ i. find (value_at (e i)) ys) ∙ now)) (λ ne. let u = h.value_got k x g in (u.0, f (value_at k) (λ e. ne (omega arith)) ∙ u.1));
    value_lacked = λ k g. dite (ℕ_discrete k m) (λ e. absurd (some_none (find (value_at m) xs) (Value y) ((λ i. find (value_at (sym e i)) xs) ∙ h.value_lacked k g) was)) (λ ne. f (value_at k) (λ e. ne (omega arith)) ∙ h.value_lacked k g);
    settled = h.settled;
    room = h.room;
  }

module _ {T : Type 0} where
  pub same_slot : (k : ℕ) (a b : Slot T) (ys xs : List (ℕ × Slot T)) → ys ≡ (k, a) ∷ xs → ys ≡ (k, b) ∷ xs → a ≡ b
  same_slot k a b ys xs e f = ap (λ (z : ℕ × Slot T). z.1) (head_is (k, a) (k, b) xs xs (sym e ∙ f))

  -- the slots at hand after the one that was brought to the front has new content
  pub record Refilled (k : ℕ) (s : Slot T) (hand : List ℕ) (xs ds : List (ℕ × Slot T)) : Type 0 where
    pub here : find k ds ≡ Some s
    pub elsewhere : (j : ℕ) → j ≢ k → find j ds ≡ find j xs
    pub keyed : keys ds ≡ hand
    pub distinct : IsDistinct ds
    pub below : Below 256 ds

  pub refilled : (k : ℕ) (a s : Slot T) (hand : List ℕ) (xs ys : List (ℕ × Slot T)) → ys ≡ (k, a) ∷ rest ys → ((j : ℕ) → find j ys ≡ find j xs) → keys ys ≡ hand → IsDistinct ys → Below 256 ys → Refilled k s hand xs ((k, s) ∷ rest ys)
  refilled k a s hand xs ys first f ks d low = record {
    here = find-here k (k, s) (rest ys) refl;
    elsewhere = λ j ne. find-else j (k, s) (rest ys) (λ z. ne (sym z)) ∙ (sym (find-else j (k, a) (rest ys) (λ z. ne (sym z))) ∙ (ap (find j) (sym first) ∙ f j));
    keyed = sym (ap keys first) ∙ ks;
    distinct = subst IsDistinct first d;
    below = subst (λ (l : List (ℕ × Slot T)). Below 256 l) first low;
  }
