-- The rule at the start, and what it leaves at the end.
use Rattle.std.proofs.Common.{cond, Bool, false, true, Option as Opt, ◌≡◌, ◌≢◌, ℕ, zero, suc, ◌+◌, ◌-◌, ◌<◌, ◌≤◌, List, [], ◌∷◌, ◌++◌, map, length, get_or, set, replicate, refl, sym, ap, ap₂, ◌∙◌, subst, subst₂, inl, arith, length-append, append_assoc, Some, None, zero-add, ⊎_elim}
use Rattle.std.proofs.lemmas.List.{length-replicate, replicate_more, length-map, map-append, get_or-set_other, get_or-set_same}
use Rattle.std.proofs.lemmas.List.FromFn.{length-map-range_with_len}
use mathlib.Core.Option.{Option, some, none, some-injective, some-ne-none}
use mathlib.Core.Logic.{dite}
use Rattle.std.proofs.lemmas.Bool.{cases_eq, cases_lt}
use Rattle.std.specs.Mem.Slots.Ownership.{Filled}
use native.Mathlib.Decide.{ℕ_discrete}
use lib.ListN.{get_elem?}
use Rattle.larch_actions.specs.declared.event.Layout.{Layout}
use Rattle.larch_actions.specs.declared.event.Version.{Version}
use Rattle.larch_actions.specs.declared.event.Version.TheVariants.{One, Two}
use Rattle.larch_actions.specs.declared.event.Event.{Event}
use Rattle.larch_actions.specs.declared.event.Action.{Action}
use Rattle.larch_actions.specs.declared.event.Action.TheVariants.{Fork, End}
use Rattle.larch_actions.specs.declared.event.ThreadId.{ThreadId}
use Rattle.larch_actions.specs.declared.event.Life.{Life}
use Rattle.larch_actions.specs.declared.event.Life.TheVariants.{Unborn, Live, Ended}
use Rattle.larch_actions.specs.Layout.{IsLawful, IsNamed}
use Rattle.larch_actions.specs.declared.event.Pending.TheVariants.{Nothing}
use Rattle.larch_actions.specs.Actions.{Spec, Leads, acted, at_first, lives_at_first, AreOver}
use Rattle.atomic_table.specs.Table.{opening, Final, Seen}
use Rattle.atomic_table.proofs.Lists.{at_map, at_longer}
use Rattle.nub_rule.specs.declared.rule.Slot.{Slot}
use Rattle.nub_rule.specs.declared.rule.Slot.TheVariants.{Value, Queue}
use Rattle.nub_rule.specs.declared.view.Part.{Part}
use Rattle.nub_rule.specs.declared.view.View.{View}
use Rattle.nub_rule.specs.declared.view.Kind.TheVariants.{Collector, Member}
use Rattle.nub_rule.specs.Items.{queue_of, no_queue, HasVersion, Knows, Spinning, Each, Chronicle, Owns, Stands, Current, Wide, Shared, PenFits}
use Rattle.nub_rule.specs.Parts.{Got, Lacks, closing_on, first_part, fresh, number_of, pending_of, waits_on, open_on}
use Rattle.nub_rule.specs.Owed.{SleepsSound}
use Rattle.nub_rule.specs.Begun.{IsCounted}
use Rattle.nub_rule.specs.Places.{most_threads, value_at, word_count, bit_at, spin_at, length_at, count_at, waits_at, alert_at, ready_at, life_at, pen_at, number_at, sem_object, cond_object}
use Rattle.nub_rule.specs.Rule.{opening_view, FitsAs, IsKept}
use Rattle.atomic_table.specs.Seated.{TableId}
use Rattle.nub_rule.specs.Known.{Hands, IsThread}
use Rattle.nub_rule.specs.Plays.{Sat}
use Rattle.nub_rule.specs.Slots.{find, Below}
use Rattle.nub_rule.proofs.Apart.{thread-of}
use Rattle.nub_rule.proofs.Turns.{find-here}
use Rattle.nub_rule.proofs.Beginning.{raisers-none}
use Rattle.nub_rule.proofs.Stinting.{stinted-end}
use Rattle.nub_rule.specs.Ends.{AreFirst, firsts, living, opening_slots, Settles, Leaves}
use Rattle.nub_rule.proofs.Each.{put-at, put-else, at_within, at_below, same_at, at_middle, same_elements, at_firsts}

module _ {A : Type 0} where
  at_beyond : (xs ys : List A) (i : ℕ) → get_elem? (xs ++ ys) (length xs + i) ≡ get_elem? ys i
  at_beyond [] ys i = ap (get_elem? ys) (zero-add i)
  at_beyond (x ∷ xs) ys i = let e : suc (length xs) + i ≡ suc (length xs + i) = omega arith in ap (get_elem? (x ∷ (xs ++ ys))) e ∙ at_beyond xs ys i

  at_replicate : (n i : ℕ) (a b : A) → get_elem? (replicate n a) i ≡ some b → a ≡ b
  at_replicate zero i a b e = absurd (some-ne-none b (sym e))
  at_replicate (suc n) zero a b e = some-injective a b e
  at_replicate (suc n) (suc i) a b e = at_replicate n i a b e

  replicate_there : (n i : ℕ) (a : A) → i < n → get_elem? (replicate n a) i ≡ some a
  replicate_there zero i a h = absurd (omega arith)
  replicate_there (suc n) zero a h = refl
  replicate_there (suc n) (suc i) a h = replicate_there n i a (omega arith)

  pub each-firsts : (P : ℕ → A → Type 0) (f : ℕ → A) (n : ℕ) → ((i : ℕ) → i < n → P i (f i)) → Each P (firsts f n)
  each-firsts P f n all i x at = let low : i < n = subst (λ (z : ℕ). i < z) (length-map-range_with_len f 0 n) (at_within (firsts f n) i x at) in
      let e : f (0 + i) ≡ x = same_at (firsts f n) i (f (0 + i)) x (at_firsts f 0 n i low) at in
      subst (P i) (ap f (sym (zero-add i)) ∙ e) (all i low)

nobody : (o : Option ℕ) → ((n : ℕ) → o ≡ some n → ⊥) → o ≡ none
nobody none h = refl
nobody (some n) h = absurd (h n refl)

ft : false ≡ true → ⊥
ft e = cc

none_some : {A : Type 0} (o : A) → None ≡ Some o → ⊥
none_some o e = cc

only_first : {A : Type 0} (x y : A) (i : ℕ) → get_elem? (x ∷ []) i ≡ some y → (i ≡ 0) × (x ≡ y)
only_first x y zero e = (refl, some-injective x y e)
only_first x y (suc i) e = absurd (some-ne-none y (sym e))

-- an event by another, which forks another, leaves the life of a thread
life-stays : (t n : ℕ) (old : Spec) (a : Action) → n ≢ t → ((who : ThreadId) → a ≡ Fork who → who.0 ≢ t) → (acted n old a).life t ≡ old.life t
life-stays t n old (Fork who) ne others = put-else old.life who.0 t Live (λ e. others who refl (sym e))
life-stays t n old End ne others = put-else old.life n t Ended (λ e. ne (sym e))
life-stays t n old _ ne others = refl

named-child : (l : Layout) (a : Action) (who : ThreadId) → a ≡ Fork who → IsNamed l a → who.0 < l.threads
named-child l a who is named = (subst (IsNamed l) is named).1

-- who is past the threads keeps its life
lives-past : (l : Layout) (t : ℕ) → l.threads ≤ t → (s : Spec) (es : List Event) (u : Spec) → Each (λ i e. e.thread.0 < l.threads) es → Each (λ i e. IsNamed l e.action) es → Leads s es u → u.life t ≡ s.life t
lives-past l t past s [] u people names run = ap (λ (z : Spec). z.life t) (sym run)
lives-past l t past s (e ∷ es) u people names run =
    let low = people 0 e refl in
    lives-past l t past run.0 es u (λ i. people (suc i)) (λ i. names (suc i)) run.2
    ∙ (ap (λ (z : Spec). z.life t) run.1.1 ∙ life-stays t e.thread.0 s e.action (λ z. omega arith) (λ who is z. let child = named-child l e.action who is (names 0 e refl) in omega arith))

over-of : (v : Version) (life : ℕ → Life) → (v ≡ Two → (n : ℕ) → life n ≢ Live) → AreOver v life
over-of One life h = tt
over-of Two life h = h refl

-- in version two only thread 0 lives at first
unborn-past : (v : Version) (t : ℕ) → v ≡ Two → t ≢ 0 → lives_at_first v t ≢ Live
unborn-past v t two ne is = let e : Unborn ≡ Live = sym (put-else (λ _. Unborn) 0 t Live ne) ∙ (ap (λ z. lives_at_first z t) (sym two) ∙ is) in cc

module _ {T : Type 0} where
  slots_wide : (n : ℕ) (values : List T) → length (map some (replicate n (Queue no_queue) ++ map (λ x. Value (Some x)) values)) ≡ n + length values
  slots_wide n values = length-map (replicate n (Queue no_queue) ++ map (λ (x : T). Value (Some x)) values) some
      ∙ (length-append (replicate n (Queue no_queue)) (map (λ (x : T). Value (Some x)) values) ∙ (λ i. length-replicate {A = Slot T} n (Queue no_queue) i + length-map values (λ (x : T). Value (Some x)) i))

  pub opening_wide : (values : List T) → length (opening_slots values) ≡ value_at (length values)
  opening_wide values = length-append (replicate 192 (Queue no_queue)) (map (λ (x : T). Value (Some x)) values) ∙ (λ i. length-replicate {A = Slot T} 192 (Queue no_queue) i + length-map values (λ (x : T). Value (Some x)) i)

  -- one more empty queue
  pub queues_more : (slots next : List (Slot T)) (n : ℕ) (z : List ℕ) → slots ≡ replicate n (Queue no_queue) → z ≡ [] → next ≡ slots ++ Queue (queue_of z) ∷ [] → next ≡ replicate (n + 1) (Queue no_queue)
  queues_more slots next n z is empty more = more ∙ (ap₂ (λ l y. l ++ Queue (queue_of y) ∷ []) is empty ∙ replicate_more n (Queue no_queue))

  -- the slots when all queues and the values ys are there
  module _ (slots begun : List (Slot T)) (ys : List T) (is : slots ≡ begun ++ map (λ x. Value (Some x)) ys) where
    pub slots_long : begun ≡ replicate 192 (Queue no_queue) → length slots ≡ value_at (length ys)
    slots_long queues = ap length (is ∙ ap (λ l. l ++ map (λ x. Value (Some x)) ys) queues) ∙ opening_wide ys

    pub slots_more : (next : List (Slot T)) (x : T) → next ≡ slots ++ Value (Some x) ∷ [] → next ≡ begun ++ map (λ x. Value (Some x)) (ys ++ x ∷ [])
    slots_more next x more = more ∙ (ap (λ l. l ++ Value (Some x) ∷ []) is ∙ (append_assoc begun (map (λ x. Value (Some x)) ys) (Value (Some x) ∷ []) ∙ ap (λ l. begun ++ l) (sym (map-append (λ (x : T). Value (Some x)) ys (x ∷ [])))))

  slot_there : (n : ℕ) (values : List T) (m : ℕ) (x : T) → get_elem? values m ≡ some x → get_elem? (map some (replicate n (Queue no_queue) ++ map (λ x. Value (Some x)) values)) (n + m) ≡ some (some (Value (Some x)))
  slot_there n values m x at = at_map some (replicate n (Queue no_queue) ++ map (λ (x : T). Value (Some x)) values) (n + m) (Value (Some x))
      (ap (λ (z : ℕ). get_elem? (replicate n (Queue no_queue) ++ map (λ (x : T). Value (Some x)) values) (z + m)) (sym (length-replicate {A = Slot T} n (Queue no_queue)))
      ∙ (at_beyond (replicate n (Queue no_queue)) (map (λ (x : T). Value (Some x)) values) m ∙ at_map (λ (x : T). Value (Some x)) values m x at))

  queue_there : (n : ℕ) (values : List T) (o : ℕ) → o < n → get_elem? (map some (replicate n (Queue no_queue) ++ map (λ x. Value (Some x)) values)) o ≡ some (some (Queue no_queue))
  queue_there n values o low = at_map some (replicate n (Queue no_queue) ++ map (λ (x : T). Value (Some x)) values) o (Queue no_queue)
      (at_longer (replicate n (Queue no_queue)) (map (λ (x : T). Value (Some x)) values) o (Queue no_queue) (replicate_there n o (Queue no_queue) low))

module _ {T H W : Type 0} (l : Layout) (traced : Bool) (w : W) (begin : W → ℕ → H) (holds : W → List T → List H → Type 0) where
  pub opens : (ws : List ℕ) (values : List T) → AreFirst l ws → length values ≡ l.mutexes → IsLawful l → l.threads ≤ most_threads → holds w values (firsts (begin w) l.threads)
      → IsKept l traced w begin holds (opening ws (opening_slots values) (opening_view l.version w begin))
  opens ws values words many lawful low_threads first =
      let all = firsts (λ n. first_part {T = T} l.version n (Some (begin w n))) l.threads in
      let wide : length all ≡ l.threads = length-map-range_with_len (λ n. first_part {T = T} l.version n (Some (begin w n))) 0 l.threads in
      let none_got : (p : Part T H) → p.held ≡ replicate 64 None → (m : ℕ) (x : T) → Got p m x → ⊥ = λ p e m x g. let z : None ≡ Some x = at_replicate 64 m None (Some x) (ap (λ h. get_elem? h m) (sym e) ∙ g) in none_some x z in
      let zeros : (k : ℕ) → ((t : ℕ) → k ≢ life_at t) → get_or ws k 0 ≡ 0 = words.zeros in
      let unready : (i : ℕ) → get_or ws (ready_at i) 0 ≡ 0 = λ i. zeros (ready_at i) (λ t e. omega arith) in
      record {
        all = all;
        seat_of = λ _. 0;
        given = 0;
        seated = omega arith;
        fits = λ id v at. let o = only_first (opening_view {T = T} l.version w begin) v id at in subst₂ (λ (a : ℕ) (b : View T H W). FitsAs l.version l.threads 0 w begin all (λ _. 0) a b b.kind) (sym o.0) o.1
            record { world = refl; first = refl; next = refl; of = refl; unborn = λ n lo hi. (refl, at_firsts (λ n. first_part {T = T} l.version n (Some (begin w n))) 0 l.threads n hi ∙ ap (λ (z : ℕ). some (first_part {T = T} l.version z (Some (begin w z)))) (zero-add n)) };
        placed = λ n lo. (opening_view {T = T} l.version w begin, refl, omega arith);
        core = record {
          log = [];
          spec = at_first l.version;
          owner = λ _. none;
          spinner = λ _. none;
          writer = none;
          queue = λ _. [];
          owed = λ _. [];
          values = values;
          shares = firsts (begin w) l.threads;
          sizes = record {
            words_wide = words.wide;
            homes_wide = slots_wide 192 values ∙ ap (λ (z : ℕ). 192 + z) many;
            lawful = lawful.mutexes;
            few = subst (λ (z : ℕ). z ≤ most_threads) (sym wide) low_threads;
            count = wide;
            parts_wide = each-firsts Wide (λ n. first_part l.version n (Some (begin w n))) l.threads (λ i low. length-replicate {A = Opt T} 64 None);
            versions = each-firsts (HasVersion l.version) (λ n. first_part l.version n (Some (begin w n))) l.threads (λ i low. refl);
          };
          run = refl;
          recorded = record {
            people = λ i e at. absurd (some-ne-none e (sym at));
            names = λ i e at. absurd (some-ne-none e (sym at));
            each = each-firsts (Chronicle []) (λ n. first_part l.version n (Some (begin w n))) l.threads (λ i low. record { begins = ([], refl); own = refl; placed = refl });
            longest = inl refl;
          };
          owned = record {
            standing = each-firsts (Owns (λ _. none)) (λ n. first_part l.version n (Some (begin w n))) l.threads (λ i low m. ((λ has. absurd (none_got (first_part l.version i (Some (begin w i))) refl m has.0 has.1)), λ is. absurd (some-ne-none i (sym is))));
            within = λ m n is. absurd (some-ne-none n (sym is));
            bits = λ m low. inl (zeros (bit_at m) (λ t e. omega arith), refl);
            at_home = λ m low x at free. slot_there 192 values m x at;
            values_wide = many;
            current = each-firsts (Current values) (λ n. first_part l.version n (Some (begin w n))) l.threads (λ i low m x g. absurd (none_got (first_part l.version i (Some (begin w i))) refl m x g));
            shares_wide = length-map-range_with_len (begin w) 0 l.threads ∙ sym wide;
            shared = each-firsts (Shared (firsts (begin w) l.threads)) (λ n. first_part l.version n (Some (begin w n))) l.threads
                (λ i low. (begin w i, refl, at_firsts (begin w) 0 l.threads i low ∙ ap (λ (z : ℕ). some (begin w z)) (zero-add i)));
            kept = first;
          };
          spins = record {
            spin = λ o low. inl (zeros (spin_at o) (λ t e. omega arith), refl);
            within = λ o n is. absurd (some-ne-none n (sym is));
            home = λ o low free. queue_there 192 values o low;
            measured = λ o low. zeros (length_at o) (λ t e. omega arith);
            settled = λ o free. refl;
            spinning = each-firsts (Spinning (λ _. none) (λ _. []) (λ _. [])) (λ n. first_part l.version n (Some (begin w n))) l.threads (λ i low o. ((λ is. absurd (none_some o is)), λ is. absurd (some-ne-none i (sym is))));
          };
          lines = record {
            distinct = λ o. tt;
            people = λ o t is. absurd (ft is);
            stands = each-firsts (Stands ws (λ o. [])) (λ n. first_part l.version n (Some (begin w n))) l.threads (λ i low. record {
              flag = inl (unready i);
              lined = λ o is. absurd (ft is);
              ready = λ is. let z = unready i in absurd (omega arith);
              kept = λ s is. absurd (none_some s is);
              found = λ s is f. absurd (none_some s is);
            });
          };
          shows = record {
            holders = record {
              free = λ m is. refl;
              holds = each-firsts (λ i p. (m : ℕ) → none ≡ some i → none ≡ cond (waits_on p.wait m) none (some i)) (λ n. first_part l.version n (Some (begin w n))) l.threads (λ i low m is. is);
              shut = each-firsts (λ i p. (m : ℕ) → none ≡ some i → open_on p.wait m ≡ false) (λ n. first_part l.version n (Some (begin w n))) l.threads (λ i low m is. refl);
            };
            pendings = record { strangers = λ t past. refl; pends = each-firsts (λ i p. Nothing ≡ pending_of p.wait) (λ n. first_part l.version n (Some (begin w n))) l.threads (λ i low. refl) };
            semaphores = λ s low. inl (zeros (bit_at (sem_object s)) (λ t e. omega arith), refl);
            alerts = λ t low. inl (zeros (alert_at t) (λ u e. omega arith), refl);
            conditions = record {
              left = λ _. [];
              count = λ _. 0;
              counting = λ _ _. false;
              member = λ c t. refl;
              counted = λ c low. zeros (count_at (cond_object c)) (λ t e. omega arith);
              whole = λ c is. refl;
              queued = λ c t is. refl;
              knows = each-firsts (Knows (λ _. none) (λ _. []) (λ _. 0) (λ _ _. false)) (λ n. first_part l.version n (Some (begin w n))) l.threads (λ i low. record { counts = λ c. refl; risen = λ c k hi. refl; inside = λ c is. absurd (some-ne-none i (sym is)); even = λ x is. absurd (none_some x is) });
            };
            lives = each-firsts (λ n p. lives_at_first l.version n ≡ p.life) (λ n. first_part l.version n (Some (begin w n))) l.threads (λ i low. refl);
          };
          pens = record {
            flag = inl (zeros pen_at (λ t e. omega arith), refl);
            within = λ n is. absurd (some-ne-none n (sym is));
            free = λ is free. zeros number_at (λ t e. omega arith);
            untraced = λ is. refl;
            pens = each-firsts (λ n p. PenFits 0 (get_or ws number_at 0) none n p.pen) (λ n. first_part l.version n (Some (begin w n))) l.threads (λ i low is. some-ne-none i (sym is));
          };
          alert_seen = each-firsts (λ n p. p.alerted ≡ true → get_or ws (alert_at n) 0 ≡ 1) (λ n. first_part l.version n (Some (begin w n))) l.threads (λ i low is. absurd (ft is));
          lives = each-firsts (λ n p. get_or ws (life_at n) 0 ≡ number_of p.life) (λ n. first_part l.version n (Some (begin w n))) l.threads (λ i low. words.lives i low);
          owes = record {
            looks = λ o low free queued. absurd (queued refl);
            sound = each-firsts (λ n p. SleepsSound p) (λ n. first_part l.version n (Some (begin w n))) l.threads (λ i low s is asleep. absurd (none_some s is));
          };
          begun = record {
            counted = λ c low. zeros (waits_at (cond_object c)) (λ t e. omega arith) ∙ sym (raisers-none c all (each-firsts (λ n p. p.raised ≢ Some c) (λ n. first_part l.version n (Some (begin w n))) l.threads (λ i low is. none_some c is)));
            covered = each-firsts (λ n p. IsCounted p) (λ n. first_part l.version n (Some (begin w n))) l.threads (λ i low. record { member = λ x k is stood. absurd (none_some x is); stander = λ s c is there. absurd (none_some s is) });
          };
          stinted = record {
            first = values;
            first_shares = firsts (begin w) l.threads;
            stints = [];
            closing = λ _. [];
            lead = (first, refl, refl);
            own = each-firsts (λ n p. [] ≡ p.stints) (λ n. first_part l.version n (Some (begin w n))) l.threads (λ i low. refl);
            gives = λ m. refl;
            free = λ m is. refl;
            closes = each-firsts (λ i p. (m : ℕ) → none ≡ some i → [] ≡ cond (closing_on p.wait m) (i ∷ []) []) (λ n. first_part l.version n (Some (begin w n))) l.threads (λ i low m is. refl);
          };
        };
      }

  -- what a collector leaves that has taken every thread back, none of which has a mutex or is in a wait
  pub closes : (id : ℕ) (v : View T H W) (ws : List ℕ) (xs : List (Slot T)) → v.kind ≡ Collector → 1 ≤ l.threads → length v.back ≡ l.threads
      → ((n : ℕ) (p : Part T H) → get_elem? v.back n ≡ some p → ((m : ℕ) (x : T) → Got p m x → ⊥) × (p.wait ≡ None) × (l.version ≡ Two → p.life ≢ Live))
      → Final (Seen (IsKept l traced w begin holds) id v) ws xs → Settles l (holds w) v.back xs
  closes id v ws xs kind some_there whole idle f =
      let s = f.0 in
      let r = f.1.0 in
      let c = r.core in
      let k : FitsAs l.version l.threads r.given w begin r.all r.seat_of id v Collector = subst (FitsAs l.version l.threads r.given w begin r.all r.seat_of id v) kind (r.fits id v f.1.1) in
      let back : v.back ≡ r.all = same_elements v.back r.all (whole ∙ sym c.sizes.count) (λ n p at. (k.came_back n p at).1) in
      let rest : (n : ℕ) (p : Part T H) → get_elem? r.all n ≡ some p → ((m : ℕ) (x : T) → Got p m x → ⊥) × (p.wait ≡ None) × (l.version ≡ Two → p.life ≢ Live) = λ n p at. idle n p (ap (λ ps. get_elem? ps n) back ∙ at) in
      let free : (m : ℕ) → c.owner m ≡ none = λ m. nobody (c.owner m) (λ n is. let low = (c.owned.within m n is).1 in let p = at_below r.all n low in let has = (c.owned.standing n p.0 p.1 m).1 is in (rest n p.0 p.1).0 m has.0 has.1) in
      record {
        values = c.values;
        leaves = subst (λ (ps : List (Part T H)). Leaves l (holds w) ps c.values) (sym back) (record {
          log = c.log;
          spec = c.spec;
          shares = c.shares;
          run = c.run;
          over = over-of l.version c.spec.life (λ two t is. ⊎_elim
              (λ (low : t < length r.all). let p = at_below r.all t low in (rest t p.0 p.1).2 two (sym (c.shows.lives t p.0 p.1) ∙ is))
              (λ (past : length r.all ≤ t). let count = c.sizes.count in
              let people : Each (λ i e. e.thread.0 < l.threads) c.log = λ i e at. let low = c.recorded.people i e at in omega arith in
              unborn-past l.version t two (λ z. omega arith) (sym (lives-past l t (omega arith) (at_first l.version) c.log c.spec people c.recorded.names c.run) ∙ is))
              (cases_lt t (length r.all)));
          nothing_held = λ m. c.shows.holders.free m (free m);
          nothing_begun = λ t. ⊎_elim
              (λ (low : t < length r.all). let p = at_below r.all t low in c.shows.pendings.pends t p.0 p.1 ∙ ap pending_of (rest t p.0 p.1).1)
              (λ (past : length r.all ≤ t). c.shows.pendings.strangers t past)
              (cases_lt t (length r.all));
          history = c.recorded;
          kept = c.owned.kept;
          each_share = c.owned.shares_wide;
          shared = c.owned.shared;
          stinted = stinted-end c.owner free c.stinted;
        });
        many = c.owned.values_wide;
        values_there = λ m x at. let lv = c.owned.values_wide in let low = at_within c.values m x at in f.4 (value_at m) (Value (Some x)) (c.owned.at_home m (omega arith) x at (free m));
      }

module _ {T : Type 0} where
  value_same : (x y : T) → Value (Some x) ≡ Value (Some y) → x ≡ y
  value_same x y e = cc

  -- one more value is taken out of its slot
  pub one_more : (slots : List (Slot T)) (xs zs : List T) (n i : ℕ) (y : T) → zs ≡ xs ++ y ∷ [] → n + length xs ≡ i → get_elem? slots i ≡ some (Value (Some y))
      → ((m : ℕ) (x : T) → n + m < i → get_elem? slots (n + m) ≡ some (Value (Some x)) → get_elem? xs m ≡ some x)
      → (m : ℕ) (x : T) → n + m < i + 1 → get_elem? slots (n + m) ≡ some (Value (Some x)) → get_elem? zs m ≡ some x
  one_more slots xs zs n i y is long here so_far m x low at = dite (ℕ_discrete m (length xs))
      (λ e. let there : n + m ≡ i = omega arith in
      let s : y ≡ x = value_same y x (some-injective (Value (Some y)) (Value (Some x)) (sym here ∙ (ap (get_elem? slots) (sym there) ∙ at))) in ap (get_elem? zs) e ∙ (at_middle xs [] zs y is ∙ ap some s))
      (λ ne. ap (λ l. get_elem? l m) is ∙ at_longer xs (y ∷ []) m x (so_far m x (omega arith) at))

-- each place of so many zeros has one, and so has each place after them
all_alike : (z n k : ℕ) → get_or (replicate n z) k z ≡ z
all_alike z zero k = refl
all_alike z (suc n) zero = refl
all_alike z (suc n) (suc k) = all_alike z n k

pub zeros_only : (xs : List ℕ) (n : ℕ) → xs ≡ replicate n 0 → (k : ℕ) → get_or xs k 0 ≡ 0
zeros_only xs n is k = ap (λ l. get_or l k 0) is ∙ all_alike 0 n k

-- the life word of the thread n is written, after those of the threads before it
pub lives-more : (ws vs : List ℕ) (n : ℕ) → n < most_threads → vs ≡ set ws (life_at n) 1 → life_at n < length ws → ((t : ℕ) → t < n → get_or ws (life_at t) 0 ≡ 1) → (t : ℕ) → t < n + 1 → get_or vs (life_at t) 0 ≡ 1
lives-more ws vs n few is wide before t low = ap (λ l. get_or l (life_at t) 0) is ∙ ⊎_elim
    (λ (e : t ≡ n). ap (λ (z : ℕ). get_or (set ws (life_at n) 1) (life_at z) 0) e ∙ get_or-set_same ws (life_at n) 1 0 wide)
    (λ (ne : t ≢ n). get_or-set_other ws (life_at n) (life_at t) 1 0 (λ e. ne (thread-of t n (omega arith) few (omega arith))) ∙ before t (omega arith))
    (cases_eq t n)

pub zeros-more : (ws vs : List ℕ) (n : ℕ) → vs ≡ set ws (life_at n) 1 → ((k : ℕ) → ((t : ℕ) → t < n → k ≢ life_at t) → get_or ws k 0 ≡ 0) → (k : ℕ) → ((t : ℕ) → t < n + 1 → k ≢ life_at t) → get_or vs k 0 ≡ 0
zeros-more ws vs n is before k none_there = ap (λ l. get_or l k 0) is
    ∙ (get_or-set_other ws (life_at n) k 1 0 (none_there n (omega arith)) ∙ before k (λ t low. none_there t (omega arith)))

pub living-low : (v : Version) (n : ℕ) → n ≤ most_threads → living v n ≤ most_threads
living-low One n low = low
living-low Two n low = omega arith

first-word : (v : Version) (threads t word : ℕ) → t < threads → (t < living v threads → word ≡ 1) → (living v threads ≤ t → word ≡ 0) → word ≡ number_of (lives_at_first v t)
first-word One threads t word low on off = on low
first-word Two threads t word low on off = dite (ℕ_discrete t 0)
    (λ e. on (omega arith) ∙ ap number_of (sym (put-at (λ _. Unborn) 0 Live t e)))
    (λ ne. off (omega arith) ∙ ap number_of (sym (put-else (λ _. Unborn) 0 t Live ne)))

-- so the words are those of the start, where the life words of all threads that live at first were written
pub are-first : (l : Layout) (ws : List ℕ) (n : ℕ) → l.threads ≤ most_threads → n ≡ living l.version l.threads → length ws ≡ word_count → ((t : ℕ) → t < n → get_or ws (life_at t) 0 ≡ 1) → ((k : ℕ) → ((t : ℕ) → t < n → k ≢ life_at t) → get_or ws k 0 ≡ 0) → AreFirst l ws
are-first l ws n few is wide on off = record {
  wide = wide;
  lives = λ t low. first-word l.version l.threads t (get_or ws (life_at t) 0) low (λ lo. on t (omega arith)) (λ hi. off (life_at t) (λ u lo e. let same : t ≡ u = thread-of t u (omega arith) (omega arith) (omega arith) in omega arith));
  zeros = λ k none_there. off k (λ t _. none_there t);
}

-- the place i is emptied, and nothing else changes
emptied : (fs : List Bool) (i : ℕ) → get_or (set fs i false) i false ≡ false
emptied [] i = refl
emptied (f ∷ fs) zero = refl
emptied (f ∷ fs) (suc i) = emptied fs i

pub full_after : (fs gs : List Bool) (i m n : ℕ) → gs ≡ set fs i false → n ≡ m → Filled fs i m → Filled gs (i + 1) n
full_after fs gs i m n is same full k lo hi = ap (λ l. get_or l k false) is ∙ (get_or-set_other fs i k false false (λ e. omega arith) ∙ full k (omega arith) (omega arith))

pub empty_before : (fs gs : List Bool) (i : ℕ) → gs ≡ set fs i false → ((k : ℕ) → k < i → get_or fs k false ≡ false) → (k : ℕ) → k < i + 1 → get_or gs k false ≡ false
empty_before fs gs i is empty k low = ap (λ l. get_or l k false) is ∙ ⊎_elim
    (λ (e : k ≡ i). ap (λ z. get_or (set fs i false) z false) e ∙ emptied fs i)
    (λ (ne : k ≢ i). get_or-set_other fs i k false false ne ∙ empty k (omega arith))
    (cases_eq k i)

module _ {T H : Type 0} where
  pub slot_values : (l : Layout) (holds : List T → List H → Type 0) (parts : List (Part T H)) (xs : List (Slot T)) → length xs ≡ 192 + l.mutexes → Settles l holds parts xs → (m : ℕ) → 192 + m < length xs → (x : T) × (get_elem? xs (192 + m) ≡ some (Value (Some x)))
  slot_values l holds parts xs wide s m low = let many = s.many in let v = at_below s.values m (omega arith) in (v.0, s.values_there m v.0 v.1)

  pub leaves : (l : Layout) (holds : List T → List H → Type 0) (parts : List (Part T H)) (xs : List (Slot T)) (values : List T) → Settles l holds parts xs → length values ≡ l.mutexes → ((m : ℕ) (x : T) → get_elem? xs (192 + m) ≡ some (Value (Some x)) → get_elem? values m ≡ some x)
      → Leaves l holds parts values
  leaves l holds parts xs values s many found = let same : s.values ≡ values = same_elements s.values values (s.many ∙ sym many) (λ m x at. found m x (s.values_there m x at)) in
      subst (λ (vs : List T). Leaves l holds parts vs) same s.leaves

-- a list of nothings has nothing
pub none-got : {A : Type 0} (n m : ℕ) (x : A) → get_elem? (replicate {A = Opt A} n None) m ≡ some (Some x) → ⊥
none-got n m x e = none_some x (at_replicate n m None (Some x) e)

module _ {T H W : Type 0} where
  -- a thread that has done nothing fits
  pub fresh_fits : (u : View T H W) (version : Version) (born : Life) (seen : List Event) (share : Opt H) (z : TableId) (me : Sat T H W) (n : ℕ) (hand : List ℕ) (kept : List T) (room : ℕ) → me ≡ (record u { part = fresh version born seen share }, []) → u.kind ≡ Member → u.number ≡ n
      → hand ≡ [] → kept ≡ [] → (n ≡ 0 → z.slots ≤ value_at room) → n < most_threads → IsThread z n hand me kept room
  fresh_fits u version born seen share z me n hand kept room is member next empty bare roomy few = subst (λ (m : Sat T H W). IsThread z n hand m kept room) (sym is) record {
    member = member;
    numbered = next;
    keyed = sym empty;
    distinct = tt;
    below = tt;
    wide = length-replicate {A = Opt T} 64 None;
    hands = record {
      below = λ o e. absurd (none_some o e);
      queue_in = λ o e. absurd (none_some o e);
      queue_out = λ o low e. refl;
      value_got = λ m x g. absurd (none_some x (at_replicate 64 m None (Some x) g));
      value_lacked = λ m e. refl;
      settled = λ e. refl;
      room = λ o e f. absurd (none_some o e);
    };
    bare = bare;
    roomy = roomy;
    few = few;
  }

module _ {T H : Type 0} where
  lacked : (p : Part T H) (m : ℕ) (h : Opt T) → get_elem? p.held m ≡ some h → ((x : T) → Got p m x → ⊥) → Lacks p m
  lacked p m None at bare = at
  lacked p m (Some x) at bare = absurd (bare x at)

  -- a thread that has no bit and no spin word has no slot
  pub no_slots : (p : Part T H) (slots : List (ℕ × Slot T)) → Hands p slots → Below 256 slots → length p.held ≡ 64 → p.spin ≡ None → ((m : ℕ) (x : T) → Got p m x → ⊥) → slots ≡ []
  no_slots p [] h low wide free bare = refl
  no_slots p (x ∷ xs) h low wide free bare = let below = low.0 in let here = find-here x.0 x xs refl in absurd (⊎_elim
      (λ (l : x.0 < 192). none_some x.1 (sym (h.queue_out x.0 l (λ e. none_some x.0 (sym free ∙ e))) ∙ here))
      (λ (l : 192 ≤ x.0).
      let m = x.0 - 192 in
      let e : 192 + m ≡ x.0 = omega arith in
      let there = at_below p.held m (omega arith) in
      let gone = h.value_lacked m (lacked p m there.0 there.1 (bare m)) in
      none_some x.1 (sym gone ∙ (ap (λ (k : ℕ). find k (x ∷ xs)) e ∙ here)))
      (cases_lt x.0 192))

-- one more after a mapped list
pub maps-more : {A B : Type 0} (f : A → B) (xs zs : List B) (ys : List A) (y : A) → xs ≡ map f ys → zs ≡ xs ++ f y ∷ [] → zs ≡ map f (ys ++ y ∷ [])
maps-more f xs zs ys y e z = z ∙ ((λ i. e i ++ f y ∷ []) ∙ sym (map-append f ys (y ∷ [])))
