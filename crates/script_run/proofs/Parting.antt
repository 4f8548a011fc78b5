-- The slots before a fork and after it.
use Rattle.std.proofs.Common.{◌≡◌, ◌≢◌, ℕ, zero, suc, ◌+◌, ◌-◌, ◌<◌, ◌≤◌, inl, inr, ◌⊎◌, List, [], ◌∷◌, ◌++◌, append_assoc, map, length, get_or, take, drop, set, refl, ap, ap₂, sym, subst, ◌∙◌, Bool, Some, arith}
use Rattle.std.specs.Prelude.{slice_get}
use Rattle.std.proofs.Math.Seq.{get_or-append_seam, set-append_seam, take-append_seam, drop-append_seam}
use Rattle.std.proofs.lemmas.List.{map-append, length-map, length-set, length-append}
use Rattle.std.proofs.lemmas.Option.{same_Some, get_or_from_slice_get}
use mathlib.Core.Option.{some, some-ne-none, some-injective}
use lib.ListN.{get_elem?}
use Rattle.nub_rule.specs.Items.{Each}
use Rattle.nub_rule.specs.Known.{Shape}
use Rattle.nub.specs.Forks.{IsRight}
use Rattle.sum_uses.specs.declared.added.Added.{Added}
use Rattle.larch_actions.specs.declared.event.ThreadId.{ThreadId}
use Rattle.script_text.specs.declared.line.Line.{Line}
use Rattle.script_text.specs.declared.line.Operation.TheVariants.{Fork}
use Rattle.script_run.specs.declared.slots.Playing.{Playing}
use Rattle.script_run.specs.declared.slots.Slot.{Slot}
use Rattle.script_run.specs.declared.slots.Slot.TheVariants as slot
use Rattle.script_run.specs.Playing.{Player, IsPlaying}
use Rattle.script_run.specs.Regions.{below}
use Rattle.script_run.specs.Slots.{slot_number, IsWaiting, IsLive, IsOver, AreReady, IsRegion, AreForked, AreOver}
use Rattle.script_run.proofs.Births.{Lacks, fork_line, below_fork}

module _ {A : Type 0} where
  elem_left : (xs ys : List A) (n : ℕ) (x : A) → get_elem? xs n ≡ some x → get_elem? (xs ++ ys) n ≡ some x
  elem_left [] ys n x e = absurd (some-ne-none x (sym e))
  elem_left (y ∷ xs) ys zero x e = e
  elem_left (y ∷ xs) ys (suc n) x e = elem_left xs ys n x e

  elem_right : (xs ys : List A) (n : ℕ) (x : A) → get_elem? ys n ≡ some x → (k : ℕ) × (get_elem? (xs ++ ys) k ≡ some x)
  elem_right [] ys n x e = (n, e)
  elem_right (y ∷ xs) ys n x e = let r = elem_right xs ys n x e in (suc r.0, r.1)

  elem_either : (xs ys : List A) (n : ℕ) (x : A) → get_elem? (xs ++ ys) n ≡ some x → ((k : ℕ) × (get_elem? xs k ≡ some x)) ⊎ ((k : ℕ) × (get_elem? ys k ≡ some x))
  elem_either [] ys n x e = inr (n, e)
  elem_either (y ∷ xs) ys zero x e = inl (0, e)
  elem_either (y ∷ xs) ys (suc n) x e = elim (elem_either xs ys n x e) [ inl r ↦ inl (suc r.0, r.1) | inr r ↦ inr r ]

  pub each_left : (P : A → Type 0) (xs ys : List A) → Each (λ n x. P x) (xs ++ ys) → Each (λ n x. P x) xs
  each_left P xs ys all n x at = all n x (elem_left xs ys n x at)

  pub each_right : (P : A → Type 0) (xs ys : List A) → Each (λ n x. P x) (xs ++ ys) → Each (λ n x. P x) ys
  each_right P xs ys all n x at = let r = elem_right xs ys n x at in all r.0 x r.1

  pub each_join : (P : A → Type 0) (xs ys : List A) → Each (λ n x. P x) xs → Each (λ n x. P x) ys → Each (λ n x. P x) (xs ++ ys)
  each_join P xs ys a b n x at = elim (elem_either xs ys n x at) [ inl r ↦ a r.0 x r.1 | inr r ↦ b r.0 x r.1 ]

  pub each_one : (P : A → Type 0) (y : A) → P y → Each (λ n x. P x) (y ∷ [])
  each_one P y h zero x at = subst P (some-injective y x at) h
  each_one P y h (suc n) x at = absurd (some-ne-none x (sym at))

  nil_snoc : (ys : List A) (b : A) → [] ≡ ys ++ b ∷ [] → ⊥
  nil_snoc [] b e = absurd (cc)
  nil_snoc (y ∷ ys) b e = absurd (cc)

  nil_cons : (y : A) (ys : List A) → [] ≡ y ∷ ys → ⊥
  nil_cons y ys e = absurd (cc)

  tail_same : (x y : A) (xs ys : List A) → x ∷ xs ≡ y ∷ ys → xs ≡ ys
  tail_same x y xs ys e = cc

  head_same : (x y : A) (xs ys : List A) → x ∷ xs ≡ y ∷ ys → x ≡ y
  head_same x y xs ys e = cc

  pub snoc_same : (xs ys : List A) (a b : A) → xs ++ a ∷ [] ≡ ys ++ b ∷ [] → (xs ≡ ys) × (a ≡ b)
  snoc_same [] [] a b e = (refl, head_same a b [] [] e)
  snoc_same [] (y ∷ ys) a b e = absurd (nil_snoc ys b (tail_same a y [] (ys ++ b ∷ []) e))
  snoc_same (x ∷ xs) [] a b e = absurd (nil_snoc xs a (sym (tail_same x b (xs ++ a ∷ []) [] e)))
  snoc_same (x ∷ xs) (y ∷ ys) a b e =
      let r = snoc_same xs ys a b (tail_same x y (xs ++ a ∷ []) (ys ++ b ∷ []) e) in
      (ap₂ ◌∷◌ (head_same x y (xs ++ a ∷ []) (ys ++ b ∷ []) e) r.0, r.1)

  -- a list in two parts: in each one element is the last
  set_last : (xs ys : List A) (m l v : A) (i : ℕ) → i ≡ length ((xs ++ m ∷ []) ++ ys) → set ((xs ++ m ∷ []) ++ (ys ++ l ∷ [])) i v ≡ (xs ++ m ∷ []) ++ (ys ++ v ∷ [])
  set_last xs ys m l v i e =
      let b = xs ++ m ∷ [] in
      ap₂ (λ zs k. set zs k v) (sym (append_assoc b ys (l ∷ []))) e ∙ set-append_seam (b ++ ys) l [] v ∙ append_assoc b ys (v ∷ [])

  set_first : (xs ys : List A) (m v : A) (i : ℕ) → i ≡ length xs → set ((xs ++ m ∷ []) ++ ys) i v ≡ (xs ++ v ∷ []) ++ ys
  set_first xs ys m v i e =
      ap₂ (λ zs k. set zs k v) (append_assoc xs (m ∷ []) ys) e ∙ set-append_seam xs m ys v ∙ sym (append_assoc xs (v ∷ []) ys)

module _ {A B : Type 0} (f : A → B) where
  split_map : (xs : List A) (ns ms : List B) → map f xs ≡ ns ++ ms → (ys : List A) × (zs : List A) × (xs ≡ ys ++ zs) × (map f ys ≡ ns) × (map f zs ≡ ms)
  split_map xs [] ms e = ([], xs, refl, refl, e)
  split_map [] (n ∷ ns) ms e = absurd (cc)
  split_map (x ∷ xs) (n ∷ ns) ms e =
      let r = split_map xs ns ms (tail_same (f x) n (map f xs) (ns ++ ms) e) in
      (x ∷ r.0, r.1, ap (λ l. x ∷ l) r.2, ap₂ ◌∷◌ (head_same (f x) n (map f xs) (ns ++ ms) e) r.3, r.4)

  only_one : (xs : List A) (n : B) → map f xs ≡ n ∷ [] → (x : A) × (xs ≡ x ∷ []) × (f x ≡ n)
  only_one [] n e = absurd (cc)
  only_one (x ∷ []) n e = (x, refl, head_same (f x) n [] [] e)
  only_one (x ∷ (y ∷ xs)) n e = absurd (nil_cons (f y) (map f xs) (sym (tail_same (f x) n (f y ∷ map f xs) [] e)))

  slice_seam : (xs ys : List A) (m : A) → slice_get (map f ((xs ++ m ∷ []) ++ ys)) (length xs) ≡ Some (f m)
  slice_seam [] ys m = refl
  slice_seam (x ∷ xs) ys m = slice_seam xs ys m

-- the first place of u is that after those that are not u
first_is : (ns rest : List ℕ) (u k : ℕ) → Lacks u ns → ((n : ℕ) → n < k → slice_get (ns ++ u ∷ rest) n ≢ Some u) → slice_get (ns ++ u ∷ rest) k ≡ Some u → k ≡ length ns
first_is [] rest u zero lacks first at = refl
first_is [] rest u (suc k) lacks first at = absurd (first 0 (omega arith) refl)
first_is (n ∷ ns) rest u zero lacks first at = absurd (lacks.0 (same_Some n u at))
first_is (n ∷ ns) rest u (suc k) lacks first at = ap suc (first_is ns rest u k lacks.1 (λ j low. first (suc j) (omega arith)) at)

-- The thread t stands in the last slot and forks u at the line i: the slots of u's region, with u's own after them, stand before those that t forks later.
pub record Parted (p : Shape (Prim.Unit {0})) (xs : List Line) (i t u : ℕ) (slots : List Slot) : Type 0 where
  pub upper : List Slot
  pub right : Player
  pub lower : List Slot
  pub last : Slot
  pub is : slots ≡ (upper ++ slot.Unborn right ∷ []) ++ (lower ++ last ∷ [])
  pub number : right.number ≡ u
  pub is_right : IsRight p (λ w n. let s : List Added = [] in s) right.number right
  pub upper_numbers : map slot_number upper ≡ below (drop (i + 1) xs) u
  pub lower_numbers : map slot_number lower ≡ below (drop (i + 1) xs) t
  pub last_number : slot_number last ≡ t
  pub upper_waits : Each (λ n s. IsWaiting p s) upper
  pub lower_waits : Each (λ n s. IsWaiting p s) lower

-- a slot that waits has a right
waits : (p : Shape (Prim.Unit {0})) (s : Slot) (n : ℕ) → IsWaiting p s → slot_number s ≡ n → (k : Player) × (s ≡ slot.Unborn k) × (k.number ≡ n) × IsRight p (λ w i. let z : List Added = [] in z) k.number k
waits p (slot.Unborn k) n h e = (k, refl, e, h)
waits p (slot.Live w i b) n h e = absurd h
waits p (slot.Ended k) n h e = absurd h
waits p slot.Taken n h e = absurd h

pub parted : (p : Shape (Prim.Unit {0})) (xs : List Line) (at i t u : ℕ) (slots : List Slot) → AreReady p xs at t slots → below (drop at xs) t ≡ below (drop i xs) t → slice_get xs i ≡ Some (fork_line t u) → Parted p xs i t u slots
parted p xs at i t u slots r none fork =
    let up = below (drop (i + 1) xs) u in
    let low = below (drop (i + 1) xs) t in
    let all = snoc_same (map slot_number r.prefix) (below (drop at xs) t) (slot_number r.last) t (sym (map-append slot_number r.prefix (r.last ∷ [])) ∙ ap (map slot_number) (sym r.split) ∙ r.numbers) in
    let two = split_map slot_number r.prefix (up ++ u ∷ []) low (all.0 ∙ none ∙ below_fork xs i t u fork) in
    let three = split_map slot_number two.0 up (u ∷ []) two.3 in
    let one = only_one slot_number three.1 u three.4 in
    let prefix : r.prefix ≡ (three.0 ++ one.0 ∷ []) ++ two.1 = two.2 ∙ ap (λ l. l ++ two.1) (three.2 ∙ ap (λ l. three.0 ++ l) one.1) in
    let all_wait = subst (λ (l : List Slot). Each (λ n s. IsWaiting p s) l) prefix r.waiting in
    let upper_wait = each_left (IsWaiting p) (three.0 ++ one.0 ∷ []) two.1 all_wait in
    let w = waits p one.0 u (each_right (IsWaiting p) three.0 (one.0 ∷ []) upper_wait 0 one.0 refl) one.2 in
    record {
      upper = three.0;
      right = w.0;
      lower = two.1;
      last = r.last;
      is = r.split ∙ ap (λ l. l ++ r.last ∷ []) (prefix ∙ ap (λ m. (three.0 ++ m ∷ []) ++ two.1) w.1) ∙ append_assoc (three.0 ++ slot.Unborn w.0 ∷ []) two.1 (r.last ∷ []);
      number = w.2;
      is_right = w.3;
      upper_numbers = three.3;
      lower_numbers = two.4;
      last_number = all.1;
      upper_waits = each_left (IsWaiting p) three.0 (one.0 ∷ []) upper_wait;
      lower_waits = each_right (IsWaiting p) (three.0 ++ one.0 ∷ []) two.1 all_wait;
    }

module _ (p : Shape (Prim.Unit {0})) (xs : List Line) (i t u : ℕ) (slots : List Slot) (d : Parted p xs i t u slots) where
  abbrev pub shaped : Slot → Slot → List Slot
  shaped a b = (d.upper ++ a ∷ []) ++ (d.lower ++ b ∷ [])

  pub long : length slots ≡ length d.upper + 1 + length d.lower + 1
  long = omega (arith, ap length d.is, length-append (d.upper ++ slot.Unborn d.right ∷ []) (d.lower ++ d.last ∷ []), length-append d.upper (slot.Unborn d.right ∷ []), length-append d.lower (d.last ∷ []))

  -- another slot in the last place, and in u's
  pub put_last : (a b c : Slot) (n : ℕ) → n + 1 ≡ length slots → set (shaped a b) n c ≡ shaped a c
  put_last a b c n e =
      let l = long in
      set_last d.upper d.lower a b c n (omega (arith, length-append (d.upper ++ a ∷ []) d.lower, length-append d.upper (a ∷ [])))

  pub put_first : (a b c : Slot) (n : ℕ) → n ≡ length d.upper → set (shaped a b) n c ≡ shaped c b
  put_first a b c n e = set_first d.upper (d.lower ++ b ∷ []) a c n e

  -- u's slot is the first with its number
  pub seam : (b : Slot) → slice_get (map slot_number (shaped (slot.Unborn d.right) b)) (length d.upper) ≡ Some u
  seam b = slice_seam slot_number d.upper (d.lower ++ b ∷ []) (slot.Unborn d.right) ∙ ap Some d.number

  numbers_are : (b : Slot) → map slot_number (shaped (slot.Unborn d.right) b) ≡ map slot_number d.upper ++ u ∷ map slot_number (d.lower ++ b ∷ [])
  numbers_are b =
      ap (map slot_number) (append_assoc d.upper (slot.Unborn d.right ∷ []) (d.lower ++ b ∷ [])) ∙ map-append slot_number d.upper (slot.Unborn d.right ∷ (d.lower ++ b ∷ []))
      ∙ ap (λ n. map slot_number d.upper ++ n ∷ map slot_number (d.lower ++ b ∷ [])) d.number

  pub found : (b : Slot) (k : ℕ) → Lacks u (below (drop (i + 1) xs) u) → ((n : ℕ) → n < k → slice_get (map slot_number (shaped (slot.Unborn d.right) b)) n ≢ Some u) → slice_get (map slot_number (shaped (slot.Unborn d.right) b)) k ≡ Some u
      → k ≡ length d.upper
  found b k lacks first at =
      let N : List ℕ → Type 0 = λ ns. slice_get ns k ≡ Some u in
      let F : List ℕ → Type 0 = λ ns. (n : ℕ) → n < k → slice_get ns n ≢ Some u in
      first_is (map slot_number d.upper) (map slot_number (d.lower ++ b ∷ [])) u k (subst (Lacks u) (sym d.upper_numbers) lacks) (subst F (numbers_are b) first) (subst N (numbers_are b) at)
      ∙ length-map d.upper slot_number

  upper_ready : (j : ℕ) (a : Slot) → j ≡ i + 1 → slot_number a ≡ u → IsLive p xs j u a → AreReady p xs j u (d.upper ++ a ∷ [])
  upper_ready j a e number live = record {
    numbers = map-append slot_number d.upper (a ∷ []) ∙ ap₂ (λ ns n. ns ++ n ∷ []) (d.upper_numbers ∙ ap (λ n. below (drop n xs) u) (sym e)) number;
    prefix = d.upper;
    last = a;
    split = refl;
    waiting = d.upper_waits;
    live = live;
  }

  lower_ready : (j : ℕ) (b : Slot) → j ≡ i + 1 → slot_number b ≡ t → IsLive p xs j t b → AreReady p xs j t (d.lower ++ b ∷ [])
  lower_ready j b e number live = record {
    numbers = map-append slot_number d.lower (b ∷ []) ∙ ap₂ (λ ns n. ns ++ n ∷ []) (d.lower_numbers ∙ ap (λ n. below (drop n xs) t) (sym e)) number;
    prefix = d.lower;
    last = b;
    split = refl;
    waiting = d.lower_waits;
    live = live;
  }

  same_numbers : (a b : Slot) → slot_number a ≡ u → slot_number b ≡ t → map slot_number (shaped a b) ≡ map slot_number slots
  same_numbers a b ea eb =
      let parts : (x y : Slot) → map slot_number (shaped x y) ≡ (map slot_number d.upper ++ slot_number x ∷ []) ++ (map slot_number d.lower ++ slot_number y ∷ []) = λ x y.
      map-append slot_number (d.upper ++ x ∷ []) (d.lower ++ y ∷ []) ∙ ap₂ ◌++◌ (map-append slot_number d.upper (x ∷ [])) (map-append slot_number d.lower (y ∷ [])) in
      parts a b ∙ ap₂ (λ m n. (map slot_number d.upper ++ m ∷ []) ++ (map slot_number d.lower ++ n ∷ [])) (ea ∙ sym d.number) (eb ∙ sym d.last_number) ∙ sym (parts (slot.Unborn d.right) d.last) ∙ ap (map slot_number) (sym d.is)

  -- once u was forked, and both play
  pub are_forked : (j width : ℕ) (a b : Slot) (after : List Slot) → j ≡ i + 1 → j ≤ length xs → width ≡ length d.upper + 1 → after ≡ shaped a b → slot_number a ≡ u → slot_number b ≡ t → IsLive p xs j u a → IsLive p xs j t b
      → AreForked p xs width slots after
  are_forked j width a b after e within wide is ua tb live_a live_b =
      let l = long in
      let size : width ≡ length (d.upper ++ a ∷ []) = omega (arith, length-append d.upper (a ∷ [])) in
      let Q : List Slot → Type 0 = λ s. AreForked p xs width slots s in
      subst Q (sym is) record {
        any = omega arith;
        fewer = omega (arith, length-append (d.upper ++ a ∷ []) (d.lower ++ b ∷ []), length-append d.lower (b ∷ []));
        child = subst (λ (s : List Slot). IsRegion p xs s) (sym (ap (λ n. take n (shaped a b)) size ∙ take-append_seam (d.upper ++ a ∷ []) (d.lower ++ b ∷ []))) (record { at = j; t = u; within = within; ready = upper_ready j a e ua live_a });
        parent = subst (λ (s : List Slot). IsRegion p xs s) (sym (ap (λ n. drop n (shaped a b)) size ∙ drop-append_seam (d.upper ++ a ∷ []) (d.lower ++ b ∷ []))) (record { at = j; t = t; within = within; ready = lower_ready j b e tb live_b });
        numbers = same_numbers a b ua tb;
      }

  -- the last slot was taken out
  pub taken : (x : Slot) (n : ℕ) → n + 1 ≡ length slots → set slots n x ≡ shaped (slot.Unborn d.right) x
  taken x n e = ap (λ l. set l n x) d.is ∙ put_last (slot.Unborn d.right) d.last x n e

  -- u's place is found after it
  pub there : (x : Slot) (n : ℕ) → n + 1 ≡ length slots → (k : ℕ) × (k < length (set slots n x)) × (slice_get (map slot_number (set slots n x)) k ≡ Some u)
  there x n e =
      let l = long in
      (length d.upper, omega (arith, length-set slots n x), subst (λ (ys : List Slot). slice_get (map slot_number ys) (length d.upper) ≡ Some u) (sym (taken x n e)) (seam x))

  pub width_is : (x : Slot) (n w : ℕ) → n + 1 ≡ length slots → 0 < w → Lacks u (below (drop (i + 1) xs) u) → ((m : ℕ) → m + 1 < w → slice_get (map slot_number (set slots n x)) m ≢ Some u) → slice_get (map slot_number (set slots n x)) (w - 1) ≡ Some u
      → w ≡ length d.upper + 1
  width_is x n w e wide lacks first at =
      let N : List Slot → Type 0 = λ ys. slice_get (map slot_number ys) (w - 1) ≡ Some u in
      let F : List Slot → Type 0 = λ ys. (m : ℕ) → m < w - 1 → slice_get (map slot_number ys) m ≢ Some u in
      let k = found x (w - 1) lacks (subst F (taken x n e) (λ m low. first m (omega arith))) (subst N (taken x n e) at) in
      omega arith

  -- and has the right
  pub right_there : (x dflt : Slot) (n k : ℕ) → n + 1 ≡ length slots → k ≡ length d.upper → get_or (set slots n x) k dflt ≡ slot.Unborn d.right
  right_there x dflt n k e ek =
      ap (λ l. get_or l k dflt) (taken x n e ∙ append_assoc d.upper (slot.Unborn d.right ∷ []) (d.lower ++ x ∷ [])) ∙ ap (λ j. get_or (d.upper ++ slot.Unborn d.right ∷ (d.lower ++ x ∷ [])) j dflt) ek
      ∙ get_or-append_seam d.upper (slot.Unborn d.right) (d.lower ++ x ∷ []) dflt

  pub filled : (x y a b : Slot) (n k : ℕ) → n + 1 ≡ length slots → k ≡ length d.upper → set (set (set (set slots n x) k y) k a) n b ≡ shaped a b
  filled x y a b n k e ek =
      ap (λ l. set (set (set l k y) k a) n b) (taken x n e) ∙ ap (λ l. set (set l k a) n b) (put_first (slot.Unborn d.right) x y k ek) ∙ ap (λ l. set l n b) (put_first y x a k ek) ∙ put_last a x b n e

-- the slot that was read last is the last
pub last_read : (p : Shape (Prim.Unit {0})) (xs : List Line) (at t : ℕ) (slots : List Slot) (r : AreReady p xs at t slots) (read : Slot) → read ≡ get_or slots (length slots - 1) read → (read ≡ r.last) × (length slots - 1 + 1 ≡ length slots)
last_read p xs at t slots r read is =
    let size : length slots - 1 ≡ length r.prefix = omega (arith, ap length r.split, length-append r.prefix (r.last ∷ [])) in
    (is ∙ ap₂ (λ l n. get_or l n read) r.split size ∙ get_or-append_seam r.prefix r.last [] read, omega (arith, ap length r.split, length-append r.prefix (r.last ∷ [])))

-- the thread in it goes on where it says
pub region_at : (p : Shape (Prim.Unit {0})) (xs : List Line) (slots : List Slot) (h : IsRegion p xs slots) (read : Slot) (w : Playing) (n : ℕ) (b : Bool) → read ≡ get_or slots (length slots - 1) read → read ≡ slot.Live w n b
    → (n ≤ length xs) × ((t : ℕ) × AreReady p xs n t slots)
region_at p xs slots h read w n b is live =
    let same = subst (λ (s : Slot). IsLive p xs h.at h.t s) (sym (last_read p xs h.at h.t slots h.ready read is).0 ∙ live) h.ready.live in
    (subst (λ (i : ℕ). i ≤ length xs) (sym same.0) h.within, (h.t, subst (λ (i : ℕ). AreReady p xs i h.t slots) (sym same.0) h.ready))

-- the thread that was taken out of it
pub was_live : (p : Shape (Prim.Unit {0})) (xs : List Line) (at : ℕ) (slots : List Slot) (r : (t : ℕ) × AreReady p xs at t slots) (read : Slot) (w : Playing) (n : ℕ) (b : Bool) → read ≡ get_or slots (length slots - 1) read → read ≡ slot.Live w n b
    → IsPlaying p r.0 (take at xs) w.numbers w.me
was_live p xs at slots r read w n b is live = (subst (λ (s : Slot). IsLive p xs at r.0 s) (sym (last_read p xs at r.0 slots r.1 read is).0 ∙ live) r.1.live).1

pub fork_is : (xs : List Line) (i t : ℕ) (d : Line) (u v : ThreadId) → slice_get xs i ≡ Some (record { thread = record { 0 = t }; operation = Fork u }) → (get_or xs i d).operation ≡ Fork v → slice_get xs i ≡ Some (fork_line t v.0)
fork_is xs i t d u v at is =
    let x : Line = record { thread = record { 0 = t }; operation = Fork u } in
    let same : Fork u ≡ Fork v = ap (λ y. y.operation) (sym (get_or_from_slice_get xs i x d at)) ∙ is in
    at ∙ ap (λ o. Some (let y : Line = record { thread = record { 0 = t }; operation = o } in y)) same

-- its fork
pub at_fork : (p : Shape (Prim.Unit {0})) (xs : List Line) (at i : ℕ) (slots : List Slot) (r : (t : ℕ) × AreReady p xs at t slots) (read : Slot) (w : Playing) (n : ℕ) (b : Bool) (d : Line) (u v : ThreadId) → read ≡ get_or slots (length slots - 1) read → read ≡ slot.Live w n b
    → below (drop at xs) w.me.number ≡ below (drop i xs) w.me.number → slice_get xs i ≡ Some (record { thread = record { 0 = w.me.number }; operation = Fork u }) → (get_or xs i d).operation ≡ Fork v → Parted p xs i w.me.number v.0 slots
at_fork p xs at i slots r read w n b d u v is live none fork operation =
    let number = (was_live p xs at slots r read w n b is live).number in
    parted p xs at i w.me.number v.0 slots (subst (λ (t : ℕ). AreReady p xs at t slots) (sym number) r.1) none (fork_is xs i w.me.number d u v fork operation)

-- two parts that are over are over together
pub over_both : (p : Shape (Prim.Unit {0})) (xs : List Line) (ns ms : List ℕ) (cs bs : List Slot) → AreOver p xs ns cs → AreOver p xs ms bs → AreOver p xs (ns ++ ms) (cs ++ bs)
over_both p xs ns ms cs bs a b = record {
  numbers = map-append slot_number cs bs ∙ ap₂ ◌++◌ a.numbers b.numbers;
  over = each_join (IsOver p xs) cs bs a.over b.over;
}
