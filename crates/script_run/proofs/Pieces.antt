-- Slots are cut in two between regions, and put together again.
use Rattle.std.proofs.Common.{◌≡◌, ◌≢◌, ℕ, ◌+◌, ◌-◌, ◌<◌, ◌≤◌, inl, inr, List, [], ◌∷◌, ◌++◌, append_assoc, map, length, length-append, length-take-le, get_or, take, drop, refl, ap, ap₂, sym, subst, ◌∙◌, Bool, true, false, arith}
use Rattle.std.specs.List.{AllByRecursion}
use Rattle.std.proofs.Math.Seq.{take-append_seam, drop-append_seam, take-append-add, drop-append-add}
use Rattle.std.proofs.lemmas.Bool.{cases_lt, false≢true}
use Rattle.std.proofs.lemmas.List.{append-nil, map-append, length-map, take-append-le, take-append-drop, take_more}
use Rattle.nub_rule.specs.Items.{Each}
use Rattle.nub_rule.specs.Known.{Shape}
use Rattle.script_text.specs.declared.line.Line.{Line}
use Rattle.script_run.specs.declared.slots.Slot.{Slot}
use Rattle.script_run.specs.declared.slots.Slot.TheVariants as slot
use Rattle.script_run.specs.Slots.{slot_number, is_live, joined, IsWaiting, IsLive, IsRegion, AreRegions, AreForked, AreOver, AreOverOrGoOn, EndsLive, IsCut}
use Rattle.script_run.proofs.Parting.{each_left, each_right, snoc_same, over_both}

-- who waits for its fork doesn't go on, and the last of a region does
waits_on : (p : Shape (Prim.Unit {0})) (s : Slot) → IsWaiting p s → is_live s ≡ false
waits_on p (slot.Unborn k) w = refl
waits_on p (slot.Live a i b) w = absurd w
waits_on p (slot.Ended k) w = refl
waits_on p slot.Taken w = refl

goes_on : (p : Shape (Prim.Unit {0})) (xs : List Line) (i t : ℕ) (s : Slot) → IsLive p xs i t s → is_live s ≡ true
goes_on p xs i t (slot.Unborn k) w = absurd w
goes_on p xs i t (slot.Live a j b) w = refl
goes_on p xs i t (slot.Ended k) w = absurd w
goes_on p xs i t slot.Taken w = absurd w

region_ends : (p : Shape (Prim.Unit {0})) (xs : List Line) (r : List Slot) → IsRegion p xs r → EndsLive r
region_ends p xs r h = record { prefix = h.ready.prefix; last = h.ready.last; split = h.ready.split; live = goes_on p xs h.at h.t h.ready.last h.ready.live }

pub region_long : (p : Shape (Prim.Unit {0})) (xs : List Line) (r : List Slot) → IsRegion p xs r → 0 < length r
region_long p xs r h = omega (arith, ap length h.ready.split, length-append h.ready.prefix (h.ready.last ∷ []))

-- none but the last does
not_before : (p : Shape (Prim.Unit {0})) (xs : List Line) (r : List Slot) (k : ℕ) → IsRegion p xs r → k < length r → EndsLive (take k r) → ⊥
not_before p xs r k h low e =
    let f = h.ready.prefix in
    let size = ap length h.ready.split ∙ length-append f (h.ready.last ∷ []) in
    let part : take k r ≡ take k f = ap (take k) h.ready.split ∙ take-append-le k f (h.ready.last ∷ []) (omega arith) in
    let all = subst (λ (l : List Slot). Each (λ n s. IsWaiting p s) l) (sym (take-append-drop k f)) h.ready.waiting in
    let some_wait = each_left (IsWaiting p) (take k f) (drop k f) all in
    let same : take k f ≡ e.prefix ++ e.last ∷ [] = sym part ∙ e.split in
    let last_waits = each_right (IsWaiting p) e.prefix (e.last ∷ []) (subst (λ (l : List Slot). Each (λ n s. IsWaiting p s) l) same some_wait) in
    false≢true (sym (waits_on p e.last (last_waits 0 e.last refl)) ∙ e.live)

no_snoc : {A : Type 0} (xs : List A) (x : A) → [] ≡ xs ++ x ∷ [] → ⊥
no_snoc [] x e = absurd (cc)
no_snoc (y ∷ xs) x e = absurd (cc)

tail_of : {A : Type 0} (x y : A) (xs ys : List A) → x ∷ xs ≡ y ∷ ys → xs ≡ ys
tail_of x y xs ys e = cc

ends_of : (x : Slot) (b f : List Slot) (l : Slot) → 0 < length b → x ∷ b ≡ f ++ l ∷ [] → is_live l ≡ true → EndsLive b
ends_of x b [] l some e live = absurd (let none = ap length (tail_of x l b [] e) in omega arith)
ends_of x b (y ∷ f) l some e live = record { prefix = f; last = l; split = tail_of x y b (f ++ l ∷ []) e; live = live }

ends_right : (a b : List Slot) → 0 < length b → EndsLive (a ++ b) → EndsLive b
ends_right [] b some e = e
ends_right (x ∷ a) b some e = ends_right a b some (ends_of x (a ++ b) e.prefix e.last (omega (arith, length-append a b)) e.split e.live)

pub no_regions : (p : Shape (Prim.Unit {0})) (xs : List Line) → AreRegions p xs []
no_regions p xs = record { regions = []; each = tt; are = refl }

pub one_region : (p : Shape (Prim.Unit {0})) (xs : List Line) (r : List Slot) → IsRegion p xs r → AreRegions p xs r
one_region p xs r h = record { regions = r ∷ []; each = (h, tt); are = sym (append-nil r) }

more_regions : (p : Shape (Prim.Unit {0})) (xs : List Line) (r s : List Slot) → IsRegion p xs r → AreRegions p xs s → AreRegions p xs (r ++ s)
more_regions p xs r s h g = record { regions = r ∷ g.regions; each = (h, g.each); are = ap (λ l. r ++ l) g.are }

joined_snoc : (rs : List (List Slot)) (r : List Slot) → joined (rs ++ r ∷ []) ≡ joined rs ++ r
joined_snoc [] r = append-nil r
joined_snoc (q ∷ rs) r = ap (λ l. q ++ l) (joined_snoc rs r) ∙ sym (append_assoc q (joined rs) r)

each_snoc : (P : List Slot → Type 0) (rs : List (List Slot)) (r : List Slot) → AllByRecursion P rs → P r → AllByRecursion P (rs ++ r ∷ [])
each_snoc P [] r all h = (h, tt)
each_snoc P (q ∷ rs) r all h = (all.0, each_snoc P rs r all.1 h)

pub regions_snoc : (p : Shape (Prim.Unit {0})) (xs : List Line) (s r : List Slot) → AreRegions p xs s → IsRegion p xs r → AreRegions p xs (s ++ r)
regions_snoc p xs s r g h = record { regions = g.regions ++ r ∷ []; each = each_snoc (IsRegion p xs) g.regions r g.each h; are = ap (λ l. l ++ r) g.are ∙ sym (joined_snoc g.regions r) }

-- where a slot goes on, a region ends, and the others begin after it
cut_joined : (p : Shape (Prim.Unit {0})) (xs : List Line) (rs : List (List Slot)) (k : ℕ) → AllByRecursion (IsRegion p xs) rs → 0 < k → k < length (joined rs) → EndsLive (take k (joined rs)) → AreRegions p xs (take k (joined rs)) × AreRegions p xs (drop k (joined rs))
cut_joined p xs [] k all any low e = absurd (omega arith)
cut_joined p xs (r ∷ rs) k all any low e =
    let j = joined rs in
    let R : List Slot → Type 0 = λ l. AreRegions p xs l in
    let size = length-append r j in
    elim (cases_lt k (length r)) [
      | inl less ↦ absurd (not_before p xs r k all.0 less (subst EndsLive (take-append-le k r j (omega arith)) e))
      | inr no_less ↦ elim (cases_lt (length r) k) [
        | inl more ↦
            let n = k - length r in
            let is : k ≡ length r + n = omega arith in
            let up : take k (r ++ j) ≡ r ++ take n j = ap (λ i. take i (r ++ j)) is ∙ take-append-add r j n in
            let down : drop k (r ++ j) ≡ drop n j = ap (λ i. drop i (r ++ j)) is ∙ drop-append-add r j n in
            let long = length-take-le n j (omega arith) in
            let ih = cut_joined p xs rs n all.1 (omega arith) (omega arith) (ends_right r (take n j) (omega arith) (subst EndsLive up e)) in
            (subst R (sym up) (more_regions p xs r (take n j) all.0 ih.0), subst R (sym down) ih.1)
        | inr no_more ↦
            let is : k ≡ length r = omega arith in
            let up : take k (r ++ j) ≡ r = ap (λ i. take i (r ++ j)) is ∙ take-append_seam r j in
            let down : drop k (r ++ j) ≡ j = ap (λ i. drop i (r ++ j)) is ∙ drop-append_seam r j in
            (subst R (sym up) (one_region p xs r all.0), subst R (sym down) (record { regions = rs; each = all.1; are = refl }))
      ]
    ]

pub cut_regions : (p : Shape (Prim.Unit {0})) (xs : List Line) (slots : List Slot) (k : ℕ) → AreRegions p xs slots → 0 < k → k < length slots → EndsLive (take k slots) → IsCut p xs k false slots slots
cut_regions p xs slots k g any low e =
    let L : List Slot → Type 0 = λ l. k < length l in
    let E : List Slot → Type 0 = λ l. EndsLive (take k l) in
    let parts = cut_joined p xs g.regions k g.each any (subst L g.are low) (subst E g.are e) in
    let F : List Slot → Type 0 = λ l. AreRegions p xs (take k l) in
    let D : List Slot → Type 0 = λ l. AreRegions p xs (drop k l) in
    record { any = λ e. any; fewer = low; first = subst F (sym g.are) parts.0; rest = subst D (sym g.are) parts.1; numbers = refl }

-- where none goes on but the last, there is one region
single : (p : Shape (Prim.Unit {0})) (xs : List Line) (rs : List (List Slot)) → AllByRecursion (IsRegion p xs) rs → 0 < length (joined rs) → ((n : ℕ) → 0 < n → n < length (joined rs) → EndsLive (take n (joined rs)) → ⊥) → IsRegion p xs (joined rs)
single p xs [] all some none = absurd (omega arith)
single p xs (r ∷ []) all some none = let R : List Slot → Type 0 = λ l. IsRegion p xs l in subst R (sym (append-nil r)) all.0
single p xs (r ∷ (q ∷ rs)) all some none =
    let j = joined (q ∷ rs) in
    let a = region_long p xs r all.0 in
    let b = region_long p xs q all.1.0 in
    absurd (none (length r) a (omega (arith, length-append r j, length-append q (joined rs))) (subst EndsLive (sym (take-append_seam r j)) (region_ends p xs r all.0)))

pub only_region : (p : Shape (Prim.Unit {0})) (xs : List Line) (slots : List Slot) → AreRegions p xs slots → 0 < length slots → ((n : ℕ) → 0 < n → n < length slots → EndsLive (take n slots) → ⊥) → IsRegion p xs slots
only_region p xs slots g some none =
    let L : List Slot → Type 0 = λ l. 0 < length l in
    let N : List Slot → Type 0 = λ l. (n : ℕ) → 0 < n → n < length l → EndsLive (take n l) → ⊥ in
    let R : List Slot → Type 0 = λ l. IsRegion p xs l in
    subst R (sym g.are) (single p xs g.regions g.each (subst L g.are some) (subst N g.are none))

-- one more slot was looked at: it goes on, or not
pub ends_here : (slots : List Slot) (k : ℕ) (s : Slot) → 0 < k → k ≤ length slots → s ≡ get_or slots (k - 1) s → is_live s ≡ true → EndsLive (take k slots)
ends_here slots k s any low is live =
    let back : k - 1 + 1 ≡ k = omega arith in
    let T : ℕ → Type 0 = λ n. EndsLive (take n slots) in
    subst T back (record { prefix = take (k - 1) slots; last = s; split = take_more slots (k - 1) s (omega arith) ∙ ap (λ x. take (k - 1) slots ++ x ∷ []) (sym is); live = live })

pub not_here : (slots : List Slot) (k : ℕ) (s : Slot) → 0 < k → k ≤ length slots → s ≡ get_or slots (k - 1) s → is_live s ≢ true → EndsLive (take k slots) → ⊥
not_here slots k s any low is not e =
    let back : k ≡ k - 1 + 1 = omega arith in
    let T : ℕ → Type 0 = λ n. EndsLive (take n slots) in
    let g = subst T back e in
    let same = snoc_same g.prefix (take (k - 1) slots) g.last s (sym g.split ∙ (take_more slots (k - 1) s (omega arith) ∙ ap (λ x. take (k - 1) slots ++ x ∷ []) (sym is))) in
    not (ap is_live (sym same.1) ∙ g.live)

-- After the first slots, those of threads that were forked, a thread goes on: it forks another, or has ended.
module _ (p : Shape (Prim.Unit {0})) (xs : List Line) (before slots prefix rest new : List Slot) (at : ℕ) (low : at < length slots) (first : AreRegions p xs (take at slots)) (numbers : map slot_number slots ≡ map slot_number before) (is_prefix : prefix ≡ take at slots)
    (is_rest : rest ≡ drop at slots) where
  whole : slots ≡ prefix ++ rest
  whole = sym (take-append-drop at slots) ∙ sym (ap₂ ◌++◌ is_prefix is_rest)

  long : length prefix ≡ at
  long = ap length is_prefix ∙ length-take-le at slots (omega arith)

  same_numbers : map slot_number new ≡ map slot_number rest → map slot_number (prefix ++ new) ≡ map slot_number before
  same_numbers e = map-append slot_number prefix new ∙ (ap (λ l. map slot_number prefix ++ l) e ∙ (sym (map-append slot_number prefix rest) ∙ (ap (map slot_number) (sym whole) ∙ numbers)))

  prefixes : take at (prefix ++ new) ≡ prefix
  prefixes = ap (λ n. take n (prefix ++ new)) (sym long) ∙ take-append_seam prefix new

  backs : drop at (prefix ++ new) ≡ new
  backs = ap (λ n. drop n (prefix ++ new)) (sym long) ∙ drop-append_seam prefix new

  are_prefix : AreRegions p xs prefix
  are_prefix = let R : List Slot → Type 0 = λ l. AreRegions p xs l in subst R (sym is_prefix) first

  pub cut_over : AreOver p xs (map slot_number rest) new → IsCut p xs at true before (prefix ++ new)
  cut_over over =
      let R : List Slot → Type 0 = λ l. AreRegions p xs l in
      let O : List Slot → Type 0 = λ l. AreOver p xs (map slot_number l) l in
      let Q : List ℕ → Type 0 = λ ns. AreOver p xs ns new in
      let same : length new ≡ length rest = sym (length-map new slot_number) ∙ (ap length over.numbers ∙ length-map rest slot_number) in
      let size = ap length whole ∙ length-append prefix rest in
      let long_prefix = long in
      record {
        any = λ e. absurd (false≢true (sym e));
        fewer = omega (arith, length-append prefix new);
        first = subst R (sym prefixes) are_prefix;
        rest = subst O (sym backs) (subst Q (sym over.numbers) over);
        numbers = same_numbers over.numbers;
      }

  module _ (width : ℕ) (f : AreForked p xs width rest new) where
    further_take : take (at + width) (prefix ++ new) ≡ prefix ++ take width new
    further_take = ap (λ n. take (n + width) (prefix ++ new)) (sym long) ∙ take-append-add prefix new width

    further_drop : drop (at + width) (prefix ++ new) ≡ drop width new
    further_drop = ap (λ n. drop (n + width) (prefix ++ new)) (sym long) ∙ drop-append-add prefix new width

    pub further_first : AreRegions p xs (take (at + width) (prefix ++ new))
    further_first = let R : List Slot → Type 0 = λ l. AreRegions p xs l in subst R (sym further_take) (regions_snoc p xs prefix (take width new) are_prefix f.child)

    pub further_rest : IsRegion p xs (drop (at + width) (prefix ++ new))
    further_rest = let R : List Slot → Type 0 = λ l. IsRegion p xs l in subst R (sym further_drop) f.parent

    pub further_numbers : map slot_number (prefix ++ new) ≡ map slot_number before
    further_numbers = same_numbers f.numbers

    pub further_low : at + width < length (prefix ++ new)
    further_low = let fewer = f.fewer in let l = long in omega (arith, length-append prefix new)

    pub further_long : length (prefix ++ new) ≡ length slots
    further_long = sym (length-map (prefix ++ new) slot_number) ∙ (ap length further_numbers ∙ (ap length (sym numbers) ∙ length-map slots slot_number))

    pub cut_forked : IsCut p xs (at + width) false before (prefix ++ new)
    cut_forked = let any = f.any in record {
      any = λ e. omega arith;
      fewer = further_low;
      first = further_first;
      rest = one_region p xs (drop (at + width) (prefix ++ new)) further_rest;
      numbers = further_numbers;
    }

-- Both parts are played, or the first where the rest is over.
pub over_parts : (p : Shape (Prim.Unit {0})) (xs : List Line) (before slots first rest a b : List Slot) (at : ℕ) → map slot_number slots ≡ map slot_number before → first ≡ take at slots → rest ≡ drop at slots
    → AreOver p xs (map slot_number first) a → AreOver p xs (map slot_number rest) b → AreOver p xs (map slot_number before) (a ++ b)
over_parts p xs before slots first rest a b at numbers is_first is_rest over_a over_b =
    let O : List ℕ → Type 0 = λ ns. AreOver p xs ns (a ++ b) in
    let same : map slot_number first ++ map slot_number rest ≡ map slot_number before =
    sym (map-append slot_number first rest) ∙ (ap (map slot_number) (ap₂ ◌++◌ is_first is_rest ∙ take-append-drop at slots) ∙ numbers) in
    subst O same (over_both p xs (map slot_number first) (map slot_number rest) a b over_a over_b)

-- what is over after the cut
pub over_at : (p : Shape (Prim.Unit {0})) (xs : List Line) (over : Bool) (slots rest : List Slot) (at : ℕ) → over ≡ true → rest ≡ drop at slots → AreOverOrGoOn p xs over (drop at slots) → AreOver p xs (map slot_number rest) rest
over_at p xs true slots rest at e is h = let O : List Slot → Type 0 = λ l. AreOver p xs (map slot_number l) l in subst O (sym is) h
over_at p xs false slots rest at e is h = absurd (false≢true e)
