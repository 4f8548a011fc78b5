-- The page that each event is drawn with, and what the events of a band add with it.
use Rattle.std.proofs.Common.{◌≡◌, ℕ, zero, suc, Bool, true, false, cond, ◌+◌, ◌-◌, ◌%◌, ◌<◌, ◌≤◌, ◌⊎◌, ⊎_elim, inl, inr, List, [], ◌∷◌, ◌++◌, length, length-append, take, refl, ap, sym, subst, ◌∙◌, append_assoc, append-nil, arith}
use Rattle.std.specs.Prelude.{◌&&◌, ◌==◌, not, nat_lt, nat_le}
use Rattle.std.proofs.lemmas.Bool.{cond-true, cond-false, eqb-true, ne_eqb, true≢false}
use Rattle.std.proofs.lemmas.Bool.Decides.{nat_tests}
use Rattle.std.proofs.lemmas.List.{take-append-le, take_all}
use Rattle.larch_actions.specs.declared.event.Layout.{Layout}
use Rattle.larch_actions.specs.declared.event.Event.{Event}
use Rattle.trace_shapes.specs.declared.view.DrawnRange.{DrawnRange}
use Rattle.trace_board.specs.Tracked.{tracked_since, extended}
use Rattle.trace_shapes.specs.Places.{in_view, column, is_open}
use Rattle.trace_picture.specs.declared.plan.Page.{Page}
use Rattle.trace_picture.specs.Plan.{page_of, room_of}
use Rattle.trace_picture.specs.Keeping.{turned, band_steps, drawn_over}
use Rattle.trace_picture.specs.Shown.{drawn_since}
use Rattle.trace_picture.specs.Bands.{step_text}
use Rattle.trace_picture.specs.Picture.{head_text, page_at, steps_text, page_since, prefix_picture}

-- what tests say
both_true : (a b : Bool) → (a && b) ≡ true → (a ≡ true) × (b ≡ true)
both_true true true e = (refl, refl)
both_true true false e = absurd (true≢false (sym e))
both_true false b e = absurd (true≢false (sym e))

open_is : (a b : Bool) → (a && not b) ≡ true → (a ≡ true) × (b ≡ false)
open_is true false e = (refl, refl)
open_is true true e = absurd (true≢false (sym e))
open_is false b e = absurd (true≢false (sym e))

shut_is : (a b : Bool) → (a && not b) ≡ false → (a ≡ false) ⊎ (b ≡ true)
shut_is true true e = inr refl
shut_is true false e = absurd (true≢false e)
shut_is false b e = inl refl

pub less_is : (i k : ℕ) → nat_lt i k ≡ true → i < k
less_is i k e = grind (arith, nat_tests)

no_less_is : (i k : ℕ) → nat_lt i k ≡ false → k ≤ i
no_less_is i k e = grind (arith, nat_tests)

pub at_most_is : (i k : ℕ) → nat_le i k ≡ true → i ≤ k
at_most_is i k e = grind (arith, nat_tests)

is_less : (i k : ℕ) → i < k → nat_lt i k ≡ true
is_less i k h = grind (arith, nat_tests)

is_at_most : (i k : ℕ) → i ≤ k → nat_le i k ≡ true
is_at_most i k h = grind (arith, nat_tests)

zero_is : (k : ℕ) → (k == 0) ≡ true → k ≡ 0
zero_is k e = eqb-true k 0 e

not_zero_is : (k : ℕ) → (k == 0) ≡ false → 0 < k
not_zero_is zero e = absurd (true≢false e)
not_zero_is (suc k) e = omega arith

not_zero : (k : ℕ) → 0 < k → (k == 0) ≡ false
not_zero k h = ne_eqb k 0 (λ e. absurd (omega (arith, h, e)))

both_are : (a b : Bool) → a ≡ true → b ≡ true → (a && b) ≡ true
both_are a b e f = ap (λ x. x && b) e ∙ f

pub second_false : (a b : Bool) → b ≡ false → (a && b) ≡ false
second_false true b e = e
second_false false b e = refl

-- where an event is in view, and where a band ends
pub seen_is : (v : DrawnRange) (n : ℕ) → in_view v n ≡ true → (v.first ≤ n) × (n < v.end)
seen_is v n e = let h = both_true (nat_le v.first n) (nat_lt n v.end) e in (at_most_is v.first n h.0, less_is n v.end h.1)

pub is_seen : (v : DrawnRange) (n : ℕ) → v.first ≤ n → n < v.end → in_view v n ≡ true
is_seen v n a b = both_are (nat_le v.first n) (nat_lt n v.end) (is_at_most v.first n a) (is_less n v.end b)

pub open_view : (v : DrawnRange) (n : ℕ) → is_open v n ≡ true → (n < v.end) × (0 < (n - v.first) % 50)
open_view v n e = let h = open_is (nat_lt n v.end) ((n - v.first) % 50 == 0) e in (less_is n v.end h.0, not_zero_is ((n - v.first) % 50) h.1)

pub shut_view : (v : DrawnRange) (n : ℕ) → is_open v n ≡ false → (v.end ≤ n) ⊎ ((n - v.first) % 50 ≡ 0)
shut_view v n e = ⊎_elim (λ (a : nat_lt n v.end ≡ false). inl (no_less_is n v.end a)) (λ (b : ((n - v.first) % 50 == 0) ≡ true). inr (zero_is ((n - v.first) % 50) b)) (shut_is (nat_lt n v.end) ((n - v.first) % 50 == 0) e)

-- the events of a band lie before its end
whole_band : (v : DrawnRange) (n m : ℕ) → in_view v n ≡ true → column v n ≡ 0 → 0 < m → is_open v (n + m) ≡ false → room_of v n ≤ m
whole_band v n m seen first some shut =
    let s = seen_is v n seen in
    ⊎_elim (λ (a : v.end ≤ n + m). omega (arith, a, s.0, s.1)) (λ (b : (n + m - v.first) % 50 ≡ 0). omega (arith, b, first, s.0, s.1, some)) (shut_view v (n + m) shut)

module _ (l : Layout) (v : DrawnRange) where
  -- the page of a band that ends before these others is the same without them
  same_page : (past : List Event) (x : Event) (xs ys : List Event) (p : Page) → is_open v (length past + length (x ∷ xs)) ≡ false
      → page_at l v past ((x ∷ xs) ++ ys) p ≡ page_at l v past ((x ∷ xs) ++ []) p
  same_page past x xs ys p shut = at (in_view v (length past) && column v (length past) == 0) refl
    where
      at : (b : Bool) → (in_view v (length past) && column v (length past) == 0) ≡ b
          → cond b (page_of l (tracked_since past) (take (room_of v (length past)) ((x ∷ xs) ++ ys)) p.next) p
          ≡ cond b (page_of l (tracked_since past) (take (room_of v (length past)) ((x ∷ xs) ++ [])) p.next) p
      at false e = refl
      at true e =
          let n = length past in
          let h = both_true (in_view v n) (column v n == 0) e in
          let le = whole_band v n (length (x ∷ xs)) h.0 (zero_is (column v n) h.1) (omega arith) shut in
          ap (λ es. page_of l (tracked_since past) es p.next) (take-append-le (room_of v n) (x ∷ xs) ys le ∙ sym (take-append-le (room_of v n) (x ∷ xs) [] le))

  further : (past : List Event) (x : Event) (xs : List Event) → is_open v (length past + length (x ∷ xs)) ≡ false → is_open v (length (x ∷ past) + length xs) ≡ false
  further past x xs shut = let same : length (x ∷ past) + length xs ≡ length past + length (x ∷ xs) = omega arith in ap (is_open v) same ∙ shut

  -- what comes after a band that ends is put after it
  pub steps_cut : (after : List Event) (p : Page) (past xs ys : List Event) → is_open v (length past + length xs) ≡ false
      → steps_text l v after p past (xs ++ ys) ≡ steps_text l v [] p past xs ++ steps_text l v after (page_since l v [] p past xs) (extended past xs) ys
  unfolding steps_text page_since
  steps_cut after p past [] ys shut = refl
  steps_cut after p past (x ∷ xs) ys shut =
      let q = page_at l v past ((x ∷ xs) ++ []) p in
      let n = length past in
      let k = tracked_since past in
      let same : page_at l v past ((x ∷ xs ++ ys) ++ after) p ≡ q = ap (λ es. page_at l v past (x ∷ es) p) (append_assoc xs ys after) ∙ same_page past x xs (ys ++ after) p shut in
      ap (λ z. step_text l v z k n x ++ steps_text l v after z (x ∷ past) (xs ++ ys)) same
      ∙ ap (λ t. step_text l v q k n x ++ t) (steps_cut after q (x ∷ past) xs ys (further past x xs shut))
      ∙ sym (append_assoc (step_text l v q k n x) (steps_text l v [] q (x ∷ past) xs) (steps_text l v after (page_since l v [] q (x ∷ past) xs) (extended (x ∷ past) xs) ys))

  pub page_cut : (after : List Event) (p : Page) (past xs ys : List Event) → is_open v (length past + length xs) ≡ false
      → page_since l v after p past (xs ++ ys) ≡ page_since l v after (page_since l v [] p past xs) (extended past xs) ys
  unfolding page_since
  page_cut after p past [] ys shut = refl
  page_cut after p past (x ∷ xs) ys shut =
      let q = page_at l v past ((x ∷ xs) ++ []) p in
      let same : page_at l v past ((x ∷ xs ++ ys) ++ after) p ≡ q = ap (λ es. page_at l v past (x ∷ es) p) (append_assoc xs ys after) ∙ same_page past x xs (ys ++ after) p shut in
      ap (λ z. page_since l v after z (x ∷ past) (xs ++ ys)) same ∙ page_cut after q (x ∷ past) xs ys (further past x xs shut)

  -- within a band its page stays
  pub within : (past es : List Event) (p : Page) → 0 < column v (length past) → page_at l v past es p ≡ p
  within past es p later =
      cond-false (in_view v (length past) && column v (length past) == 0) (page_of l (tracked_since past) (take (room_of v (length past)) es) p.next) p
      (second_false (in_view v (length past)) (column v (length past) == 0) (not_zero (column v (length past)) later))

  next_column : (n : ℕ) → 0 < column v n → column v n + 1 < 50 → column v (n + 1) ≡ column v n + 1
  next_column n later lt = omega (arith, later, lt)

  abbrev IsWithin : ℕ → ℕ → Type 0
  IsWithin n m = 0 < m → (0 < column v n) × (column v n + m ≤ 50)

  within_next : (n m : ℕ) → IsWithin n (m + 1) → IsWithin (n + 1) m
  within_next n m h = λ some.
      let now = h (omega arith) in
      let next = next_column n now.0 (omega (arith, now.1, some)) in
      (omega (arith, next), omega (arith, next, now.1))

  band_is : (after : List Event) (p : Page) (past es : List Event) → IsWithin (length past) (length es)
      → steps_text l v after p past es ≡ band_steps l v (length past) (drawn_since l v p past) es
  unfolding steps_text band_steps
  band_is after p past [] h = refl
  band_is after p past (e ∷ es) h =
      let same = within past ((e ∷ es) ++ after) p (h (omega arith)).0 in
      let n = length past in
      let grown : length (e ∷ past) ≡ n + 1 = omega arith in
      let next : IsWithin (length (e ∷ past)) (length es) = subst (λ i. IsWithin i (length es)) (sym grown) (within_next n (length es) (subst (IsWithin n) (more (length es)) h)) in
      ap (λ q. step_text l v q (tracked_since past) n e ++ steps_text l v after q (e ∷ past) es) same
      ∙ ap (λ t. step_text l v p (tracked_since past) n e ++ t) (band_is after p (e ∷ past) es next ∙ ap (λ i. band_steps l v i (drawn_since l v p (e ∷ past)) es) grown)
    where
      more : (i : ℕ) → suc i ≡ i + 1
      more i = omega arith

  page_is : (after : List Event) (p : Page) (past es : List Event) → IsWithin (length past) (length es) → page_since l v after p past es ≡ p
  unfolding page_since
  page_is after p past [] h = refl
  page_is after p past (e ∷ es) h =
      let same = within past ((e ∷ es) ++ after) p (h (omega arith)).0 in
      let n = length past in
      let grown : length (e ∷ past) ≡ n + 1 = omega arith in
      let next : IsWithin (length (e ∷ past)) (length es) = subst (λ i. IsWithin i (length es)) (sym grown) (within_next n (length es) (subst (IsWithin n) (more (length es)) h)) in
      ap (λ q. page_since l v after q (e ∷ past) es) same ∙ page_is after p (e ∷ past) es next
    where
      more : (i : ℕ) → suc i ≡ i + 1
      more i = omega arith

  -- what was drawn after them
  pub over_is : (p : Page) (past es : List Event) → drawn_over l v (length past) (drawn_since l v p past) es ≡ drawn_since l v p (extended past es)
  unfolding drawn_over
  over_is p past [] = refl
  over_is p past (e ∷ es) =
      let grown : length past + 1 ≡ length (e ∷ past) = omega arith in
      ap (λ i. drawn_over l v i (drawn_since l v p (e ∷ past)) es) grown ∙ over_is p (e ∷ past) es

  -- the page of a new band
  pub new_page : (past : List Event) (e : Event) (es : List Event) (p : Page) → in_view v (length past) ≡ true → column v (length past) ≡ 0 → length (e ∷ es) ≤ room_of v (length past)
      → page_at l v past (e ∷ es) p ≡ page_of l (tracked_since past) (e ∷ es) p.next
  new_page past e es p seen first fits =
      let n = length past in
      cond-true (in_view v n && column v n == 0) (page_of l (tracked_since past) (take (room_of v n) (e ∷ es)) p.next) p
      (both_are (in_view v n) (column v n == 0) seen (ap (λ c. c == 0) first))
      ∙ ap (λ xs. page_of l (tracked_since past) xs p.next) (take_all (room_of v n) (e ∷ es) fits)

  column_next : (n : ℕ) → in_view v n ≡ true → column v n ≡ 0 → column v (n + 1) ≡ 1
  column_next n seen first = let s = seen_is v n seen in omega (arith, s.0, first)

  module _ (after past : List Event) (p : Page) (seen : in_view v (length past) ≡ true) (first : column v (length past) ≡ 0) where
    -- the text of the events of a band
    pub kept_steps : (es : List Event) → length (es ++ after) ≤ room_of v (length past)
        → steps_text l v after p past es ≡ band_steps l v (length past) (turned l (es ++ after) (drawn_since l v p past)) es
    unfolding steps_text band_steps
    kept_steps [] fits = refl
    kept_steps (e ∷ es) fits =
        let n = length past in
        let q = page_of l (tracked_since past) (e ∷ (es ++ after)) p.next in
        let grown : length (e ∷ past) ≡ n + 1 = omega arith in
        let small : length es ≤ 49 = omega (arith, fits, length-append es after) in
        let next : IsWithin (length (e ∷ past)) (length es) = λ some. let c = column_next n seen first in let d = ap (column v) grown ∙ c in (omega (arith, d), omega (arith, d, small)) in
        ap (λ z. step_text l v z (tracked_since past) n e ++ steps_text l v after z (e ∷ past) es) (new_page past e (es ++ after) p seen first fits)
        ∙ ap (λ t. step_text l v q (tracked_since past) n e ++ t) (band_is after q (e ∷ past) es next ∙ ap (λ i. band_steps l v i (drawn_since l v q (e ∷ past)) es) grown)

    pub kept_page : (e : Event) (es : List Event) → length ((e ∷ es) ++ after) ≤ room_of v (length past)
        → page_since l v after p past (e ∷ es) ≡ page_of l (tracked_since past) (e ∷ (es ++ after)) p.next
    unfolding page_since
    kept_page e es fits =
        let n = length past in
        let q = page_of l (tracked_since past) (e ∷ (es ++ after)) p.next in
        let grown : length (e ∷ past) ≡ n + 1 = omega arith in
        let small : length es ≤ 49 = omega (arith, fits, length-append es after) in
        let next : IsWithin (length (e ∷ past)) (length es) = λ some. let c = column_next n seen first in let d = ap (column v) grown ∙ c in (omega (arith, d), omega (arith, d, small)) in
        ap (λ z. page_since l v after z (e ∷ past) es) (new_page past e (es ++ after) p seen first fits) ∙ page_is after q (e ∷ past) es next

pub prefix-none : (l : Layout) (v : DrawnRange) → prefix_picture l v [] [] ≡ head_text l
unfolding prefix_picture steps_text
prefix-none l v = append-nil (head_text l)
