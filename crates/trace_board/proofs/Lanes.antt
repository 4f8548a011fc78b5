-- Each bar has a lane of its own, and keeps it.
use Rattle.std.proofs.Common.{◌≡◌, ◌≢◌, ℕ, Bool, true, false, cond, eqb, refl, ap, sym, ◌∙◌, Some, None, ne_eqb, arith}
use Rattle.std.specs.declared.option.Option.{Option}
use Rattle.std.proofs.lemmas.Bool.{cond_both, eqb-true}
use Rattle.larch_actions.specs.declared.event.Event.{Event}
use Rattle.trace_board.specs.declared.history.Origin.{Origin}
use Rattle.trace_board.specs.declared.history.Change.{Change}
use Rattle.trace_board.specs.declared.history.Change.TheVariants.{Begins, Ends, Stays}
use Rattle.trace_board.specs.declared.rows.Bar.{Bar}
use Rattle.trace_board.specs.declared.rows.Bar.TheVariants.{Mutex, Semaphore}
use Rattle.trace_board.specs.declared.rows.Row.{Row}
use Rattle.trace_board.specs.Marks.{marks}
use Rattle.trace_board.specs.Rows.{row_with, same_bar, beside, with_bar, let_go, without_bar, has, lane_in, begun_in, ended_in, turned, left, turned_by_semaphore}
use Rattle.trace_board.specs.Tracked.{Tracked, tracked_after}
use Rattle.trace_board.specs.Laws.{IsLeft, LanesAreOwn}

same-true : (x y : Bar) → same_bar x y ≡ true → x ≡ y
same-true (Mutex i) (Mutex k) e = ap Mutex (eqb-true i k e)
same-true (Mutex i) (Semaphore k) e = let bad : false ≡ true = e in cc
same-true (Semaphore i) (Mutex k) e = let bad : false ≡ true = e in cc
same-true (Semaphore i) (Semaphore k) e = ap Semaphore (eqb-true i k e)

same-false : (x y : Bar) → x ≢ y → same_bar x y ≡ false
same-false (Mutex i) (Mutex k) ne = ne_eqb i k (λ e. ne (ap Mutex e))
same-false (Mutex i) (Semaphore k) ne = refl
same-false (Semaphore i) (Mutex k) ne = refl
same-false (Semaphore i) (Semaphore k) ne = ne_eqb i k (λ e. ne (ap Semaphore e))

not_both : (x : Option Bar) (a b : Bar) → a ≢ b → has a x ≡ true → has b x ≡ true → ⊥
not_both None a b ne h g = let bad : false ≡ true = h in cc
not_both (Some i) a b ne h g = ne (sym (same-true i a h) ∙ same-true i b g)

abbrev pick : Bool → Bool → Bool → ℕ
pick p q r = cond p 0 (cond q 1 (cond r 2 3))

lanes : (p q r a b c : Bool) → (p ≡ true → a ≡ true → ⊥) → (q ≡ true → b ≡ true → ⊥) → (r ≡ true → c ≡ true → ⊥) → pick p q r ≡ pick a b c → pick p q r ≡ 3
lanes true q r true b c hp hq hr e = absurd (hp refl refl)
lanes true q r false true c hp hq hr e = let bad : ◌≡◌ {A = ℕ} 0 1 = e in absurd (omega arith)
lanes true q r false false true hp hq hr e = let bad : ◌≡◌ {A = ℕ} 0 2 = e in absurd (omega arith)
lanes true q r false false false hp hq hr e = e
lanes false true r true b c hp hq hr e = let bad : ◌≡◌ {A = ℕ} 1 0 = e in absurd (omega arith)
lanes false true r false true c hp hq hr e = absurd (hq refl refl)
lanes false true r false false true hp hq hr e = let bad : ◌≡◌ {A = ℕ} 1 2 = e in absurd (omega arith)
lanes false true r false false false hp hq hr e = e
lanes false false true true b c hp hq hr e = let bad : ◌≡◌ {A = ℕ} 2 0 = e in absurd (omega arith)
lanes false false true false true c hp hq hr e = let bad : ◌≡◌ {A = ℕ} 2 1 = e in absurd (omega arith)
lanes false false true false false true hp hq hr e = absurd (hr refl refl)
lanes false false true false false false hp hq hr e = e
lanes false false false a b c hp hq hr e = refl

own_lane : (r : Row) (m k : Bar) → m ≢ k → lane_in r m ≡ lane_in r k → lane_in r m ≡ 3
own_lane r m k ne e = lanes (has m r.first) (has m r.second) (has m r.third) (has k r.first) (has k r.second) (has k r.third) (not_both r.first m k ne) (not_both r.second m k ne) (not_both r.third m k ne) e

lane_beside : (x b : Bar) → x ≢ b → (i j k : Option Bar) → lane_in (beside x i j k) b ≡ lane_in (row_with i j k) b
lane_beside x b ne None j k = ap (λ p. pick p (has b j) (has b k)) (same-false x b ne)
lane_beside x b ne (Some i) None k = ap (λ p. pick (same_bar i b) p (has b k)) (same-false x b ne)
lane_beside x b ne (Some i) (Some j) None = ap (λ p. pick (same_bar i b) (same_bar j b) p) (same-false x b ne)
lane_beside x b ne (Some i) (Some j) (Some k) = refl

still_has : (x b : Bar) → x ≢ b → (y : Option Bar) → has b (let_go x y) ≡ has b y
still_has x b ne None = refl
still_has x b ne (Some i) =
    cond_both (same_bar i x) None (Some i) (λ y. has b y ≡ same_bar i b) (λ e. sym (same-false i b (λ same. ne (sym (same-true i x e) ∙ same)))) (λ e. refl)

module _ (x b : Bar) (ne : x ≢ b) (t : ℕ) (f : ℕ → Row) (u : ℕ) where
  lane_begun : lane_in (begun_in x t f u) b ≡ lane_in (f u) b
  lane_begun =
      cond_both (eqb u t) (with_bar x (f t)) (f u) (λ y. lane_in y b ≡ lane_in (f u) b)
      (λ e. lane_beside x b ne (f t).first (f t).second (f t).third ∙ ap (λ i. lane_in (f i) b) (sym (eqb-true u t e)))
      (λ e. refl)

  lane_ended : lane_in (ended_in x t f u) b ≡ lane_in (f u) b
  lane_ended =
      cond_both (eqb u t) (without_bar x (f t)) (f u) (λ y. lane_in y b ≡ lane_in (f u) b)
      (λ e. (λ i. pick (still_has x b ne (f t).first i) (still_has x b ne (f t).second i) (still_has x b ne (f t).third i)) ∙ ap (λ i. lane_in (f i) b) (sym (eqb-true u t e)))
      (λ e. refl)

-- an effect that isn't of the bar
abbrev IsOther : Bar → Change → (ℕ → Bar) → Type 0
IsOther b (Begins k) of = of k ≢ b
IsOther b (Ends k) of = of k ≢ b
IsOther b Stays of = Unit {0}

lane_turned : (effect : Change) (t : ℕ) (f : ℕ → Row) (b : Bar) (u : ℕ) → IsOther b effect Mutex → lane_in (turned effect t f u) b ≡ lane_in (f u) b
lane_turned (Begins k) t f b u ne = lane_begun (Mutex k) b ne t f u
lane_turned (Ends k) t f b u ne = lane_ended (Mutex k) b ne t f u
lane_turned Stays t f b u ne = refl

lane_left : (s : ℕ) (since : Option Origin) (f : ℕ → Row) (b : Bar) (u : ℕ) → Semaphore s ≢ b → lane_in (left s since f u) b ≡ lane_in (f u) b
lane_left s None f b u ne = refl
lane_left s (Some o) f b u ne = lane_ended (Semaphore s) b ne o.thread.0 f u

lane_by_semaphore : (effect : Change) (t : ℕ) (taken : ℕ → Option Origin) (f : ℕ → Row) (b : Bar) (u : ℕ) → IsOther b effect Semaphore → lane_in (turned_by_semaphore effect t taken f u) b ≡ lane_in (f u) b
lane_by_semaphore (Begins k) t taken f b u ne = lane_begun (Semaphore k) b ne t f u
lane_by_semaphore (Ends k) t taken f b u ne = lane_left k (taken k) f b u ne
lane_by_semaphore Stays t taken f b u ne = refl

other_mutex : (b : Bar) (e : Event) (effect : Change) → (marks e).mutex ≡ effect → IsLeft b e → IsOther b effect Mutex
other_mutex (Mutex m) e (Begins k) is l = λ same. l.0 (is ∙ ap Begins (at k m same))
  where
    at : (k m : ℕ) → Mutex k ≡ Mutex m → k ≡ m
    at k m e = cc
other_mutex (Mutex m) e (Ends k) is l = λ same. l.1 (is ∙ ap Ends (at k m same))
  where
    at : (k m : ℕ) → Mutex k ≡ Mutex m → k ≡ m
    at k m e = cc
other_mutex (Mutex m) e Stays is l = tt
other_mutex (Semaphore s) e (Begins k) is l = λ same. let bad : Mutex k ≡ Semaphore s = same in cc
other_mutex (Semaphore s) e (Ends k) is l = λ same. let bad : Mutex k ≡ Semaphore s = same in cc
other_mutex (Semaphore s) e Stays is l = tt

other_semaphore : (b : Bar) (e : Event) (effect : Change) → (marks e).semaphore ≡ effect → IsLeft b e → IsOther b effect Semaphore
other_semaphore (Semaphore m) e (Begins k) is l = λ same. l.0 (is ∙ ap Begins (at k m same))
  where
    at : (k m : ℕ) → Semaphore k ≡ Semaphore m → k ≡ m
    at k m e = cc
other_semaphore (Semaphore m) e (Ends k) is l = λ same. l.1 (is ∙ ap Ends (at k m same))
  where
    at : (k m : ℕ) → Semaphore k ≡ Semaphore m → k ≡ m
    at k m e = cc
other_semaphore (Semaphore m) e Stays is l = tt
other_semaphore (Mutex s) e (Begins k) is l = λ same. let bad : Semaphore k ≡ Mutex s = same in cc
other_semaphore (Mutex s) e (Ends k) is l = λ same. let bad : Semaphore k ≡ Mutex s = same in cc
other_semaphore (Mutex s) e Stays is l = tt

lane_stays : (n : ℕ) (e : Event) (k : Tracked) (b : Bar) (u : ℕ) → IsLeft b e → lane_in ((tracked_after n e k).rows u) b ≡ lane_in (k.rows u) b
lane_stays n e k b u l =
    lane_by_semaphore (marks e).semaphore e.thread.0 k.taken (turned (marks e).mutex e.thread.0 k.rows) b u (other_semaphore b e (marks e).semaphore refl l)
    ∙ lane_turned (marks e).mutex e.thread.0 k.rows b u (other_mutex b e (marks e).mutex refl l)

pub lanes_are_own : LanesAreOwn
lanes_are_own = (own_lane, lane_stays)
