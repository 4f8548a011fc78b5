-- Counts of a list that takes what an iterator yields, one by one.
use Rattle.std.proofs.Common.{◌≡◌, ◌<◌, ◌≤◌, ◌+◌, ◌++◌, ℕ, List, [], ◌∷◌, length, ap, arith, ⊎_elim}
use Rattle.std.proofs.lemmas.Bool.{cases_lt}
use Rattle.std.specs.List.{sum_by}
use Rattle.std.proofs.lemmas.List.Sums.{sum_by-append}
use Rattle.thread_crew.specs.Crews.{IsHeldCount, held_in}
use Rattle.thread_crew.specs.declared.child.Child.{Child}
use Rattle.thread_crew.specs.declared.child.Child.TheVariants.{Started, Held}

module _ (len more was now : ℕ) (took : more ≡ len + 1) (gone : now + 1 ≡ was) where
  pub room_still : (capacity same : ℕ) → same ≡ capacity → len + was ≤ capacity → more + now ≤ same
  room_still capacity same e h = omega arith

  pub same_count : (all : ℕ) → len + was ≡ all → more + now ≡ all
  same_count all h = omega arith

pub has_place : (len was now capacity : ℕ) → now + 1 ≡ was → len + was ≤ capacity → len < capacity
has_place len was now capacity gone h = omega arith

pub one_left : {X : Type 0} (x : X) (rest all : List X) (was now : ℕ) → all ≡ x ∷ rest → now + 1 ≡ was → was ≡ length all → now ≡ length rest
one_left x rest all was now steps gone left = let e = ap length steps in omega arith

-- nothing is left: as many were taken as there were
pub all_taken : (len left first all : ℕ) → len + left ≡ first → left ≡ 0 → first ≡ all → len ≡ all
all_taken len left first all count none is = omega arith

pub fits : (len all got capacity : ℕ) → len ≡ all → got ≡ all → got ≤ capacity → len ≤ capacity
fits len all got capacity e is h = omega arith

-- one more was started or held
pub recorded_still : (before len more starts was now : ℕ) → before ≡ len → more ≡ len + 1 → len ≤ starts + was → (starts ≤ before → now ≡ was + 1) → (h : ℕ) → now ≡ was + h → more ≤ starts + now
recorded_still before len more starts was now is took recorded counted k exact = ⊎_elim
    (λ (h : before < starts). omega arith)
    (λ (h : starts ≤ before). let one = counted h in omega arith)
    (cases_lt before starts)

pub held_once : {X P F : Type 0} (child : Child X P F) → held_in child ≤ 1
held_once (Started h) = omega arith
held_once (Held f) = omega arith

-- one more child was counted
pub held_still : {X P F : Type 0} (children more : List (Child X P F)) (child : Child X P F) (was now : ℕ) → more ≡ children ++ child ∷ []
    → was ≡ sum_by held_in children → now ≡ was + held_in child → now ≡ sum_by held_in more
held_still children more child was now is counted exact =
    let all = sum_by-append held_in children (child ∷ []) in
    let same = ap (λ l. sum_by held_in l) is in
    omega arith

pub recorded_of : (starts len jobs held : ℕ) → len ≡ jobs → len ≤ starts + held → held ≤ len → IsHeldCount starts jobs held
recorded_of starts len jobs held is recorded few = record { enough = omega arith; few = omega arith }

-- nothing was taken yet
module _ (len left : ℕ) (empty : len ≡ 0) where
  pub room_first : (all got capacity : ℕ) → left ≡ all → got ≡ all → got ≤ capacity → len + left ≤ capacity
  room_first all got capacity e is h = omega arith

  pub count_first : len + left ≡ left
  count_first = omega arith
