-- What the threads of a workload have done one after the other, and leave together.
use Rattle.std.proofs.Common.{◌≡◌, ◌≤◌, ℕ, ◌+◌, ◌*◌, List, [], ◌∷◌, ◌++◌, length, length-append, zero, suc, Some, arith, ap, sym, subst, ◌∙◌, refl}
use Rattle.std.proofs.lemmas.Option.{same_Some}
use mathlib.Core.Option.{some, some-injective, some-ne-none}
use lib.ListN.{get_elem?}
use Rattle.larch_actions.specs.declared.event.Event.{Event}
use Rattle.nub_rule.specs.Items.{Each}
use Rattle.nub_rule.specs.Known.{Known, Shape}
use Rattle.nub.specs.Idle.{IsIdle}
use Rattle.package_crew.specs.Crews.{CameBack}
use Rattle.sum_uses.specs.declared.added.Added.{Added}
use Rattle.sum_uses.specs.Sums.{added, grown, total}
use Rattle.sum_uses.proofs.Adding.{added_own}
use Rattle.bench_workloads.specs.Workloads.{HasTurned, HasWorked, Worker}

pub one_more : (xs : List Event) (e : Event) → length ((xs ++ []) ++ e ∷ []) ≡ length xs + 1
one_more xs e = omega (arith, length-append (xs ++ []) (e ∷ []), length-append {A = Event} xs [])

pub two_more : (xs : List Event) (a b : Event) → length ((xs ++ a ∷ []) ++ b ∷ []) ≡ length xs + 2
two_more xs a b = omega (arith, length-append (xs ++ a ∷ []) (b ∷ []), length-append xs (a ∷ []))

-- after the last round
pub at_end : (P : ℕ → Type 0) (i times : ℕ) → times ≤ i → i ≤ times → P i → P times
at_end P i times over end so = let all : i ≡ times = omega arith in subst P all so

module _ (p : Shape (Unit {0})) (n k : ℕ) (Is : Worker → Type 0) (a : Worker) (w : HasWorked p n k Is a) where
  -- what the thread's share says
  pub said : (s : List Added) → a.share ≡ Some s → added 0 s ≡ k
  said s share = ap (added 0) (same_Some s w.share (sym share ∙ w.idle.share)) ∙ w.sum

  pub turned : HasTurned p n k a
  turned = record { share = w.share; idle = w.idle; sum = w.sum; is = tt }

  -- one addition
  pub worked_more : (Now : Worker → Type 0) (x y : ℕ) (b : Worker) → y ≡ x + 1 → IsIdle p n (grown 0 x y w.share) b → Now b → HasWorked p n (k + 1) Now b
  worked_more Now x y b up idle now =
      let own = added_own 0 x y w.share in
      let sum = w.sum in
      record { share = grown 0 x y w.share; idle = idle; sum = omega arith; is = now }

-- what came back with the number that it went with
pub came_back : {V H W : Type 0} (P : ℕ → ℕ → Known V H W → Type 0) (threads : List (Known V H W)) (lefts : List ℕ) (n : ℕ) (t : Known V H W) → ((k : ℕ) (x : Known V H W) → get_elem? threads k ≡ some x → x.number ≡ k)
    → CameBack (λ was left. P was.number left t) threads lefts n → (left : ℕ) × (get_elem? lefts n ≡ some left) × P n left t
came_back P threads lefts n t numbered back = (back.left, back.is_left, subst (λ k. P k back.left t) (numbered n back.was back.is_was) back.goes)

-- the sum of shares each of which has added this much
pub total_alike : (amount : ℕ) (shares : List (List Added)) → Each (λ n s. added 0 s ≡ amount) shares → total 0 shares ≡ length shares * amount
total_alike amount [] each = omega arith
total_alike amount (s ∷ shares) each =
    let here = each 0 s refl in
    let rest = total_alike amount shares (λ n. each (suc n)) in
    omega arith

pub only_one : (xs : List ℕ) → length xs ≡ 1 → (x : ℕ) × (xs ≡ x ∷ [])
only_one [] e = absurd (omega arith)
only_one (x ∷ []) e = (x, refl)
only_one (x ∷ y ∷ xs) e = absurd (omega arith)

-- two numbers that are all of a list
pub two_are : (xs : List ℕ) (a b : ℕ) → length xs ≡ 2 → ((x : ℕ) → get_elem? xs 0 ≡ some x → x ≡ a) → ((x : ℕ) → get_elem? xs 1 ≡ some x → x ≡ b) → xs ≡ a ∷ b ∷ []
two_are [] a b long first second = absurd (omega arith)
two_are (x ∷ []) a b long first second = absurd (omega arith)
two_are (x ∷ y ∷ []) a b long first second = ap (λ n. n ∷ y ∷ []) (first x refl) ∙ ap (λ n. a ∷ n ∷ []) (second y refl)
two_are (x ∷ y ∷ z ∷ xs) a b long first second = absurd (omega arith)

-- the only value of a list
pub only_value : {A : Type 0} (values : List A) (x : A) → values ≡ x ∷ [] → (m : ℕ) (q : A) → get_elem? values m ≡ some q → q ≡ x
only_value values x is zero q at = sym (some-injective x q (sym (ap (λ l. get_elem? l 0) is) ∙ at))
only_value values x is (suc m) q at = absurd (some-ne-none q (sym at ∙ ap (λ l. get_elem? l (suc m)) is))
