-- Totals that are kept.
use Rattle.std.proofs.Common.{◌≡◌, ◌⊎◌, ℕ, ◌+◌, ◌*◌, ◌<◌, ◌≤◌, zero, suc, List, [], ◌∷◌, ◌++◌, length, vec_capacity, Option as Opt, Some, None, IfSome, Vec, Global, arith, sym, subst, ap, ◌∙◌, refl, inl, inr, ⊎_elim, length-append}
use mathlib.Core.Option.{some, some-injective, some-ne-none}
use lib.ListN.{get_elem?}
use Rattle.barrier_once.specs.Rounds.{triangle}
use Rattle.command_rounds.specs.Playing.{AreTotals, IsNoted}

abbrev pub HasRoom : ℕ → ℕ → Vec ℕ Global → Type 0
HasRoom n rounds v = (length v.items ≡ n) × (rounds ≤ vec_capacity v)

longer : (xs : List ℕ) (x n : ℕ) → length xs ≡ n → length (xs ++ x ∷ []) ≡ n + 1
longer xs x n e = let a = length-append xs (x ∷ []) in omega arith

last_at : (xs : List ℕ) (x j y : ℕ) → get_elem? (xs ++ x ∷ []) j ≡ some y → (get_elem? xs j ≡ some y) ⊎ ((j ≡ length xs) × (x ≡ y))
last_at [] x zero y e = inr (refl, some-injective x y e)
last_at [] x (suc j) y e = absurd (some-ne-none y (sym e))
last_at (z ∷ xs) x zero y e = inl e
last_at (z ∷ xs) x (suc j) y e = ⊎_elim (λ (h : get_elem? xs j ≡ some y). inl h) (λ (h : (j ≡ length xs) × (x ≡ y)). inr (let a = h.0 in omega arith, h.1)) (last_at xs x j y e)

one_total : (parties n total : ℕ) (xs : List ℕ) → AreTotals parties n xs → total ≡ (n + 1) * triangle parties → AreTotals parties (n + 1) (xs ++ total ∷ [])
one_total parties n total xs h is = record {
  count = longer xs total n h.count;
  each = λ k y at. ⊎_elim
      (λ (e : get_elem? xs k ≡ some y). h.each k y e)
      (λ (e : (k ≡ length xs) × (total ≡ y)). sym e.1 ∙ (is ∙ ap (λ j. (j + 1) * triangle parties) (sym (e.0 ∙ h.count))))
      (last_at xs total k y at);
}

pub no_totals : (parties : ℕ) (xs : List ℕ) → xs ≡ [] → AreTotals parties 0 xs
no_totals parties xs is = record { count = ap length is; each = λ k y at. absurd (some-ne-none y (sym (ap (λ l. get_elem? l k) (sym is) ∙ at))) }

pub room_left : (total n rounds : ℕ) (old new : Opt (Vec ℕ Global)) → IsNoted total old new → IfSome old (HasRoom n rounds) → IfSome new (HasRoom (n + 1) rounds)
room_left total n rounds None new noted room = subst (λ o. IfSome o (HasRoom (n + 1) rounds)) (sym noted) tt
room_left total n rounds (Some old) None noted room = tt
room_left total n rounds (Some old) (Some new) noted room =
    let capacity = noted.1 in
    let had = room.1 in
    (ap length noted.0 ∙ longer old.items total n room.0, omega arith)

pub totals_noted : (parties total n : ℕ) (old new : Opt (Vec ℕ Global)) → IsNoted total old new → total ≡ (n + 1) * triangle parties → IfSome old (λ v. AreTotals parties n v.items) → IfSome new (λ v. AreTotals parties (n + 1) v.items)
totals_noted parties total n None new noted is had = subst (λ o. IfSome o (λ v. AreTotals parties (n + 1) v.items)) (sym noted) tt
totals_noted parties total n (Some old) None noted is had = tt
totals_noted parties total n (Some old) (Some new) noted is had = subst (AreTotals parties (n + 1)) (sym noted.0) (one_total parties n total old.items had is)

pub can_push : (n rounds : ℕ) (old : Opt (Vec ℕ Global)) → IfSome old (HasRoom n rounds) → n < rounds → IfSome old (λ v. length v.items < vec_capacity v)
can_push n rounds None room low = tt
can_push n rounds (Some old) room low = let count = room.0 in let had = room.1 in omega arith

pub room_first : (rounds : ℕ) (o : Opt (Vec ℕ Global)) → IfSome o (λ v. (v.items ≡ []) × (rounds ≤ vec_capacity v)) → IfSome o (HasRoom 0 rounds)
room_first rounds None h = tt
room_first rounds (Some v) h = (ap length h.0, h.1)

pub totals_first : (parties rounds : ℕ) (o : Opt (Vec ℕ Global)) → IfSome o (λ v. (v.items ≡ []) × (rounds ≤ vec_capacity v)) → IfSome o (λ v. AreTotals parties 0 v.items)
totals_first parties rounds None h = tt
totals_first parties rounds (Some v) h = no_totals parties v.items h.0
