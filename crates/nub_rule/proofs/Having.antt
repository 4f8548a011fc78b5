-- Which slots are at hand, told by their numbers, and so which mutexes a thread has.
use Rattle.std.proofs.Common.{true, false, ◌≡◌, ℕ, ◌<◌, ◌≤◌, cond, eqb, List, [], ◌∷◌, ◌++◌, reverse, length, take, get_or, refl, sym, ap, ◌∙◌, subst, arith, Some, None, eq-eqb}
use Rattle.std.specs.Prelude.{Option as Opt}
use Rattle.std.specs.Option.{option_eq}
use Rattle.std.proofs.lemmas.Grind.{reverse_onto}
use mathlib.Core.Logic.{dite}
use mathlib.Core.Option.{some}
use native.Mathlib.Decide.{ℕ_discrete}
use lib.ListN.{get_elem?}
use Rattle.larch_actions.specs.Sets.{mem}
use Rattle.larch_actions.proofs.Sets.{mem-here, mem-else, mem-last, mem-snoc}
use Rattle.nub_rule.specs.declared.rule.Slot.{Slot}
use Rattle.nub_rule.specs.declared.view.Part.{Part}
use Rattle.nub_rule.specs.Known.{Hands}
use Rattle.nub_rule.specs.Parts.{Got}
use Rattle.nub_rule.specs.Places.{value_at}
use Rattle.nub_rule.specs.Slots.{find, hand_of}
use Rattle.nub_rule.proofs.Each.{at_below, none_past}
use Rattle.nub_rule.proofs.Lessening.{less-at}
use Rattle.nub_rule.proofs.Lines.{both_ways}
use Rattle.nub_rule.proofs.Turns.{find-here, find-else, keys}

mem-end : (t x : ℕ) (xs : List ℕ) → mem t (xs ++ x ∷ []) ≡ mem t (x ∷ xs)
mem-end t x xs = dite (ℕ_discrete x t)
    (λ e. subst (λ (z : ℕ). mem t (xs ++ z ∷ []) ≡ true) (sym e) (mem-last t xs) ∙ sym (mem-here t x xs e))
    (λ ne. mem-snoc t x xs ne ∙ sym (mem-else t x xs ne))

pub mem-reverse : (t : ℕ) (xs : List ℕ) → mem t (reverse xs) ≡ mem t xs
mem-reverse t [] = refl
mem-reverse t (x ∷ xs) = ap (mem t) (reverse_onto xs x []) ∙ (mem-end t x (reverse xs) ∙ ap (λ b. cond (eqb x t) true b) (mem-reverse t xs))

pub unlike : (o : Opt ℕ) (k : ℕ) → option_eq eqb o (Some k) ≡ false → o ≡ Some k → ⊥
unlike None k f e = cc
unlike (Some x) k f e = let is : x ≡ k = cc in both_ways (eqb x k) (eq-eqb x k is) f

-- whether a hand has a slot, by the slot on top and those below
pub below_has : (slot i : ℕ) (top : Opt ℕ) (below : List ℕ) → (top ≡ None → below ≡ []) → i < length below → get_or below i 0 ≡ slot → mem slot (take i below) ≡ false → mem slot (hand_of top below) ≡ true
below_has slot i None below h low is out = let e = ap length (h refl) in absurd (omega arith)
below_has slot i (Some top) below h low is out = dite (ℕ_discrete top slot)
    (λ e. mem-here slot top (reverse below) e)
    (λ ne. mem-else slot top (reverse below) ne ∙ (mem-reverse slot below ∙ (less-at slot i below low is out).1))

pub hand_lacks : (slot : ℕ) (top : Opt ℕ) (below : List ℕ) → (top ≡ Some slot → ⊥) → mem slot below ≡ false → mem slot (hand_of top below) ≡ false
hand_lacks slot None below ne out = refl
hand_lacks slot (Some top) below ne out = mem-else slot top (reverse below) (λ e. ne (ap (λ (z : ℕ). Some z) e)) ∙ (mem-reverse slot below ∙ out)

module _ {S : Type 0} where
  found_by : (k : ℕ) (xs : List (ℕ × S)) → mem k (keys xs) ≡ true → (s : S) × (find k xs ≡ Some s)
  found_by k [] e = absurd (let f : false ≡ true = e in cc)
  found_by k (x ∷ xs) e = dite (ℕ_discrete x.0 k)
      (λ is. (x.1, find-here k x xs is))
      (λ ne. let t = found_by k xs (sym (mem-else k x.0 (keys xs) ne) ∙ e) in (t.0, find-else k x xs ne ∙ t.1))

  lost_by : (k : ℕ) (xs : List (ℕ × S)) → mem k (keys xs) ≡ false → find k xs ≡ None
  lost_by k [] e = refl
  lost_by k (x ∷ xs) e = dite (ℕ_discrete x.0 k)
      (λ is. both_ways (mem k (x.0 ∷ keys xs)) (mem-here k x.0 (keys xs) is) e)
      (λ ne. find-else k x xs ne ∙ lost_by k xs (sym (mem-else k x.0 (keys xs) ne) ∙ e))

module _ {T H : Type 0} where
  got_or : (p : Part T H) (m : ℕ) (o : Opt T) → get_elem? p.held m ≡ some o → (get_elem? p.held m ≡ some None → ⊥) → (x : T) × Got p m x
  got_or p m None at ne = absurd (ne at)
  got_or p m (Some x) at ne = (x, at)

  -- a thread that has the slot of a mutex has the mutex
  pub has_by : (p : Part T H) (xs : List (ℕ × Slot T)) (m : ℕ) → m < 64 → length p.held ≡ 64 → Hands p xs → mem (value_at m) (keys xs) ≡ true → (x : T) × Got p m x
  has_by p xs m low wide h is = let f = found_by (value_at m) xs is in let at = at_below p.held m (omega arith) in
      got_or p m at.0 at.1 (λ none. let t : Some f.0 ≡ None = sym f.1 ∙ h.value_lacked m none in cc)

  pub lacks_by : (p : Part T H) (xs : List (ℕ × Slot T)) (m : ℕ) → Hands p xs → mem (value_at m) (keys xs) ≡ false → (x : T) → ¬ Got p m x
  lacks_by p xs m h out x got = let f = h.value_got m x got in let t = lost_by (value_at m) xs out in let u : None ≡ Some _ = sym t ∙ f.1 in cc

  pub lacks_past : (p : Part T H) (m : ℕ) → 64 ≤ m → length p.held ≡ 64 → (x : T) → ¬ Got p m x
  lacks_past p m far wide x got = none_past p.held m (Some x) (omega arith) got
