-- What stands after a word has no newline and is short, whichever kinds these are.
use Rattle.std.proofs.Common.{◌≡◌, ℕ, ◌*◌, ◌^◌, ◌<◌, ◌≤◌, List, [], ◌∷◌, length, length-append, take, refl, arith}
use Rattle.std.specs.Prelude.{decimal}
use Rattle.exact_text.specs.Prefixes.{IsFlat}
use Rattle.exact_text.proofs.Flat.{flat_decimal, decimal_short}
use Rattle.exact_text.proofs.Grammar.{IsFlat-append}
use Rattle.larch_actions.specs.declared.event.Layout.{Layout}
use Rattle.larch_actions.specs.Layout.{IsLawful}
use Rattle.larch_actions.proofs.Names.{few_of, letter_high}
use Rattle.script_text.specs.declared.table.Operand.{Operand}
use Rattle.script_text.specs.declared.table.Operand.TheVariants.{Name, Amount, Count}
use Rattle.script_text.specs.Table.{prefix_text, IsWithin, AreWithin, operand_text, operands_text}

prefix_flat : (k : Operand) → IsFlat (prefix_text k)
prefix_flat (Name k) = (λ e. omega (arith, letter_high k), tt)
prefix_flat Amount = tt
prefix_flat Count = tt

prefix_short : (k : Operand) → length (prefix_text k) ≤ 1
prefix_short (Name k) = omega arith
prefix_short _ = omega arith

-- of three numbers at most two are taken
pub take_two : (ks : List Operand) (a b e : ℕ) → length ks ≤ 2 → take (length ks) (a ∷ b ∷ e ∷ []) ≡ take (length ks) (a ∷ b ∷ [])
take_two [] a b e few = refl
take_two (i ∷ []) a b e few = refl
take_two (i ∷ j ∷ []) a b e few = refl
take_two (i ∷ j ∷ k ∷ ks) a b e few = absurd (omega arith)

module _ (l : Layout) (ok : IsLawful l) where
  within_fits : (k : Operand) (n : ℕ) → IsWithin l k n → n < 2 ^ 64
  within_fits (Name k) n h = omega (arith, few_of l ok k)
  within_fits Amount n h = omega arith
  within_fits Count n h = omega arith

  operand_flat : (k : Operand) (n : ℕ) → IsWithin l k n → IsFlat (operand_text k n)
  operand_flat k n h = IsFlat-append (prefix_text k) (decimal n) (prefix_flat k) (flat_decimal n (within_fits k n h))

  pub operands_flat : (ks : List Operand) (ns : List ℕ) → AreWithin l ks ns → IsFlat (operands_text ks ns)
  operands_flat [] ns h = tt
  operands_flat (k ∷ ks) [] h = tt
  operands_flat (k ∷ ks) (n ∷ ns) h = (λ e. omega arith, IsFlat-append (operand_text k n) (operands_text ks ns) (operand_flat k n h.0) (operands_flat ks ns h.1))

  pub operands_short : (ks : List Operand) (ns : List ℕ) → AreWithin l ks ns → length (operands_text ks ns) ≤ 22 * length ks
  operands_short [] ns h = omega arith
  operands_short (k ∷ ks) [] h = omega arith
  operands_short (k ∷ ks) (n ∷ ns) h =
      let a = prefix_short k in
      let b = decimal_short n (within_fits k n h.0) in
      let ih = operands_short ks ns h.1 in
      simp length-append (omega arith)
