-- A child has one parent, and is below the root if its parent is the root or is below it.
use Rattle.std.proofs.Common.{◌≡◌, ◌⊎◌, ◌<◌, ◌∷◌, length, inl, inr, sym, ap, ◌∙◌, arith, append_assoc, length-append}
use Rattle.firefly_outside.specs.Trees.{Path, child, slash, IsChild}
use Rattle.firefly_outside.proofs.PathLemmas.{child-unique}

-- the path is that of some child of the directory
abbrev pub IsChildOf : Path → Path → Type 0
IsChildOf path dir = (name : Path) × IsChild dir name path

-- the path is the root, a slash and more
abbrev pub IsBelow : Path → Path → Type 0
IsBelow root path = (rest : Path) × (path ≡ child root rest)

pub one_parent : (p a b : Path) → IsChildOf p a → IsChildOf p b → a ≡ b
one_parent p a b first second =
    (child-unique a b first.0 second.0 (sym first.1.is ∙ second.1.is) first.1.lawful.plain second.1.lawful.plain).0

pub child_longer : (p dir : Path) → IsChildOf p dir → length dir < length p
child_longer p dir h = let e = ap length h.1.is in let l = length-append dir (slash ∷ h.0) in omega arith

pub below_longer : (root p : Path) → IsBelow root p → length root < length p
below_longer root p h = let e = ap length h.1 in let l = length-append root (slash ∷ h.0) in omega arith

-- a child of the root, or of a path below it, is below the root
pub child_below : (root dir p : Path) → IsChildOf p dir → (dir ≡ root) ⊎ IsBelow root dir → IsBelow root p
child_below root dir p h at = elim at [
  | inl is ↦ (h.0, h.1.is ∙ ap (λ d. child d h.0) is)
  | inr more ↦ (child more.0 h.0, h.1.is ∙ (ap (λ d. child d h.0) more.1 ∙ append_assoc root (slash ∷ more.0) (slash ∷ h.0)))
]
