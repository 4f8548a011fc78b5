-- The lines of one thread, and their sums.
use Rattle.std.proofs.Common.{◌≡◌, ℕ, ◌+◌, ◌*◌, ◌≤◌, inl, inr, List, [], ◌∷◌, ◌++◌, length, refl, ap, ◌∙◌, append-nil, arith}
use Rattle.std.proofs.lemmas.Bool.{eq-eqb, ne_eqb}
use Rattle.std.proofs.lemmas.Bool.Decides.{eqb_tells}
use Rattle.larch_actions.specs.declared.event.Layout.{Layout}
use Rattle.script_text.specs.declared.line.Operation.{Operation}
use Rattle.script_text.specs.declared.line.Operation.TheVariants.{Add}
use Rattle.script_text.specs.declared.line.Line.{Line}
use Rattle.script_text.specs.Operations.{Holding, Forked, IsNamed, holding_after, forked_with, MayFollow}
use Rattle.script_text.specs.Table.{fate_of}
use Rattle.script_text.specs.Runs.{lines_of, added_by, total}

pub lines_append : (t : ℕ) (xs ys : List Line) → lines_of t (xs ++ ys) ≡ lines_of t xs ++ lines_of t ys
lines_append t [] ys = refl
lines_append t (x ∷ xs) ys =
    elim (eqb_tells x.thread.0 t) [
      | inl p ↦ rw p.0 (ap (λ zs. x ∷ zs) (lines_append t xs ys))
      | inr p ↦ rw p.0 (lines_append t xs ys)
    ]

pub own_line : (t : ℕ) (xs : List Line) (x : Line) → x.thread.0 ≡ t → lines_of t (xs ++ x ∷ []) ≡ lines_of t xs ++ x ∷ []
own_line t xs x e = lines_append t xs (x ∷ []) ∙ ap (λ zs. lines_of t xs ++ zs) (rw (eq-eqb x.thread.0 t e) refl)

pub other_line : (t : ℕ) (xs : List Line) (x : Line) → (x.thread.0 ≡ t → ⊥) → lines_of t (xs ++ x ∷ []) ≡ lines_of t xs
other_line t xs x e = lines_append t xs (x ∷ []) ∙ ap (λ zs. lines_of t xs ++ zs) (rw (ne_eqb x.thread.0 t e) refl) ∙ append-nil (lines_of t xs)

total_snoc : (ys : List Line) (y : Line) (m : ℕ) → total (ys ++ y ∷ []) m ≡ total ys m + added_by y.operation m
total_snoc [] y m = omega arith
total_snoc (x ∷ ys) y m = omega (arith, total_snoc ys y m)

pub total_own : (t : ℕ) (xs : List Line) (x : Line) (m : ℕ) → x.thread.0 ≡ t → total (lines_of t (xs ++ x ∷ [])) m ≡ total (lines_of t xs) m + added_by x.operation m
total_own t xs x m e = ap (λ ys. total ys m) (own_line t xs x e) ∙ total_snoc (lines_of t xs) x m

added_small : (l : Layout) (o : Operation) (m : ℕ) → IsNamed l o → added_by o m ≤ 1000000
added_small l (Add k n) m h = elim (eqb_tells k.0 m) [ inl p ↦ rw p.0 h.1.0 | inr p ↦ rw p.0 (omega arith) ]
added_small l _ m h = omega arith

pub total_small : (l : Layout) (h : Holding) (g : Forked) (t m : ℕ) (xs : List Line) → MayFollow l h g xs → total (lines_of t xs) m ≤ length xs * 1000000
total_small l h g t m [] f = omega arith
total_small l h g t m (x ∷ xs) f =
    let ih = total_small l (holding_after h x.thread.0 x.operation) (forked_with g (fate_of x.operation)) t m xs f.1 in
    let a = added_small l x.operation m f.0.named in
    elim (eqb_tells x.thread.0 t) [
      | inl p ↦ rw p.0 (omega arith)
      | inr p ↦ rw p.0 (omega arith)
    ]
