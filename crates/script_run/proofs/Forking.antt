-- The lines that fork threads say who is forked below whom.
use Rattle.std.proofs.Common.{◌≡◌, ◌⊎◌, inl, inr, ℕ, List, [], ◌∷◌, ◌++◌, refl, ap, ap₂, sym, ◌∙◌, Bool, true, false}
use Rattle.std.proofs.lemmas.Bool.{false≢true}
use Rattle.std.proofs.lemmas.Bool.Decides.{eqb_tells}
use Rattle.script_text.specs.declared.line.Line.{Line}
use Rattle.script_text.specs.declared.table.Fate.{Fate}
use Rattle.script_text.specs.declared.table.Fate.TheVariants as fate
use Rattle.script_text.specs.Table.{fate_of}
use Rattle.script_run.specs.Regions.{begins, with_child, forking, below, region}
use Rattle.script_run.proofs.Births.{below_else}

cases : (b : Bool) → (b ≡ true) ⊎ (b ≡ false)
cases true = inl refl
cases false = inr refl

child_same : (x : Fate) (a b : ℕ → List ℕ) (r s : List ℕ) → ((t : ℕ) → a t ≡ b t) → r ≡ s → with_child x a r ≡ with_child x b s
child_same (fate.Begins u) a b r s each e = ap₂ (λ l m. (l ++ u.0 ∷ []) ++ m) (each u.0) e
child_same (fate.Awaits u) a b r s each e = e
child_same fate.Nothing a b r s each e = e

pub below_forking : (xs : List Line) (t : ℕ) → below (forking xs) t ≡ below xs t
below_forking [] t = refl
below_forking (x ∷ xs) t =
    let ih = below_forking xs in
    elim (cases (begins (fate_of x.operation))) [
      | inl e ↦ rw e (elim (eqb_tells x.thread.0 t) [
        | inl p ↦ rw p.0 (child_same (fate_of x.operation) (below (forking xs)) (below xs) (below (forking xs) t) (below xs t) ih (ih t))
        | inr p ↦ rw p.0 (ih t)
      ])
      | inr e ↦ rw e (ih t ∙ sym (below_else x xs t (λ own u is. false≢true (sym e ∙ ap (λ o. begins (fate_of o)) is))))
    ]

pub region_forking : (ys xs : List Line) → ys ≡ forking xs → region ys 0 ≡ region xs 0
region_forking ys xs is = ap (λ l. region l 0) is ∙ ap (λ l. l ++ 0 ∷ []) (below_forking xs 0)
