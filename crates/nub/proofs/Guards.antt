-- What holds of one value at a time goes on to hold when one value and one share have changed.
use Rattle.std.proofs.Common.{◌≡◌, ◌≢◌, ℕ, zero, suc, List, [], ◌∷◌, length, slice_set, arith, sym, ap, subst, ◌∙◌, refl, ⊎_elim}
use mathlib.Core.Option.{some, some-injective, some-ne-none}
use lib.ListN.{get_elem?}
use Rattle.atomic_table.proofs.Lists.{at_set}
use Rattle.nub.specs.Guarded.{Guarded, OneValue}

the-one : {V : Type 0} (a : V) (m : ℕ) (x : V) → get_elem? (a ∷ []) m ≡ some x → (m ≡ 0) × (a ≡ x)
the-one a zero x e = (refl, some-injective a x e)
the-one a (suc m) x e = absurd (some-ne-none x (sym e))

only-one : {V : Type 0} (values : List V) → length values ≡ 1 → (a : V) × (values ≡ a ∷ [])
only-one [] e = absurd (omega arith)
only-one (a ∷ []) e = (a, refl)
only-one (a ∷ b ∷ values) e = absurd (omega arith)

module _ {V H : Type 0} where
  -- the predicate of m holds of its new value, and those of the others stay true
  pub guarded_after : (guard : ℕ → V → List H → Type 0) (values : List V) (shares next : List H) (m : ℕ) (x y : V) → Guarded guard values shares → get_elem? values m ≡ some x
      → (guard m x shares → guard m y next) → ((k : ℕ) (z : V) → k ≢ m → guard k z shares → guard k z next) → Guarded guard (slice_set values m y) next
  guarded_after guard values shares next m x y h at here others = record {
    each = λ k z e. ⊎_elim
        (λ (p : (k ≡ m) × (y ≡ z)). subst (λ j. guard j z next) (sym p.0) (subst (λ v. guard m v next) p.1 (here (h.each m x at))))
        (λ (p : (k ≢ m) × (get_elem? values k ≡ some z)). others k z p.0 (h.each k z p.1))
        (at_set values m k y z e);
  }

  module _ (guard : V → List H → Type 0) where
    -- the one value
    pub the_value : (values : List V) (shares : List H) → OneValue guard values shares → (x : V) × (values ≡ x ∷ []) × guard x shares
    the_value values shares h = let is = only-one values h.one in (is.0, is.1, h.each 0 is.0 (ap (λ (l : List V). get_elem? l 0) is.1))

    pub one_begins : (values : List V) (shares : List H) (x : V) → values ≡ x ∷ [] → guard x shares → OneValue guard values shares
    one_begins values shares x is ok = record {
      one = ap length is;
      each = λ m z e. subst (λ v. guard v shares) (the-one x m z (ap (λ (l : List V). get_elem? l m) (sym is) ∙ e)).1 ok;
    }

    pub one_after : (values : List V) (shares next : List H) (m : ℕ) (x y : V) → OneValue guard values shares → get_elem? values m ≡ some x → (guard x shares → guard y next)
        → OneValue guard (slice_set values m y) next
    one_after values shares next m x y h at ok =
        let is = only-one values h.one in
        let low = (the-one is.0 m x (ap (λ (l : List V). get_elem? l m) (sym is.1) ∙ at)).0 in
        one_begins (slice_set values m y) next y (ap (λ k. slice_set values k y) low ∙ ap (λ (l : List V). slice_set l 0 y) is.1) (ok (h.each m x at))
