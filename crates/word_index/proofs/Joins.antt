-- Two rising lists, joined in order.
use Rattle.std.proofs.Common.{◌≡◌, ℕ, ◌+◌, ◌<◌, ◌≤◌, List, [], ◌∷◌, ◌++◌, length, get_or, refl, sym, subst, arith, All}
use Rattle.std.specs.List.{AllPairs}
use Rattle.std.proofs.lemmas.List.Elements.{All-push, All-weaker, All-nil}
use Rattle.std.proofs.lemmas.List.Quantifiers.{all_pairs_push}

-- `out` has what comes before the places i and j of two lists, in order
pub record Joins {X : Type 0} (R : X → X → Type 0) (d : X) (us vs : List X) (i j : ℕ) (out : List X) : Type 0 where
  pub in_a : i ≤ length us
  pub in_b : j ≤ length vs
  pub rising : AllPairs R out
  pub before_a : i < length us → All (λ x. R x (get_or us i d)) out
  pub before_b : j < length vs → All (λ x. R x (get_or vs j d)) out

pub joins_none : {X : Type 0} (R : X → X → Type 0) (d : X) (us vs : List X) → Joins R d us vs 0 0 []
joins_none R d us vs = record {
  in_a = omega arith;
  in_b = omega arith;
  rising = λ i j e before below. absurd (omega (arith, before, below));
  before_a = λ _. All-nil (λ x. R x (get_or us 0 d));
  before_b = λ _. All-nil (λ x. R x (get_or vs 0 d));
}

module _ {X : Type 0} {R : X → X → Type 0} {d : X} (trans : (x y z : X) → R x y → R y z → R x z) where
  module _ {us vs : List X} {i j : ℕ} {out : List X} (rise : AllPairs R us) (old : Joins R d us vs i j out) (here : i < length us) where
    -- what was before the place i, and the element there, are before the next place
    before_next : i + 1 < length us → All (λ x. R x (get_or us (i + 1) d)) (out ++ get_or us i d ∷ [])
    before_next more =
        let y = get_or us i d in
        let z = get_or us (i + 1) d in
        let up : R y z = rise i (i + 1) d (omega arith) more in
        All-push (λ x. R x z) out y (All-weaker (λ x. R x y) (λ x. R x z) (λ x h. trans x y z h up) out (old.before_a here)) up

    pub joins_first : (j < length vs → R (get_or us i d) (get_or vs j d)) → Joins R d us vs (i + 1) j (out ++ get_or us i d ∷ [])
    joins_first less = record {
      in_a = omega arith;
      in_b = old.in_b;
      rising = all_pairs_push R out (get_or us i d) old.rising (old.before_a here);
      before_a = before_next;
      before_b = λ more. All-push (λ x. R x (get_or vs j d)) out (get_or us i d) (old.before_b more) (less more);
    }

  pub flip : {us vs : List X} {i j : ℕ} {out : List X} → Joins R d us vs i j out → Joins R d vs us j i out
  flip h = record { in_a = h.in_b; in_b = h.in_a; rising = h.rising; before_a = h.before_b; before_b = h.before_a }

  module _ {us vs : List X} {i j : ℕ} {out : List X} (old : Joins R d us vs i j out) where
    pub joins_second : AllPairs R vs → j < length vs → (i < length us → R (get_or vs j d) (get_or us i d)) → Joins R d us vs i (j + 1) (out ++ get_or vs j d ∷ [])
    joins_second rise here less = flip (joins_first rise (flip old) here less)

    pub joins_both : AllPairs R us → AllPairs R vs → i < length us → j < length vs → get_or us i d ≡ get_or vs j d → Joins R d us vs (i + 1) (j + 1) (out ++ get_or us i d ∷ [])
    joins_both rise_a rise_b here there same = record {
      in_a = omega arith;
      in_b = omega arith;
      rising = all_pairs_push R out (get_or us i d) old.rising (old.before_a here);
      before_a = before_next rise_a old here;
      before_b = λ more. subst (λ y. All (λ x. R x (get_or vs (j + 1) d)) (out ++ y ∷ [])) (sym same) (before_next rise_b (flip old) there more);
    }
