-- Parts of texts.
use Rattle.std.proofs.Common.{◌≡◌, ℕ, zero, suc, ◌<◌, List, [], ◌++◌, ap, sym, ◌∙◌, append_assoc, append-nil, arith}
use mathlib.Core.Logic.{dite}
use native.Mathlib.Decide.{ℕ_discrete}
use Rattle.trace_shapes.specs.Shapes.{each_below}
use Rattle.trace_picture.specs.Seen.{HasText}

-- a part of a part is one of the whole
pub has_in : (whole mid part : List ℕ) → HasText whole mid → HasText mid part → HasText whole part
has_in whole mid part h g = record {
  before = h.before ++ g.before;
  after = g.after ++ h.after;
  text = h.text ∙ ap (λ x. h.before ++ x ++ h.after) g.text ∙ regroup h.before g.before part g.after h.after;
}
  where
    regroup : (a b c d e : List ℕ) → a ++ (b ++ c ++ d) ++ e ≡ (a ++ b) ++ c ++ (d ++ e)
    regroup a b c d e = simp append_assoc

-- one of the texts below a bound
pub each_has : (f : ℕ → List ℕ) (n m : ℕ) → m < n → HasText (each_below f n) (f m)
unfolding each_below
each_has f zero m lt = absurd (omega arith)
each_has f (suc n) m lt = dite (ℕ_discrete m n)
    (λ same. record { before = each_below f n; after = []; text = sym (append-nil (each_below f n ++ f m) ∙ ap (λ k. each_below f n ++ f k) same) })
    (λ ne.
    let h = each_has f n m (omega (arith, ne)) in
    record { before = h.before; after = h.after ++ f n; text = ap (λ x. x ++ f n) h.text ∙ append_assoc (h.before ++ f m) h.after (f n) })
