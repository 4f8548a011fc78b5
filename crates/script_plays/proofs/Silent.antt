-- The silent lines that a thread plays by the numbers in its hand are those that its scene plays.
use Rattle.std.proofs.Common.{◌≡◌, ◌≢◌, inl, inr, ℕ, zero, suc, ◌+◌, ◌<◌, true, false, eqb, List, [], ◌∷◌, take, refl, ap, sym, subst, ◌∙◌, arith}
use Rattle.std.proofs.lemmas.Bool.Decides.{eqb_tells}
use mathlib.Core.Logic.{dite}
use native.Mathlib.Decide.{ℕ_discrete}
use Rattle.larch_actions.specs.Actions.{put}
use Rattle.script_text.specs.declared.line.Line.{Line}
use Rattle.script_text.specs.declared.line.Operation.{Operation}
use Rattle.script_text.specs.declared.line.Operation.TheVariants.{Add, Until, AlertUntil}
use Rattle.script_text.specs.Runs.{lines_of, added_by, total}
use Rattle.script_text.specs.Visits.{Hand}
use Rattle.script_plays.specs.Choices.{is_silent}
use Rattle.script_plays.specs.Scenes.{rest_of, sum_below, number_of, settled_over}
use Rattle.script_plays.proofs.Bounded.{put_here, put_other}
use Rattle.script_plays.proofs.Owning.{Mine, AreOwn, known, rest_next, silent_keeps}
use Rattle.script_plays.proofs.Settling.{added, silent_alike, total_next}
use Rattle.script_plays.proofs.Running.{IsLoud, now, quiet_hand, quiet_lines, silently}

-- after the silent lines comes one that isn't, if any; and where none is silent nothing changes
pub quiet_loud : (rest : List Line) (h : Hand) → IsLoud (quiet_lines rest h) (quiet_hand rest h)
quiet_loud [] h = tt
quiet_loud (x ∷ rest) h = elim (known (is_silent x.operation (now h))) [
  | inl silent ↦ rw silent (quiet_loud rest (silently x.operation h))
  | inr loud ↦ rw loud loud
]

pub loud_lines : (rest : List Line) (h : Hand) → IsLoud rest h → quiet_lines rest h ≡ rest
loud_lines [] h loud = refl
loud_lines (x ∷ rest) h loud = rw loud refl

pub loud_hand : (rest : List Line) (h : Hand) → IsLoud rest h → quiet_hand rest h ≡ h
loud_hand [] h loud = refl
loud_hand (x ∷ rest) h loud = rw loud refl

-- a silent line adds to the number now, and keeps the one that was got
silent_got : (o : Operation) (h : Hand) (m : ℕ) → (silently o h m).0 ≡ (h m).0
silent_got (Add k n) h m = elim (known (eqb m k.0)) [ inl here ↦ rw here refl | inr other ↦ rw other refl ]
silent_got _ h m = refl

pub quiet_got : (rest : List Line) (h : Hand) (m : ℕ) → (quiet_hand rest h m).0 ≡ (h m).0
quiet_got [] h m = refl
quiet_got (x ∷ rest) h m = elim (known (is_silent x.operation (now h))) [
  | inl silent ↦ rw silent (quiet_got rest (silently x.operation h) m ∙ silent_got x.operation h m)
  | inr loud ↦ rw loud refl
]

silent_adds : (o : Operation) (f : ℕ → ℕ) (h : Hand) (m : ℕ) → is_silent o f ≡ true → (silently o h m).1 ≡ (h m).1 + added_by o m
silent_adds (Add k n) f h m silent = elim (eqb_tells m k.0) [
  | inl p ↦ elim (eqb_tells k.0 m) [ inl q ↦ rw (p.0, q.0) refl | inr q ↦ absurd (q.1 (sym p.1)) ]
  | inr p ↦ elim (eqb_tells k.0 m) [ inl q ↦ absurd (p.1 (sym q.1)) | inr q ↦ rw (p.0, q.0) (omega arith) ]
]
silent_adds (Until k c n) f h m silent = omega arith
silent_adds (AlertUntil k c n) f h m silent = omega arith
silent_adds _ f h m silent = absurd (cc)

-- a sum of which one part grows
sum_same : (f g : ℕ → ℕ) (n : ℕ) → ((u : ℕ) → u < n → f u ≡ g u) → sum_below f n ≡ sum_below g n
sum_same f g zero all = refl
sum_same f g (suc n) all = omega (arith, sum_same f g n (λ u low. all u (omega (arith, low))), all n (omega arith))

sum_grows : (f g : ℕ → ℕ) (n t d : ℕ) → t < n → ((u : ℕ) → u ≢ t → f u ≡ g u) → f t ≡ g t + d → sum_below f n ≡ sum_below g n + d
sum_grows f g zero t d low all here = absurd (omega arith)
sum_grows f g (suc n) t d low all here = dite (ℕ_discrete t n)
    (λ e. let last : f n ≡ g n + d = subst (λ (j : ℕ). f j ≡ g j + d) e here in
    omega (arith, last, sum_same f g n (λ u less. all u (λ is. absurd (let both : n ≡ u = sym e ∙ sym is in omega (arith, less, both))))))
    (λ ne. omega (arith, sum_grows f g n t d (omega (arith, low, ne)) all here, all n (λ is. ne (sym is))))

module _ (n : ℕ) (xs : List Line) (t : ℕ) (low : t < n) where
  number_next : (p : ℕ → ℕ) (m : ℕ) (x : Line) (rest : List Line) → rest_of xs p t ≡ x ∷ rest → number_of n xs (put p t (suc (p t))) m ≡ number_of n xs p m + added_by x.operation m
  number_next p m x rest e =
      sum_grows (λ u. added xs (put p t (suc (p t))) u m) (λ u. added xs p u m) n t (added_by x.operation m) low
      (λ u ne. ap (λ k. total (take k (lines_of u xs)) m) (put_other p t (suc (p t)) u ne))
      (ap (λ k. total (take k (lines_of t xs)) m) (put_here p t (suc (p t))) ∙ total_next (lines_of t xs) (p t) m x rest e)

  -- where the numbers in the hand are those of its mutexes, both play the same lines, and add the same
  pub in_step : (rest : List Line) (mine : Mine) (p : ℕ → ℕ) (h : Hand) → rest_of xs p t ≡ rest → AreOwn mine rest → ((m : ℕ) → mine m ≡ true → (h m).1 ≡ number_of n xs p m)
      → (rest_of xs (settled_over n xs t rest p) t ≡ quiet_lines rest h)
      × ((m : ℕ) → number_of n xs (settled_over n xs t rest p) m + (h m).1 ≡ number_of n xs p m + (quiet_hand rest h m).1)
  in_step [] mine p h e own same = (e, λ m. refl)
  in_step (x ∷ rest) mine p h e own same =
      let alike = silent_alike x.operation mine (number_of n xs p) (now h) own.0 (λ m has. sym (same m has)) in
      elim (known (is_silent x.operation (number_of n xs p))) [
        | inl silent ↦
            let also : is_silent x.operation (now h) ≡ true = sym alike ∙ silent in
            let later = in_step rest mine (put p t (suc (p t))) (silently x.operation h) (rest_next xs p t x rest e)
            (subst (λ (z : Mine). AreOwn z rest) (silent_keeps x.operation (number_of n xs p) mine silent) own.1)
            (λ m has. silent_adds x.operation (number_of n xs p) h m silent ∙ (ap (λ k. k + added_by x.operation m) (same m has) ∙ sym (number_next p m x rest e))) in
            rw (silent, also) (later.0, λ m. omega (arith, later.1 m, number_next p m x rest e, silent_adds x.operation (number_of n xs p) h m silent))
        | inr not ↦
            let also : is_silent x.operation (now h) ≡ false = sym alike ∙ not in
            rw (not, also) (e, λ m. refl)
      ]
