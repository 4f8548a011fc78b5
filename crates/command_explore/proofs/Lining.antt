-- Where a thread's lines are among those of a script.
use Rattle.std.proofs.Common.{◌≡◌, ◌≢◌, inl, inr, ℕ, zero, suc, ◌+◌, ◌<◌, ◌≤◌, Bool, true, false, cond, eqb, eq-eqb, ne_eqb, List, [], ◌∷◌, length, drop, get_or, refl, sym, ap, subst, ◌∙◌, arith, add-one, drop-cons, Some}
use Rattle.std.specs.List.{slice_get}
use Rattle.script_text.specs.declared.line.Line.{Line}
use Rattle.script_text.specs.Runs.{lines_of}
use Rattle.command_explore.specs.Waits.{lines_before}

-- after the first i lines, the thread's line after `left` more of its own is the one after k of all of its own
pub record IsAhead (xs : List Line) (t k i left : ℕ) : Type 0 where
  pub same : drop k (lines_of t xs) ≡ drop left (lines_of t (drop i xs))
  pub place : lines_before t k xs ≡ i + lines_before t left (drop i xs)

-- one line of the thread, and one of another
own : (t k : ℕ) (x : Line) (ys : List Line) → x.thread.0 ≡ t → (drop (suc k) (lines_of t (x ∷ ys)) ≡ drop k (lines_of t ys)) × (lines_before t (suc k) (x ∷ ys) ≡ lines_before t k ys + 1)
own t k x ys e = let is = eq-eqb x.thread.0 t e in (
  ap (λ (b : Bool). drop (suc k) (cond b (x ∷ lines_of t ys) (lines_of t ys))) is,
  ap (λ (b : Bool). cond b (lines_before t k ys) (lines_before t (suc k) ys) + 1) is,
)

here : (t : ℕ) (x : Line) (ys : List Line) → x.thread.0 ≡ t → (lines_of t (x ∷ ys) ≡ x ∷ lines_of t ys) × (lines_before t 0 (x ∷ ys) ≡ 0)
here t x ys e = let is = eq-eqb x.thread.0 t e in (
  ap (λ (b : Bool). cond b (x ∷ lines_of t ys) (lines_of t ys)) is,
  ap (λ (b : Bool). cond b 0 (lines_before t zero ys + 1)) is,
)

other : (t k : ℕ) (x : Line) (ys : List Line) → x.thread.0 ≢ t → (drop k (lines_of t (x ∷ ys)) ≡ drop k (lines_of t ys)) × (lines_before t k (x ∷ ys) ≡ lines_before t k ys + 1)
other t zero x ys ne = let is = ne_eqb x.thread.0 t ne in (
  ap (λ (b : Bool). cond b (x ∷ lines_of t ys) (lines_of t ys)) is,
  ap (λ (b : Bool). cond b 0 (lines_before t zero ys + 1)) is,
)
other t (suc k) x ys ne = let is = ne_eqb x.thread.0 t ne in (
  ap (λ (b : Bool). drop (suc k) (cond b (x ∷ lines_of t ys) (lines_of t ys))) is,
  ap (λ (b : Bool). cond b (lines_before t k ys) (lines_before t (suc k) ys) + 1) is,
)

pub got : (xs : List Line) (i : ℕ) (d : Line) → i < length xs → slice_get xs i ≡ Some (get_or xs i d)
got [] i d low = absurd (omega arith)
got (x ∷ xs) zero d low = refl
got (x ∷ xs) (suc i) d low = got xs i d (omega arith)

module _ (xs : List Line) (t k i : ℕ) (d : Line) (low : i < length xs) where
  next : drop i xs ≡ get_or xs i d ∷ drop (i + 1) xs
  next = rw add-one (drop-cons xs i d low)

  pub ahead_own : (left : ℕ) → IsAhead xs t k i (suc left) → (get_or xs i d).thread.0 ≡ t → IsAhead xs t k (i + 1) left
  ahead_own left a e = let step = own t left (get_or xs i d) (drop (i + 1) xs) e in record {
    same = a.same ∙ (ap (λ ys. drop (suc left) (lines_of t ys)) next ∙ step.0);
    place = let p = a.place ∙ ap (λ ys. i + lines_before t (suc left) ys) next in omega (arith, p, step.1);
  }

  pub ahead_other : (left : ℕ) → IsAhead xs t k i left → (get_or xs i d).thread.0 ≢ t → IsAhead xs t k (i + 1) left
  ahead_other left a ne = let step = other t left (get_or xs i d) (drop (i + 1) xs) ne in record {
    same = a.same ∙ (ap (λ ys. drop left (lines_of t ys)) next ∙ step.0);
    place = let p = a.place ∙ ap (λ ys. i + lines_before t left ys) next in omega (arith, p, step.1);
  }

  pub stands_here : IsAhead xs t k i 0 → (get_or xs i d).thread.0 ≡ t → (i ≡ lines_before t k xs) × (i < length xs) × ((y : Line) × (rest : List Line) × (slice_get xs i ≡ Some y) × (drop k (lines_of t xs) ≡ y ∷ rest))
  stands_here a e = let step = here t (get_or xs i d) (drop (i + 1) xs) e in (
    (let p = a.place ∙ ap (λ ys. i + lines_before t 0 ys) next in omega (arith, p, step.1)),
    low,
    (get_or xs i d, lines_of t (drop (i + 1) xs), got xs i d low, a.same ∙ (ap (lines_of t) next ∙ step.0)),
  )

pub none_ahead : (xs : List Line) (t k i left : ℕ) → IsAhead xs t k i left → drop i xs ≡ [] → drop k (lines_of t xs) ≡ []
none_ahead xs t k i left a e = a.same ∙ (ap (λ ys. drop left (lines_of t ys)) e ∙ none left)
  where
    none : (n : ℕ) → drop n (lines_of t []) ≡ []
    none zero = refl
    none (suc n) = refl

pub none_played : (xs : List Line) (t k : ℕ) → IsAhead xs t k 0 k
none_played xs t k = record { same = refl; place = omega arith }
