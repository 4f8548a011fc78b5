-- Causes changed one by one.
use Rattle.std.proofs.Common.{◌≡◌, ℕ, ◌+◌, ◌<◌, ◌≤◌, ◌⊎◌, inl, inr, Bool, true, false, not, ◌&&◌, eqb, refl, ap, sym, ◌∙◌, arith, eq-eqb, ne_eqb}
use Rattle.std.proofs.lemmas.Bool.{true≢false, cases_order, cases_lt, cond-true, cond-false}
use Rattle.larch_actions.specs.Actions.{put}
use Rattle.trace_board.specs.declared.history.Origin.{Origin}
use Rattle.trace_board.specs.declared.causes.Cause.{Cause}
use Rattle.trace_board.specs.declared.causes.Cause.TheVariants.{Never, Awaited, By}
use Rattle.trace_board.specs.Awaited.{is_awaited}
use Rattle.trace_board.specs.Causes.{take_out}

-- each of the causes below n is changed by h, and the others are as they were
pub record IsPartly (h : ℕ → Cause → Cause) (f : ℕ → Cause) (n : ℕ) (g : ℕ → Cause) : Type 0 where
  pub done : (k : ℕ) → k < n → g k ≡ h k (f k)
  pub rest : (k : ℕ) → n ≤ k → g k ≡ f k

put_here : (g : ℕ → Cause) (t k : ℕ) (x : Cause) → k ≡ t → put g t x k ≡ x
put_here g t k x e = cond-true (eqb k t) x (g k) (eq-eqb k t e)

pub put_there : (g : ℕ → Cause) (t k : ℕ) (x : Cause) → (k ≡ t → ⊥) → put g t x k ≡ g k
put_there g t k x ne = cond-false (eqb k t) x (g k) (ne_eqb k t ne)

-- who isn't awaited isn't taken out
pub stays_so : (c : ℕ) (stays : Bool) (o : Origin) (x : Cause) → is_awaited x ≡ false → take_out c stays o x ≡ x
stays_so c stays o Never e = refl
stays_so c stays o (Awaited k) e = absurd (true≢false e)
stays_so c stays o (By p) e = refl

-- one who stands in the condition, and isn't left there, was taken out
pub freed_by : (c k : ℕ) (stays : Bool) (o : Origin) (was : Cause) → was ≡ Awaited k → k ≡ c → stays ≡ false → By o ≡ take_out c stays o was
freed_by c k stays o was e same goes =
    let both : (eqb k c && not stays) ≡ true = rw (eq-eqb k c same, goes) refl in
    sym (ap (take_out c stays o) e ∙ cond-true (eqb k c && not stays) (By o) (Awaited k) both)

module _ (h : ℕ → Cause → Cause) (f : ℕ → Cause) where
  pub partly_first : IsPartly h f 0 f
  partly_first = record { done = λ k l. absurd (omega arith); rest = λ k l. refl }

  pub partly_more : (t : ℕ) (g g' : ℕ → Cause) (x : Cause) → IsPartly h f t g → x ≡ h t (g t) → g' ≡ put g t x → IsPartly h f (t + 1) g'
  partly_more t g g' x p x_is e = record {
    done = λ k l. done_at k l (cases_order k t);
    rest = λ k l. ap (λ u. u k) e ∙ put_there g t k x (λ same. omega arith) ∙ p.rest k (omega arith);
  }
    where
      done_at : (k : ℕ) → k < t + 1 → (k ≡ t) ⊎ ((k < t) ⊎ (t < k)) → g' k ≡ h k (f k)
      done_at k l (inl same) = ap (λ u. u k) e ∙ put_here g t k x same ∙ x_is ∙ ap (h t) (p.rest t (omega arith)) ∙ ap (λ n. h n (f n)) (sym same)
      done_at k l (inr (inl below)) = ap (λ u. u k) e ∙ put_there g t k x (λ same. omega arith) ∙ p.done k below
      done_at k l (inr (inr above)) = absurd (omega arith)

  pub partly_all : (n : ℕ) (g : ℕ → Cause) → IsPartly h f n g → ((k : ℕ) → n ≤ k → h k (f k) ≡ f k) → g ≡ (λ k. h k (f k))
  partly_all n g p same = λ i k. all k (cases_lt k n) i
    where
      all : (k : ℕ) → (k < n) ⊎ (n ≤ k) → g k ≡ h k (f k)
      all k (inl below) = p.done k below
      all k (inr past) = p.rest k past ∙ sym (same k past)
