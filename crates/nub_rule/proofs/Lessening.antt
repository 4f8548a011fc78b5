-- A list less its first t.
use Rattle.std.proofs.Common.{true, false, cond, ◌≡◌, ◌≢◌, ℕ, zero, suc, ◌+◌, ◌<◌, ◌≤◌, List, [], ◌∷◌, length, get_or, take, remove, refl, sym, ap, ◌∙◌, arith, eq-eqb, ne_eqb, Some}
use mathlib.Core.Logic.{dite}
use native.Mathlib.Decide.{ℕ_discrete}
use Rattle.larch_actions.specs.Sets.{mem}
use Rattle.larch_actions.proofs.Sets.{mem-here, mem-else}
use Rattle.arrayvec.specs.ArrayVec.{ArrayVec}
use Rattle.nub_rule.specs.declared.rule.Slot.{Slot}
use Rattle.nub_rule.specs.declared.rule.Slot.TheVariants.{Queue}
use Rattle.nub_rule.specs.Items.{queue_of}
use Rattle.nub_rule.specs.Plays.{tail_of, front, less}
use Rattle.nub_rule.proofs.Lines.{both_ways}

pub some_is : (i j : ℕ) → Some i ≡ Some j → i ≡ j
some_is i j e = cc

more : (t i : ℕ) (xs : List ℕ) → i < length xs → mem t (take i xs) ≡ false → get_or xs i 0 ≢ t → mem t (take (suc i) xs) ≡ false
more t i [] low out ne = absurd (omega arith)
more t zero (x ∷ xs) low out ne = mem-else t x [] ne
more t (suc i) (x ∷ xs) low out ne = dite (ℕ_discrete x t)
    (λ e. both_ways (mem t (x ∷ take i xs)) (mem-here t x (take i xs) e) out)
    (λ apart. mem-else t x (take (suc i) xs) apart ∙ more t i xs (omega arith) (sym (mem-else t x (take i xs) apart) ∙ out) ne)

-- one more that isn't t
pub take-more : (t i : ℕ) (xs : List ℕ) → i < length xs → mem t (take i xs) ≡ false → get_or xs i 0 ≢ t → mem t (take (i + 1) xs) ≡ false
take-more t i xs low out ne = let e : i + 1 ≡ suc i = omega arith in ap (λ (n : ℕ). mem t (take n xs)) e ∙ more t i xs low out ne

pub take-all : (xs : List ℕ) (n : ℕ) → length xs ≤ n → take n xs ≡ xs
take-all [] zero low = refl
take-all [] (suc n) low = refl
take-all (x ∷ xs) zero low = absurd (omega arith)
take-all (x ∷ xs) (suc n) low = ap (λ l. x ∷ l) (take-all xs n (omega arith))

-- the place where t stands first
pub less-at : (t i : ℕ) (xs : List ℕ) → i < length xs → get_or xs i 0 ≡ t → mem t (take i xs) ≡ false → (remove xs i ≡ less t xs) × (mem t xs ≡ true)
less-at t i [] low is out = absurd (omega arith)
less-at t zero (x ∷ xs) low is out = (sym (ap (λ b. cond b xs (x ∷ less t xs)) (eq-eqb x t is)), mem-here t x xs is)
less-at t (suc i) (x ∷ xs) low is out = dite (ℕ_discrete x t)
    (λ e. both_ways (mem t (x ∷ take i xs)) (mem-here t x (take i xs) e) out)
    (λ apart. let r = less-at t i xs (omega arith) is (sym (mem-else t x (take i xs) apart) ∙ out) in
    (ap (λ l. x ∷ l) r.0 ∙ sym (ap (λ b. cond b xs (x ∷ less t xs)) (ne_eqb x t apart)), mem-else t x xs apart ∙ r.1))

pub queue_is : {T : Type 0} (a : ArrayVec ℕ) (xs : List ℕ) → (let s : Slot T = Queue a in s) ≡ Queue (queue_of xs) → a.items ≡ xs
queue_is a xs e = let f : a ≡ queue_of xs = cc in ap (λ (z : ArrayVec ℕ). z.items) f

pub length-less : (t : ℕ) (xs : List ℕ) → length (less t xs) ≤ length xs
length-less t [] = omega arith
length-less t (x ∷ xs) = dite (ℕ_discrete x t)
    (λ e. let f : length (less t (x ∷ xs)) ≡ length xs = ap (λ b. length (cond b xs (x ∷ less t xs))) (eq-eqb x t e) in omega arith)
    (λ apart. let f : length (less t (x ∷ xs)) ≡ length (x ∷ less t xs) = ap (λ b. length (cond b xs (x ∷ less t xs))) (ne_eqb x t apart) in let r = length-less t xs in omega arith)

pub length-tail_of : (xs : List ℕ) → length (tail_of xs) ≤ length xs
length-tail_of [] = omega arith
length-tail_of (x ∷ xs) = omega arith

pub shorter-less : (t : ℕ) (xs : List ℕ) → mem t xs ≡ true → length (less t xs) < length xs
shorter-less t [] there = let f : false ≡ true = there in absurd cc
shorter-less t (x ∷ xs) there = dite (ℕ_discrete x t)
    (λ e. let f : length (less t (x ∷ xs)) ≡ length xs = ap (λ b. length (cond b xs (x ∷ less t xs))) (eq-eqb x t e) in omega arith)
    (λ apart. let f : length (less t (x ∷ xs)) ≡ length (x ∷ less t xs) = ap (λ b. length (cond b xs (x ∷ less t xs))) (ne_eqb x t apart) in let r = shorter-less t xs (sym (mem-else t x xs apart) ∙ there) in omega arith)

pub front-of : (xs : List ℕ) (t : ℕ) → xs ≡ t ∷ tail_of xs → front xs ≡ t ∷ []
front-of [] t e = absurd cc
front-of (x ∷ xs) t e = let f : x ≡ t = cc in ap (λ (z : ℕ). z ∷ []) f

pub front-none : (xs : List ℕ) → xs ≡ [] → front xs ≡ []
front-none xs e = ap front e
