-- The lines of the threads of a plan, and what they add.
use Rattle.std.proofs.Common.{◌≡◌, inl, inr, ℕ, zero, suc, ◌+◌, ◌-◌, ◌*◌, ◌<◌, ◌≤◌, Bool, true, false, cond, eqb, List, [], ◌∷◌, ◌++◌, length, take, drop, filter, get_or, refl, ap, sym, ◌∙◌, arith, Some, None, OnSome, Option as Opt, Vec, Global}
use Rattle.std.specs.List.{slice_get}
use Rattle.std.proofs.lemmas.Bool.{eq-eqb}
use Rattle.std.proofs.lemmas.List.{take_more, get_or_push, get_or_append_left}
use mathlib.Core.Logic.{dite}
use native.Mathlib.Decide.{ℕ_discrete}
use Rattle.std.proofs.lemmas.Bool.Decides.{eqb_tells}
use Rattle.larch_actions.specs.declared.event.Layout.{Layout}
use Rattle.larch_actions.specs.Actions.{put}
use Rattle.script_text.specs.declared.line.Operation.{Operation}
use Rattle.script_text.specs.declared.line.Operation.TheVariants.{Acquire, Add, Fork, Join}
use Rattle.script_text.specs.declared.line.Line.{Line}
use Rattle.script_text.specs.Text.{IsScript}
use Rattle.script_text.specs.Operations.{Holding, Forked, IsNamed, holding_after, forked_with, forked_after, none_held, none_forked, MayFollow}
use Rattle.script_text.specs.Table.{fate_of}
use Rattle.script_text.specs.Runs.{lines_of, added_by, total}
use Rattle.script_plays.specs.Choices.{is_silent}
use Rattle.script_plays.specs.Scenes.{rest_of, number_of, settled_over, settled}

-- some line
abbrev pub no_line : Line
no_line = record { thread = record { 0 = 0 }; operation = Acquire (record { 0 = 0 }) }

-- the lines of a thread are those that name it
pub filter-own : (t : ℕ) (xs : List Line) → filter (λ x. eqb x.thread.0 t) xs ≡ lines_of t xs
filter-own t [] = refl
filter-own t (x ∷ xs) = ap (λ ys. cond (eqb x.thread.0 t) (x ∷ ys) ys) (filter-own t xs)

pub total-append : (xs ys : List Line) (m : ℕ) → total (xs ++ ys) m ≡ total xs m + total ys m
total-append [] ys m = omega arith
total-append (x ∷ xs) ys m = omega (arith, total-append xs ys m)

added_small : (l : Layout) (o : Operation) (m : ℕ) → IsNamed l o → added_by o m ≤ 1000000
added_small l (Add k n) m h = elim (eqb_tells k.0 m) [ inl p ↦ rw p.0 h.1.0 | inr p ↦ rw p.0 (omega arith) ]
added_small l _ m h = omega arith

-- what the lines of a thread add is small
pub total_small : (l : Layout) (h : Holding) (g : Forked) (t m : ℕ) (xs : List Line) → MayFollow l h g xs → total (lines_of t xs) m ≤ length xs * 1000000
total_small l h g t m [] f = omega arith
total_small l h g t m (x ∷ xs) f =
    let ih = total_small l (holding_after h x.thread.0 x.operation) (forked_with g (fate_of x.operation)) t m xs f.1 in
    let a = added_small l x.operation m f.0.named in
    elim (eqb_tells x.thread.0 t) [
      | inl p ↦ rw p.0 (omega arith)
      | inr p ↦ rw p.0 (omega arith)
    ]

-- so is what fewer of them add
pub part_small : (xs : List Line) (n m : ℕ) → total (take n xs) m ≤ total xs m
part_small [] zero m = omega arith
part_small [] (suc n) m = omega arith
part_small (x ∷ xs) zero m = omega arith
part_small (x ∷ xs) (suc n) m = omega (arith, part_small xs n m)

pub forked-append : (f : Forked) (xs : List Line) (x : Line) (t : ℕ) → forked_after f (xs ++ x ∷ []) t ≡ forked_with (forked_after f xs) (fate_of x.operation) t
forked-append f [] x t = refl
forked-append f (y ∷ ys) x t = forked-append (forked_with f (fate_of y.operation)) ys x t

-- the lines from a place on, where a line stands there, and where none does
drop_here : (xs : List Line) (k : ℕ) (x : Line) → slice_get xs k ≡ Some x → drop k xs ≡ x ∷ drop (suc k) xs
drop_here [] k x e = absurd (cc)
drop_here (y ∷ ys) zero x e = let same : y ≡ x = cc in ap (λ z. z ∷ ys) same
drop_here (y ∷ ys) (suc k) x e = drop_here ys k x e

drop_past : (xs : List Line) (k : ℕ) → slice_get xs k ≡ None → drop k xs ≡ []
drop_past [] zero e = refl
drop_past [] (suc k) e = refl
drop_past (y ∷ ys) zero e = absurd (cc)
drop_past (y ∷ ys) (suc k) e = drop_past ys k e

pub put_here : (f : ℕ → ℕ) (t x : ℕ) → put f t x t ≡ x
put_here f t x = rw (eq-eqb t t refl) refl

module _ (n : ℕ) (xs : List Line) (t : ℕ) (played : ℕ → ℕ) where
  pub rest_here : (x : Line) → slice_get (lines_of t xs) (played t) ≡ Some x → rest_of xs played t ≡ x ∷ drop (suc (played t)) (lines_of t xs)
  rest_here x e = drop_here (lines_of t xs) (played t) x e

  pub rest_past : slice_get (lines_of t xs) (played t) ≡ None → rest_of xs played t ≡ []
  rest_past e = drop_past (lines_of t xs) (played t) e

  -- a silent line is played
  pub settled_step : (x : Line) → slice_get (lines_of t xs) (played t) ≡ Some x → is_silent x.operation (number_of n xs played) ≡ true
      → settled n xs t (put played t (suc (played t))) ≡ settled n xs t played
  settled_step x e silent =
      ap (λ k. settled_over n xs t (drop k (lines_of t xs)) (put played t (suc (played t)))) (put_here played t (suc (played t)))
      ∙ sym (ap (λ rest. settled_over n xs t rest played) (rest_here x e)
      ∙ ap (λ b. cond b (settled_over n xs t (drop (suc (played t)) (lines_of t xs)) (put played t (suc (played t)))) played) silent)

  -- any other line isn't, and after the last there is none
  pub settled_stop : (x : Line) → slice_get (lines_of t xs) (played t) ≡ Some x → is_silent x.operation (number_of n xs played) ≡ false → settled n xs t played ≡ played
  settled_stop x e silent =
      ap (λ rest. settled_over n xs t rest played) (rest_here x e)
      ∙ ap (λ b. cond b (settled_over n xs t (drop (suc (played t)) (lines_of t xs)) (put played t (suc (played t)))) played) silent

  pub settled_end : slice_get (lines_of t xs) (played t) ≡ None → settled n xs t played ≡ played
  settled_end e = ap (λ rest. settled_over n xs t rest played) (rest_past e)

-- a line that is there is one of few
pub before_end : {X : Type 0} (xs : List X) (k : ℕ) (x : X) → slice_get xs k ≡ Some x → k < length xs
before_end [] k x e = absurd (cc)
before_end (y ∷ ys) zero x e = omega arith
before_end (y ∷ ys) (suc k) x e = omega (arith, before_end ys k x e)

pub lines_few : (t : ℕ) (xs : List Line) → length (lines_of t xs) ≤ length xs
lines_few t [] = omega arith
lines_few t (x ∷ xs) =
    elim (eqb_tells x.thread.0 t) [
      | inl p ↦ rw p.0 (omega (arith, lines_few t xs))
      | inr p ↦ rw p.0 (omega (arith, lines_few t xs))
    ]

-- one line more
pub total_more : (xs : List Line) (i m : ℕ) (d : Line) → i < length xs → total (take (i + 1) xs) m ≡ total (take i xs) m + added_by (get_or xs i d).operation m
total_more xs i m d low = ap (λ ys. total ys m) (take_more xs i d low) ∙ (total-append (take i xs) (get_or xs i d ∷ []) m ∙ (omega arith))

forked_alike : (f : Forked) (o : Operation) (t : ℕ) → forked_with (λ _. f t) (fate_of o) t ≡ forked_with f (fate_of o) t
forked_alike f (Fork u) t = refl
forked_alike f (Join u) t = refl
forked_alike f _ t = refl

pub forked_more : (xs : List Line) (i t : ℕ) (d : Line) (before : Bool) → i < length xs → before ≡ forked_after none_forked (take i xs) t
    → forked_with (λ _. before) (fate_of (get_or xs i d).operation) t ≡ forked_after none_forked (take (i + 1) xs) t
forked_more xs i t d before low is =
    ap (λ b. forked_with (λ _. b) (fate_of (get_or xs i d).operation) t) is
    ∙ (forked_alike (forked_after none_forked (take i xs)) (get_or xs i d).operation t
    ∙ sym (ap (λ ys. forked_after none_forked ys t) (take_more xs i d low) ∙ forked-append none_forked (take i xs) (get_or xs i d) t))

pub falls : (len a b : ℕ) → a < len → b ≡ a + 1 → len - b < len - a
falls len a b low next = omega arith

-- what fewer lines of a thread of a script add is small
pub script_small : (l : Layout) (xs : List Line) (t n m : ℕ) → IsScript l xs → length xs < 100000 → total (take n (lines_of t xs)) m ≤ 100000000000
script_small l xs t n m script few = omega (arith, part_small (lines_of t xs) n m, total_small l none_held none_forked t m xs script.follow)

pub script_part_small : (l : Layout) (xs : List Line) (t n k m : ℕ) → IsScript l xs → length xs < 100000 → total (take n (take k (lines_of t xs))) m ≤ 100000000000
script_part_small l xs t n k m script few = omega (arith, part_small (take k (lines_of t xs)) n m, script_small l xs t k m script few)

-- a line of few
pub few_some : (o : Opt Line) (xs : List Line) (k n : ℕ) → o ≡ slice_get xs k → length xs ≤ n → n < 100000 → OnSome o (k < 100000)
few_some None xs k n e le few = tt
few_some (Some x) xs k n e le few = omega (arith, before_end xs k x (sym e))

-- the lines of one thread more
pub lists_more : (xs : List Line) (lists : List (Vec Line Global)) (v : Vec Line Global) (n : ℕ) → length lists ≡ n
    → ((k : ℕ) (d : Vec Line Global) → k < n → (get_or lists k d).items ≡ lines_of k xs) → v.items ≡ lines_of n xs
    → (k : ℕ) (d : Vec Line Global) → k < n + 1 → (get_or (lists ++ v ∷ []) k d).items ≡ lines_of k xs
lists_more xs lists v n size each own k d low = dite (ℕ_discrete k n)
    (λ e. ap (λ (z : Vec Line Global). z.items) (ap (λ j. get_or (lists ++ v ∷ []) j d) e ∙ get_or_push lists v d n size) ∙ (own ∙ sym (ap (λ j. lines_of j xs) e)))
    (λ ne. ap (λ (z : Vec Line Global). z.items) (get_or_append_left lists (v ∷ []) d k (omega (arith, ne))) ∙ each k d (omega (arith, ne)))

pub none_left : (o : Opt Line) → ((x : Line) → o ≡ Some x → ⊥) → o ≡ None
none_left None h = refl
none_left (Some x) h = absurd (h x refl)
