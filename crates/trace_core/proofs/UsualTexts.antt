-- Texts that stand in the bytes held.
use Rattle.std.proofs.Common.{◌≡◌, ℕ, zero, suc, ◌+◌, ◌*◌, ◌/◌, ◌%◌, ◌<◌, ◌≤◌, ◌⊎◌, Bool, true, false, inl, inr, List, [], ◌∷◌, ◌++◌, length, take, drop, get_or, refl, ap, sym, subst, ◌∙◌, append_assoc, append-nil, arith}
use Rattle.std.proofs.Math.Seq.{drop-cons}
use Rattle.std.proofs.lemmas.List.{take-append-drop, drop-drop, length-take-le, length-drop, take_all}
use Rattle.std.proofs.lemmas.Bool.Decides.{leb_tells}
use Rattle.std.proofs.lemmas.Fmt.{decimal_digit, decimal_step}
use Rattle.std.specs.Prelude.{codes, decimal}
use Rattle.larch_actions.specs.declared.thread_set.ThreadSet.{ThreadSet}
use Rattle.larch_actions.specs.Sets.{in_set}
use Rattle.trace_core.specs.Text.{members_from, members, names_text, newline}
use Rattle.trace_core.specs.declared.usual.name.UsualName.{UsualName}
use Rattle.trace_core.specs.declared.usual.wait.UsualWait.{UsualWait}
use Rattle.trace_core.specs.declared.usual.wait.UsualEnding.{UsualEnding}
use Rattle.larch_actions.specs.declared.event.Layout.{Layout}
use Rattle.trace_core.specs.Usual.{Stands, little, IsNameAt, IsWaitAt, IsEndingAt, ending_text}

-- a test is not both
pub never : {P : Type 0} (b : Bool) → b ≡ false → b ≡ true → P
never b off on = cc

pub stands_then : {bytes : List ℕ} {a m e : ℕ} {t u : List ℕ} → Stands bytes a t m → Stands bytes m u e → Stands bytes a (t ++ u) e
stands_then {bytes} {a} {m} {e} {t} {u} p q = record { within = q.within; there = p.there ∙ ap (λ l. t ++ l) q.there ∙ sym (append_assoc t u (drop e bytes)) }

pub stands_as : {bytes : List ℕ} {a e : ℕ} {t u : List ℕ} → t ≡ u → Stands bytes a t e → Stands bytes a u e
stands_as {bytes} {a} {e} {t} {u} same p = subst (λ (x : List ℕ). Stands bytes a x e) same p

pub stands_end : {bytes : List ℕ} {a e f : ℕ} {t : List ℕ} → e ≡ f → Stands bytes a t e → Stands bytes a t f
stands_end {bytes} {a} {e} {f} {t} same p = subst (λ (x : ℕ). Stands bytes a t x) same p

pub stands_byte : (bytes : List ℕ) (a c : ℕ) → a < length bytes → get_or bytes a 0 ≡ c → Stands bytes a (c ∷ []) (a + 1)
stands_byte bytes a c lt e = record {
  within = omega arith;
  there = drop-cons bytes a 0 lt ∙ ap (λ n. get_or bytes a 0 ∷ drop n bytes) (let s : suc a ≡ a + 1 = omega arith in s) ∙ ap (λ x. x ∷ drop (a + 1) bytes) e;
}

-- each is below 256
abbrev pub AreBytes : List ℕ → Type 0
AreBytes [] = Unit {0}
AreBytes (x ∷ xs) = (x < 256) × AreBytes xs

pub bytes_from : (xs : List ℕ) → ((k : ℕ) → get_or xs k 0 < 256) → AreBytes xs
bytes_from [] h = tt
bytes_from (x ∷ xs) h = (h 0, bytes_from xs (λ k. h (suc k)))

pub take_bytes : (n : ℕ) (xs : List ℕ) → AreBytes xs → AreBytes (take n xs)
take_bytes zero xs h = tt
take_bytes (suc n) [] h = tt
take_bytes (suc n) (x ∷ xs) h = (h.0, take_bytes n xs h.1)

pub drop_bytes : (n : ℕ) (xs : List ℕ) → AreBytes xs → AreBytes (drop n xs)
drop_bytes zero xs h = h
drop_bytes (suc n) [] h = tt
drop_bytes (suc n) (x ∷ xs) h = drop_bytes n xs h.1

pub little_injective : (xs ys : List ℕ) → length xs ≡ length ys → AreBytes xs → AreBytes ys → little xs ≡ little ys → xs ≡ ys
little_injective [] [] l p q e = refl
little_injective [] (y ∷ ys) l p q e = absurd (omega (arith, l))
little_injective (x ∷ xs) [] l p q e = absurd (omega (arith, l))
little_injective (x ∷ xs) (y ∷ ys) l p q e =
    let same : x ≡ y = omega (arith, e, p.0, q.0) in
    let rest : little xs ≡ little ys = omega (arith, e, p.0, q.0) in
    let short : length xs ≡ length ys = omega (arith, l) in
    ap (λ z. z ∷ xs) same ∙ ap (λ zs. y ∷ zs) (little_injective xs ys short p.1 q.1 rest)

pub stands_word : (bytes word : List ℕ) (a n : ℕ) → a + n ≤ length bytes → length word ≡ n → AreBytes bytes → AreBytes word → little (take n (drop a bytes)) ≡ little word → Stands bytes a word (a + n)
stands_word bytes word a n le l p q e =
    let size : length (take n (drop a bytes)) ≡ length word = length-take-le n (drop a bytes) (omega (arith, length-drop a bytes)) ∙ sym l in
    let same : take n (drop a bytes) ≡ word = little_injective (take n (drop a bytes)) word size (take_bytes n (drop a bytes) (drop_bytes a bytes p)) q e in record {
      within = le;
      there = sym (take-append-drop n (drop a bytes)) ∙ ap (λ l. l ++ drop n (drop a bytes)) same ∙ ap (λ l. word ++ l) (drop-drop n a bytes);
    }

-- a word of n bytes that is the same number as the next n bytes stands there
pub same_word : (bytes word : List ℕ) (a n x y : ℕ) → a + n ≤ length bytes → length word ≡ n → ((k : ℕ) → get_or bytes k 0 < 256) → ((k : ℕ) → get_or word k 0 < 256) → x ≡ y → x ≡ little (take n (drop a bytes)) → y ≡ little (take n word) → Stands bytes a word (a + n)
same_word bytes word a n x y le l p q same e f =
    stands_word bytes word a n le l (bytes_from bytes p) (bytes_from word q) (sym e ∙ same ∙ f ∙ ap little (take_all n word (omega (arith, l))))

-- a digit more
further_digit : (v d : ℕ) → 1 ≤ v → v < 1000 → d ≤ 9 → decimal (10 * v + d) ≡ decimal v ++ (48 + d) ∷ []
further_digit v d some small digit =
    let n = 10 * v + d in
    let q : n / 10 ≡ v = omega arith in
    let r : n % 10 ≡ d = omega arith in
    decimal_step n (omega arith) (omega arith) ∙ ap (λ m. decimal m ++ (48 + n % 10) ∷ []) q ∙ ap (λ m. decimal v ++ (48 + m) ∷ []) r

pub longer_name : (bytes : List ℕ) (at v d end : ℕ) → end < length bytes → Stands bytes at (decimal v ++ []) end → get_or bytes end 0 ≡ 48 + d → 1 ≤ v → v < 1000 → d ≤ 9 → Stands bytes at (decimal (10 * v + d) ++ []) (end + 1)
longer_name bytes at v d end lt p x some small digit =
    stands_as (ap (λ l. l ++ (48 + d) ∷ []) (append-nil (decimal v)) ∙ sym (append-nil (decimal (10 * v + d)) ∙ further_digit v d some small digit)) (stands_then p (stands_byte bytes end (48 + d) lt x))

short_name : (bytes : List ℕ) (at a : ℕ) → at + 2 ≤ length bytes → get_or bytes at 0 ≡ 48 + a → a ≤ 9 → Stands bytes at (decimal a ++ []) (at + 1)
short_name bytes at a le x high = stands_as (sym (append-nil (decimal a) ∙ decimal_digit a (omega arith))) (stands_byte bytes at (48 + a) (omega arith) x)

-- a name of two digits where the second byte is one and the first isn't zero, and else of one digit
pub name_there : (bytes : List ℕ) (at bound a b value end : ℕ) → at + 2 ≤ length bytes → get_or bytes at 0 ≡ 48 + a → (b < 10 → get_or bytes (at + 1) 0 ≡ 48 + b) → a ≤ 9
    → (0 < a → b < 10 → (value ≡ 10 * a + b) × (end ≡ at + 2)) → ((a ≡ 0) ⊎ (10 ≤ b) → (value ≡ a) × (end ≡ at + 1)) → value < bound → IsNameAt bytes at bound [] (record { value = value; end = end })
name_there bytes at bound a b value end le x y high long short below =
    let first = short_name bytes at a le x high in
    let alone : (a ≡ 0) ⊎ (10 ≤ b) → Stands bytes at (decimal value ++ []) end =
    λ w.
    let h = short w in
    stands_end (sym h.1) (stands_as (ap (λ v. decimal v ++ []) (sym h.0)) first)
    in record {
      below = below;
      text =
          elim (leb_tells a 0) [
            | inl none ↦ alone (inl (omega (arith, none.1)))
            | inr some ↦
                elim (leb_tells b 9) [
                  | inl w ↦
                      let h = long (omega (arith, some.1)) (omega (arith, w.1)) in
                      let e : at + 1 + 1 ≡ end = omega (arith, h.1) in
                      stands_end e (stands_as (ap (λ v. decimal v ++ []) (sym h.0)) (longer_name bytes at a b (at + 1) (omega arith) first (y (omega (arith, w.1))) (omega (arith, some.1)) (omega arith) w.1))
                  | inr w ↦ alone (inr (omega (arith, w.1)))
                ]
          ];
    }

nobody_from : (s : ThreadSet) (n t : ℕ) → ((k : ℕ) → in_set s k ≡ false) → members_from s t n ≡ []
unfolding members_from
nobody_from s zero t h = refl
nobody_from s (suc n) t h = rw (h t) (nobody_from s n (t + 1) h)

pub no_members : (s : ThreadSet) → ((k : ℕ) → in_set s k ≡ false) → members s ≡ []
unfolding members
no_members s h = nobody_from s 256 0 h

pub nobody : (s : ThreadSet) → ((k : ℕ) → in_set s k ≡ false) → names_text (members s) ≡ []
nobody s h = ap names_text (no_members s h)

no_names : (w d l e : List ℕ) → ((w ++ (d ++ 32 ∷ [])) ++ l) ++ e ≡ (((w ++ d) ++ 32 ∷ l) ++ []) ++ e
no_names w d l e = simp (append_assoc, append-nil)

pub signal_text : (c : ℕ) (s : ThreadSet) → ((k : ℕ) → in_set s k ≡ false)
    → ((codes "signal c" ++ (decimal c ++ 32 ∷ [])) ++ codes "left") ++ 10 ∷ [] ≡ (codes "signal c" ++ decimal c ++ codes " left" ++ names_text (members s)) ++ newline
signal_text c s h = no_names (codes "signal c") (decimal c) (codes "left") (10 ∷ []) ∙ ap (λ ns. (codes "signal c" ++ decimal c ++ codes " left" ++ ns) ++ newline) (sym (nobody s h))

names_are : (d e stop : List ℕ) → ((d ++ 32 ∷ []) ++ 99 ∷ []) ++ (e ++ stop) ≡ (d ++ codes " c") ++ (e ++ stop)
names_are d e stop = simp append_assoc

-- the names of a mutex and a condition, one after the other
pub both_names : {bytes : List ℕ} {a k n end : ℕ} (m c : ℕ) (stop : List ℕ) → Stands bytes a (decimal m ++ 32 ∷ []) k → Stands bytes k (99 ∷ []) n → Stands bytes n (decimal c ++ stop) end → Stands bytes a ((decimal m ++ codes " c") ++ (decimal c ++ stop)) end
both_names m c stop p q r = stands_as (names_are (decimal m) (decimal c) stop) (stands_then (stands_then p q) r)

wait_is : (word d e stop : List ℕ) → word ++ ((d ++ codes " c") ++ (e ++ stop)) ≡ (word ++ d ++ codes " c" ++ e) ++ stop
wait_is word d e stop = simp append_assoc

-- the names of a mutex and a condition after a word
pub after_wait : {l : Layout} {bytes stop : List ℕ} {a k : ℕ} {x : UsualWait} (word : List ℕ) → Stands bytes a word k → IsWaitAt l bytes k stop x → Stands bytes a ((word ++ decimal x.mutex.0 ++ codes " c" ++ decimal x.cond.0) ++ stop) x.end
after_wait {stop = stop} {x = x} word p w = stands_as (wait_is word (decimal x.mutex.0) (decimal x.cond.0) stop) (stands_then p w.text)

-- how an alertable call ended, after what stands before it
ended_is : (prefix : List ℕ) → (prefix ++ 32 ∷ []) ++ (codes "returns" ++ newline) ≡ (prefix ++ codes " returns") ++ newline
ended_is prefix = simp append_assoc

pub returned : {bytes : List ℕ} {a k : ℕ} {x : UsualEnding} (prefix : List ℕ) → Stands bytes a (prefix ++ 32 ∷ []) k → IsEndingAt bytes k x → x.returns ≡ true → Stands bytes a ((prefix ++ codes " returns") ++ newline) x.end
returned prefix p e is = stands_as (ap (λ r. (prefix ++ 32 ∷ []) ++ ending_text r) is ∙ ended_is prefix) (stands_then p e.text)

raised_is : (prefix : List ℕ) → (prefix ++ 32 ∷ []) ++ (codes "raises" ++ newline) ≡ (prefix ++ codes " raises") ++ newline
raised_is prefix = simp append_assoc

pub raised : {bytes : List ℕ} {a k : ℕ} {x : UsualEnding} (prefix : List ℕ) → Stands bytes a (prefix ++ 32 ∷ []) k → IsEndingAt bytes k x → x.returns ≡ false → Stands bytes a ((prefix ++ codes " raises") ++ newline) x.end
raised prefix p e is = stands_as (ap (λ r. (prefix ++ 32 ∷ []) ++ ending_text r) is ∙ raised_is prefix) (stands_then p e.text)

-- a name after a word
pub after_name : {bytes stop : List ℕ} {a k : ℕ} {bound : ℕ} {x : UsualName} (word : List ℕ) → Stands bytes a word k → IsNameAt bytes k bound stop x → Stands bytes a ((word ++ decimal x.value) ++ stop) x.end
after_name {stop = stop} {x = x} word p n = stands_as (sym (append_assoc word (decimal x.value) stop)) (stands_then p n.text)

event_is : (n w t a b : List ℕ) → ((n ++ w) ++ (t ++ 32 ∷ [])) ++ (a ++ b) ≡ (n ++ w ++ t ++ codes " " ++ a) ++ b
event_is n w t a b = simp append_assoc

-- an event: its place, a word, its thread's name, and its action
pub event_there : {bytes : List ℕ} {a j k m end : ℕ} (n w t act b : List ℕ) → Stands bytes a n j → Stands bytes j w k → Stands bytes k (t ++ 32 ∷ []) m → Stands bytes m (act ++ b) end → Stands bytes a ((n ++ w ++ t ++ codes " " ++ act) ++ b) end
event_there n w t act b p q r s = stands_as (event_is n w t act b) (stands_then (stands_then (stands_then p q) r) s)
