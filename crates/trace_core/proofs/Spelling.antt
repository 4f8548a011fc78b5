-- Places that are kept with their text as a number.
use Rattle.std.proofs.Common.{◌≡◌, ℕ, zero, suc, ◌+◌, ◌-◌, ◌*◌, ◌/◌, ◌%◌, ◌^◌, ◌<◌, ◌≤◌, inl, inr, List, [], ◌∷◌, ◌++◌, length, take, drop, get_or, refl, ap, sym, ◌∙◌, length-append, arith}
use Rattle.std.proofs.Math.Nat.{mul_assoc, mul_comm, mul-add}
use Rattle.std.proofs.lemmas.Bool.Decides.{leb_tells}
use Rattle.std.proofs.lemmas.Fmt.{decimal_nonempty, decimal_digit, decimal_step, decimal_by_steps}
use Rattle.std.proofs.lemmas.List.{take-append-drop, length-take-le}
use Rattle.std.proofs.lemmas.Nat.{pow-add, and_mask, mod-mul-add, one_shl}
use Rattle.std.specs.Int.Bits.{bit_and}
use Rattle.std.specs.Prelude.{decimal}
use Rattle.trace_core.specs.Usual.{Stands, little}
use Rattle.trace_core.specs.Spelled.{IsShort, IsSpelled}
use Rattle.trace_core.proofs.UsualTexts.{AreBytes, bytes_from, take_bytes, little_injective}

-- 256 ^ n, byte by byte
abbrev pub worth : ℕ → ℕ
worth zero = 1
worth (suc n) = 256 * worth n

pub pow_worth : (n : ℕ) → 2 ^ (8 * n) ≡ worth n
pow_worth zero = refl
pow_worth (suc n) =
    let e : 8 * suc n ≡ 8 + 8 * n = omega arith in
    ap (λ k. 2 ^ k) e ∙ pow-add 2 8 (8 * n) ∙ ap (λ x. 256 * x) (pow_worth n)

pub little_below : (xs : List ℕ) (n : ℕ) → AreBytes xs → length xs ≤ n → little xs < worth n
little_below [] zero h le = omega arith
little_below [] (suc n) h le = omega (arith, little_below [] n tt (omega arith))
little_below (x ∷ xs) zero h le = absurd (omega (arith, le))
little_below (x ∷ xs) (suc n) h le = omega (arith, h.0, little_below xs n h.1 (omega (arith, le)))

shift : (n x y z : ℕ) → x + 256 * (y + worth n * z) ≡ (x + 256 * y) + 256 * worth n * z
shift n x y z =
    let e : 256 * (worth n * z) ≡ 256 * worth n * z = sym (mul_assoc 256 (worth n) z) in
    omega (arith, e)

pub little_append : (xs ys : List ℕ) → little (xs ++ ys) ≡ little xs + worth (length xs) * little ys
little_append [] ys = omega arith
little_append (x ∷ xs) ys = ap (λ n. x + 256 * n) (little_append xs ys) ∙ shift (length xs) x (little xs) (little ys)

append_bytes : (xs ys : List ℕ) → AreBytes xs → AreBytes ys → AreBytes (xs ++ ys)
append_bytes [] ys p q = q
append_bytes (x ∷ xs) ys p q = (p.0, append_bytes xs ys p.1 q)

pub decimal_bytes : (n : ℕ) → n < 2 ^ 64 → AreBytes (decimal n)
decimal_bytes n fits = decimal_by_steps (λ _ ds. AreBytes ds) (λ k small. (omega (arith, small), tt)) (λ k ds many h. append_bytes ds ((48 + k % 10) ∷ []) h (omega arith, tt)) n fits

turn : (a w b : ℕ) → a + w * b ≡ b * w + a
turn a w b = let e : w * b ≡ b * w = mul_comm w b in omega (arith, e)

-- the low bytes of a number are the first bytes of its list
low_bytes : (xs : List ℕ) (n : ℕ) → AreBytes xs → n ≤ length xs → bit_and (little xs) (2 ^ (8 * n) - 1) ≡ little (take n xs)
low_bytes xs n h le =
    let prefix = take n xs in
    let rest = drop n xs in
    let size : length prefix ≡ n = length-take-le n xs le in
    let w : 2 ^ (8 * n) ≡ worth n = pow_worth n in
    let small : little prefix < worth n = little_below prefix n (take_bytes n xs h) (omega (arith, size)) in
    let parts : little xs ≡ little prefix + worth n * little rest = ap little (sym (take-append-drop n xs)) ∙ little_append prefix rest ∙ ap (λ k. little prefix + worth k * little rest) size in
    let turned : little prefix + worth n * little rest ≡ little rest * worth n + little prefix = turn (little prefix) (worth n) (little rest) in
    and_mask (little xs) (8 * n) ∙ ap (λ d. little xs % d) w ∙ ap (λ x. x % worth n) (parts ∙ turned) ∙ mod-mul-add (little rest) (worth n) (little prefix) small

take_short : (n m : ℕ) (xs : List ℕ) → n ≤ m → take n (take m xs) ≡ take n xs
take_short zero m xs le = refl
take_short (suc n) zero xs le = absurd (omega (arith, le))
take_short (suc n) (suc m) [] le = refl
take_short (suc n) (suc m) (x ∷ xs) le = ap (λ l. x ∷ l) (take_short n m xs (omega (arith, le)))

mod_one : (n : ℕ) → n % 2 ^ 0 ≡ 0
mod_one n = omega arith

none : (read mask text : ℕ) → mask ≡ 0 → text ≡ 1 → bit_and read mask ≡ text → ⊥
none read mask text e f same =
    let z : bit_and read 0 ≡ 0 = and_mask read 0 ∙ mod_one read in
    omega (arith, sym z ∙ ap (bit_and read) (sym e) ∙ same ∙ f)

pub place_there : (bytes : List ℕ) (value text mask one last hundred size read : ℕ) → 8 ≤ length bytes → ((k : ℕ) → get_or bytes k 0 < 256) → IsSpelled value text mask one last hundred size → read ≡ little (take 8 bytes) → bit_and read mask ≡ text
    → Stands bytes 0 (decimal value) size × (size ≤ 8)
place_there bytes value text mask one last hundred size read le p s e same =
    elim (leb_tells size 8) [
      | inl w ↦
          let h = s.2 w.1 in
          let prefix = take 8 bytes in
          let all = take_bytes 8 bytes (bytes_from bytes p) in
          let many : length prefix ≡ 8 = length-take-le 8 bytes le in
          let low : bit_and (little prefix) (2 ^ (8 * size) - 1) ≡ little (take size prefix) = low_bytes prefix size all (omega (arith, many, w.1)) in
          let equal : little (take size prefix) ≡ little (decimal value) = sym low ∙ ap (bit_and (little prefix)) (sym h.2) ∙ ap (λ x. bit_and x mask) (sym e) ∙ same ∙ h.1 in
          let long : length (take size prefix) ≡ length (decimal value) = length-take-le size prefix (omega (arith, many, w.1)) ∙ h.0 in
          let there : take size prefix ≡ decimal value = little_injective (take size prefix) (decimal value) long (take_bytes size prefix all) (decimal_bytes value s.0) equal in
          let first : take size bytes ≡ decimal value = sym (take_short size 8 bytes w.1) ∙ there in
          (record { within = omega (arith, w.1, le); there = sym (take-append-drop size bytes) ∙ ap (λ l. l ++ drop size bytes) first }, w.1)
      | inr w ↦
          let h = s.3 (omega (arith, w.1)) in
          absurd (none read mask text h.1 h.0 same)
    ]

more : (w d : ℕ) → w * (d + 1) ≡ w * d + w
more w d = let e : w * (d + 1) ≡ w * d + w * 1 = mul-add w d 1 in omega (arith, e)

last_digit : (ds : List ℕ) (d : ℕ) → little (ds ++ (d + 1) ∷ []) ≡ little (ds ++ d ∷ []) + worth (length ds)
last_digit ds d =
    let a = little_append ds ((d + 1) ∷ []) in
    let b = little_append ds (d ∷ []) in
    let w : worth (length ds) * (d + 1) ≡ worth (length ds) * d + worth (length ds) = more (worth (length ds)) d in
    let p : worth (length ds) * little ((d + 1) ∷ []) ≡ worth (length ds) * (d + 1) = ap (λ x. worth (length ds) * x) (let e : d + 1 + 256 * 0 ≡ d + 1 = omega arith in e) in
    let q : worth (length ds) * little (d ∷ []) ≡ worth (length ds) * d = ap (λ x. worth (length ds) * x) (let e : d + 256 * 0 ≡ d = omega arith in e) in
    omega (arith, a, b, w, p, q)

-- one more, where the last digit is no nine
pub next_text : (v : ℕ) → v + 1 < 2 ^ 64 → (v + 1) / 10 ≡ v / 10 → (little (decimal (v + 1)) ≡ little (decimal v) + worth (length (decimal v) - 1)) × (length (decimal (v + 1)) ≡ length (decimal v))
next_text v fits same =
    elim (leb_tells v 9) [
      | inl w ↦
          let a = decimal_digit v (omega (arith, w.1)) in
          let b = decimal_digit (v + 1) (omega (arith, w.1, same)) in
          (ap little b ∙ (let e : 48 + (v + 1) + 256 * 0 ≡ 48 + v + 256 * 0 + 1 = omega arith in e) ∙ ap (λ l. little l + worth (length l - 1)) (sym a), ap length b ∙ ap length (sym a))
      | inr w ↦
          let ds = decimal (v / 10) in
          let a : decimal v ≡ ds ++ (48 + v % 10) ∷ [] = decimal_step v (omega (arith, w.1)) (omega (arith, fits)) in
          let d : 48 + (v + 1) % 10 ≡ 48 + v % 10 + 1 = omega (arith, same) in
          let b : decimal (v + 1) ≡ ds ++ (48 + v % 10 + 1) ∷ [] = decimal_step (v + 1) (omega (arith, w.1)) fits ∙ ap (λ q. decimal q ++ (48 + (v + 1) % 10) ∷ []) same ∙ ap (λ x. ds ++ x ∷ []) d in
          let l : length (decimal v) ≡ length ds + 1 = ap length a ∙ length-append ds ((48 + v % 10) ∷ []) in
          let k : length ds ≡ length (decimal v) - 1 = omega (arith, l) in (
            ap little b ∙ last_digit ds (48 + v % 10) ∙ ap (λ x. little x + worth (length ds)) (sym a) ∙ ap (λ n. little (decimal v) + worth n) k,
            ap length b ∙ length-append ds ((48 + v % 10 + 1) ∷ []) ∙ sym l,
          )
    ]

pub spelled_first : IsSpelled 0 48 255 1 9 0 1
spelled_first =
    let d = decimal_digit 0 (omega arith) in (
      omega arith,
      omega arith,
      λ _. (sym (ap length d), sym (ap little d ∙ (let e : 48 + 0 + 256 * 0 ≡ 48 = omega arith in e)), refl, refl, refl, λ h. absurd (omega (arith, h))),
      λ h. absurd (omega (arith, h)),
    )

-- the next number of the same ten
pub spelled_next : (v text mask one last hundred size : ℕ) → IsSpelled v text mask one last hundred size → v < last → v + 1 < 2 ^ 64 → IsSpelled (v + 1) (text + one) mask one last hundred size × (text + one < 2 ^ 64)
spelled_next v text mask one last hundred size s low fits =
    let short : size ≤ 8 → IsShort (v + 1) (text + one) mask one last hundred size = λ h.
    let k = s.2 h in
    let decade : (v + 1) / 10 ≡ v / 10 = omega (arith, k.4, low) in
    let next = next_text v fits decade in
    let w : one ≡ worth (length (decimal v) - 1) = k.3 ∙ pow_worth (size - 1) ∙ ap (λ n. worth (n - 1)) k.0 in
    let t = k.1 in
    let n = next.0 in (k.0 ∙ sym next.1, omega (arith, w, t, n), k.2, k.3, omega (arith, k.4, decade), λ g. let m = k.5 (omega (arith, g)) in (omega (arith, m.0), omega (arith, m.1, g)))
    in (
      (fits, omega (arith, low), short, λ h. let k = s.3 h in (omega (arith, k.0, k.2), k.1, k.2, k.3)),
      elim (leb_tells size 8) [
        | inl w ↦
            let k = short w.1 in
            let b = little_below (decimal (v + 1)) 8 (decimal_bytes (v + 1) fits) (omega (arith, k.0, w.1)) in
            omega (arith, b, k.1)
        | inr w ↦ let k = s.3 (omega (arith, w.1)) in omega (arith, k.0, k.2)
      ],
    )

with_digit : (ds : List ℕ) (d : ℕ) → little (ds ++ d ∷ []) ≡ little ds + worth (length ds) * d
with_digit ds d =
    let a = little_append ds (d ∷ []) in
    let q : worth (length ds) * little (d ∷ []) ≡ worth (length ds) * d = ap (λ x. worth (length ds) * x) (let e : d + 256 * 0 ≡ d = omega arith in e) in
    omega (arith, a, q)

smaller_worth : (n : ℕ) → 0 < n → worth n ≡ 256 * worth (n - 1)
smaller_worth zero some = absurd (omega (arith, some))
smaller_worth (suc n) some = let e : n ≡ suc n - 1 = omega arith in ap (λ m. 256 * worth m) e

-- the next number, where only the digit before the last goes up
tens_text : (v one : ℕ) → v + 1 < 2 ^ 64 → 10 ≤ v → v % 10 ≡ 9 → (v + 1) / 100 ≡ v / 100 → one ≡ worth (length (decimal v) - 1)
    → (little (decimal (v + 1)) + 9 * one ≡ little (decimal v) + one / 256) × (length (decimal (v + 1)) ≡ length (decimal v)) × (9 * one ≤ little (decimal v))
tens_text v one fits many nine same o =
    let u = v / 10 in
    let ds = decimal u in
    let es = decimal (u + 1) in
    let up : (v + 1) / 10 ≡ u + 1 = omega (arith, nine) in
    let zero_is : 48 + (v + 1) % 10 ≡ 48 = omega (arith, nine) in
    let nine_is : 48 + v % 10 ≡ 57 = omega (arith, nine) in
    let a : decimal v ≡ ds ++ 57 ∷ [] = decimal_step v many (omega (arith, fits)) ∙ ap (λ d. ds ++ d ∷ []) nine_is in
    let b : decimal (v + 1) ≡ es ++ 48 ∷ [] = decimal_step (v + 1) (omega (arith, many)) fits ∙ ap (λ q. decimal q ++ (48 + (v + 1) % 10) ∷ []) up ∙ ap (λ d. es ++ d ∷ []) zero_is in
    let next = next_text u (omega (arith, fits)) (omega (arith, same)) in
    let some = decimal_nonempty u (omega (arith, fits)) in
    let la : length (decimal v) ≡ length ds + 1 = ap length a ∙ length-append ds (57 ∷ []) in
    let lb : length (decimal (v + 1)) ≡ length es + 1 = ap length b ∙ length-append es (48 ∷ []) in
    let w : one ≡ worth (length ds) = o ∙ ap worth (let e : length (decimal v) - 1 ≡ length ds = omega (arith, la) in e) in
    let w' = smaller_worth (length ds) some in
    let x = ap little a ∙ with_digit ds 57 in
    let y = ap little b ∙ with_digit es 48 ∙ ap (λ n. little es + worth n * 48) next.1 in
    let n = next.0 in (omega (arith, x, y, n, w, w'), omega (arith, la, lb, next.1), omega (arith, x, w))

pub spelled_tens : (v text mask one last hundred size : ℕ) → IsSpelled v text mask one last hundred size → last ≤ v → v < hundred → hundred < 2 ^ 64 → v + 1 < 2 ^ 64
    → IsSpelled (v + 1) (text - 9 * one + one / 256) mask one (last + 10) hundred size × (9 * one ≤ text) × (text - 9 * one + one / 256 < 2 ^ 64) × (last + 10 < 2 ^ 64) × (9 * one < 2 ^ 64) × (text < 2 ^ 64)
spelled_tens v text mask one last hundred size s high low most fits =
    elim (leb_tells size 8) [
      | inl w ↦
          let k = s.2 w.1 in
          let m = k.5 low in
          let nine : v % 10 ≡ 9 = omega (arith, k.4, high, s.1) in
          let o : one ≡ worth (length (decimal v) - 1) = k.3 ∙ pow_worth (size - 1) ∙ ap (λ n. worth (n - 1)) k.0 in
          let t = tens_text v one fits m.0 nine (omega (arith, m.1, low)) o in
          let b = little_below (decimal (v + 1)) 8 (decimal_bytes (v + 1) fits) (omega (arith, k.0, t.1, w.1)) in
          let c = little_below (decimal v) 8 (decimal_bytes v s.0) (omega (arith, k.0, w.1)) in
          let text_is : text - 9 * one + one / 256 ≡ little (decimal (v + 1)) = omega (arith, k.1, t.0, t.2) in (
            (
              fits,
              omega (arith, k.4, high),
              λ _. (k.0 ∙ sym t.1, text_is, k.2, k.3, omega (arith, k.4, nine), λ g. (omega (arith, m.0), omega (arith, m.1, g))),
              λ h. absurd (omega (arith, h, w.1)),
            ),
            omega (arith, k.1, t.2),
            omega (arith, text_is, b),
            omega (arith, k.4, m.1, low, nine, most),
            omega (arith, k.1, t.2, c),
            omega (arith, k.1, c),
          )
      | inr w ↦ let k = s.3 (omega (arith, w.1)) in absurd (omega (arith, k.3, low))
    ]

worth_le : (m n : ℕ) → m ≤ n → worth m ≤ worth n
worth_le zero zero le = omega arith
worth_le zero (suc n) le = omega (arith, worth_le zero n (omega arith))
worth_le (suc m) zero le = absurd (omega (arith, le))
worth_le (suc m) (suc n) le = omega (arith, worth_le m n (omega (arith, le)))

-- 256 to the power of one less than a size, as it is computed
pub power_of : (size one : ℕ) → 1 ≤ size → size ≤ 8 → one ≡ (1 * 2 ^ (8 * (size - 1))) % 2 ^ 64 → (one ≡ worth (size - 1)) × (1 ≤ one) × (one ≤ 2 ^ 56) × (256 * one ≡ worth size)
power_of size one low high e =
    let w : one ≡ worth (size - 1) = e ∙ one_shl (8 * (size - 1)) 64 (omega (arith, low, high)) ∙ pow_worth (size - 1) in
    let a = worth_le 0 (size - 1) (omega arith) in
    let b = worth_le (size - 1) 7 (omega (arith, high)) in
    let k : suc (size - 1) ≡ size = omega (arith, low) in
    let g : 256 * worth (size - 1) ≡ worth size = ap worth k in (w, omega (arith, a, w), omega (arith, b, w), omega (arith, g, w))

pub spelled_short : (v one hundred size : ℕ) (digits : List ℕ) → digits ≡ decimal v → size ≡ length digits → size ≤ 8 → v < 2 ^ 64 → one ≡ (1 * 2 ^ (8 * (size - 1))) % 2 ^ 64 → (v < hundred → (10 ≤ v) × (hundred ≡ v / 100 * 100 + 99))
    → IsSpelled v (little digits) (one - 1 + 255 * one) one (v / 10 * 10 + 9) hundred size
spelled_short v one hundred size digits e l high fits o h =
    let n = decimal_nonempty v fits in
    let same : size ≡ length (decimal v) = l ∙ ap length e in
    let p = power_of size one (omega (arith, same, n)) high o in
    let m = pow_worth size in
    let q = pow_worth (size - 1) in (
      fits,
      omega arith,
      λ _. (same, ap little e, omega (arith, m, p.1, p.3), omega (arith, p.0, q), refl, h),
      λ g. absurd (omega (arith, g, high)),
    )

-- a longer one
pub spelled_long : (v last : ℕ) → v < 2 ^ 64 → v ≤ last → IsSpelled v 1 0 0 last 0 9
spelled_long v last fits below = (fits, below, λ h. absurd (omega (arith, h)), λ _. (refl, refl, refl, refl))
