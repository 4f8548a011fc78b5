-- A prefix of a text is made one by some few bytes.
use Rattle.std.proofs.Common.{◌≡◌, ◌⊎◌, inl, inr, ℕ, ◌+◌, ◌*◌, ◌/◌, ◌%◌, ◌<◌, ◌≤◌, true, List, [], ◌∷◌, ◌++◌, length, arith, refl, sym, ap, subst, ◌∙◌, ⊎_elim, append_assoc, append-nil, length-append, lt-ltb, le-ltb, le-leb}
use Rattle.std.specs.Prelude.{◌&&◌}
use Rattle.std.specs.Str.{IsUtf8}
use Rattle.std.proofs.lemmas.Str.{IsUtf8-append, IsUtf8-nil}
use Rattle.std.proofs.lemmas.Bool.{cases_lt}
use lib.Utf8.{encode, encodes, scalar, scalars, scalar_cases}
use Rattle.index_text.proofs.Tokens.{both_true}

-- the bytes that are tried
pub data IsTried : List ℕ → Type 0 where
  none : IsTried []
  letter : IsTried (97 ∷ [])
  one : IsTried (128 ∷ [])
  two : IsTried (128 ∷ 128 ∷ [])
  three : IsTried (128 ∷ 128 ∷ 128 ∷ [])
  after_e0 : IsTried (160 ∷ 128 ∷ [])
  after_f0 : IsTried (144 ∷ 128 ∷ 128 ∷ [])

abbrev pub Completes : List ℕ → Type 0
Completes q = (e : List ℕ) × IsTried e × IsUtf8 (q ++ e)

-- two ways to cut the same bytes
pub record IsLonger (xs ys zs ws : List ℕ) : Type 0 where
  pub rest : List ℕ
  pub prefix : xs ≡ zs ++ rest
  pub back : ws ≡ rest ++ ys

pub two_cuts : (xs ys zs ws : List ℕ) → xs ++ ys ≡ zs ++ ws → IsLonger xs ys zs ws ⊎ IsLonger zs ws xs ys
two_cuts xs ys [] ws e = inl (record { rest = xs; prefix = refl; back = sym e })
two_cuts [] ys (z ∷ zs) ws e = inr (record { rest = z ∷ zs; prefix = refl; back = e })
two_cuts (x ∷ xs) ys (z ∷ zs) ws e =
    let head : x ≡ z = cc in
    let tail : xs ++ ys ≡ zs ++ ws = cc in
    elim (two_cuts xs ys zs ws tail) [
      | inl l ↦ inl (record { rest = l.rest; prefix = λ i. head i ∷ l.prefix i; back = l.back })
      | inr l ↦ inr (record { rest = l.rest; prefix = λ i. sym head i ∷ l.prefix i; back = l.back })
    ]

utf8_char : (c : ℕ) (bs : List ℕ) → scalar c ≡ true → encode c ≡ bs → IsUtf8 bs
utf8_char c bs s e = (c ∷ [], (ap (λ b. b && true) s, append-nil (encode c) ∙ e))

scalar_low : (c : ℕ) → c < 55296 → scalar c ≡ true
scalar_low c h = rw (lt-ltb c 55296 h) refl

scalar_high : (c : ℕ) → 57344 ≤ c → c < 1114112 → scalar c ≡ true
scalar_high c h k = let far : 55296 ≤ c = omega (arith, h) in rw (le-ltb c 55296 far, le-leb 57344 c h, lt-ltb c 1114112 k) refl

-- where the bytes of a character are as many as of c, and c' has the same first bits
scalar_floor : (c d : ℕ) → scalar c ≡ true → d ≤ c → (55296 ≤ c → 57344 ≤ d) → scalar d ≡ true
scalar_floor c d s below jump = ⊎_elim
    (λ (lt : d < 55296). scalar_low d lt)
    (λ (ge : 55296 ≤ d). elim (scalar_cases c s) [
      | inl l ↦ absurd (omega (arith, l, below, ge))
      | inr h ↦ let far : 57344 ≤ d = jump (omega (arith, h.0)) in scalar_high d far (omega (arith, h.1, below))
    ])
    (cases_lt d 55296)

encode_two : (c : ℕ) → 128 ≤ c → c < 2048 → encode c ≡ (192 + c / 64) ∷ (128 + c % 64) ∷ []
unfolding encode
encode_two c low high = rw (le-ltb c 128 low, lt-ltb c 2048 high) refl

encode_three : (c : ℕ) → 2048 ≤ c → c < 65536 → encode c ≡ (224 + c / 4096) ∷ (128 + (c / 64) % 64) ∷ (128 + c % 64) ∷ []
unfolding encode
encode_three c low high = let one : 128 ≤ c = omega (arith, low) in rw (le-ltb c 128 one, le-ltb c 2048 low, lt-ltb c 65536 high) refl

encode_four : (c : ℕ) → 65536 ≤ c → encode c ≡ (240 + c / 262144) ∷ (128 + (c / 4096) % 64) ∷ (128 + (c / 64) % 64) ∷ (128 + c % 64) ∷ []
unfolding encode
encode_four c low = let one : 128 ≤ c = omega (arith, low) in let two : 2048 ≤ c = omega (arith, low) in rw (le-ltb c 128 one, le-ltb c 2048 two, le-ltb c 65536 low) refl

encode_one : (c : ℕ) → c < 128 → encode c ≡ c ∷ []
unfolding encode
encode_one c low = rw (lt-ltb c 128 low) refl

-- bytes after which these make the character d
made : (d : ℕ) (q e bs : List ℕ) → IsTried e → scalar d ≡ true → encode d ≡ bs → bs ≡ q ++ e → Completes q
made d q e bs t s k same = (e, t, utf8_char d (q ++ e) s (k ∙ same))

two_part : (c : ℕ) (q : List ℕ) (y : ℕ) (rest : List ℕ) → scalar c ≡ true → 128 ≤ c → c < 2048 → (192 + c / 64) ∷ (128 + c % 64) ∷ [] ≡ q ++ y ∷ rest → Completes q
two_part c [] y rest s low high e = ([], none, IsUtf8-nil)
two_part c (a ∷ []) y rest s low high e =
    let d = 64 * (c / 64) in
    let head : 192 + c / 64 ≡ a = cc in
    let first : 192 + d / 64 ≡ a = omega (arith, head) in
    let second : 128 + d % 64 ≡ 128 = omega arith in
    made d (a ∷ []) (128 ∷ []) _ one (scalar_low d (omega (arith, high))) (encode_two d (omega (arith, low)) (omega (arith, high))) (λ i. first i ∷ second i ∷ [])
two_part c (a ∷ b ∷ q) y rest s low high e = absurd (omega (arith, ap length e, length-append q (y ∷ rest)))

three_part : (c : ℕ) (q : List ℕ) (y : ℕ) (rest : List ℕ) → scalar c ≡ true → 2048 ≤ c → c < 65536 → (224 + c / 4096) ∷ (128 + (c / 64) % 64) ∷ (128 + c % 64) ∷ [] ≡ q ++ y ∷ rest → Completes q
three_part c [] y rest s low high e = ([], none, IsUtf8-nil)
three_part c (a ∷ []) y rest s low high e =
    let head : 224 + c / 4096 ≡ a = cc in
    ⊎_elim
    (λ (small : c < 4096).
    let first : 224 ≡ a = omega (arith, head, small) in
    made 2048 (a ∷ []) (160 ∷ 128 ∷ []) _ after_e0 (scalar_low 2048 (omega arith)) (encode_three 2048 (omega arith) (omega arith)) (λ i. first i ∷ 160 ∷ 128 ∷ []))
    (λ (large : 4096 ≤ c).
    let d = 4096 * (c / 4096) in
    let first : 224 + d / 4096 ≡ a = omega (arith, head) in
    let second : 128 + (d / 64) % 64 ≡ 128 = omega arith in
    let third : 128 + d % 64 ≡ 128 = omega arith in
    made d (a ∷ []) (128 ∷ 128 ∷ []) _ two (scalar_floor c d s (omega arith) (λ h. surrogate_jump c s h)) (encode_three d (omega (arith, large)) (omega (arith, high))) (λ i. first i ∷ second i ∷ third i ∷ []))
    (cases_lt c 4096)
  where
    surrogate_jump : (c : ℕ) → scalar c ≡ true → 55296 ≤ c → 57344 ≤ 4096 * (c / 4096)
    surrogate_jump c s h = elim (scalar_cases c s) [ inl l ↦ absurd (omega (arith, l, h)) | inr k ↦ let far = k.0 in omega (arith, far) ]
three_part c (a ∷ b ∷ []) y rest s low high e =
    let d = 64 * (c / 64) in
    let head : 224 + c / 4096 ≡ a = cc in
    let next : 128 + (c / 64) % 64 ≡ b = cc in
    let first : 224 + d / 4096 ≡ a = omega (arith, head) in
    let second : 128 + (d / 64) % 64 ≡ b = omega (arith, next) in
    let third : 128 + d % 64 ≡ 128 = omega arith in
    made d (a ∷ b ∷ []) (128 ∷ []) _ one (scalar_floor c d s (omega arith) (λ h. surrogate_jump c s h)) (encode_three d (omega (arith, low)) (omega (arith, high))) (λ i. first i ∷ second i ∷ third i ∷ [])
  where
    surrogate_jump : (c : ℕ) → scalar c ≡ true → 55296 ≤ c → 57344 ≤ 64 * (c / 64)
    surrogate_jump c s h = elim (scalar_cases c s) [ inl l ↦ absurd (omega (arith, l, h)) | inr k ↦ let far = k.0 in omega (arith, far) ]
three_part c (a ∷ b ∷ b' ∷ q) y rest s low high e = absurd (omega (arith, ap length e, length-append q (y ∷ rest)))

four_part : (c : ℕ) (q : List ℕ) (y : ℕ) (rest : List ℕ) → scalar c ≡ true → 65536 ≤ c → c < 1114112 → (240 + c / 262144) ∷ (128 + (c / 4096) % 64) ∷ (128 + (c / 64) % 64) ∷ (128 + c % 64) ∷ [] ≡ q ++ y ∷ rest → Completes q
four_part c [] y rest s low high e = ([], none, IsUtf8-nil)
four_part c (a ∷ []) y rest s low high e =
    let head : 240 + c / 262144 ≡ a = cc in
    ⊎_elim
    (λ (small : c < 262144).
    let first : 240 ≡ a = omega (arith, head, small) in
    made 65536 (a ∷ []) (144 ∷ 128 ∷ 128 ∷ []) _ after_f0 (scalar_high 65536 (omega arith) (omega arith)) (encode_four 65536 (omega arith)) (λ i. first i ∷ 144 ∷ 128 ∷ 128 ∷ []))
    (λ (large : 262144 ≤ c).
    let d = 262144 * (c / 262144) in
    let first : 240 + d / 262144 ≡ a = omega (arith, head) in
    let second : 128 + (d / 4096) % 64 ≡ 128 = omega arith in
    let third : 128 + (d / 64) % 64 ≡ 128 = omega arith in
    let fourth : 128 + d % 64 ≡ 128 = omega arith in
    made d (a ∷ []) (128 ∷ 128 ∷ 128 ∷ []) _ three (scalar_high d (omega (arith, large)) (omega (arith, high))) (encode_four d (omega (arith, large))) (λ i. first i ∷ second i ∷ third i ∷ fourth i ∷ []))
    (cases_lt c 262144)
four_part c (a ∷ b ∷ []) y rest s low high e =
    let d = 4096 * (c / 4096) in
    let head : 240 + c / 262144 ≡ a = cc in
    let next : 128 + (c / 4096) % 64 ≡ b = cc in
    let first : 240 + d / 262144 ≡ a = omega (arith, head) in
    let second : 128 + (d / 4096) % 64 ≡ b = omega (arith, next) in
    let third : 128 + (d / 64) % 64 ≡ 128 = omega arith in
    let fourth : 128 + d % 64 ≡ 128 = omega arith in
    made d (a ∷ b ∷ []) (128 ∷ 128 ∷ []) _ two (scalar_high d (omega (arith, low)) (omega (arith, high))) (encode_four d (omega (arith, low))) (λ i. first i ∷ second i ∷ third i ∷ fourth i ∷ [])
four_part c (a ∷ b ∷ b' ∷ []) y rest s low high e =
    let d = 64 * (c / 64) in
    let head : 240 + c / 262144 ≡ a = cc in
    let next : 128 + (c / 4096) % 64 ≡ b = cc in
    let last : 128 + (c / 64) % 64 ≡ b' = cc in
    let first : 240 + d / 262144 ≡ a = omega (arith, head) in
    let second : 128 + (d / 4096) % 64 ≡ b = omega (arith, next) in
    let third : 128 + (d / 64) % 64 ≡ b' = omega (arith, last) in
    let fourth : 128 + d % 64 ≡ 128 = omega arith in
    made d (a ∷ b ∷ b' ∷ []) (128 ∷ []) _ one (scalar_high d (omega (arith, low)) (omega (arith, high))) (encode_four d (omega (arith, low))) (λ i. first i ∷ second i ∷ third i ∷ fourth i ∷ [])
four_part c (a ∷ b ∷ b' ∷ b'' ∷ q) y rest s low high e = absurd (omega (arith, ap length e, length-append q (y ∷ rest)))

top : (c : ℕ) → scalar c ≡ true → c < 1114112
top c s = elim (scalar_cases c s) [ inl l ↦ omega (arith, l) | inr h ↦ h.1 ]

-- a prefix of the bytes of a character
part_completes : (c : ℕ) (q rest : List ℕ) → scalar c ≡ true → encode c ≡ q ++ rest → Completes q
part_completes c q [] s e = ([], none, utf8_char c (q ++ []) s e)
part_completes c q (y ∷ rest) s e = ⊎_elim
    (λ (h : c < 128). absurd_one q c y rest (sym (encode_one c h) ∙ e))
    (λ (low : 128 ≤ c). ⊎_elim
    (λ (h : c < 2048). two_part c q y rest s low h (sym (encode_two c low h) ∙ e))
    (λ (low : 2048 ≤ c). ⊎_elim
    (λ (h : c < 65536). three_part c q y rest s low h (sym (encode_three c low h) ∙ e))
    (λ (low : 65536 ≤ c). four_part c q y rest s low (top c s) (sym (encode_four c low) ∙ e))
    (cases_lt c 65536))
    (cases_lt c 2048))
    (cases_lt c 128)
  where
    absurd_one : (q : List ℕ) (c y : ℕ) (rest : List ℕ) → c ∷ [] ≡ q ++ y ∷ rest → Completes q
    absurd_one [] c y rest e = ([], none, IsUtf8-nil)
    absurd_one (x ∷ q) c y rest e = absurd (omega (arith, ap length e, length-append q (y ∷ rest)))

pub completes : (cs q m : List ℕ) → scalars cs ≡ true → encodes cs ≡ q ++ m → Completes q
completes [] [] m s e = ([], none, IsUtf8-nil)
completes [] (x ∷ q) m s e = absurd (cc)
completes (c ∷ cs) q m s e =
    let t = both_true (scalar c) (scalars cs) s in
    elim (two_cuts (encode c) (encodes cs) q m e) [
      | inl l ↦ part_completes c q l.rest t.0 l.prefix
      | inr l ↦
          let r = completes cs l.rest m t.1 l.back in
          (r.0, r.1, subst IsUtf8 (sym (append_assoc (encode c) l.rest r.0) ∙ ap (λ x. x ++ r.0) (sym l.prefix)) (IsUtf8-append (encode c) (l.rest ++ r.0) (utf8_char c (encode c) t.0 refl) r.2))
    ]

pub prefix_completes : (q m : List ℕ) → IsUtf8 (q ++ m) → Completes q
prefix_completes q m u = completes u.0 q m u.1.0 u.1.1
