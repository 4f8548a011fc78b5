-- Reading one word or the other is exact.
use Rattle.std.proofs.Common.{◌≡◌, ℕ, ◌⊎◌, inl, inr, List, [], ◌++◌, refl, sym, append-nil, Bool, true, false}
use Rattle.exact_text.specs.Codes.{IsCode}
use Rattle.exact_text.specs.Reading.{flag_at}
use Rattle.exact_text.proofs.CodeLaws.{AreApart, same_code, lawful_code, word_code, nothing_code, or_code}
use Rattle.exact_text.proofs.Choices.{differ, differ-apart}

-- the word that tells the flag
abbrev pub flag_text : List ℕ → List ℕ → Bool → List ℕ
flag_text one other true = one
flag_text one other false = other

flag_true : (one other : List ℕ) (b : Bool) → b ≡ true → flag_text one other b ≡ one ++ []
flag_true one other true h = sym (append-nil one)
flag_true one other false h = absurd (cc)

flag_false : (one other : List ℕ) (b : Bool) → b ≡ false → flag_text one other b ≡ other ++ []
flag_false one other true h = absurd (cc)
flag_false one other false h = sym (append-nil other)

flag_apart : (one other : List ℕ) → differ one other ≡ true → AreApart (λ b. b ≡ true) (λ b. b ≡ false) (flag_text one other)
flag_apart one other d true true a b h k e = absurd (cc)
flag_apart one other d true false a b h k e = differ-apart one other a b d e
flag_apart one other d false y a b h k e = absurd (cc)

which : (b : Bool) → (b ≡ true) ⊎ (b ≡ false)
which true = inl refl
which false = inr refl

pub flag_code : (one other : List ℕ) → differ one other ≡ true → IsCode (λ (b : Bool). Unit {0}) (flag_text one other) (flag_at one other)
flag_code one other d =
    let is_one = lawful_code (word_code (nothing_code true (λ b. b ≡ true) (λ _. []) refl (λ b h. h) refl) one (true, refl)) (flag_text one other) (flag_true one other) in
    let is_other = lawful_code (word_code (nothing_code false (λ b. b ≡ false) (λ _. []) refl (λ b h. h) refl) other (false, refl)) (flag_text one other) (flag_false one other) in
    same_code (or_code is_one is_other (flag_apart one other d)) (λ b. Unit {0}) (flag_text one other) (λ b. refl) (λ b h. tt) (λ b h. which b)
