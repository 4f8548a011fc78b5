-- The lines of a word: what stands before a path, written from its end on or at once, and the ends of lines, each put with the next line.
use Rattle.std.proofs.Common.{◌≡◌, ℕ, ◌+◌, ◌-◌, List, [], ◌∷◌, ◌++◌, length, take, decimal, codes, sym, ap, ◌∙◌, append_assoc, append-nil, arith, ◌<◌, ◌≤◌, refl, ◌/◌, ◌%◌}
use Rattle.std.proofs.Math.Seq.{take-length}
use Rattle.std.proofs.lemmas.Fmt.{decimal_digit}
use Rattle.std.specs.List.{flat_map}
use Rattle.itoa.proofs.Decimal.{decimal_two}
use Rattle.text_output.specs.Paths.{newline}
use Rattle.word_index.specs.Index.{Hit}
use Rattle.index_print.specs.Text.{hit_after, hit_prefix, hit_lead, hit_line}

parts : (count line : ℕ) → 32 ∷ 32 ∷ (decimal count ++ (32 ∷ (decimal line ++ 32 ∷ []))) ≡ hit_prefix count line
parts count line =
    let two = codes "  " in
    let one = codes " " in
    sym (append_assoc (two ++ decimal count ++ one) (decimal line) one ∙ append_assoc (two ++ decimal count) one (decimal line ++ one) ∙ append_assoc two (decimal count) (one ++ (decimal line ++ one)))

pub prefix_written : (count line : ℕ) (a b c d e f g : List ℕ) → a ≡ [] → b ≡ 32 ∷ a → c ≡ decimal line ++ b → d ≡ 32 ∷ c → e ≡ decimal count ++ d → f ≡ 32 ∷ e → g ≡ 32 ∷ f → g ≡ hit_prefix count line
prefix_written count line a b c d e f g none last second mid first space spaces =
    let lines = second ∙ ap (λ l. decimal line ++ l) (last ∙ ap (λ l. 32 ∷ l) none) in
    let counts = first ∙ ap (λ l. decimal count ++ l) (mid ∙ ap (λ l. 32 ∷ l) lines) in
    spaces ∙ ap (λ l. 32 ∷ l) (space ∙ ap (λ l. 32 ∷ l) counts) ∙ parts count line

-- what is after the start is all of it
pub all_of : (text : List ℕ) (start : ℕ) → start + length text ≡ 64 → take (64 - start) text ≡ text
all_of text start e = let n : 64 - start ≡ length text = omega (arith, e) in ap (λ k. take k text) n ∙ take-length text

-- numbers of one digit, and a line of two
pub short_lead : (count line : ℕ) → count < 10 → line < 10 → hit_lead count line ≡ 10 ∷ 32 ∷ 32 ∷ (48 + count) ∷ 32 ∷ (48 + line) ∷ 32 ∷ []
short_lead count line c l = rw (decimal_digit count c, decimal_digit line l) refl

pub middle_lead : (count line : ℕ) → count < 10 → 10 ≤ line → line < 100
    → hit_lead count line ≡ 10 ∷ 32 ∷ 32 ∷ (48 + count) ∷ 32 ∷ (48 + line / 10) ∷ (48 + line % 10) ∷ 32 ∷ []
middle_lead count line c least most = rw (decimal_digit count c, decimal_two line least most) refl

-- each line's end put before the next line
pub ends_moved : (start : List ℕ) (hits : List Hit) → (start ++ flat_map hit_after hits) ++ newline ≡ (start ++ newline) ++ flat_map hit_line hits
ends_moved start [] = ap (λ l. l ++ newline) (append-nil start) ∙ sym (append-nil (start ++ newline))
ends_moved start (hit ∷ hits) =
    let here : (start ++ hit_after hit) ++ newline ≡ (start ++ newline) ++ hit_line hit = append_assoc start (hit_after hit) newline ∙ sym (append_assoc start newline (hit_line hit)) in
    ap (λ l. l ++ newline) (sym (append_assoc start (hit_after hit) (flat_map hit_after hits)))
    ∙ ends_moved (start ++ hit_after hit) hits
    ∙ ap (λ l. l ++ flat_map hit_line hits) here
    ∙ append_assoc (start ++ newline) (hit_line hit) (flat_map hit_line hits)
