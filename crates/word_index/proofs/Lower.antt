-- The runs of the bytes in lower case are the runs in lower case.
use Rattle.std.proofs.Common.{◌≡◌, ℕ, zero, suc, nat_le, ◌+◌, Bool, true, false, cond, List, [], ◌∷◌, length, take, map, filter, refl, sym, ap, subst, ◌∙◌, arith, ◌==◌}
use Rattle.std.specs.List.{prefix_len, take_while}
use Rattle.std.proofs.lemmas.Bool.Decides.{nat_tests}
use Rattle.std.proofs.lemmas.List.{length-map}
use Rattle.word_index.specs.Words.{is_word_byte, lower, lowered, is_short, runs, line_after, short_runs, file_words}

-- a byte in lower case is of a word where the byte is, and a newline where the byte is
word_byte_lower : (b : ℕ) → is_word_byte (lower b) ≡ is_word_byte b
word_byte_lower b = grind (arith, nat_tests)

newline_lower : (b : ℕ) → (lower b == 10) ≡ (b == 10)
newline_lower b = grind (arith, nat_tests)

-- the longest prefix of word bytes, in lower case
prefix_lower : (bs : List ℕ) → prefix_len is_word_byte (map lower bs) ≡ prefix_len is_word_byte bs
prefix_lower [] = refl
prefix_lower (b ∷ bs) = λ i. cond (word_byte_lower b i) (1 + prefix_lower bs i) 0

take_map : (n : ℕ) (bs : List ℕ) → take n (map lower bs) ≡ map lower (take n bs)
take_map zero bs = refl
take_map (suc n) [] = refl
take_map (suc n) (b ∷ bs) = ap (λ l. lower b ∷ l) (take_map n bs)

prefix_same : (bs : List ℕ) → take_while is_word_byte (map lower bs) ≡ map lower (take_while is_word_byte bs)
prefix_same bs = ap (λ n. take n (map lower bs)) (prefix_lower bs) ∙ take_map (prefix_len is_word_byte bs) bs

map_cond : (t : Bool) (xs ys : List (List ℕ × ℕ)) → cond t (map lowered xs) (map lowered ys) ≡ map lowered (cond t xs ys)
map_cond true xs ys = refl
map_cond false xs ys = refl

pub runs_lower : (inside : Bool) (line : ℕ) (bs : List ℕ) → runs inside line (map lower bs) ≡ map lowered (runs inside line bs)
runs_lower inside line [] = refl
runs_lower inside line (b ∷ bs) =
    let more = runs_lower true line bs in
    let following = ap (λ t. runs false (cond t (line + 1) line) (map lower bs)) (newline_lower b) ∙ runs_lower false (line_after line b) bs in
    let run = take_while is_word_byte (b ∷ bs) in
    let first = prefix_same (b ∷ bs) in
    (λ i. cond (word_byte_lower b i) (cond inside (more i) ((first i, line) ∷ more i)) (following i))
    ∙ ap (λ l. cond (is_word_byte b) l (map lowered (runs false (line_after line b) bs))) (map_cond inside (runs true line bs) ((run, line) ∷ runs true line bs))
    ∙ map_cond (is_word_byte b) (cond inside (runs true line bs) ((run, line) ∷ runs true line bs)) (runs false (line_after line b) bs)

short_lower : (rs : List (List ℕ × ℕ)) → filter is_short (map lowered rs) ≡ map lowered (filter is_short rs)
short_lower [] = refl
short_lower (r ∷ rs) =
    let rest = short_lower rs in
    (λ i. cond (nat_le (length-map r.0 lower i) 64) (lowered r ∷ rest i) (rest i)) ∙ map_cond (is_short r) (r ∷ filter is_short rs) (filter is_short rs)

-- the words of a file
pub file_words_lower : (bytes : List ℕ) → short_runs (map lower bytes) ≡ file_words bytes
file_words_lower bytes = ap (filter is_short) (runs_lower false 1 bytes) ∙ short_lower (runs false 1 bytes)
