-- The runs of bytes are those that begin at the places of runs.
use Rattle.std.proofs.Common.{◌≡◌, ℕ, zero, suc, ◌+◌, ◌<◌, ◌≤◌, Bool, true, false, cond, not, ◌&&◌, ◌==◌, List, [], ◌∷◌, ◌++◌, length, get_or, take, drop, map, filter, refl, sym, ap, subst, ◌∙◌, arith, add_assoc, add-one}
use Rattle.std.specs.Prelude.{count_by}
use Rattle.std.specs.List.{take_while, range_with_len}
use Rattle.std.proofs.lemmas.Bool.Decides.{nat_tests}
use Rattle.std.proofs.lemmas.List.{drop_all, drop_more}
use Rattle.std.proofs.lemmas.List.Sums.{count_by_more_yes, count_by_more_no}
use Rattle.word_index.specs.Words.{is_word_byte, line_after, runs}
use Rattle.word_index.specs.Places.{follows_word_byte, begins_run, run_at, places}

word_no_newline : (b : ℕ) → is_word_byte b ≡ true → (b == 10) ≡ false
word_no_newline b word = grind (arith, nat_tests)

abbrev line_at : List ℕ → ℕ → ℕ
line_at bytes k = 1 + count_by (λ b. b == 10) (take k bytes)

line_next : (bytes : List ℕ) (k : ℕ) → k < length bytes → line_at bytes (k + 1) ≡ line_after (line_at bytes k) (get_or bytes k 0)
line_next bytes k here = by (get_or bytes k 0 == 10) refl
  where
    by : (t : Bool) → (get_or bytes k 0 == 10) ≡ t → line_at bytes (k + 1) ≡ cond t (line_at bytes k + 1) (line_at bytes k)
    by true e = ap (λ n. 1 + n) (count_by_more_yes (λ b. b == 10) bytes k 0 here e) ∙ sym (add_assoc 1 (count_by (λ b. b == 10) (take k bytes)) 1)
    by false e = ap (λ n. 1 + n) (count_by_more_no (λ b. b == 10) bytes k 0 here e)

-- one more byte
module _ (bytes : List ℕ) (k : ℕ) (b : ℕ) (rest : List ℕ) (split : drop k bytes ≡ b ∷ rest) (line : ℕ) (at : line_at bytes k ≡ line) (more : List ℕ) where
  one_more : (w f : Bool) → is_word_byte b ≡ w → runs w (line_after line b) rest ≡ map (run_at bytes) more
      → cond w (cond f (runs true line rest) ((take_while is_word_byte (b ∷ rest), line) ∷ runs true line rest)) (runs false (line_after line b) rest)
      ≡ map (run_at bytes) (cond (w && not f) (k ∷ more) more)
  one_more false f e h = h
  one_more true true e h = sym (ap (λ t. runs true (cond t (line + 1) line) rest) (word_no_newline b e)) ∙ h
  one_more true false e h =
      let same = sym (ap (λ t. runs true (cond t (line + 1) line) rest) (word_no_newline b e)) ∙ h in
      λ i. (take_while is_word_byte (sym split i), sym at i) ∷ same i

runs_from_place : (bytes : List ℕ) (k m : ℕ) → k + m ≡ length bytes
    → runs (follows_word_byte bytes k) (line_at bytes k) (drop k bytes) ≡ map (run_at bytes) (filter (begins_run bytes) (range_with_len k m))
runs_from_place bytes k zero ends = ap (runs (follows_word_byte bytes k) (line_at bytes k)) (drop_all k bytes (omega (arith, ends)))
runs_from_place bytes k (suc m) ends =
    let b = get_or bytes k 0 in
    let rest = drop (k + 1) bytes in
    let here : k < length bytes = omega (arith, ends) in
    let split = drop_more bytes k 0 here in
    let later = runs_from_place bytes (k + 1) m (omega (arith, ends)) in
    let inside = ap (follows_word_byte bytes) (add-one k) in
    let line = line_next bytes k here in
    let next = sym (λ i. runs (inside i) (line i) rest) ∙ later in
    ap (runs (follows_word_byte bytes k) (line_at bytes k)) split
    ∙ one_more bytes k b rest split (line_at bytes k) refl (filter (begins_run bytes) (range_with_len (k + 1) m)) (is_word_byte b) (follows_word_byte bytes k) refl next

pub runs_by_place : (bytes : List ℕ) → runs false 1 bytes ≡ map (run_at bytes) (filter (begins_run bytes) (places bytes))
runs_by_place bytes = runs_from_place bytes 0 (length bytes) (omega arith)
