-- What stands from a place in the bytes on.
use Rattle.std.proofs.Common.{◌≡◌, ℕ, suc, ◌+◌, ◌-◌, ◌<◌, ◌≤◌, Bool, true, false, cond, List, [], ◌∷◌, length, get_or, take, drop, refl, sym, ap, subst, ◌∙◌, arith, drop-cons, add-one}
use Rattle.std.specs.List.{prefix_len, take_while, slice_range}
use Rattle.std.proofs.lemmas.List.{drop-drop}
use Rattle.word_index.specs.Words.{is_word_byte, runs, line_after}

-- one more byte is passed
drop_one_more : (b : ℕ) (bs : List ℕ) (m : ℕ) → drop (1 + m) (b ∷ bs) ≡ drop m bs
drop_one_more b bs m = subst (λ k. drop k (b ∷ bs) ≡ drop m bs) {x = suc m} (omega arith) refl

-- inside a run, the next run begins after it
pub runs_inside : (line : ℕ) (bs : List ℕ) → runs true line bs ≡ runs false line (drop (prefix_len is_word_byte bs) bs)
runs_inside line [] = refl
runs_inside line (b ∷ bs) = by (is_word_byte b) refl (runs_inside line bs)
  where
    by : (t : Bool) → is_word_byte b ≡ t → runs true line bs ≡ runs false line (drop (prefix_len is_word_byte bs) bs)
        → cond t (runs true line bs) (runs false (line_after line b) bs) ≡ runs false line (drop (cond t (1 + prefix_len is_word_byte bs) 0) (b ∷ bs))
    by true e h = h ∙ ap (runs false line) (sym (drop_one_more b bs _))
    by false e h = sym (rw e refl)

-- at a word byte after none, a run stands, and what follows begins after it
pub runs_at_word : (line b : ℕ) (bs : List ℕ) → is_word_byte b ≡ true → runs false line (b ∷ bs) ≡ (take_while is_word_byte (b ∷ bs), line) ∷ runs false line (drop (prefix_len is_word_byte (b ∷ bs)) (b ∷ bs))
runs_at_word line b bs e =
    let n : Bool → ℕ = λ t. cond t (1 + prefix_len is_word_byte bs) 0 in
    subst (λ t. cond t ((take (n t) (b ∷ bs), line) ∷ runs true line bs) (runs false (line_after line b) bs) ≡ (take (n t) (b ∷ bs), line) ∷ runs false line (drop (n t) (b ∷ bs)))
    (sym e)
    (ap (λ r. (take (n true) (b ∷ bs), line) ∷ r) (runs_inside line bs ∙ ap (runs false line) (sym (drop_one_more b bs _))))

-- the same from a place in the bytes on
pub runs_from : (line at : ℕ) (bytes : List ℕ) → at < length bytes → is_word_byte (get_or bytes at 0) ≡ true
    → let end = at + prefix_len is_word_byte (drop at bytes) in
    runs false line (drop at bytes) ≡ (slice_range bytes at end, line) ∷ runs false line (drop end bytes)
runs_from line at bytes inside word =
    let n = prefix_len is_word_byte (drop at bytes) in
    let found : runs false line (drop at bytes) ≡ (take n (drop at bytes), line) ∷ runs false line (drop n (drop at bytes)) =
    rw (drop-cons bytes at 0 inside) (runs_at_word line (get_or bytes at 0) (drop (suc at) bytes) word) in
    let width : at + n - at ≡ n = omega arith in
    rw width (rw (← drop-drop n at bytes) found)
