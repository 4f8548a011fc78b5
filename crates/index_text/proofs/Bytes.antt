-- What loops over bytes find.
use Rattle.std.proofs.Common.{◌≡◌, inl, inr, ℕ, suc, ◌+◌, ◌-◌, ◌<◌, Bool, true, false, List, [], ◌∷◌, ◌++◌, length, get_or, drop, take, arith, refl, sym, ap, subst, ◌∙◌, Result, Ok, Err, is_ok, Option, Some, None, append-nil, append_assoc, cond, lt-ltb}
use Rattle.std.specs.Prelude.{◌==◌, ◌&&◌, nat_lt}
use Rattle.std.specs.Option.{unwrap_or}
use Rattle.std.specs.Result.{MatchResult}
use Rattle.std.specs.Str.{IsUtf8, is_utf8}
use Rattle.std.proofs.Math.Seq.{drop-cons}
use Rattle.std.proofs.lemmas.Str.{IsUtf8-from_is_utf8, is_utf8-from_IsUtf8}
use Rattle.std.specs.List.{AllByRecursion}
use Rattle.std.proofs.lemmas.List.{take_all, length-drop, take-append-drop}
use Rattle.exact_text.specs.declared.stop.Stop.{Stop}
use Rattle.exact_text.specs.declared.stop.Stop.TheVariants.{More, Dead}
use Rattle.exact_text.specs.Reading.{◌>>=◌}
use Rattle.index_text.specs.Lines.{is_prefix, unescaped, put, token_from, path_at, path_of, prefix_of, plain, is_path, is_path_prefix, is_no_newline, is_above}
use Rattle.index_text.proofs.Tokens.{either_bool, token_over}
use Rattle.index_text.proofs.Escaping.{before}

pub prefix_long : (xs ys : List ℕ) → length ys < length xs → false ≡ is_prefix xs ys
prefix_long [] ys h = absurd (omega (arith, h))
prefix_long (x ∷ xs) [] h = refl
prefix_long (x ∷ xs) (y ∷ ys) h = sym (ap (λ b. (x == y) && b) (sym (prefix_long xs ys (omega (arith, h)))) ∙ never (x == y))
  where
    never : (b : Bool) → (b && false) ≡ false
    never true = refl
    never false = refl

pub prefix_step : (xs ys : List ℕ) (i : ℕ) → i < length xs → i < length ys → is_prefix (drop i xs) (drop i ys) ≡ ((get_or xs i 0 == get_or ys i 0) && is_prefix (drop (i + 1) xs) (drop (i + 1) ys))
prefix_step xs ys i h k =
    let next : suc i ≡ i + 1 = omega arith in
    (λ j. is_prefix (drop-cons xs i 0 h j) (drop-cons ys i 0 k j)) ∙ ap (λ n. (get_or xs i 0 == get_or ys i 0) && is_prefix (drop n xs) (drop n ys)) next

pub is_text : {T E : Type 0} (r : Result T E) (bs : List ℕ) (P : T → Type 0) (Q : E → Type 0) → MatchResult r (λ s. P s × IsUtf8 bs) (λ e. (IsUtf8 bs → ⊥) × Q e) → is_ok r ≡ is_utf8 bs
is_text (Ok s) bs P Q h = sym (is_utf8-from_IsUtf8 bs h.1)
is_text (Err e) bs P Q h = elim (either_bool (is_utf8 bs)) [
  | inl t ↦ absurd (h.0 (IsUtf8-from_is_utf8 bs t))
  | inr f ↦ sym f
]

pub at_byte : (end : Option (List ℕ)) (pending : Bool) (bytes : List ℕ) (i : ℕ) → i < length bytes → unescaped end pending (drop i bytes) ≡ unescaped end pending (get_or bytes i 0 ∷ drop (i + 1) bytes)
at_byte end pending bytes i h = let next : suc i ≡ i + 1 = omega arith in ap (unescaped end pending) (drop-cons bytes i 0 h ∙ ap (λ n. get_or bytes i 0 ∷ drop n bytes) next)

pub before_push : (out : List ℕ) (b : ℕ) (o : Option (List ℕ)) → before out (put b o) ≡ before (out ++ b ∷ []) o
before_push out b None = refl
before_push out b (Some l) = ap Some (sym (append_assoc out (b ∷ []) l))

module _ (ok : ℕ → Bool) (good grow : List ℕ → Bool) (stop : ℕ) where
  pub token_end : (bytes : List ℕ) (at : ℕ) → at ≡ length bytes → AllByRecursion (λ b. ok b ≡ true) (take at bytes) → token_from ok good grow stop [] bytes ≡ cond (grow bytes) (Err More) (Err Dead)
  token_end bytes at e h =
      let all : take at bytes ≡ bytes = take_all at bytes (omega (arith, e)) in
      ap (token_from ok good grow stop []) (sym (append-nil bytes)) ∙ token_over ok good grow stop [] bytes [] (subst (AllByRecursion (λ b. ok b ≡ true)) all h)

  pub token_stop : (bytes : List ℕ) (at : ℕ) → at < length bytes → AllByRecursion (λ b. ok b ≡ true) (take at bytes) → ok (get_or bytes at 0) ≡ false
      → token_from ok good grow stop [] bytes ≡ cond ((get_or bytes at 0 == stop) && good (take at bytes)) (Ok (take at bytes, drop (at + 1) bytes)) (Err Dead)
  token_stop bytes at h p ends =
      let next : suc at ≡ at + 1 = omega arith in
      let c = get_or bytes at 0 in
      let split : bytes ≡ take at bytes ++ c ∷ drop (at + 1) bytes = sym (take-append-drop at bytes) ∙ ap (λ l. take at bytes ++ l) (drop-cons bytes at 0 h ∙ ap (λ n. c ∷ drop n bytes) next) in
      ap (token_from ok good grow stop []) split ∙ token_over ok good grow stop [] (take at bytes) (c ∷ drop (at + 1) bytes) p ∙ rw ends refl

-- the bytes after a place, as a slice gives them
pub slice_after : (bytes : List ℕ) (n : ℕ) → take (length bytes - n) (drop n bytes) ≡ drop n bytes
slice_after bytes n = take_all (length bytes - n) (drop n bytes) (omega (arith, length-drop n bytes))

abbrev Read : Type 0
Read = Result (List ℕ × List ℕ) Stop

abbrev plainly : Read → Read
plainly r = r >>= λ x. let y : List ℕ × List ℕ = (plain x.0, x.1) in Ok y

pub path_end : (last : Option (List ℕ)) (bytes : List ℕ) (at : ℕ) → at ≡ length bytes → AllByRecursion (λ b. is_no_newline b ≡ true) (take at bytes) → path_at last bytes ≡ cond (is_path_prefix last (prefix_of bytes)) (Err More) (Err Dead)
path_end last bytes at e h =
    ap plainly (token_end is_no_newline (λ l. is_path last (path_of l)) (λ l. is_path_prefix last (prefix_of l)) 10 bytes at e h)
    ∙ by (is_path_prefix last (prefix_of bytes))
  where
    by : (b : Bool) → plainly (cond b (Err More) (Err Dead)) ≡ cond b (Err More) (Err Dead)
    by true = refl
    by false = refl

pub path_stop : (last : Option (List ℕ)) (bytes : List ℕ) (at : ℕ) → at < length bytes → AllByRecursion (λ b. is_no_newline b ≡ true) (take at bytes) → get_or bytes at 0 ≡ 10
    → path_at last bytes ≡ cond (is_path last (path_of (take at bytes))) (Ok (plain (take at bytes), drop (at + 1) bytes)) (Err Dead)
path_stop last bytes at h p ten =
    let no : is_no_newline (get_or bytes at 0) ≡ false = ap is_no_newline ten in
    let same : ((get_or bytes at 0 == 10) && is_path last (path_of (take at bytes))) ≡ is_path last (path_of (take at bytes)) = ap (λ b. (b == 10) && is_path last (path_of (take at bytes))) ten in
    ap plainly (token_stop is_no_newline (λ l. is_path last (path_of l)) (λ l. is_path_prefix last (prefix_of l)) 10 bytes at h p no ∙ ap (λ b. cond b (Ok (take at bytes, drop (at + 1) bytes)) (Err Dead)) same)
    ∙ by (is_path last (path_of (take at bytes)))
  where
    by : (b : Bool) → plainly (cond b (Ok (take at bytes, drop (at + 1) bytes)) (Err Dead)) ≡ cond b (Ok (plain (take at bytes), drop (at + 1) bytes)) (Err Dead)
    by true = refl
    by false = refl

pub path_good : (last : Option (List ℕ)) (bytes p : List ℕ) (at : ℕ) → at < length bytes → AllByRecursion (λ b. is_no_newline b ≡ true) (take at bytes) → get_or bytes at 0 ≡ 10
    → path_of (take at bytes) ≡ Some p → is_path last (Some p) ≡ true → path_at last bytes ≡ Ok (p, drop (at + 1) bytes)
path_good last bytes p at h q ten is good =
    path_stop last bytes at h q ten ∙ ap (λ b. cond b (Ok (plain (take at bytes), drop (at + 1) bytes)) (Err Dead)) (ap (is_path last) is ∙ good) ∙ ap (λ o. Ok (unwrap_or o [], drop (at + 1) bytes)) is

pub path_bad : (last : Option (List ℕ)) (bytes : List ℕ) (at : ℕ) → at < length bytes → AllByRecursion (λ b. is_no_newline b ≡ true) (take at bytes) → get_or bytes at 0 ≡ 10
    → is_path last (path_of (take at bytes)) ≡ false → path_at last bytes ≡ Err Dead
path_bad last bytes at h q ten bad = path_stop last bytes at h q ten ∙ ap (λ b. cond b (Ok (plain (take at bytes), drop (at + 1) bytes)) (Err Dead)) bad

-- what the test of a path says, where its parts are known
pub path_test : (last : Option (List ℕ)) (p : List ℕ) → 0 < length p → (t a : Bool) → t ≡ is_utf8 p → a ≡ is_above last p → t ≡ true → a ≡ is_path last (Some p)
path_test last p some t a text above good = above ∙ sym (ap (λ b. b && is_above last p) (ap (λ b. b && is_utf8 p) (lt-ltb 0 (length p) some) ∙ sym text ∙ good))

pub path_test_none : (last : Option (List ℕ)) (p : List ℕ) → false ≡ is_utf8 p → false ≡ is_path last (Some p)
path_test_none last p text = sym (ap (λ b. b && is_above last p) (ap (λ b. nat_lt 0 (length p) && b) (sym text) ∙ never (nat_lt 0 (length p))))
  where
    never : (b : Bool) → (b && false) ≡ false
    never true = refl
    never false = refl

-- the bytes so far, and the next one
pub unescape_fails : (bytes out : List ℕ) (pending : Bool) (i : ℕ) → i < length bytes → ((end : Option (List ℕ)) → unescaped end false bytes ≡ before out (unescaped end pending (drop i bytes)))
    → ((end : Option (List ℕ)) (rest : List ℕ) → unescaped end pending (get_or bytes i 0 ∷ rest) ≡ None) → (end : Option (List ℕ)) → unescaped end false bytes ≡ None
unescape_fails bytes out pending i h inv step end = inv end ∙ ap (before out) (at_byte end pending bytes i h ∙ step end (drop (i + 1) bytes))

pub unescape_waits : (bytes out : List ℕ) (pending : Bool) (i : ℕ) → i < length bytes → ((end : Option (List ℕ)) → unescaped end false bytes ≡ before out (unescaped end pending (drop i bytes)))
    → ((end : Option (List ℕ)) (rest : List ℕ) → unescaped end pending (get_or bytes i 0 ∷ rest) ≡ unescaped end true rest) → (end : Option (List ℕ)) → unescaped end false bytes ≡ before out (unescaped end true (drop (i + 1) bytes))
unescape_waits bytes out pending i h inv step end = inv end ∙ ap (before out) (at_byte end pending bytes i h ∙ step end (drop (i + 1) bytes))

pub unescape_puts : (bytes out : List ℕ) (pending : Bool) (i b : ℕ) → i < length bytes → ((end : Option (List ℕ)) → unescaped end false bytes ≡ before out (unescaped end pending (drop i bytes)))
    → ((end : Option (List ℕ)) (rest : List ℕ) → unescaped end pending (get_or bytes i 0 ∷ rest) ≡ put b (unescaped end false rest)) → (end : Option (List ℕ)) → unescaped end false bytes ≡ before (out ++ b ∷ []) (unescaped end false (drop (i + 1) bytes))
unescape_puts bytes out pending i b h inv step end = inv end ∙ ap (before out) (at_byte end pending bytes i h ∙ step end (drop (i + 1) bytes)) ∙ before_push out b (unescaped end false (drop (i + 1) bytes))

pub false_text : (p : List ℕ) → (IsUtf8 p → ⊥) → false ≡ is_utf8 p
false_text p h = elim (either_bool (is_utf8 p)) [
  | inl t ↦ absurd (h (IsUtf8-from_is_utf8 p t))
  | inr f ↦ sym f
]

pub not_empty : (xs : List ℕ) → false ≡ (length xs == 0) → 0 < length xs
not_empty [] h = absurd (cc)
not_empty (x ∷ xs) h = omega arith
