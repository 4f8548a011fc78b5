-- What the functions that read words, paths and lines return.
use Rattle.std.proofs.Common.{◌≡◌, ℕ, ◌+◌, ◌-◌, ◌<◌, Bool, true, false, List, length, get_or, drop, take, sym, ap, ◌∙◌, Result, Ok, Err, Option, Some, None, cond}
use Rattle.std.specs.Prelude.{◌&&◌}
use Rattle.std.specs.List.{AllByRecursion}
use Rattle.std.proofs.lemmas.Bool.{eq-eqb, ne_eqb}
use Rattle.exact_text.specs.declared.stop.Stop as exact
use Rattle.exact_text.specs.declared.stop.Stop.TheVariants as stops
use Rattle.exact_text.specs.Reading.{◌>>=◌}
use Rattle.index_text.specs.declared.fault.Stop.{Stop}
use Rattle.index_text.specs.declared.fault.Stop.TheVariants.{Memory, More, Dead}
use Rattle.index_text.specs.Texts.{is_key_byte}
use Rattle.index_text.specs.Lines.{key_at, is_good_word, may_be_word, path_at, path_of, prefix_of, is_path, is_path_prefix, is_no_newline}
use Rattle.index_text.specs.Steps.{Gives}
use Rattle.index_text.proofs.Bytes.{token_end, token_stop, slice_after, path_end, path_good, path_bad}

abbrev Passed : (ℕ → Bool) → ℕ → List ℕ → Type 0
Passed ok at bytes = AllByRecursion (λ b. ok b ≡ true) (take at bytes)

module _ (last : Option (List ℕ)) (bytes : List ℕ) (at : ℕ) where
  pub key_more : at ≡ length bytes → Passed is_key_byte at bytes → true ≡ may_be_word last bytes → key_at last bytes ≡ Err stops.More
  key_more e h may = token_end is_key_byte (is_good_word last) (may_be_word last) 32 bytes at e h ∙ ap (λ b. cond b (Err stops.More) (Err stops.Dead)) (sym may)

  pub key_gone : at ≡ length bytes → Passed is_key_byte at bytes → false ≡ may_be_word last bytes → key_at last bytes ≡ Err stops.Dead
  key_gone e h may = token_end is_key_byte (is_good_word last) (may_be_word last) 32 bytes at e h ∙ ap (λ b. cond b (Err stops.More) (Err stops.Dead)) (sym may)

  module _ (h : at < length bytes) (p : Passed is_key_byte at bytes) (ends : is_key_byte (get_or bytes at 0) ≡ false) where
    pub key_other : (get_or bytes at 0 ≡ 32 → ⊥) → key_at last bytes ≡ Err stops.Dead
    key_other apart =
        token_stop is_key_byte (is_good_word last) (may_be_word last) 32 bytes at h p ends
        ∙ ap (λ b. cond (b && is_good_word last (take at bytes)) (Ok (take at bytes, drop (at + 1) bytes)) (Err stops.Dead)) (ne_eqb (get_or bytes at 0) 32 apart)

    spaced : get_or bytes at 0 ≡ 32 → key_at last bytes ≡ cond (is_good_word last (take at bytes)) (Ok (take at bytes, drop (at + 1) bytes)) (Err stops.Dead)
    spaced e =
        token_stop is_key_byte (is_good_word last) (may_be_word last) 32 bytes at h p ends
        ∙ ap (λ b. cond (b && is_good_word last (take at bytes)) (Ok (take at bytes, drop (at + 1) bytes)) (Err stops.Dead)) (eq-eqb (get_or bytes at 0) 32 e)

    pub key_good : get_or bytes at 0 ≡ 32 → true ≡ is_good_word last (take at bytes) → key_at last bytes ≡ Ok (take at bytes, take (length bytes - (at + 1)) (drop (at + 1) bytes))
    key_good e good =
        spaced e ∙ ap (λ b. cond b (Ok (take at bytes, drop (at + 1) bytes)) (Err stops.Dead)) (sym good) ∙ ap (λ t. Ok (take at bytes, t)) (sym (slice_after bytes (at + 1)))

    pub key_bad : get_or bytes at 0 ≡ 32 → false ≡ is_good_word last (take at bytes) → key_at last bytes ≡ Err stops.Dead
    key_bad e good = spaced e ∙ ap (λ b. cond b (Ok (take at bytes, drop (at + 1) bytes)) (Err stops.Dead)) (sym good)

  pub path_more : at ≡ length bytes → Passed is_no_newline at bytes → true ≡ is_path_prefix last (prefix_of bytes) → path_at last bytes ≡ Err stops.More
  path_more e h may = path_end last bytes at e h ∙ ap (λ b. cond b (Err stops.More) (Err stops.Dead)) (sym may)

  pub path_gone : at ≡ length bytes → Passed is_no_newline at bytes → false ≡ is_path_prefix last (prefix_of bytes) → path_at last bytes ≡ Err stops.Dead
  path_gone e h may = path_end last bytes at e h ∙ ap (λ b. cond b (Err stops.More) (Err stops.Dead)) (sym may)

  module _ (h : at < length bytes) (p : Passed is_no_newline at bytes) (ten : get_or bytes at 0 ≡ 10) where
    pub path_read : (out : List ℕ) → path_of (take at bytes) ≡ Some out → true ≡ is_path last (Some out) → path_at last bytes ≡ Ok (out, take (length bytes - (at + 1)) (drop (at + 1) bytes))
    path_read out is good = path_good last bytes out at h p ten is (sym good) ∙ ap (λ t. Ok (out, t)) (sym (slice_after bytes (at + 1)))

    pub path_refused : (out : List ℕ) → path_of (take at bytes) ≡ Some out → false ≡ is_path last (Some out) → path_at last bytes ≡ Err stops.Dead
    path_refused out is good = path_bad last bytes at h p ten (ap (is_path last) is ∙ sym good)

    pub path_none : path_of (take at bytes) ≡ None → path_at last bytes ≡ Err stops.Dead
    path_none is = path_bad last bytes at h p ten (ap (is_path last) is)

-- what stops the first part stops the whole
pub bind_stops : {X X' Y Y' : Type 0} (v : X → Y) (v' : X' → Y') (r : Result Y exact.Stop) (f : Y → Result Y' exact.Stop) (s : Stop) → Gives v (Err s) r → Gives v' (Err s) (r >>= f)
bind_stops v v' r f Memory h = tt
bind_stops v v' r f More h = ap (λ q. q >>= f) h
bind_stops v v' r f Dead h = ap (λ q. q >>= f) h
