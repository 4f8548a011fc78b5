-- Where the quick way of reading a place agrees with the plain one.
use Rattle.std.proofs.Common.{◌≡◌, ℕ, ◌^◌, List, [], ◌∷◌, ◌++◌, refl, ap, sym, ◌∙◌, append_assoc, Ok, arith}
use Rattle.std.specs.Prelude.{codes, decimal}
use Rattle.exact_text.specs.Reading.{word_at, number_at}
use Rattle.trace_core.specs.Lines.{place_at}
use Rattle.exact_text.proofs.Words.{word_at-again}
use Rattle.exact_text.proofs.Numbers.{number_at-found}

place_is : (n : ℕ) (rest : List ℕ) → place_at n (decimal n ++ (32 ∷ rest)) ≡ word_at (codes "t") rest
place_is n rest = rw (word_at-again (decimal n) (32 ∷ rest)) refl

-- a number with a space after it is the place
pub place_read : (n place : ℕ) (bytes rest : List ℕ) → n ≡ place → number_at 0 (2 ^ 64) 32 bytes ≡ Ok (n, rest) → place_at place bytes ≡ word_at (codes "t") rest
place_read n place bytes rest same e =
    let f = number_at-found 0 (2 ^ 64) 32 (omega arith) bytes rest n e in
    ap (λ m. place_at m bytes) (sym same) ∙ ap (place_at n) (f.1 ∙ append_assoc (decimal n) (32 ∷ []) rest) ∙ place_is n rest
