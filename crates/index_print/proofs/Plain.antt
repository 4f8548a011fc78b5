-- Paths of which each byte stands for itself on a line.
use Rattle.std.proofs.Common.{◌≡◌, ℕ, ◌+◌, ◌<◌, List, [], ◌∷◌, ◌++◌, length, take, true, get_or, suc, subst, arith}
use Rattle.std.proofs.Math.Seq.{take-suc}
use Rattle.std.proofs.lemmas.List.Elements.{All-push}
use Rattle.std.specs.List.{list_all}
use Rattle.text_output.specs.Paths.{is_plain_byte}
use Rattle.index_print.specs.Plain.{ArePlain}

-- one more of them
pub one_more : (paths : List (List ℕ)) (at : ℕ) → at < length paths → ArePlain (take at paths) → list_all is_plain_byte (get_or paths at []) ≡ true → ArePlain (take (at + 1) paths)
one_more paths at below before here =
    let next : suc at ≡ at + 1 = omega arith in
    let whole : take (at + 1) paths ≡ take at paths ++ get_or paths at [] ∷ [] = subst (λ (k : ℕ). take k paths ≡ take at paths ++ get_or paths at [] ∷ []) next (take-suc paths at [] below) in
    rw whole (All-push (λ p. list_all is_plain_byte p ≡ true) (take at paths) (get_or paths at []) before here)
