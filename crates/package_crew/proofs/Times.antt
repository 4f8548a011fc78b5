-- How often a value stands in lists that are joined, and in ranges.
use Rattle.std.proofs.Common.{◌≡◌, ℕ, zero, suc, ◌+◌, List, [], ◌∷◌, ◌++◌, arith, sym, ap, refl, ◌∙◌}
use Rattle.std.specs.List.{range_with_len}
use Rattle.std.proofs.lemmas.List.{map-id}
use Rattle.std.proofs.lemmas.List.FromFn.{map-range_with_len_more}
use Rattle.package_crew.specs.Times.{times}

pub times_on : (v : ℕ) (xs ys : List ℕ) → times v (xs ++ ys) ≡ times v xs + times v ys
times_on v [] ys = omega arith
times_on v (x ∷ xs) ys = let h = times_on v xs ys in omega arith

-- the k numbers from a on are m of them and n from b on
pub times_range : (v a m b n k : ℕ) → b ≡ a + m → k ≡ m + n
    → times v (range_with_len a k) ≡ times v (range_with_len a m) + times v (range_with_len b n)
times_range v a zero b n k from all = let e : b ≡ a = omega arith in let f : k ≡ n = omega arith in grind arith
times_range v a (suc m) b n zero from all = absurd (omega arith)
times_range v a (suc m) b n (suc k) from all = let h = times_range v (a + 1) m b n k (omega arith) (omega arith) in omega arith

pub range_more : (a n : ℕ) → range_with_len a n ++ (a + n) ∷ [] ≡ range_with_len a (n + 1)
range_more a n =
    let one = map-range_with_len_more (λ (k : ℕ). k) a n (a + n) refl in
    sym (sym (map-id (range_with_len a (n + 1))) ∙ one ∙ ap (λ l. l ++ (a + n) ∷ []) (map-id (range_with_len a n)))
