-- Entries that are named by numbers.
use Rattle.std.proofs.Common.{◌≡◌, ◌≢◌, ◌∙◌, ℕ, zero, suc, ◌+◌, ◌<◌, ◌^◌, List, [], ◌∷◌, length, sym, subst, arith, decimal, All}
use Rattle.std.specs.Prelude.{AllPairs, slice_index_or}
use Rattle.std.specs.Str.Parse.{AllDigits}
use Rattle.std.proofs.lemmas.Fmt.{decimal_injective, decimal_is_IsNumeral}
use Rattle.std.proofs.lemmas.Str.Parse.{digit_from_value}
use Rattle.firefly_outside.specs.Trees.{IsName, AreEntries, slash}
use Rattle.firefly_outside.specs.declared.tree.Entry.{Entry}

-- the name of the directory of this number
abbrev pub name_of : ℕ → List ℕ
name_of k = 100 ∷ decimal k

-- each entry is named by its place
abbrev pub AreNumbered : List Entry → Type 0
AreNumbered es = (k : ℕ) (d : Entry) → k < length es → (slice_index_or es k d).name ≡ name_of k

no_slash : (ds : List ℕ) → AllDigits 10 ds → All (λ b. b ≢ slash) ds
no_slash [] d k e within = absurd (omega arith)
no_slash (c ∷ cs) d zero e within = λ same. omega (arith, digit_from_value c d.0, same)
no_slash (c ∷ cs) d (suc k) e within = no_slash cs d.1 k e (omega arith)

lawful_name : (k : ℕ) → k < 2 ^ 64 → IsName (name_of k)
lawful_name k small = record {
  some = omega arith;
  plain = plain;
}
  where
    plain : All (λ b. b ≢ slash) (name_of k)
    plain zero e within = λ same. omega (arith, same)
    plain (suc i) e within = no_slash (decimal k) (decimal_is_IsNumeral k small).0.1 i e (omega arith)

tail_of : {x y : ℕ} {xs ys : List ℕ} → x ∷ xs ≡ y ∷ ys → xs ≡ ys
tail_of e = cc

pub numbered_entries : (es : List Entry) → length es < 2 ^ 64 → AreNumbered es → AreEntries es
numbered_entries es small named = record {
  names = λ k d within. subst IsName (sym (named k d within)) (lawful_name k (omega arith));
  distinct = λ i j d below within same.
      let alike : decimal i ≡ decimal j = tail_of (sym (named i d (omega arith)) ∙ same ∙ named j d within) in
      omega (arith, decimal_injective i j (omega arith) (omega arith) alike);
}
