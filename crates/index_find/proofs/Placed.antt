-- Marks at the places of a list.
use Rattle.std.proofs.Common.{◌≡◌, inl, inr, ℕ, ◌+◌, ◌<◌, ◌≤◌, List, [], ◌∷◌, ◌++◌, Bool, true, false, length, get_or, set, take, replicate, ap, sym, ◌∙◌, subst, arith}
use Rattle.std.specs.Prelude.{Contains, ◌↔◌}
use Rattle.std.proofs.lemmas.Bool.{false≢true, cases_eq}
use Rattle.std.proofs.lemmas.List.{get_or-replicate, get_or-set_same, get_or-set_other, length-set, length-replicate, take_more, take_all}
use Rattle.std.proofs.lemmas.List.Elements.{Contains-push, Contains-append_left, Contains-push_cases}
use Rattle.index_table.specs.Rows.{Contents, AreFilesWith}
use Rattle.index_find.specs.Tree.{Word}
use Rattle.index_find.specs.Marks.{at, AreMarks}

-- of n places exactly those of the list are marked
pub record ArePlaced (n : ℕ) (marks : List Bool) (places : List ℕ) : Type 0 where
  pub many : length marks ≡ n
  pub each : (k : ℕ) → k < n → (at marks k ≡ true) ↔ Contains places k

pub placed_none : (n : ℕ) → ArePlaced n (replicate n false) []
placed_none n = record {
  many = length-replicate n false;
  each = λ k h. ((λ e. absurd (false≢true (sym (get_or-replicate n k false false h) ∙ e))), (λ w. absurd (omega (arith, w.1))));
}

module _ (n x : ℕ) (marks : List Bool) (places : List ℕ) (within : x < n) (p : ArePlaced n marks places) where
  inside : x < length marks
  inside = subst (λ (m : ℕ). x < m) (sym p.many) within

  there : (k : ℕ) → k < n → at (set marks x true) k ≡ true → Contains (places ++ x ∷ []) k
  there k h e = elim (cases_eq k x) [
    | inl same ↦ subst (Contains (places ++ x ∷ [])) (sym same) (Contains-push places x)
    | inr other ↦ Contains-append_left places (x ∷ []) k ((p.each k h).0 (sym (get_or-set_other marks x k true false other) ∙ e))
  ]

  back : (k : ℕ) → k < n → Contains (places ++ x ∷ []) k → at (set marks x true) k ≡ true
  back k h w = elim (cases_eq k x) [
    | inl same ↦ ap (at (set marks x true)) same ∙ get_or-set_same marks x true false inside
    | inr other ↦ get_or-set_other marks x k true false other ∙ (p.each k h).1 (elim (Contains-push_cases places x k w) [ inl c ↦ c | inr e ↦ absurd (other (sym e)) ])
  ]

  pub placed_more : ArePlaced n (set marks x true) (places ++ x ∷ [])
  placed_more = record { many = length-set marks x true ∙ p.many; each = λ k h. (there k h, back k h) }

pub placed_next : (n i : ℕ) (marks : List Bool) (xs : List ℕ) → i < length xs → get_or xs i 0 < n → ArePlaced n marks (take i xs) → ArePlaced n (set marks (get_or xs i 0) true) (take (i + 1) xs)
placed_next n i marks xs h within p = subst (ArePlaced n (set marks (get_or xs i 0) true)) (sym (take_more xs i 0 h)) (placed_more n (get_or xs i 0) marks (take i xs) within p)

-- all places of the files with a word
pub word_marks : (c : Contents) (w : List ℕ) (marks : List Bool) (places : List ℕ) (i : ℕ) → length places ≤ i → AreFilesWith c w places → ArePlaced (length c.paths) marks (take i places) → AreMarks c (Word w) marks
word_marks c w marks places i h files p =
    let q = subst (ArePlaced (length c.paths) marks) (take_all i places h) p in
    record {
      many = p.many;
      each = λ k g. ((λ e. (files.files k g).0 ((q.each k g).0 e)), (λ f. (q.each k g).1 ((files.files k g).1 f)));
    }
