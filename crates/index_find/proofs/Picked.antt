-- Marked paths, in their order.
use Rattle.std.proofs.Common.{◌≡◌, ◌⊎◌, inl, inr, ℕ, ◌+◌, ◌<◌, List, [], ◌∷◌, ◌++◌, Bool, true, false, length, get_or, ap, sym, ◌∙◌, subst, arith}
use Rattle.std.specs.Prelude.{Contains, Result, Ok, Err, IfOk}
use Rattle.std.proofs.lemmas.Bool.{false≢true, cases_lt}
use Rattle.std.proofs.lemmas.List.Elements.{Contains-get_or, Contains-push, Contains-append_left, Contains-push_cases}
use Rattle.std.proofs.lemmas.List.{get_or_default}
use Rattle.std.proofs.lemmas.List.Quantifiers.{all_pairs_push}
use Rattle.word_index.specs.Index.{Row, IsBelow, IsRising}
use Rattle.index_table.specs.Rows.{Contents, HasPath, ArePathsOf}
use Rattle.index_find.specs.Tree.{Tree, Word, Not, Both, Either}
use Rattle.index_find.specs.Meaning.{Means, AreMeant}
use Rattle.index_find.specs.Marks.{at, path_at, AreMarks, AreChosen}

module _ (marks : List Bool) (paths : List (List ℕ)) where
  abbrev IsOne : ℕ → List ℕ → Type 0
  IsOne n p = (k : ℕ) × (k < n) × (at marks k ≡ true) × (path_at paths k ≡ p)

  pub chosen_none : AreChosen marks paths 0 []
  chosen_none = record {
    rising = λ i j d h g. absurd (omega arith);
    each = λ p. ((λ w. absurd (omega (arith, w.1))), (λ w. absurd (omega (arith, w.1))));
  }

  below_or : (n k : ℕ) → k < n + 1 → (k < n) ⊎ (k ≡ n)
  below_or n k h = elim (cases_lt k n) [ inl g ↦ inl g | inr g ↦ inr (omega arith) ]

  without : (n : ℕ) (p : List ℕ) → at marks n ≡ false → IsOne (n + 1) p → IsOne n p
  without n p e w = elim (below_or n w.0 w.1) [ inl h ↦ (w.0, h, w.2, w.3) | inr h ↦ absurd (false≢true (sym e ∙ ap (at marks) (sym h) ∙ w.2)) ]

  -- a path that isn't marked
  pub chosen_same : (n : ℕ) (texts : List (List ℕ)) → at marks n ≡ false → AreChosen marks paths n texts → AreChosen marks paths (n + 1) texts
  chosen_same n texts e c = record {
    rising = c.rising;
    each = λ p. ((λ w. let k = (c.each p).0 w in (k.0, omega (arith, k.1), k.2, k.3)), (λ w. (c.each p).1 (without n p e w)));
  }

  among : (n : ℕ) (texts : List (List ℕ)) (p : List ℕ) → AreChosen marks paths n texts → Contains (texts ++ path_at paths n ∷ []) p → at marks n ≡ true → IsOne (n + 1) p
  among n texts p c w e = elim (Contains-push_cases texts (path_at paths n) p w) [
    | inl h ↦ (let k = (c.each p).0 h in (k.0, omega (arith, k.1), k.2, k.3))
    | inr h ↦ (n, omega arith, e, h)
  ]

  found : (n : ℕ) (texts : List (List ℕ)) (p : List ℕ) → AreChosen marks paths n texts → IsOne (n + 1) p → Contains (texts ++ path_at paths n ∷ []) p
  found n texts p c w = elim (below_or n w.0 w.1) [
    | inl h ↦ Contains-append_left texts (path_at paths n ∷ []) p ((c.each p).1 (w.0, h, w.2, w.3))
    | inr h ↦ subst (Contains (texts ++ path_at paths n ∷ [])) (ap (path_at paths) (sym h) ∙ w.3) (Contains-push texts (path_at paths n))
  ]

  -- a path that is marked
  pub chosen_more : (n : ℕ) (texts : List (List ℕ)) → IsRising paths → n < length paths → at marks n ≡ true → AreChosen marks paths n texts → AreChosen marks paths (n + 1) (texts ++ path_at paths n ∷ [])
  chosen_more n texts rising within e c = record {
    rising = all_pairs_push IsBelow texts (path_at paths n) c.rising (λ k d h.
        let w = (c.each (get_or texts k d)).0 (Contains-get_or texts k d h) in
        subst (λ (x : List ℕ). IsBelow x (path_at paths n)) w.3 (rising w.0 n [] w.1 within));
    each = λ p. ((λ w. among n texts p c w e), (λ w. found n texts p c w));
  }

-- what is meant has a path
means_path : (rows : List Row) (t : Tree) (p : List ℕ) → Means rows t p → HasPath rows p
means_path rows (Word w) p h = (h.0, h.1, h.3)
means_path rows (Not t) p h = h.0
means_path rows (Both x y) p h = means_path rows x p h.0
means_path rows (Either x y) p (inl h) = means_path rows x p h
means_path rows (Either x y) p (inr h) = means_path rows y p h

-- the marked paths are those that are meant
pub meant : (c : Contents) (t : Tree) (marks : List Bool) (texts : List (List ℕ)) → ArePathsOf c.rows c.paths → AreMarks c t marks → AreChosen marks c.paths (length c.paths) texts → AreMeant c.rows t texts
meant c t marks texts paths m chosen = record {
  rising = chosen.rising;
  each = λ p. (
    (λ w. let k = (chosen.each p).0 w in subst (Means c.rows t) k.3 ((m.each k.0 k.1).0 k.2)),
    (λ h.
        let w = (paths.members p).1 (means_path c.rows t p h) in
        let is : path_at c.paths w.0 ≡ p = get_or_default c.paths w.0 [] p w.1 ∙ w.2 in
        (chosen.each p).1 (w.0, w.1, (m.each w.0 w.1).1 (subst (Means c.rows t) (sym is) h), is)),
  );
}

-- so they are where memory sufficed
pub all_meant : {V E : Type 0} (items : V → List (List ℕ)) (r : Result V E) (c : Contents) (t : Tree) (marks : List Bool) → ArePathsOf c.rows c.paths → AreMarks c t marks
    → IfOk r (λ v. AreChosen marks c.paths (length c.paths) (items v)) → IfOk r (λ v. AreMeant c.rows t (items v))
all_meant items (Ok v) c t marks paths m chosen = meant c t marks (items v) paths m chosen
all_meant items (Err e) c t marks paths m chosen = chosen
