-- A query means the same in what is kept for it.
use Rattle.std.proofs.Common.{◌≡◌, ◌↔◌, ℕ, Bool, true, List, [], ◌∷◌, ◌++◌, refl, sym, ap, ◌∙◌, subst, ⊎_elim, inl, inr}
use Rattle.std.specs.List.{Contains, list_any}
use Rattle.std.specs.Cmp.Lexicographic.{bytes_decides}
use Rattle.std.proofs.lemmas.List.Elements.{Contains-append_left, Contains-append_right, Contains-push}
use Rattle.std.proofs.lemmas.List.Folds.{list_any_at}
use Rattle.word_index.specs.Index.{Row}
use Rattle.index_find.specs.Tree.{Tree, Word, Not, Both, Either}
use Rattle.index_find.specs.Meaning.{Means, AreMeant}
use Rattle.index_find.specs.Postfix.{postfix}
use Rattle.index_find.specs.Asked.{is_word_step, is_not_step}
use Rattle.index_find.specs.Sieved.{Serves}
use Rattle.index_find.specs.declared.query.Step.{Step}
use Rattle.index_find.specs.declared.query.Step.TheVariants as step

passes : (f : Step → Bool) (steps : List Step) (s : Step) → Contains steps s → f s ≡ true → list_any f steps ≡ true
passes f steps s has sure = list_any_at f steps has.0 s has.1 (ap f has.2 ∙ sure)

abbrev AreAmong : List Step → List Step → Type 0
AreAmong some steps = (s : Step) → Contains some s → Contains steps s

module _ {steps : List Step} {kept offered : List Row} (serves : Serves steps kept offered) where
  pub means_same : (t : Tree) → AreAmong (postfix t) steps → (p : List ℕ) → Means kept t p ↔ Means offered t p
  means_same (Word w) among p =
      let here = among (step.Word w) (Contains-push [] (step.Word w)) in
      serves.files w (passes (is_word_step w) steps (step.Word w) here ((bytes_decides w w).1 refl)) p
  means_same (Not t) among p =
      let inner = means_same t (λ s has. among s (Contains-append_left (postfix t) (step.Not ∷ []) s has)) p in
      let paths = serves.paths (passes is_not_step steps step.Not (among step.Not (Contains-push (postfix t) step.Not)) refl) p in
      ((λ m. (paths.0 m.0, (λ n. m.1 (inner.1 n)))), (λ m. (paths.1 m.0, (λ n. m.1 (inner.0 n)))))
  means_same (Both x y) among p =
      let left = means_same x (λ s has. among s (Contains-append_left (postfix x ++ postfix y) (step.Both ∷ []) s (Contains-append_left (postfix x) (postfix y) s has))) p in
      let right = means_same y (λ s has. among s (Contains-append_left (postfix x ++ postfix y) (step.Both ∷ []) s (Contains-append_right (postfix x) (postfix y) s has))) p in
      ((λ m. (left.0 m.0, right.0 m.1)), (λ m. (left.1 m.0, right.1 m.1)))
  means_same (Either x y) among p =
      let left = means_same x (λ s has. among s (Contains-append_left (postfix x ++ postfix y) (step.Either ∷ []) s (Contains-append_left (postfix x) (postfix y) s has))) p in
      let right = means_same y (λ s has. among s (Contains-append_left (postfix x ++ postfix y) (step.Either ∷ []) s (Contains-append_right (postfix x) (postfix y) s has))) p in
      (⊎_elim (λ m. inl (left.0 m)) (λ m. inr (right.0 m)), ⊎_elim (λ m. inl (left.1 m)) (λ m. inr (right.1 m)))

  pub meant_same : (t : Tree) → steps ≡ postfix t → (paths : List (List ℕ)) → AreMeant kept t paths → AreMeant offered t paths
  meant_same t is paths m = record {
    rising = m.rising;
    each = λ p.
        let same = means_same t (λ s has. subst (λ (l : List Step). Contains l s) (sym is) has) p in
        ((λ has. same.0 ((m.each p).0 has)), (λ means. (m.each p).1 (same.1 means)));
  }
