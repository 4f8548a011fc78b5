-- Marks of a tree, by those of its parts.
use Rattle.std.proofs.Common.{◌≡◌, ◌⊎◌, inl, inr, ℕ, ◌<◌, List, [], Bool, true, false, length, refl, sym, ◌∙◌, subst}
use Rattle.std.specs.Prelude.{◌&&◌, ◌||◌, not}
use Rattle.std.proofs.lemmas.Bool.{false≢true}
use Rattle.std.proofs.lemmas.List.Elements.{Contains-get_or}
use Rattle.index_table.specs.Rows.{Contents, HasPath, ArePathsOf}
use Rattle.index_find.specs.Tree.{Tree, Not, Both, Either}
use Rattle.index_find.specs.Meaning.{Means}
use Rattle.index_find.specs.Marks.{at, path_at, AreMarks}

module _ (P Q : Type 0) where
  -- a mark turned, two marks both there, or either
  turned : (a b : Bool) → b ≡ not a → P → ((a ≡ true → Q) × (Q → a ≡ true)) → (b ≡ true → P × (Q → ⊥)) × (P × (Q → ⊥) → b ≡ true)
  turned true b e p h = ((λ g. absurd (false≢true (sym e ∙ g))), (λ n. absurd (n.1 (h.0 refl))))
  turned false b e p h = ((λ g. (p, λ q. false≢true (h.1 q))), (λ n. e))

  met : (a b c : Bool) → c ≡ (a && b) → ((a ≡ true → P) × (P → a ≡ true)) → ((b ≡ true → Q) × (Q → b ≡ true)) → (c ≡ true → P × Q) × (P × Q → c ≡ true)
  met true b c e g h = ((λ k. (g.0 refl, h.0 (sym e ∙ k))), (λ n. e ∙ h.1 n.1))
  met false b c e g h = ((λ k. absurd (false≢true (sym e ∙ k))), (λ n. absurd (false≢true (g.1 n.0))))

  either_met : (a b c : Bool) → c ≡ (a || b) → ((a ≡ true → P) × (P → a ≡ true)) → ((b ≡ true → Q) × (Q → b ≡ true)) → (c ≡ true → P ⊎ Q) × (P ⊎ Q → c ≡ true)
  either_met true b c e g h = ((λ k. inl (g.0 refl)), (λ n. e))
  either_met false b c e g h = ((λ k. inr (h.0 (sym e ∙ k))), (λ n. e ∙ held n))
    where
      held : P ⊎ Q → b ≡ true
      held (inl p) = absurd (false≢true (g.1 p))
      held (inr q) = h.1 q

pub turned_marks : (c : Contents) (t : Tree) (a b : List Bool) → ArePathsOf c.rows c.paths → AreMarks c t a → length b ≡ length a → ((k : ℕ) → k < length a → at b k ≡ not (at a k)) → AreMarks c (Not t) b
turned_marks c t a b paths m many each = record {
  many = many ∙ m.many;
  each = λ k h. turned (HasPath c.rows (path_at c.paths k)) (Means c.rows t (path_at c.paths k)) (at a k) (at b k) (each k (subst (λ (n : ℕ). k < n) (sym m.many) h))
      ((paths.members (path_at c.paths k)).0 (Contains-get_or c.paths k [] h)) (m.each k h);
}

pub met_marks : (c : Contents) (x y : Tree) (a b d : List Bool) → AreMarks c x a → AreMarks c y b → length d ≡ length a → ((k : ℕ) → k < length a → at d k ≡ (at a k && at b k)) → AreMarks c (Both x y) d
met_marks c x y a b d m n many each = record {
  many = many ∙ m.many;
  each = λ k h. met (Means c.rows x (path_at c.paths k)) (Means c.rows y (path_at c.paths k)) (at a k) (at b k) (at d k) (each k (subst (λ (n : ℕ). k < n) (sym m.many) h)) (m.each k h) (n.each k h);
}

pub either_marks : (c : Contents) (x y : Tree) (a b d : List Bool) → AreMarks c x a → AreMarks c y b → length d ≡ length a → ((k : ℕ) → k < length a → at d k ≡ (at a k || at b k)) → AreMarks c (Either x y) d
either_marks c x y a b d m n many each = record {
  many = many ∙ m.many;
  each = λ k h. either_met (Means c.rows x (path_at c.paths k)) (Means c.rows y (path_at c.paths k)) (at a k) (at b k) (at d k) (each k (subst (λ (n : ℕ). k < n) (sym m.many) h)) (m.each k h) (n.each k h);
}
