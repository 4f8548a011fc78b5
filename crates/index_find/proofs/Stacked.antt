-- Marks on a stack, joined by the steps of a query.
use Rattle.std.proofs.Common.{◌≡◌, ℕ, ◌+◌, ◌-◌, ◌<◌, ◌≤◌, List, [], ◌∷◌, ◌++◌, Bool, length, get_or, take, drop, refl, ap, sym, ◌∙◌, subst, arith}
use Rattle.std.specs.Prelude.{◌&&◌, ◌||◌, not, All}
use Rattle.std.proofs.lemmas.List.{same_from_push, length_push, append_assoc, append-nil, drop_more, take_more, take_all}
use Rattle.std.proofs.lemmas.List.Elements.{All-nil, All-push}
use Rattle.index_table.specs.Rows.{Contents, ArePathsOf}
use Rattle.index_find.specs.Tree.{Tree, Word, Not, Both, Either}
use Rattle.index_find.specs.declared.query.Step.{Step}
use Rattle.index_find.specs.declared.query.Step.TheVariants as step
use Rattle.index_find.specs.Postfix.{postfix, stepped, built, tree_of}
use Rattle.index_find.proofs.Postfixes.{built-append, built-postfix}
use Rattle.index_find.specs.Marks.{at, AreMarks, AreStacked, joined, Suffice}
use Rattle.index_find.proofs.Marked.{turned_marks, met_marks, either_marks}

no_push : {X : Type 0} (xs : List X) (x : X) → xs ++ x ∷ [] ≡ [] → ⊥
no_push xs x e = omega (arith, length_push xs x, ap length e)

module _ (c : Contents) where
  pub stacked_many : (ts : List Tree) (ms : List (List Bool)) → AreStacked c ts ms → length ms ≡ length ts
  stacked_many [] ms s = ap length s
  stacked_many (t ∷ ts) ms s = ap length s.is ∙ length_push s.below s.top ∙ (let ih = stacked_many ts s.below s.rest in omega arith)

  pub stacked_alike : (ts : List Tree) (ms : List (List Bool)) → AreStacked c ts ms → All (λ (m : List Bool). length m ≡ length c.paths) ms
  stacked_alike [] ms s = subst (All (λ (m : List Bool). length m ≡ length c.paths)) (sym s) (All-nil (λ (m : List Bool). length m ≡ length c.paths))
  stacked_alike (t ∷ ts) ms s = subst (All (λ (m : List Bool). length m ≡ length c.paths)) (sym s.is)
      (All-push (λ (m : List Bool). length m ≡ length c.paths) s.below s.top (stacked_alike ts s.below s.rest) s.marks.many)

  -- the marks on top, where these are the last on the stack
  record Split (t : Tree) (ts : List Tree) (new : List (List Bool)) (m : List Bool) : Type 0 where
    marks : AreMarks c t m
    rest : AreStacked c ts new

  split : (t : Tree) (ts : List Tree) (old new : List (List Bool)) (m : List Bool) → AreStacked c (t ∷ ts) old → old ≡ new ++ m ∷ [] → Split t ts new m
  split t ts old new m s e =
      let same = same_from_push s.below new s.top m (sym s.is ∙ e) in
      record { marks = subst (AreMarks c t) same.1 s.marks; rest = subst (AreStacked c ts) same.0 s.rest }

  bare : (old new : List (List Bool)) (m : List Bool) → AreStacked c [] old → old ≡ new ++ m ∷ [] → ⊥
  bare old new m s e = no_push new m (sym e ∙ s)

  on_top : (t : Tree) (ts : List Tree) (new : List (List Bool)) (m : List Bool) → AreMarks c t m → AreStacked c ts new → AreStacked c (t ∷ ts) (new ++ m ∷ [])
  on_top t ts new m marks rest = record { below = new; top = m; is = refl; marks = marks; rest = rest }

  pub word_joined : (w : List ℕ) (ts : List Tree) (new : List (List Bool)) (m : List Bool) → AreMarks c (Word w) m → AreStacked c ts new → AreStacked c (stepped (step.Word w) ts) (new ++ m ∷ [])
  word_joined w ts new m marks s = on_top (Word w) ts new m marks s

  pub not_joined : (ts : List Tree) (old new : List (List Bool)) (a b : List Bool) → ArePathsOf c.rows c.paths → old ≡ new ++ a ∷ []
      → length b ≡ length a → ((k : ℕ) → k < length a → at b k ≡ not (at a k)) → AreStacked c ts old → AreStacked c (stepped step.Not ts) (new ++ b ∷ [])
  not_joined [] old new a b paths e many each s = absurd (bare old new a s e)
  not_joined (t ∷ ts) old new a b paths e many each s =
      let p = split t ts old new a s e in
      on_top (Not t) ts new b (turned_marks c t a b paths p.marks many each) p.rest

  pub both_joined : (ts : List Tree) (old mid new : List (List Bool)) (a b d : List Bool) → old ≡ mid ++ b ∷ [] → mid ≡ new ++ a ∷ []
      → length d ≡ length a → ((k : ℕ) → k < length a → at d k ≡ (at a k && at b k)) → AreStacked c ts old → AreStacked c (stepped step.Both ts) (new ++ d ∷ [])
  both_joined [] old mid new a b d e f many each s = absurd (bare old mid b s e)
  both_joined (y ∷ []) old mid new a b d e f many each s = absurd (bare mid new a (split y [] old mid b s e).rest f)
  both_joined (y ∷ x ∷ ts) old mid new a b d e f many each s =
      let p = split y (x ∷ ts) old mid b s e in
      let q = split x ts mid new a p.rest f in
      on_top (Both x y) ts new d (met_marks c x y a b d q.marks p.marks many each) q.rest

  pub either_joined : (ts : List Tree) (old mid new : List (List Bool)) (a b d : List Bool) → old ≡ mid ++ b ∷ [] → mid ≡ new ++ a ∷ []
      → length d ≡ length a → ((k : ℕ) → k < length a → at d k ≡ (at a k || at b k)) → AreStacked c ts old → AreStacked c (stepped step.Either ts) (new ++ d ∷ [])
  either_joined [] old mid new a b d e f many each s = absurd (bare old mid b s e)
  either_joined (y ∷ []) old mid new a b d e f many each s = absurd (bare mid new a (split y [] old mid b s e).rest f)
  either_joined (y ∷ x ∷ ts) old mid new a b d e f many each s =
      let p = split y (x ∷ ts) old mid b s e in
      let q = split x ts mid new a p.rest f in
      on_top (Either x y) ts new d (either_marks c x y a b d q.marks p.marks many each) q.rest

  -- where the trees are one, its marks are the last
  pub only : (t : Tree) (old new : List (List Bool)) (m : List Bool) → AreStacked c (t ∷ []) old → old ≡ new ++ m ∷ [] → AreMarks c t m
  only t old new m s e = (split t [] old new m s e).marks

moved : (ss : List Step) (m n : ℕ) → m ≡ n → Suffice ss m → Suffice ss n
moved ss m n e h = subst (Suffice ss) e h

-- a tree's steps have enough to join, and leave one tree more
pub suffice : (t : Tree) (ss : List Step) (n : ℕ) → Suffice ss (n + 1) → Suffice (postfix t ++ ss) n
suffice (Word w) ss n h = (omega arith, moved ss (n + 1) (n + 1 - 0) (omega arith) h)
suffice (Not t) ss n h =
    subst (λ (x : List Step). Suffice x n) (sym (append_assoc (postfix t) (step.Not ∷ []) ss))
    (suffice t (step.Not ∷ ss) n (omega arith, moved ss (n + 1) (n + 1 + 1 - 1) (omega arith) h))
suffice (Both x y) ss n h =
    subst (λ (z : List Step). Suffice z n) (sym (append_assoc (postfix x ++ postfix y) (step.Both ∷ []) ss ∙ append_assoc (postfix x) (postfix y) (step.Both ∷ ss)))
    (suffice x (postfix y ++ step.Both ∷ ss) n (suffice y (step.Both ∷ ss) (n + 1) (omega arith, moved ss (n + 1) (n + 1 + 1 + 1 - 2) (omega arith) h)))
suffice (Either x y) ss n h =
    subst (λ (z : List Step). Suffice z n) (sym (append_assoc (postfix x ++ postfix y) (step.Either ∷ []) ss ∙ append_assoc (postfix x) (postfix y) (step.Either ∷ ss)))
    (suffice x (postfix y ++ step.Either ∷ ss) n (suffice y (step.Either ∷ ss) (n + 1) (omega arith, moved ss (n + 1) (n + 1 + 1 + 1 - 2) (omega arith) h)))

-- so have the steps of a whole query
pub suffice_whole : (ss : List Step) (t : Tree) → ss ≡ postfix t → Suffice ss 0
suffice_whole ss t e = subst (λ (x : List Step). Suffice x 0) (append-nil (postfix t) ∙ sym e) (suffice t [] 0 tt)

pub suffice_more : (ss : List Step) (k n : ℕ) (s : Step) → k < length ss → s ≡ get_or ss k s → Suffice (drop k ss) n → (joined s ≤ n) × Suffice (drop (k + 1) ss) (n + 1 - joined s)
suffice_more ss k n s h e f = subst (λ (x : List Step). Suffice x n) (drop_more ss k s h ∙ ap (λ (x : Step). x ∷ drop (k + 1) ss) (sym e)) f

pub built_more : (ss : List Step) (k : ℕ) (s : Step) → k < length ss → s ≡ get_or ss k s → stepped s (built (take k ss) []) ≡ built (take (k + 1) ss) []
built_more ss k s h e = sym (ap (λ (x : List Step). built x []) (take_more ss k s h ∙ ap (λ (x : Step). take k ss ++ x ∷ []) (sym e)) ∙ built-append (take k ss) (s ∷ []) [])

pub built_whole : (ss : List Step) (k : ℕ) → length ss ≤ k → ss ≡ postfix (tree_of ss) → built (take k ss) [] ≡ tree_of ss ∷ []
built_whole ss k h e = ap (λ (x : List Step). built x []) (take_all k ss h) ∙ ap (λ (x : List Step). built x []) e ∙ built-postfix (tree_of ss) []
