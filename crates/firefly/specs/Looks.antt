-- What the trees that are passed show, before a call and after it.
use Rattle.std.specs.Prelude.{◌≡◌, ◌⊎◌, ℕ, ◌≤◌, List, [], ◌∷◌, Option, Some, None}
use Rattle.firefly_outside.specs.Trees.{Contents, Path, Calls}

-- what one tree shows: its contents, if they are known, which paths may fail, the calls made on it,
-- and its count of faults
pub record Look : Type 0 where
  pub reported : Option Contents
  pub weak : List Path
  pub calls : Calls
  pub faults : ℕ

abbrev pub look_of : {S : Type 0} → (S → Option Contents) → (S → List Path) → (S → Calls) → (S → ℕ) → S → Look
look_of tree weak calls faults s = record { reported = tree s; weak = weak s; calls = calls s; faults = faults s }

abbrev pub look_at : {S : Type 0} → (S → Look) → Option S → Option Look
look_at look None = None
look_at look (Some s) = Some (look s)

abbrev pub looks_of : {S : Type 0} → (S → Look) → List (Option S) → List (Option Look)
looks_of look [] = []
looks_of look (t ∷ ts) = look_at look t ∷ looks_of look ts

-- each place has a tree, with these contents
abbrev pub AllShow : Option Contents → List (Option Look) → Type 0
AllShow reported [] = Unit {0}
AllShow reported (None ∷ ts) = ⊥
AllShow reported (Some l ∷ ts) = (l.reported ≡ reported) × AllShow reported ts

-- each place has a tree, and all have the same contents, or those of none are known
abbrev pub Agree : List (Option Look) → Type 0
Agree ts = (reported : Option Contents) × AllShow reported ts

-- the contents of the first of them
abbrev pub reported_by : List (Option Look) → Option Contents
reported_by [] = None
reported_by (None ∷ ts) = None
reported_by (Some l ∷ ts) = l.reported

-- a tree as it may be after a call: its contents and the paths that may fail stay, and its count
-- didn't fall
pub record IsSameTree (a b : Look) : Type 0 where
  pub reported : b.reported ≡ a.reported
  pub weak : b.weak ≡ a.weak
  pub count : a.faults ≤ b.faults

-- each place holds its own tree
abbrev pub KeepTrees : List (Option Look) → List (Option Look) → Type 0
KeepTrees [] [] = Unit {0}
KeepTrees (Some a ∷ xs) (Some b ∷ ys) = IsSameTree a b × KeepTrees xs ys
KeepTrees _ _ = ⊥

-- each place is empty, or holds its own tree
abbrev pub AreOwn : List (Option Look) → List (Option Look) → Type 0
AreOwn [] [] = Unit {0}
AreOwn (x ∷ xs) (None ∷ ys) = AreOwn xs ys
AreOwn (Some a ∷ xs) (Some b ∷ ys) = IsSameTree a b × AreOwn xs ys
AreOwn _ _ = ⊥

-- no tree has failed yet
abbrev pub NoneFailed : List (Option Look) → Type 0
NoneFailed [] = Unit {0}
NoneFailed (None ∷ ts) = NoneFailed ts
NoneFailed (Some l ∷ ts) = (l.faults ≡ 0) × NoneFailed ts

-- one of the trees, before the call and after it
abbrev pub Among : List (Option Look) → List (Option Look) → Look → Look → Type 0
Among (Some a ∷ xs) (Some b ∷ ys) old new = ((old ≡ a) × (new ≡ b)) ⊎ Among xs ys old new
Among _ _ old new = ⊥

-- a tree of unknown contents, with this count of faults
abbrev pub unseen : ℕ → Look
unseen faults = record { reported = None; weak = []; calls = record { listed = []; files_read = []; failed = [] }; faults = faults }
