-- The boards that a search has found.
use Rattle.std.specs.Prelude.{◌≡◌, ◌⊎◌, ◌≤◌, ℕ, List, [], ◌∷◌, ◌++◌, length, map, Some, slice_get}
use Rattle.larch_actions.specs.declared.event.Layout.{Layout}
use Rattle.script_search.specs.declared.found.Found.{Found}
use Rattle.script_search.specs.Boards.{Moment}
use Rattle.script_search.specs.Keys.{key_of, moment_in}

abbrev pub keys_of : Found → List (List ℕ)
keys_of f = map (λ v. v.items) f.keys.keys

abbrev pub moments_of : Found → List Moment
moments_of f = map (moment_in f.layout) (keys_of f)

-- the element is there at some place
abbrev pub IsThere : {X : Type 0} → List X → X → Type 0
IsThere xs x = (k : ℕ) × (slice_get xs k ≡ Some x)

-- the bytes are those of the boards that they show, each but the first has a parent, and no more are there than are allowed
pub record IsKeyed (f : Found) : Type 0 where
  pub keys : keys_of f ≡ map key_of (moments_of f)
  pub parents : length f.parents.items ≡ length (moments_of f)
  pub within : length (moments_of f) ≤ f.limit

-- the moment is there now after all others, with the place of its parent
pub record Pushes (old new : Found) (m : Moment) (parent : ℕ) : Type 0 where
  pub moments : moments_of new ≡ moments_of old ++ m ∷ []
  pub parents : new.parents.items ≡ old.parents.items ++ parent ∷ []
  pub layout : new.layout ≡ old.layout
  pub limit : new.limit ≡ old.limit

-- a board with these bytes was there, or the moment is there now
abbrev pub Adds : Found → Found → Moment → ℕ → Type 0
Adds old new m parent =
    (IsThere (map key_of (moments_of old)) (key_of m) × (new ≡ old))
    ⊎ ((IsThere (map key_of (moments_of old)) (key_of m) → ⊥) × Pushes old new m parent)

-- as many are there as are allowed, and none has these bytes
pub record IsFull (f : Found) (m : Moment) : Type 0 where
  pub count : length (moments_of f) ≡ f.limit
  pub absent : IsThere (map key_of (moments_of f)) (key_of m) → ⊥

-- the moment alone is there, found from none
pub record IsAlone (f : Found) (l : Layout) (m : Moment) (limit : ℕ) : Type 0 where
  pub keyed : IsKeyed f
  pub moments : moments_of f ≡ m ∷ []
  pub parents : f.parents.items ≡ 0 ∷ []
  pub layout_is : f.layout ≡ l
  pub limit_is : f.limit ≡ limit
