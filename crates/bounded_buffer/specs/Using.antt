-- What a thread has done at plain buffers, and what one thread alone did there.
use Rattle.std.specs.Prelude.{◌≡◌, ◌≢◌, ℕ, ◌<◌, zero, suc, true, List, [], ◌∷◌, ◌++◌, length}
use Rattle.std.specs.List.{All}
use mathlib.Core.Option.{some}
use lib.ListN.{get_elem?}
use Rattle.nub_rule.specs.Known.{Known, Shape}
use Rattle.nub.specs.Idle.{IsIdle}
use Rattle.bounded_buffer.specs.declared.did.Did.{Did}
use Rattle.bounded_buffer.specs.declared.note.Note.{Note}
use Rattle.bounded_buffer.specs.Parts.{Used, did}
use Rattle.bounded_buffer.specs.Plain.{part_of}
use Rattle.bounded_buffer.specs.Rings.{Held}

module _ {T : Type 0} where
  -- each number is greater than all that follow, so the last pair comes first
  abbrev pub Falls : List (ℕ × T) → Type 0
  Falls [] = Unit {0}
  Falls (p ∷ ps) = All (λ q. q.0 < p.0) ps × Falls ps

  -- the items of such pairs, in the order of their numbers
  abbrev pub items_of : List (ℕ × T) → List T
  items_of [] = []
  items_of (p ∷ ps) = items_of ps ++ p.1 ∷ []

  -- the same without the waits
  abbrev pub settled : Used T → Used T
  settled u = record u { full_waits = 0; empty_waits = 0 }

  -- the parts of the first buffers, after this was done too at the buffer m
  abbrev pub did_at : ℕ → Did T → List (Used T) → List (Used T)
  did_at m d [] = []
  did_at zero d (u ∷ us) = did d u ∷ us
  did_at (suc m) d (u ∷ us) = u ∷ did_at m d us

  -- the thread n of the package is between two calls, holds no mutex, and has done this at the
  -- first buffers, not counting waits; it put and took under rising numbers
  pub record HasUsed {W : Type 0} (p : Shape W) (n : ℕ) (us : List (Used T)) (t : Known (Held T) (List (Note T)) W) : Type 0 where
    pub share : List (Note T)
    pub idle : IsIdle p n share t
    pub said : (k : ℕ) (u : Used T) → get_elem? us k ≡ some u → settled (part_of share k) ≡ u
    pub ordered : (k : ℕ) → Falls (part_of share k).puts × Falls (part_of share k).takes

  -- no share but that of the thread n says anything of this kind about the buffer m
  abbrev pub NoneBut : {A : Type 0} → ℕ → (Used T → A) → A → ℕ → List (List (Note T)) → Type 0
  NoneBut n f nothing m shares = (k : ℕ) (u : List (Note T)) → get_elem? shares k ≡ some u → k ≢ n → f (part_of u m) ≡ nothing

  -- one thread took what another put, all of it and in order, and the ring is shut and empty
  pub record Through (q : Held T) (puts takes : List T) : Type 0 where
    pub same : takes ≡ puts
    pub taken : q.taken ≡ length puts
    pub empty : q.items ≡ []
    pub shut : q.shut ≡ true
