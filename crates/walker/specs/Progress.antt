-- How far a closing walk has come.
use Rattle.std.specs.Prelude.{◌≡◌, ◌≢◌, ◌⊎◌, ℕ, ◌+◌, ◌≤◌, ◌<◌, false, List, ◌∷◌, [], ◌++◌, length, take, Option, Some, Contains, AllPairs, Result, Ok, Err}
use Rattle.firefly_outside.specs.Trees.{Path, Contents, Calls}
use Rattle.walker.specs.Walk.{Walk, IsSound, IsListed, IsUnlisted, IsWalkOf}
use Rattle.walker.specs.Closing.{most_dirs, HasRisen, Answers, CallsOnce}
use Rattle.walker.specs.declared.answer.WalkAnswer.{WalkAnswer}
use Rattle.walker.specs.declared.answer.WalkAnswer.TheVariants.{Done, Stopped, ReadFault, TooMany, Memory}

-- neither limit is passed
pub record IsWithinLimits (w : Walk) (stop : Option ℕ) : Type 0 where
  pub dirs : length w.dirs ≤ most_dirs
  pub files : (n : ℕ) → stop ≡ Some n → length w.files ≤ n

-- a limit is passed, of the directories first
abbrev pub IsPassed : Walk → Option ℕ → WalkAnswer → Type 0
IsPassed w stop (Done piece) = ⊥
IsPassed w stop (Stopped many) = (length w.dirs ≤ most_dirs) × ((n : ℕ) × (stop ≡ Some n) × (many ≡ n + 1) × (n < length w.files))
IsPassed w stop (ReadFault path) = ⊥
IsPassed w stop (TooMany many) = (many ≡ most_dirs + 1) × (most_dirs < length w.dirs)
IsPassed w stop Memory = ⊥

-- the count after a step that may end the walk
abbrev pub StepCounts : {T : Type 0} → ℕ → ℕ → Result T WalkAnswer → Type 0
StepCounts before now (Ok v) = now ≡ before
StepCounts before now (Err answer) = HasRisen before now answer

-- a step leaves what the tree shows and which paths may fail, and the count as it may be after it
pub record StepStays {T : Type 0} (old new : Option Contents) (may might : List Path) (before now : ℕ) (result : Result T WalkAnswer) : Type 0
  where
    pub tree : new ≡ old
    pub weak : might ≡ may
    pub count : StepCounts before now result

-- only listings were made, each of a directory that wasn't listed, once
pub record ListsMore (first w : Walk) (before now : Calls) : Type 0 where
  pub dirs : List Path
  pub listed : now.listed ≡ before.listed ++ dirs
  pub read : now.files_read ≡ before.files_read
  pub failed : now.failed ≡ before.failed
  pub once : AllPairs (λ p q. p ≢ q) dirs
  pub fresh : (p : Path) → Contains dirs p → ¬ IsListed first p
  pub marks : (p : Path) → Contains dirs p → IsListed w p
  pub stays : (p : Path) → IsListed first p → IsListed w p
  pub only : (p : Path) → IsListed w p → IsListed first p ⊎ Contains dirs p

-- the walk as the listings made since the start leave it
pub record IsReached (first walk : Walk) (before now : Calls) (t : Contents) : Type 0 where
  pub sound : IsSound walk
  pub reported : IsWalkOf walk t
  pub more : ListsMore first walk before now

-- with the same listings made as now, neither limit is passed
pub record KeepsLimits (first : Walk) (stop : Option ℕ) (before now : Calls) (t : Contents) : Type 0 where
  pub walk : Walk
  pub calls : Calls
  pub reached : IsReached first walk before calls t
  pub limits : IsWithinLimits walk stop
  pub listed : now.listed ≡ calls.listed

-- with all listings made but the last, neither limit was passed
pub record KeptLimits (first : Walk) (stop : Option ℕ) (before now : Calls) (t : Contents) : Type 0 where
  pub walk : Walk
  pub calls : Calls
  pub reached : IsReached first walk before calls t
  pub limits : IsWithinLimits walk stop
  pub last : Path
  pub listed : now.listed ≡ calls.listed ++ last ∷ []

-- the walk as the listings made so far leave it passes a limit, which is reported: of the directories first. Before the last listing
-- neither was passed
pub record HasPassed (first : Walk) (stop : Option ℕ) (before now : Calls) (answer : WalkAnswer) (t : Contents) : Type 0 where
  pub walk : Walk
  pub reached : IsReached first walk before now t
  pub passed : IsPassed walk stop answer
  pub earlier : (now.listed ≡ before.listed) ⊎ KeptLimits first stop before now t

-- a stop and too many directories are answered where the directories and files found so far pass a limit, and as soon as they do;
-- the index and a fault where they pass none
abbrev pub EndsPassed : Walk → Option ℕ → Calls → Calls → WalkAnswer → Contents → Type 0
EndsPassed first stop before now (Done piece) t = KeepsLimits first stop before now t
EndsPassed first stop before now (Stopped many) t = HasPassed first stop before now (Stopped many) t
EndsPassed first stop before now (ReadFault path) t = KeepsLimits first stop before now t
EndsPassed first stop before now (TooMany many) t = HasPassed first stop before now (TooMany many) t
EndsPassed first stop before now Memory t = Unit {0}

-- a walk that stops while it lists: what the answer says of the tree, and which calls were made since the start
abbrev pub StopsListing : Walk → List Path → Calls → Calls → WalkAnswer → Contents → Type 0
StopsListing old weak before now answer t = IsSound old → IsWalkOf old t → (first : Walk) (start : Calls) → first.root ≡ old.root
    → ListsMore first old start before
    → (stop : Option ℕ) → Answers first.root stop weak answer t × ((covered : List Path) → CallsOnce t first covered start now answer)
    × (IsWithinLimits old stop → EndsPassed first stop start now answer t)

-- one listing was made, or none and nothing changed
abbrev pub ListsOne : Walk → Walk → Calls → Calls → Type 0
ListsOne old new before now = ((new ≡ old) × (now ≡ before)) ⊎ ((dir : Path) × (now.listed ≡ before.listed ++ dir ∷ []))

-- what one step of listing reports
abbrev pub ListsAt : {T : Type 0} → Walk → Walk → List Path → Calls → Calls → Result T WalkAnswer → Contents → Type 0
ListsAt old new weak before now (Ok v) t = (IsWalkOf old t → IsWalkOf new t)
    × (IsSound old → (first : Walk) (start : Calls) → ListsMore first old start before → ListsMore first new start now)
    × ListsOne old new before now
ListsAt old new weak before now (Err answer) t = StopsListing old weak before now answer t

-- what listing the rest reports
abbrev pub ListsRest : {T : Type 0} → Walk → Walk → Option ℕ → List Path → Calls → Calls → Result T WalkAnswer → Contents → Type 0
ListsRest first w stop weak before now (Ok v) t = IsWalkOf w t × ListsMore first w before now
ListsRest first w stop weak before now (Err answer) t = Answers first.root stop weak answer t
    × ((covered : List Path) → CallsOnce t first covered before now answer) × EndsPassed first stop before now answer t

-- each directory found is listed
abbrev pub IsListedWhole : Walk → Type 0
IsListedWhole w = (p : Path) → ¬ IsUnlisted w p

-- the directories before this place are listed
abbrev pub IsListedBelow : Walk → ℕ → Type 0
IsListedBelow w at = (p : Path) → ¬ Contains (take at w.dirs) (p, false)

-- the root stays, and so do the files found
pub record Grows (old new : Walk) : Type 0 where
  pub root : new.root ≡ old.root
  pub files : (p : Path) → Contains old.files p → Contains new.files p
