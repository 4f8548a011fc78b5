-- What threads do to the list of directories.
use Rattle.std.specs.Prelude.{◌≡◌, ◌⊎◌, ℕ, ◌+◌, ◌-◌, ◌^◌, ◌≤◌, ◌<◌, true, false, min, List, [], ◌++◌, length, Some, None}
use Rattle.std.specs.Option.{option_to_list}
use Rattle.firefly_outside.specs.Trees.{Path}
use Rattle.index_rule.specs.declared.dirs.PutDirs.{PutDirs}
use Rattle.index_rule.specs.declared.dirs.PutDirs.TheVariants.{Within, Passed, Memory}
use Rattle.index_rule.specs.declared.dirs.NextDir.{NextDir}
use Rattle.index_rule.specs.declared.dirs.NextDir.TheVariants.{Now, Wait}
use Rattle.index_rule.specs.declared.value.DirsInWork.{DirsInWork}
use Rattle.index_rule.specs.declared.value.FoundCounts.{FoundCounts}
use Rattle.index_rule.specs.declared.value.WaitingDirs.{WaitingDirs}

-- the directory that a walker got
abbrev pub got_in : NextDir → List Path
got_in (Now dir) = option_to_list dir
got_in Wait = []

-- Who asks the list for a directory gets one, and one more is in work, as far as the counter goes; or none, where the list is shut, or nothing
-- waits and nothing is in work; or is to wait, where the list is open and nothing waits, but something is in work.
abbrev pub IsTakenSo : WaitingDirs → WaitingDirs → NextDir → Type 0
IsTakenSo old new (Now (Some dir)) = (old.shut ≡ false) × (new.shut ≡ false) × (new.in_work ≡ min (old.in_work + 1) (2 ^ 32 - 1))
IsTakenSo old new (Now None) =
    ((old.shut ≡ true) ⊎ ((old.waiting.items ≡ []) × (old.in_work ≡ 0))) × (new.shut ≡ old.shut) × (new.in_work ≡ old.in_work)
IsTakenSo old new Wait =
    (old.shut ≡ false) × (old.waiting.items ≡ []) × (0 < old.in_work) × (new.shut ≡ false) × (new.in_work ≡ old.in_work)

-- neither limit is passed
abbrev pub IsWithin : FoundCounts → Type 0
IsWithin c = (c.dirs ≤ c.most_dirs) × (c.files ≤ c.most_files)

-- a limit is passed
abbrev pub IsPassed : FoundCounts → Type 0
IsPassed c = (c.most_dirs < c.dirs) ⊎ (c.most_files < c.files)

-- these directories were put at the end of the others, and were counted, with this many files
pub record ArePut (found : List Path) (more : ℕ) (old new : DirsInWork) : Type 0 where
  pub waiting : new.list.waiting.items ≡ old.list.waiting.items ++ found
  pub dirs : new.found.dirs ≡ old.found.dirs + length found
  pub files : new.found.files ≡ old.found.files + more
  pub most_dirs : new.found.most_dirs ≡ old.found.most_dirs
  pub most_files : new.found.most_files ≡ old.found.most_files

-- and the result says whether a limit is passed; or there was no memory, and nothing changed
abbrev pub IsPutSo : List Path → ℕ → DirsInWork → DirsInWork → PutDirs → Type 0
IsPutSo found files old new Within = ArePut found files old new × IsWithin new.found
IsPutSo found files old new Passed = ArePut found files old new × IsPassed new.found
IsPutSo found files old new Memory = (new.list.waiting.items ≡ old.list.waiting.items) × (new.found ≡ old.found)
