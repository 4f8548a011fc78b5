-- What the workers came by, together, and what follows from it.
use Rattle.std.specs.Prelude.{◌≡◌, ◌⊎◌, ℕ, List, [], ◌∷◌, ◌++◌, Option, Some, None, IfSome}
use Rattle.std.specs.Option.{option_or}
use Rattle.firefly_outside.specs.Trees.{Path, Contents, Calls}
use Rattle.firefly_outside.specs.Under.{IsUnder}
use Rattle.walker.specs.Closing.{Answers, HasRisen, IsNumbered, failed_by}
use Rattle.walker.specs.declared.answer.WalkAnswer.{WalkAnswer}
use Rattle.walker.specs.declared.answer.WalkAnswer.TheVariants.{ReadFault, Memory}
use Rattle.index_findings.specs.declared.findings.Fault.{Fault}
use Rattle.index_findings.specs.declared.findings.Findings.{Findings}
use Rattle.index_findings.specs.Faults.{path_of, kind_of}

-- the first path that failed, if one did
abbrev pub first_fault : List Findings → Option Fault
first_fault [] = None
first_fault (f ∷ fs) = option_or f.fault (first_fault fs)

-- what is answered where a worker's path failed: the path, which lies under the root as what failed there, or want of memory, and no more calls are made
pub record EndsByFault (tree : Option Contents) (root : Path) (fault : Fault) (count then_count : ℕ) (before now : Calls)
    (answer : WalkAnswer) : Type 0 where
  pub cases : (answer ≡ Memory) ⊎ ((answer ≡ ReadFault (path_of fault)) × IfSome tree (λ t. IsUnder t root (kind_of fault) (path_of fault)))
  pub count_stays : then_count ≡ count
  pub no_calls : now ≡ before

-- what is answered where none failed: what the closing walk answers
pub record EndsByWalk (tree : Option Contents) (weak : List Path) (root : Path) (stop : Option ℕ) (count then_count : ℕ) (before now : Calls)
    (answer : WalkAnswer) : Type 0 where
  pub rises : HasRisen count then_count answer
  pub numbers : IsNumbered stop answer
  pub answers : IfSome tree (Answers root stop weak answer)
  pub failed : IfSome tree (λ t. now.failed ≡ before.failed ++ failed_by answer)

abbrev pub Ends : Option Contents → List Path → Path → Option ℕ → Option Fault → ℕ → ℕ → Calls → Calls → WalkAnswer → Type 0
Ends tree weak root stop None count then_count before now answer = EndsByWalk tree weak root stop count then_count before now answer
Ends tree weak root stop (Some fault) count then_count before now answer = EndsByFault tree root fault count then_count before now answer
