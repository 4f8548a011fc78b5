-- A path that failed, and how it is shown.
use Rattle.std.specs.Prelude.{◌≡◌, ◌⊎◌, Contains}
use Rattle.firefly_outside.specs.Trees.{Path}
use Rattle.firefly_outside.specs.declared.tree.Kind.{Kind}
use Rattle.firefly_outside.specs.declared.tree.Kind.TheVariants.{Dir, File as a_file}
use Rattle.walker.specs.Walk.{Walk, IsUnlisted, files_of}
use Rattle.walker.specs.declared.answer.WalkAnswer.{WalkAnswer}
use Rattle.walker.specs.declared.answer.WalkAnswer.TheVariants.{ReadFault, Memory}
use Rattle.index_findings.specs.declared.findings.Fault.{Fault}
use Rattle.index_findings.specs.declared.findings.Fault.TheVariants.{Dir as DirFault, File as FileFault}

-- the path that failed, and as what it was asked for
abbrev pub path_of : Fault → Path
path_of (DirFault path) = path
path_of (FileFault path) = path

abbrev pub kind_of : Fault → Kind
kind_of (DirFault path) = Dir
kind_of (FileFault path) = a_file

-- the walk has found the path as what failed there, and a directory isn't shown as listed
abbrev pub IsFoundFault : Walk → Fault → Type 0
IsFoundFault w (DirFault path) = IsUnlisted w path
IsFoundFault w (FileFault path) = Contains (files_of w) path

-- the path that failed is answered where it was found so, and else want of memory
abbrev pub ReportsFault : Walk → Fault → WalkAnswer → Type 0
ReportsFault w fault answer = ((answer ≡ Memory) × (¬ IsFoundFault w fault)) ⊎ ((answer ≡ ReadFault (path_of fault)) × IsFoundFault w fault)
