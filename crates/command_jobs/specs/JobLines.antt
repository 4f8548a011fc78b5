-- Texts of jobs.
use Rattle.std.specs.Prelude.{◌≡◌, ℕ, ◌≤◌, List, [], ◌∷◌, ◌++◌, codes, decimal}
use Rattle.std.specs.List.{AllByRecursion, flat_map}
use Rattle.exact_text.specs.Exact.{lines_room, OneAnswer}
use Rattle.exact_text.specs.Unfolds.{AreLines}
use Rattle.command_jobs.specs.declared.job_line.JobLine.{JobLine}
use Rattle.command_jobs.specs.declared.job_line.JobLine.TheVariants.{Sum, Stop}

-- a sum goes up to a million at most
abbrev pub IsLawful : JobLine → Type 0
IsLawful (Sum n) = n ≤ 1000000
IsLawful Stop = Unit {0}

-- a line, with its newline
abbrev pub line_text : JobLine → List ℕ
line_text (Sum n) = codes "sum " ++ (decimal n ++ 10 ∷ [])
line_text Stop = codes "stop" ++ 10 ∷ []

-- the bytes are the text of these lines
pub record ReadsAs (bytes : List ℕ) (lines : List JobLine) : Type 0 where
  pub lawful : AllByRecursion IsLawful lines
  pub text : bytes ≡ flat_map line_text lines

-- the bytes are the text of some lines
abbrev pub IsJobs : List ℕ → Type 0
IsJobs = AreLines IsLawful line_text

-- how many lines may be read
abbrev pub most_lines : ℕ
most_lines = 100000

-- An input has one answer, and is the text of one list of lines.
pub record IsDecided : Type 0 where
  pub one_answer : OneAnswer IsJobs (lines_room most_lines)
  pub one_list : (input : List ℕ) (xs ys : List JobLine) → ReadsAs input xs → ReadsAs input ys → xs ≡ ys
