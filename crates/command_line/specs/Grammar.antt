-- The words of the command line, and the task that they say.
use Rattle.std.specs.Prelude.{◌≡◌, ◌≢◌, ◌⊎◌, ◌^◌, ◌<◌, ◌≤◌, ℕ, Bool, true, false, List, [], ◌∷◌, ◌++◌}
use Rattle.std.specs.Prelude.{Option, Some, None, IfSome, codes, decimal, All, if◌then◌else◌, option_to_list}
use Rattle.std.specs.List.{filter_map, flat_map}

abbrev pub Text : Type 0
Text = List ℕ

-- ---- what stands after `index` or `trace`

-- an option
pub data Setting : Type 0 where
  walkers : Setting
  parsers : Setting
  mergers : Setting
  stop_after : Setting

abbrev pub name_of : Setting → Text
name_of walkers = codes "--walkers"
name_of parsers = codes "--parsers"
name_of mergers = codes "--mergers"
name_of stop_after = codes "--stop-after"

abbrev pub least_of : Setting → ℕ
least_of stop_after = 0
least_of _ = 1

abbrev pub most_of : Setting → ℕ
most_of stop_after = 1000000000
most_of _ = 8

-- a number is a word of its own, or it is joined to the option's name by `=`
pub data Form : Type 0 where
  apart : Form
  joined : Form

-- DIR, or an option with its number
pub data Part : Type 0 where
  directory : Text → Part
  setting : Form → Setting → ℕ → Part

-- the words of a part
abbrev pub spelling : Part → List Text
spelling (directory path) = path ∷ []
spelling (setting apart s n) = name_of s ∷ decimal n ∷ []
spelling (setting joined s n) = (name_of s ++ codes "=" ++ decimal n) ∷ []

-- DIR isn't empty and doesn't begin with a hyphen (45)
abbrev pub IsDirectory : Text → Type 0
IsDirectory [] = ⊥
IsDirectory (c ∷ rest) = c ≢ 45

abbrev pub IsPart : Part → Type 0
IsPart (directory path) = IsDirectory path
IsPart (setting form s n) = (least_of s ≤ n) × (n ≤ most_of s)

abbrev pub is_same : Setting → Setting → Bool
is_same walkers walkers = true
is_same parsers parsers = true
is_same mergers mergers = true
is_same stop_after stop_after = true
is_same _ _ = false

abbrev pub path_of : Part → Option Text
path_of (directory path) = Some path
path_of (setting form s n) = None

abbrev pub number_of : Setting → Part → Option ℕ
number_of s (directory path) = None
number_of s (setting form t n) = if is_same s t then Some n else None

-- the numbers that an option has among the parts
abbrev pub numbers_of : Setting → List Part → List ℕ
numbers_of s = filter_map (number_of s)

-- n is the one number that was given, or the default where none was
abbrev pub IsOnceOr : ℕ → List ℕ → ℕ → Type 0
IsOnceOr default [] n = n ≡ default
IsOnceOr default (m ∷ []) n = n ≡ m
IsOnceOr default (m ∷ k ∷ more) n = ⊥

-- what `index` or `trace` is to do
pub record Options : Type 0 where
  pub directory : Text
  pub walkers : ℕ
  pub parsers : ℕ
  pub mergers : ℕ
  pub stop_after : Option ℕ

-- the words are spelt parts, in any order: one DIR, and each option at most once
pub record SayOptions (words : List Text) (o : Options) : Type 0 where
  pub parts : List Part
  pub spelt : words ≡ flat_map spelling parts
  pub each : All IsPart parts
  pub directory : filter_map path_of parts ≡ o.directory ∷ []
  pub walkers : IsOnceOr 2 (numbers_of Setting.walkers parts) o.walkers
  pub parsers : IsOnceOr 4 (numbers_of Setting.parsers parts) o.parsers
  pub mergers : IsOnceOr 2 (numbers_of Setting.mergers parts) o.mergers
  pub stop_after : numbers_of Setting.stop_after parts ≡ option_to_list o.stop_after

-- what holds of options that words say
pub record AreInRange (o : Options) : Type 0 where
  pub directory : IsDirectory o.directory
  pub walkers : (1 ≤ o.walkers) × (o.walkers ≤ 8)
  pub parsers : (1 ≤ o.parsers) × (o.parsers ≤ 8)
  pub mergers : (1 ≤ o.mergers) × (o.mergers ≤ 8)
  pub stop_after : IfSome o.stop_after (λ n. n ≤ 1000000000)

-- ---- all words

-- a command with what belongs to it
pub data Task : Type 0 where
  check : Task
  run : Task
  index : Options → Task
  trace : Options → Task
  sample : ℕ → ℕ → Task
  jobs : ℕ → Task
  find : List Text → Task
  order : Task
  rounds : ℕ → ℕ → Task

-- the words are this one and then such as say the options
abbrev pub SayWith : Text → List Text → Options → Type 0
SayWith word words o = (rest : List Text) × (words ≡ word ∷ rest) × SayOptions rest o

-- the words after the program's name say the task
abbrev pub Say : List Text → Task → Type 0
Say words check = words ≡ codes "check" ∷ []
Say words run = words ≡ codes "run" ∷ []
Say words (index o) = SayWith (codes "index") words o
Say words (trace o) = SayWith (codes "trace") words o
Say words (sample seed files) = (words ≡ codes "sample" ∷ decimal seed ∷ decimal files ∷ [])
    × (seed < 2 ^ 64) × (1 ≤ files) × (files ≤ 20000)
Say words (jobs workers) = (words ≡ codes "jobs" ∷ decimal workers ∷ []) × (1 ≤ workers) × (workers ≤ 8)
Say words (find tokens) = words ≡ codes "find" ∷ tokens
Say words order = words ≡ codes "order" ∷ []
Say words (rounds threads each) = (words ≡ codes "rounds" ∷ decimal threads ∷ decimal each ∷ [])
    × (1 ≤ threads) × (threads ≤ 64) × (1 ≤ each) × (each ≤ 1000)

-- the words are not in the grammar
abbrev pub SayNothing : List Text → Type 0
SayNothing words = (t : Task) → Say words t → ⊥

-- only these are read with `clap`, which takes memory
abbrev pub HasOptions : Task → Type 0
HasOptions (index o) = Unit {0}
HasOptions (trace o) = Unit {0}
HasOptions _ = ⊥

-- options may follow the first word
abbrev pub BeginOptions : List Text → Type 0
BeginOptions words = (rest : List Text) × ((words ≡ codes "index" ∷ rest) ⊎ (words ≡ codes "trace" ∷ rest))

-- what holds of a task that words say
abbrev pub IsInRange : Task → Type 0
IsInRange (index o) = AreInRange o
IsInRange (trace o) = AreInRange o
IsInRange (sample seed files) = (1 ≤ files) × (files ≤ 20000)
IsInRange (jobs workers) = (1 ≤ workers) × (workers ≤ 8)
IsInRange (rounds threads each) = (1 ≤ threads) × (threads ≤ 64) × (1 ≤ each) × (each ≤ 1000)
IsInRange _ = Unit {0}
