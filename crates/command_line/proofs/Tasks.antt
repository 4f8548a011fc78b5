-- Words say one task.
use Rattle.std.proofs.Common.{◌≡◌, ◌∙◌, ◌+◌, ◌*◌, ◌≤◌, ◌⊎◌, inl, inr, ℕ, Option, Some, None, IfSome, List, [], ◌∷◌, ap, ap₂, arith, codes, refl, subst, sym}
use Rattle.std.specs.Prelude.{decimal}
use Rattle.std.specs.List.{AllByRecursion, filter_map}
use Rattle.std.proofs.lemmas.Fmt.{decimal_injective}
use Rattle.command_line.specs.Grammar.{AreInRange, BeginOptions, HasOptions, IsDirectory, IsInRange, IsPart, Options, Part, Say, SayOptions, SayWith, Task, Text, directory, path_of, setting, check, find, index, jobs, order, rounds, run, sample, trace}
use Rattle.command_line.specs.Reading.{IsNumberOr, IsStop}
use Rattle.command_line.proofs.Said.{by_recursion, said-taken}
use Rattle.command_line.proofs.Taken.{held-same}

same_options : (words : List Text) (o p : Options) → SayOptions words o → SayOptions words p → o ≡ p
same_options words o p g h = held-same _ o p (said-taken words o g).1 (said-taken words p h).1

same_with : (word : Text) (words : List Text) (o p : Options) → SayWith word words o → SayWith word words p → o ≡ p
same_with word words o p g h =
    let rest : g.0 ≡ h.0 = let both : word ∷ g.0 ≡ word ∷ h.0 = sym g.1 ∙ h.1 in cc in
    same_options h.0 o p (subst (λ (ws : List Text). SayOptions ws o) rest g.2) h.2

-- ---- the first two letters tell the tasks apart

abbrev start : List Text → ℕ
start ((a ∷ b ∷ rest) ∷ words) = 256 * a + b
start _ = 0

abbrev start_of : Task → ℕ
start_of check = start (codes "check" ∷ [])
start_of run = start (codes "run" ∷ [])
start_of (index o) = start (codes "index" ∷ [])
start_of (trace o) = start (codes "trace" ∷ [])
start_of (sample seed files) = start (codes "sample" ∷ [])
start_of (jobs workers) = start (codes "jobs" ∷ [])
start_of (find tokens) = start (codes "find" ∷ [])
start_of order = start (codes "order" ∷ [])
start_of (rounds threads each) = start (codes "rounds" ∷ [])

said_start : (words : List Text) (t : Task) → Say words t → start words ≡ start_of t
said_start words check h = ap start h
said_start words run h = ap start h
said_start words (index o) h = ap start h.1
said_start words (trace o) h = ap start h.1
said_start words (sample seed files) h = ap start h.0
said_start words (jobs workers) h = ap start h.0
said_start words (find tokens) h = ap start h
said_start words order h = ap start h
said_start words (rounds threads each) h = ap start h.0

starts : (words : List Text) (t u : Task) → Say words t → Say words u → start_of t ≡ start_of u
starts words t u g h = sym (said_start words t g) ∙ said_start words u h

pub say-same : (words : List Text) (t u : Task) → Say words t → Say words u → t ≡ u
say-same words check check g h = refl
say-same words run run g h = refl
say-same words (index o) (index p) g h = ap index (same_with (codes "index") words o p g h)
say-same words (trace o) (trace p) g h = ap trace (same_with (codes "trace") words o p g h)
say-same words (sample a n) (sample b m) g h =
    let e = sym g.0 ∙ h.0 in
    let seeds : decimal a ≡ decimal b = cc in
    let files : decimal n ≡ decimal m = cc in
    ap₂ sample (decimal_injective a b g.1 h.1 seeds) (decimal_injective n m (omega (arith, g.3)) (omega (arith, h.3)) files)
say-same words (jobs a) (jobs b) g h =
    let e = sym g.0 ∙ h.0 in
    let workers : decimal a ≡ decimal b = cc in
    ap jobs (decimal_injective a b (omega (arith, g.2)) (omega (arith, h.2)) workers)
say-same words (find a) (find b) g h =
    let e = sym g ∙ h in
    ap find cc
say-same words order order g h = refl
say-same words (rounds a n) (rounds b m) g h =
    let e = sym g.0 ∙ h.0 in
    let threads : decimal a ≡ decimal b = cc in
    let each : decimal n ≡ decimal m = cc in
    ap₂ rounds (decimal_injective a b (omega (arith, g.2)) (omega (arith, h.2)) threads) (decimal_injective n m (omega (arith, g.4)) (omega (arith, h.4)) each)
say-same words t u g h = absurd (omega (arith, starts words t u g h))

-- ---- where the words after `index` or `trace` say no options, the words say no task

abbrev SayNone : List Text → Type 0
SayNone words = (p : Options) → SayOptions words p → ⊥

after : (word : Text) (rest : List Text) → SayNone rest → (o : Options) → SayWith word (word ∷ rest) o → ⊥
after word rest none o h =
    let same : h.0 ≡ rest = let both : word ∷ rest ≡ word ∷ h.0 = h.1 in cc in
    none o (subst (λ (ws : List Text). SayOptions ws o) same h.2)

pub no_index : (rest : List Text) → SayNone rest → (t : Task) → Say (codes "index" ∷ rest) t → ⊥
no_index rest none (index o) h = after (codes "index") rest none o h
no_index rest none t h = absurd (omega (arith, said_start (codes "index" ∷ rest) t h))

pub no_trace : (rest : List Text) → SayNone rest → (t : Task) → Say (codes "trace" ∷ rest) t → ⊥
no_trace rest none (trace o) h = after (codes "trace") rest none o h
no_trace rest none t h = absurd (omega (arith, said_start (codes "trace" ∷ rest) t h))

-- ---- what words say is in range

number_in : (default : ℕ) (text : Option Text) (n : ℕ) → 1 ≤ default → default ≤ 8 → IsNumberOr default text n → (1 ≤ n) × (n ≤ 8)
number_in default None n low high h = (omega arith, omega arith)
number_in default (Some text) n low high h = (h.1, h.2)

stop_in : (text : Option Text) (stop : Option ℕ) → IsStop text stop → IfSome stop (λ n. n ≤ 1000000000)
stop_in text None h = tt
stop_in None (Some n) h = cc
stop_in (Some text) (Some n) h = h.2

first_path : (parts : List Part) (text : Text) → AllByRecursion IsPart parts → filter_map path_of parts ≡ text ∷ [] → IsDirectory text
first_path [] text each e = cc
first_path (directory path ∷ ps) text each e = let same : path ≡ text = cc in subst IsDirectory same each.0
first_path (setting form s n ∷ ps) text each e = first_path ps text each.1 e

pub options_in_range : (words : List Text) (o : Options) → SayOptions words o → AreInRange o
options_in_range words o s =
    let held = (said-taken words o s).1 in
    record {
      directory = first_path s.parts o.directory (by_recursion IsPart s.parts s.each) s.directory;
      walkers = number_in 2 _ o.walkers (omega arith) (omega arith) held.walkers;
      parsers = number_in 4 _ o.parsers (omega arith) (omega arith) held.parsers;
      mergers = number_in 2 _ o.mergers (omega arith) (omega arith) held.mergers;
      stop_after = stop_in _ o.stop_after held.stop_after;
    }

pub task_in_range : (words : List Text) (t : Task) → Say words t → IsInRange t
task_in_range words check s = tt
task_in_range words run s = tt
task_in_range words (index o) s = options_in_range s.0 o s.2
task_in_range words (trace o) s = options_in_range s.0 o s.2
task_in_range words (sample seed files) s = (s.2, s.3)
task_in_range words (jobs workers) s = (s.1, s.2)
task_in_range words (find tokens) s = tt
task_in_range words order s = tt
task_in_range words (rounds threads each) s = (s.1, s.2, s.3, s.4)

-- ---- what words say has options where options may follow the first word

begun_start : (words : List Text) → BeginOptions words → (start words ≡ start (codes "index" ∷ [])) ⊎ (start words ≡ start (codes "trace" ∷ []))
begun_start words b = elim b.1 [ inl is ↦ inl (ap start is) | inr is ↦ inr (ap start is) ]

pub begun_options : (words : List Text) (t : Task) → BeginOptions words → Say words t → HasOptions t
begun_options words (index o) b s = tt
begun_options words (trace o) b s = tt
begun_options words t b s = elim (begun_start words b) [ inl e ↦ absurd (omega (arith, e, said_start words t s)) | inr e ↦ absurd (omega (arith, e, said_start words t s)) ]
