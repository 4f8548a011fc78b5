-- Layouts, names and which of them are lawful.
use Rattle.std.specs.Prelude.{◌≡◌, ℕ, ◌<◌, ◌≤◌, true, List, ◌++◌, codes, decimal}
use Rattle.larch_actions.specs.declared.event.Version.{Version}
use Rattle.larch_actions.specs.declared.event.Version.TheVariants.{One, Two}
use Rattle.larch_actions.specs.declared.event.Layout.{Layout}
use Rattle.larch_actions.specs.declared.event.Event.{Event}
use Rattle.larch_actions.specs.declared.event.Action.{Action}
use Rattle.larch_actions.specs.declared.kind.Kind.{Kind}
use Rattle.larch_actions.specs.declared.kind.Kind.TheVariants.{Mutex, Condition, Semaphore, Thread}
use Rattle.larch_actions.specs.declared.rows.Numbers.{Numbers}
use Rattle.larch_actions.specs.declared.rows.Kinds.{Kinds}
use Rattle.larch_actions.specs.declared.rows.Kinds.TheVariants as kinds
use Rattle.larch_actions.specs.declared.rows.Endings.{Endings}
use Rattle.larch_actions.specs.declared.rows.Endings.TheVariants.{Threads}
use Rattle.larch_actions.specs.declared.rows.Ending.{Ending}
use Rattle.larch_actions.specs.declared.rows.Row.{Row}
use Rattle.larch_actions.specs.Sets.{in_set}
use Rattle.larch_actions.specs.Rows.{kinds_of, endings_of, since, row_of, left_by}

-- how many threads there are at most in any version, and how many things of another kind
abbrev pub most_threads : ℕ
most_threads = 256

abbrev pub most_objects : ℕ
most_objects = 64

-- how many threads a layout of the version has at most
abbrev pub most_in : Version → ℕ
most_in One = 64
most_in Two = 256

-- the layout of the version with these counts
abbrev pub layout_in : Version → ℕ → ℕ → ℕ → ℕ → Layout
layout_in version threads mutexes conditions semaphores =
    record { version = version; threads = threads; mutexes = mutexes; conditions = conditions; semaphores = semaphores }

-- the one of version one
abbrev pub layout_of : ℕ → ℕ → ℕ → ℕ → Layout
layout_of = layout_in One

-- 1 to 64 threads in version one and 1 to 256 in version two, and 0 to 64 of each other kind
pub record IsLawful (l : Layout) : Type 0 where
  pub some : 1 ≤ l.threads
  pub threads : l.threads ≤ most_in l.version
  pub mutexes : l.mutexes ≤ most_objects
  pub conditions : l.conditions ≤ most_objects
  pub semaphores : l.semaphores ≤ most_objects

-- how many things of the kind there are
abbrev pub count_of : Layout → Kind → ℕ
count_of l Mutex = l.mutexes
count_of l Condition = l.conditions
count_of l Semaphore = l.semaphores
count_of l Thread = l.threads

-- the letter that the names of the kind begin with
abbrev pub letter : Kind → ℕ
letter Mutex = 109
letter Condition = 99
letter Semaphore = 115
letter Thread = 116

-- each number that stands for a name is below the count of its kind
abbrev pub AreBelow : Layout → Kinds → Numbers → Type 0
AreBelow l kinds.Nothing x = Unit {0}
AreBelow l (kinds.One k) x = x.first < count_of l k
AreBelow l (kinds.Two k j) x = (x.first < count_of l k) × (x.second < count_of l j)

-- so is each of the threads that are left, where some may be
abbrev pub FitsIn : Layout → Kinds → Numbers → Endings → Ending → Type 0
FitsIn l ks x Threads e = AreBelow l ks x × ((t : ℕ) → in_set (left_by e) t ≡ true → t < l.threads)
FitsIn l ks x _ e = AreBelow l ks x

-- so is it, and a word that came with version two stands in no other
abbrev pub InVersion : Version → Version → Type 0 → Type 0
InVersion One v A = A
InVersion Two v A = (v ≡ Two) × A

-- each name in the row is below the count of its kind, and the word is one of the version
abbrev pub IsNamedRow : Layout → Row → Type 0
IsNamedRow l r = InVersion (since r.word) l.version (FitsIn l (kinds_of r.word) r.numbers (endings_of r.word) r.ending)

-- each name in the action is below the count of its kind, and the action is one of the version
abbrev pub IsNamed : Layout → Action → Type 0
IsNamed l a = IsNamedRow l (row_of a)

-- each name in the event is below the count of its kind, and its action is one of the version
abbrev pub HasNames : Layout → Event → Type 0
HasNames l e = (e.thread.0 < l.threads) × IsNamed l e.action

-- the layout line, without its newline
abbrev pub layout_text : Layout → List ℕ
layout_text l =
    codes "threads " ++ (decimal l.threads ++ (codes " mutexes " ++ (decimal l.mutexes
    ++ (codes " conditions " ++ (decimal l.conditions ++ (codes " semaphores " ++ decimal l.semaphores))))))
