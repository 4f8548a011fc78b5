-- The parts that the threads of a package of sums may do, and what a package leaves whose threads
-- have done theirs.
use Rattle.std.specs.Prelude.{◌≡◌, ℕ, ◌*◌, Bool, true, false, cond, List, [], ◌∷◌, length}
use Rattle.nub_rule.specs.Known.{Shape}
use Rattle.nub_rule.specs.Items.{Each}
use Rattle.nub.specs.Ended.{Ended}
use Rattle.sum_uses.specs.declared.added.Added.{Added}
use Rattle.bench_workloads.specs.declared.parts.Part.{Part}
use Rattle.bench_workloads.specs.declared.parts.Part.TheVariants.{Add, Call, Pass, Turns, Wake}
use Rattle.bench_workloads.specs.Workloads.{HasMade, HasPassed, HasWoken, HasWorked, Worker, first_calls}

-- semaphores are passed on
abbrev pub is_pass : Part → Bool
is_pass (Pass alone times) = true
is_pass _ = false

-- how many calls the thread n has made before the part
abbrev pub begun : Part → ℕ → ℕ
begun part n = cond (is_pass part) (first_calls n) 0

-- how much each thread adds
abbrev pub adds : Part → ℕ
adds (Add times outside) = times
adds (Turns what threads times) = times
adds (Wake times) = times
adds _ = 0

-- what the events of the thread n show when it has done the part, and the number that it left
abbrev pub Shows : Part → ℕ → ℕ → Worker → Type 0
Shows (Add times outside) n left t = HasMade (2 * times) t
Shows (Call all times) n left t = HasMade times t
Shows (Pass alone times) n left t = HasPassed times n left t
Shows (Turns what threads times) n left t = Unit {0}
Shows (Wake times) n left t = HasWoken times n left t

-- the thread n of the package has done the part, and has left this number
abbrev pub HasDonePart : Part → Shape (Unit {0}) → ℕ → ℕ → Worker → Type 0
HasDonePart part p n left t = HasWorked p n (adds part) (Shows part n left) t

-- this many threads have done the part in a package that was closed, and have left these numbers
pub record HasRun (threads : ℕ) (part : Part) (e : Ended ℕ (List Added) (Unit {0})) (lefts : List ℕ) : Type 0 where
  pub count : length e.threads ≡ threads
  pub lefts_count : length lefts ≡ threads
  pub each : Each (λ n t. (left : ℕ) × Shows part n left t) e.threads
  pub each_left : Each (λ n left. (t : Worker) × Shows part n left t) lefts
  pub value : e.values ≡ (threads * adds part) ∷ []
