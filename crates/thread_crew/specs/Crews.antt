-- What the workers of a crew do, by their jobs.
use Rattle.std.specs.Prelude.{◌≡◌, ℕ, ◌+◌, ◌≤◌, List, []}
use Rattle.thread_crew.specs.declared.task.Gives.{Gives}
use Rattle.thread_crew.specs.declared.child.Child.{Child}
use Rattle.thread_crew.specs.declared.child.Child.TheVariants.{Started, Held}
use Rattle.thread_crew.specs.declared.child.Running.{Running}
use Rattle.thread_crew.specs.declared.child.Running.TheVariants.{Going, Done}

module _ {T X : Type 0} (gives : T → X → Type 0) where
  -- the child has this job: its thread has it, or its closure may be called and gives what the job may give
  abbrev pub IsChildOf : {F : Type 0} → (F → Type 0) → (F → X → Type 0) → T → Child X (Gives T) F → Type 0
  IsChildOf pre post job (Started h) = h.promise.task.value ≡ job
  IsChildOf pre post job (Held f) = pre f × ((r : X) → post f r → gives job r)

  -- the thread has this job, or its result is one that the job may give
  abbrev pub IsRunning : T → Running X (Gives T) → Type 0
  IsRunning job (Going h) = h.promise.task.value ≡ job
  IsRunning job (Done r) = gives job r

-- how many of this child's job are still to be run here: 1 where no thread has it
abbrev pub held_in : {X P F : Type 0} → Child X P F → ℕ
held_in (Started h) = 0
held_in (Held f) = 1

-- a list that holds nothing yet, and has room for so many
pub record HasRoom {A : Type 0} (many : ℕ) (items : List A) (capacity : ℕ) : Type 0 where
  pub empty : items ≡ []
  pub room : many ≤ capacity

-- c follows from b: what goes with b goes with c
abbrev pub Turns : {A B C : Type 0} → (A → B → Type 0) → (A → C → Type 0) → B → C → Type 0
Turns {A} R S b c = (a : A) → R a b → S a c

-- how many of the jobs weren't started: all after so many starts, and of the others those whose thread couldn't be made
pub record IsHeldCount (starts jobs held : ℕ) : Type 0 where
  pub enough : jobs ≤ starts + held
  pub few : held ≤ jobs
