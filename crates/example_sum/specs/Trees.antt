-- What threads have added, and the threads that one has forked.
use Rattle.std.specs.Prelude.{◌≡◌, ℕ, ◌+◌, ◌≤◌, ◌^◌, cond, eqb, sum, List, ◌++◌, Option as Opt, Some, None}
use Rattle.std.specs.List.{All}
use Rattle.larch_actions.specs.declared.event.Action.{Action}
use Rattle.larch_actions.specs.declared.event.Action.TheVariants.{Fork, Join}
use Rattle.larch_actions.specs.declared.event.Event.{Event}
use Rattle.larch_actions.specs.declared.event.Version.TheVariants.{Two}
use Rattle.nub_rule.specs.Known.{Known, Shape}
use Rattle.nub.specs.Forks.{IsLeft}
use Rattle.nub.specs.Idle.{IsIdle}
use Rattle.nub.specs.Totals.{times, total}

-- a thread as contracts see it, and the package
abbrev pub Adder : Type 0
Adder = Known ℕ ℕ (Prim.Unit {0})

abbrev pub Adders : Type 0
Adders = Shape (Prim.Unit {0})

abbrev pub amount : Opt ℕ → ℕ
amount None = 0
amount (Some s) = s

-- what the threads have added
abbrev pub added_by : List Adder → ℕ
added_by ks = total (λ k. amount k.share) ks

-- 1 where the action begins the thread, and where it waits for its end
abbrev pub is_fork : ℕ → Action → ℕ
is_fork n (Fork t) = cond (eqb t.0 n) 1 0
is_fork n _ = 0

abbrev pub is_join : ℕ → Action → ℕ
is_join n (Join t) = cond (eqb t.0 n) 1 0
is_join n _ = 0

-- how many of the events begin the thread, and how many wait for its end
abbrev pub forks_of : ℕ → List Event → ℕ
forks_of n es = total (λ e. is_fork n e.action) es

abbrev pub joins_of : ℕ → List Event → ℕ
joins_of n es = total (λ e. is_join n e.action) es

-- since a, the thread has waited for the end of each thread that it forked since, as often as it forked it
abbrev pub HasJoined : Adder → Adder → Type 0
HasJoined a b = (es : List Event) × (b.mine ≡ a.mine ++ es) × ((n : ℕ) → joins_of n es ≡ forks_of n es)

-- and for the end of one more
abbrev pub HasJoinedToo : ℕ → Adder → Adder → Type 0
HasJoinedToo who a b = (es : List Event) × (b.mine ≡ a.mine ++ es) × ((n : ℕ) → joins_of n es ≡ forks_of n es + cond (eqb who n) 1 0)

-- the right to fork a thread, which has added nothing
pub record IsSpare (p : Adders) (k : Adder) : Type 0 where
  pub left : IsLeft p k
  pub share : k.share ≡ Some 0

-- the thread has added nothing, and may add the numbers with those to which it has the rights
pub record MayAdd (p : Adders) (me : Adder) (numbers : List ℕ) (rights : List Adder) : Type 0 where
  pub version : p.layout.version ≡ Two
  pub mutex : 1 ≤ p.layout.mutexes
  pub small : sum numbers ≤ 2 ^ 55
  pub idle : IsIdle p me.number 0 me
  pub spare : All (IsSpare p) rights

-- the threads are those of before, each once; they may come back, and have added this much together
pub record HaveAdded (p : Adders) (before : List Adder) (amount : ℕ) (after : List Adder) : Type 0 where
  pub back : All (IsLeft p) after
  pub same : (n : ℕ) → times n after ≡ times n before
  pub added : added_by after ≡ amount
