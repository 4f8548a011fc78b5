-- A thread before its fork, after it, and after its end.
use Rattle.std.specs.Prelude.{◌≡◌, ℕ, ◌<◌, [], Some, None}
use mathlib.Core.Option.{some}
use lib.ListN.{get_elem?}
use Rattle.nub_rule.specs.Known.{Known, Shape}
use Rattle.nub_rule.specs.Rule.{begun}
use Rattle.nub.specs.Rest.{AtRest, HasStored}

module _ {T H W : Type 0} where
  -- the thread is one of the package, and has stored its own events
  pub record IsLeft (p : Shape W) (k : Known T H W) : Type 0 where
    pub of : k.table_id ≡ p.table_id
    pub named : k.number < p.layout.threads
    pub stored : HasStored p.traced k

  -- the right to begin the thread n of the package, which has its first share
  pub record IsRight (p : Shape W) (begin : W → ℕ → H) (n : ℕ) (k : Known T H W) : Type 0 where
    pub number : k.number ≡ n
    pub left : IsLeft p k
    pub world : k.world ≡ Some p.world
    pub seen : k.seen ≡ []
    pub mine : k.mine ≡ []
    pub share : k.share ≡ Some (begin p.world n)
    pub stints : k.stints ≡ []

  -- the thread n of the package was forked by the thread a: it has done nothing, has seen what a
  -- has seen, and has its first share
  pub record IsBegun (p : Shape W) (begin : W → ℕ → H) (n : ℕ) (a k : Known T H W) : Type 0 where
    pub number : k.number ≡ n
    pub rest : AtRest p k
    pub world : k.world ≡ a.world
    pub seen : k.seen ≡ a.seen
    pub mine : k.mine ≡ []
    pub lacks : (m : ℕ) → m < 64 → get_elem? k.held m ≡ some None
    pub lacks_named : (m : ℕ) → m < p.layout.mutexes → get_elem? k.held m ≡ some None
    pub none : (m : ℕ) (x : T) → ¬ (get_elem? k.held m ≡ some (Some x))
    pub share : k.share ≡ begun begin n a.world
    pub stints : k.stints ≡ []
