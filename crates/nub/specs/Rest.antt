-- Threads with no open call, and what a call adds.
use Rattle.std.specs.Prelude.{◌≡◌, ◌<◌, ℕ, Bool, true, false, List, [], ◌∷◌, ◌++◌, map, Some, None}
use Rattle.larch_actions.specs.declared.event.Event.{Event}
use Rattle.larch_actions.specs.declared.event.Life.TheVariants.{Live}
use Rattle.larch_actions.specs.Actions.{IsLegal, StartsWith, by_thread}
use Rattle.nub_rule.specs.declared.view.Child.TheVariants as child
use Rattle.nub_rule.specs.declared.view.Pen.TheVariants.{No}
use Rattle.nub_rule.specs.Known.{Known, Shape, Holds, IsOut}
use Rattle.nub_rule.specs.Owed.{MustLook}
use Rattle.nub_rule.specs.Plays.{stint}

module _ {T H W : Type 0} where
  -- the thread lives, has no spin word and no pen, owes no thread its ready word, and is in no
  -- queue
  pub record IsOutside (k : Known T H W) : Type 0 where
    pub spin : k.spin ≡ None
    pub queue : k.queue ≡ []
    pub owed : k.owed ≡ []
    pub left : k.left ≡ []
    pub stand : k.stand ≡ None
    pub pen : k.pen ≡ No
    pub live : k.life ≡ Live

  -- in a traced package each own event was stored with its place, unless the list lost an entry
  abbrev pub HasStored : Bool → Known T H W → Type 0
  HasStored traced k = traced ≡ true → k.lost ≡ false → (map (λ x. x.number) k.entries ≡ k.places) × (map (λ x. x.event) k.entries ≡ k.mine)

  -- the thread is of the package, and no call of it is open
  pub record AtRest (p : Shape W) (k : Known T H W) : Type 0 where
    pub of : k.table_id ≡ p.table_id
    pub named : k.number < p.layout.threads
    pub outside : IsOutside k
    pub wait : k.wait ≡ None
    pub raised : k.raised ≡ None
    pub calling : k.calling ≡ None
    pub turns : k.turns ≡ []
    pub cleared : k.cleared ≡ []
    pub looked : k.looked ≡ []
    pub taken : (m : ℕ) (x : T) → Holds k m x → IsOut k m
    pub stored : HasStored p.traced k
    pub child : k.child ≡ child.No
    pub version : k.version ≡ p.layout.version

  -- the thread needn't look at any mutex or semaphore, whatever is in its queue
  abbrev pub IsBoundNowhere : Known T H W → Type 0
  IsBoundNowhere k = (o : ℕ) (queue : List ℕ) → ¬ MustLook o queue k.number k.part

  -- a call added these own events and then e: the history seen grew to a legal one that ends with
  -- e, and the own events are the thread's part of it
  pub record Adds (es : List Event) (e : Event) (a b : Known T H W) : Type 0 where
    pub mine : b.mine ≡ (a.mine ++ es) ++ e ∷ []
    pub legal : IsLegal b.version b.seen
    pub grows : StartsWith b.seen a.seen
    pub ends : (before : List Event) × (b.seen ≡ before ++ e ∷ [])
    pub own : by_thread b.number b.seen ≡ b.mine

  -- these own events were added, and the history seen grew
  pub record Added (es : List Event) (a b : Known T H W) : Type 0 where
    pub mine : b.mine ≡ a.mine ++ es
    pub grows : StartsWith b.seen a.seen

  -- the thread is the same, in the same world
  pub record IsSame (a b : Known T H W) : Type 0 where
    pub number : b.number ≡ a.number
    pub world : b.world ≡ a.world

  -- one stint with the mutex was entered: the thread left the value y
  abbrev pub LeavesStint : (W → ℕ → ℕ → T → T → H → H) → ℕ → T → Known T H W → Known T H W → Type 0
  LeavesStint after m y a b = (w : W) (s : H) (x : T) → a.world ≡ Some w → a.share ≡ Some s → Holds a m x
      → b.stints ≡ a.stints ++ stint after w m a.number x y s ∷ []
