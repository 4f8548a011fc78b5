-- What may end a sleep, and which threads may leave a queue for an alert.
use Rattle.std.specs.Prelude.{Bool, true, ◌≡◌, ◌⊎◌, Some}
use Rattle.nub_rule.specs.declared.object.Object.{Object}
use Rattle.nub_rule.specs.declared.object.Object.TheVariants.{Mutex, Sem, Cond}
use Rattle.nub_rule.specs.declared.view.Stand.{Stand}
use Rattle.nub_rule.specs.declared.view.Wait.{Wait}
use Rattle.nub_rule.specs.Known.{Known}
use Rattle.nub_rule.specs.Places.{cond_object}

module _ {T H W : Type 0} where
  -- in the condition of an alertable wait an alert may end the sleep too, unless the thread has
  -- already found its alert word set
  abbrev pub HearsAlerts : Bool → Known T H W → Type 0
  HearsAlerts alertable k = (x : Wait) (s : Stand) → k.wait ≡ Some x → x.alertable ≡ true → k.stand ≡ Some s → s.at ≡ cond_object x.cond.0
      → (alertable ≡ true) ⊎ (k.alerted ≡ true)

  -- an alert ends no wait for a mutex; the threads in the queue of a condition wait in that
  -- condition
  abbrev pub MayWithdraw : Object → Known T H W → Type 0
  MayWithdraw (Mutex m) k = ⊥
  MayWithdraw (Sem s) k = Unit {0}
  MayWithdraw (Cond c) k = (x : Wait) × (k.wait ≡ Some x) × (x.cond.0 ≡ c.0)
