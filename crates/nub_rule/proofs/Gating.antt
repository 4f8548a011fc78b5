-- What is asked of a gate's queue alone.
use Rattle.std.proofs.Common.{◌≡◌, inl, None}
use Rattle.nub_rule.specs.declared.object.Object.{Object}
use Rattle.nub_rule.specs.declared.object.Object.TheVariants.{Mutex, Sem, Cond}
use Rattle.nub_rule.specs.Known.{Known, HasLeft, MayLeave, MayPush, MayPop, StandsAs}
use Rattle.nub_rule.specs.Objects.{object_of, IsGate}
use Rattle.nub_rule.specs.Parts.{IsClear, left_turns}
use Rattle.nub_rule.specs.Plays.{less}

module _ {T H W : Type 0} where
  pub push-gate : (at : Object) (k : Known T H W) → IsGate at → MayPush at k
  push-gate (Mutex m) k gate = tt
  push-gate (Sem s) k gate = tt
  push-gate (Cond c) k gate = absurd gate

  pub pop-gate : (at : Object) (k : Known T H W) → IsGate at → MayPop at k
  pop-gate (Mutex m) k gate = tt
  pop-gate (Sem s) k gate = tt
  pop-gate (Cond c) k gate = absurd gate

  -- who stands at a gate and found its bit clear may leave its queue
  pub leave-gate : (at : Object) (k : Known T H W) → IsGate at → StandsAs (λ s. (s.at ≡ object_of at) × IsClear s.stage) k → MayLeave at k
  leave-gate (Mutex m) k gate stands = stands
  leave-gate (Sem s) k gate stands = (stands.0, stands.1, (stands.2.0, inl stands.2.1))
  leave-gate (Cond c) k gate stands = absurd gate

  -- who has left the queue of a gate has its turn there, unless it had found the bit set
  pub left-gate : (at : Object) (a b : Known T H W) → IsGate at → HasLeft at a b → b ≡ record a { part = record a.part { queue = less a.number a.queue; left = less a.number a.left; stand = None; turns = left_turns a.stand a.turns } }
  left-gate (Mutex m) a b gate left = left
  left-gate (Sem s) a b gate left = left
  left-gate (Cond c) a b gate left = absurd gate
