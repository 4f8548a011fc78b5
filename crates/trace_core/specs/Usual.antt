-- Texts that stand in the bytes held.
use Rattle.std.specs.Prelude.{◌≡◌, ℕ, ◌+◌, ◌*◌, ◌<◌, ◌≤◌, List, [], ◌∷◌, ◌++◌, Bool, true, false, length, drop, codes, decimal}
use Rattle.larch_actions.specs.declared.event.Layout.{Layout}
use Rattle.larch_actions.specs.Layout.{IsNamed, HasNames}
use Rattle.trace_core.specs.Made.{IsMade}
use Rattle.trace_core.specs.Text.{action_text, event_line, newline}
use Rattle.trace_core.specs.declared.usual.name.UsualName.{UsualName}
use Rattle.trace_core.specs.declared.usual.action.UsualAction.{UsualAction}
use Rattle.trace_core.specs.declared.usual.wait.UsualWait.{UsualWait}
use Rattle.trace_core.specs.declared.usual.wait.UsualEnding.{UsualEnding}
use Rattle.trace_core.specs.declared.usual.event.UsualEvent.{UsualEvent}

-- the text stands in the bytes, from one place to the other
pub record Stands (bytes : List ℕ) (start : ℕ) (text : List ℕ) (end : ℕ) : Type 0 where
  pub within : end ≤ length bytes
  pub there : drop start bytes ≡ text ++ drop end bytes

-- the bytes as a number, the first of them lowest
abbrev pub little : List ℕ → ℕ
little [] = 0
little (b ∷ bytes) = b + 256 * little bytes

-- a name below the bound stands there, with this text after it
pub record IsNameAt (bytes : List ℕ) (start bound : ℕ) (following : List ℕ) (name : UsualName) : Type 0 where
  pub below : name.value < bound
  pub text : Stands bytes start (decimal name.value ++ following) name.end

-- the names of a mutex and a condition stand there, with this text after them
pub record IsWaitAt (l : Layout) (bytes : List ℕ) (start : ℕ) (following : List ℕ) (x : UsualWait) : Type 0 where
  pub mutex : x.mutex.0 < l.mutexes
  pub cond : x.cond.0 < l.conditions
  pub text : Stands bytes start ((decimal x.mutex.0 ++ codes " c") ++ (decimal x.cond.0 ++ following)) x.end

-- how an alertable call ended stands there
abbrev pub ending_text : Bool → List ℕ
ending_text true = codes "returns" ++ newline
ending_text false = codes "raises" ++ newline

pub record IsEndingAt (bytes : List ℕ) (start : ℕ) (x : UsualEnding) : Type 0 where
  pub text : Stands bytes start (ending_text x.returns) x.end

-- an action with lawful names stands there, with its newline
pub record IsActionAt (l : Layout) (bytes : List ℕ) (start : ℕ) (x : UsualAction) : Type 0 where
  pub named : IsNamed l x.action
  pub made : IsMade x.action
  pub text : Stands bytes start (action_text x.action ++ newline) x.end

-- the line of an event with lawful names stands at the front
pub record IsEventAt (l : Layout) (place : ℕ) (bytes : List ℕ) (x : UsualEvent) : Type 0 where
  pub named : HasNames l x.event
  pub made : IsMade x.event.action
  pub text : Stands bytes 0 (event_line place x.event) x.end
