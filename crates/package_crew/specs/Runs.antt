-- What the threads of a package have done when it is closed.
use Rattle.std.specs.Prelude.{◌≡◌, ℕ, List, map, length, Some}
use mathlib.Core.Option.{some}
use lib.ListN.{get_elem?}
use Rattle.larch_actions.specs.declared.event.Event.{Event}
use Rattle.nub_rule.specs.Items.{Each}
use Rattle.nub_rule.specs.Known.{Known, Shape}
use Rattle.nub.specs.Idle.{IsIdle}

-- the thread n of the package is between two calls, and `did` holds of its own events, of what it
-- left and of its share
abbrev pub HasDone : {T H W X : Type 0} → Shape W → (ℕ → List Event → X → H → Type 0) → ℕ → Known T H W → X → Type 0
HasDone {T} {H} p did n t x = (s : H) × IsIdle p n s t × did n t.mine x s

-- of the thread n, which has the share s at the end, `did` holds of its own events, of what it left
-- and of s
pub record HasWorked {T H W X : Type 0} (did : ℕ → List Event → X → H → Type 0) (threads : List (Known T H W)) (lefts : List X) (n : ℕ)
    (s : H) : Type 0 where
  pub left : X
  pub is_left : get_elem? lefts n ≡ some left
  pub thread : Known T H W
  pub is_thread : get_elem? threads n ≡ some thread
  pub goes : did n thread.mine left s

-- the lock invariant holds of the values and of shares, one for each thread, and each thread has
-- worked as `did` says
pub record HaveWorked {T H W X : Type 0} (world : W) (holds : List T → List H → Type 0) (did : ℕ → List Event → X → H → Type 0)
    (threads : List (Known T H W)) (values : List T) (left : List X) : Type 0 where
  pub same : Each (λ n t. (t.number ≡ n) × (t.world ≡ Some world)) threads
  pub shares : List H
  pub each_share : map (λ t. t.share) threads ≡ map (λ s. Some s) shares
  pub count : length shares ≡ length left
  pub kept : holds values shares
  pub each : Each (HasWorked did threads left) shares
