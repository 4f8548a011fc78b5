-- A thread that plays its rounds.
use Rattle.std.specs.Prelude.{◌≡◌, ℕ, ◌+◌, ◌*◌, ◌<◌, ◌≤◌, false, eqb, List, [], ◌∷◌, ◌++◌, length, vec_capacity, IfSome, Option as Opt, Some, None}
use Rattle.std.specs.List.{AllByRecursion}
use Rattle.std.proofs.Common.{Vec, Global}
use Rattle.larch_actions.specs.declared.event.Event.{Event}
use Rattle.larch_actions.specs.Layout.{layout_of}
use Rattle.nub_rule.specs.Items.{Each}
use Rattle.nub_rule.specs.Known.{Shape}
use Rattle.nub_rule.specs.Stints.{stints_at}
use Rattle.nub.specs.Idle.{IsIdle}
use Rattle.barrier_once.specs.declared.cell.RoundAt.{RoundAt}
use Rattle.barrier_once.specs.declared.share.RoundShare.{RoundShare}
use Rattle.barrier_once.specs.declared.share.RoundWorld.{RoundWorld}
use Rattle.barrier_once.specs.Calls.{RoundThread}
use Rattle.barrier_once.specs.Cells.{once_of}
use Rattle.barrier_once.specs.Rounds.{fresh_share, triangle}
use Rattle.barrier_once.specs.Walks.{RoundStint, Walks, acquires, how_many, releases}
use Rattle.command_rounds.specs.RoundEvents.{AreEventsOf, IsArrivalOf, visit}

-- the bar with its condition, the sum and the once cell
abbrev pub round_at : RoundAt
round_at = record { bar = record { 0 = 0 }; cond = record { 0 = 0 }; sum = record { 0 = 1 }; once = record { 0 = 2 } }

-- the package has these cells; its threads are the parties, and their number is the greatest value
pub record IsTable (p : Shape RoundWorld) : Type 0 where
  pub layout : p.layout ≡ layout_of p.world.parties 3 1 0
  pub most : p.world.most ≡ p.world.parties
  pub at : p.world.at ≡ round_at
  pub few : p.world.parties ≤ 64

-- a stint with another mutex than the bar leaves the arrivals as they were
abbrev pub KeepsArrivals : RoundStint → Type 0
KeepsArrivals s = eqb s.mutex 0 ≡ false → s.after.arrivals ≡ s.before.arrivals

-- the thread t began with the once cell, and agreed on v: on its number and 1, if the cell was empty
pub record HasBegun (t v : ℕ) (ss : List RoundStint) : Type 0 where
  pub first : RoundStint
  pub others : List RoundStint
  pub are : ss ≡ first ∷ others
  pub mutex : first.mutex ≡ 2
  pub before : first.before ≡ fresh_share
  pub offers : once_of first.got ≡ None → v ≡ t + 1

-- the thread t with this share has made these events and stints
pub record HasWalked (t : ℕ) (s : RoundShare) (es : List Event) (ss : List RoundStint) : Type 0 where
  pub walks : Walks 0 0 0 es (stints_at 0 ss)
  pub arrivals : s.arrivals ≡ how_many (acquires 0) es
  pub left : s.left ≡ how_many (releases 0) es
  pub kept : AllByRecursion KeepsArrivals ss
  pub begun : (v : ℕ) → s.agreed ≡ Some v → HasBegun t v ss

-- the thread t is between two calls with this share, and these are its own events
pub record IsBetween (p : Shape RoundWorld) (t : ℕ) (s : RoundShare) (es : List Event) (me : RoundThread) : Type 0 where
  pub idle : IsIdle p t s me
  pub mine : me.mine ≡ es
  pub walked : HasWalked t s es me.stints

-- the thread t has agreed and played n rounds
pub record IsPlaying (p : Shape RoundWorld) (t n : ℕ) (me : RoundThread) : Type 0 where
  pub share : RoundShare
  pub events : List Event
  pub between : IsBetween p t share events me
  pub arrivals : share.arrivals ≡ 2 * n
  pub left : share.left ≡ 2 * n
  pub added : share.added ≡ n * (t + 1)
  pub agreed : (v : ℕ) × (share.agreed ≡ Some v)
  pub are : AreEventsOf t n events

-- the thread t has played n rounds and half of the next, and then these events were its own
pub record IsHalfway (p : Shape RoundWorld) (t n : ℕ) (asked : List Event) (me : RoundThread) : Type 0 where
  pub share : RoundShare
  pub before : List Event
  pub first : List Event
  pub between : IsBetween p t share (before ++ ((visit t 1 ++ first) ++ asked)) me
  pub few : n < 1000
  pub arrivals : share.arrivals ≡ 2 * n + 1
  pub left : share.left ≡ 2 * n + 1
  pub added : share.added ≡ (n + 1) * (t + 1)
  pub agreed : (v : ℕ) × (share.agreed ≡ Some v)
  pub are : AreEventsOf t n before
  pub arrival : IsArrivalOf t first

-- the totals of `rounds` rounds, each of all that was added up to its round
pub record AreTotals (parties rounds : ℕ) (totals : List ℕ) : Type 0 where
  pub count : length totals ≡ rounds
  pub each : Each (λ k n. n ≡ (k + 1) * triangle parties) totals

-- the total was appended to those that are kept, if any are
abbrev pub IsNoted : ℕ → Opt (Vec ℕ Global) → Opt (Vec ℕ Global) → Type 0
IsNoted total None new = new ≡ None
IsNoted total (Some old) new = IfSome new (λ v. (v.items ≡ old.items ++ total ∷ []) × (vec_capacity v ≡ vec_capacity old))
