-- When each answer on the lock order is just.
use Rattle.std.specs.Prelude.{◌≡◌, ℕ, ◌≤◌, List, length, IfSome}
use Rattle.std.specs.declared.option.Option.{Option}
use Rattle.larch_actions.specs.declared.event.Layout.{Layout}
use Rattle.larch_actions.specs.declared.event.Event.{Event}
use Rattle.larch_actions.specs.Actions.{IsLegal}
use Rattle.trace_core.specs.Text.{MutexValue, ReadsAs}
use Rattle.trace_check.specs.declared.checker.Verdict.TheVariants as verdict
use Rattle.trace_check.specs.Verdicts.{IsJust}
use Rattle.lock_order.specs.declared.answer.Cycle.{Cycle}
use Rattle.lock_order.specs.declared.answer.OrderAnswer.{OrderAnswer}
use Rattle.lock_order.specs.declared.answer.OrderAnswer.TheVariants.{NoCycle, Found, Illegal, BadLine, TooLong, ReadFault}
use Rattle.lock_order.specs.Order.{HasCycle, ReportsCycle}

-- The whole input is a trace text within the budget, and its events are legal.
pub record IsLegalTrace (budget : ℕ) (bytes : List ℕ) (events : List Event) : Type 0 where
  pub layout : Layout
  pub values : List MutexValue
  pub text : ReadsAs bytes layout events values
  pub within : length bytes ≤ budget
  pub legal : IsLegal layout.version events

-- a legal trace of so many events, which has no cycle
abbrev pub HasNoCycle : ℕ → List ℕ → ℕ → Type 0
HasNoCycle budget bytes count = (events : List Event) × IsLegalTrace budget bytes events × (count ≡ length events) × ¬ HasCycle events

-- a legal trace, which has this cycle
abbrev pub HasThisCycle : ℕ → List ℕ → Cycle → Type 0
HasThisCycle budget bytes cycle = (events : List Event) × IsLegalTrace budget bytes events × ReportsCycle events cycle

-- the answer is just, for an input of these bytes; those that speak of no cycle are just where `check` may say the same
abbrev pub IsJustAnswer : ℕ → Option (List ℕ) → Option (List ℕ) → ℕ → ℕ → OrderAnswer → Type 0
IsJustAnswer budget left left' before now (NoCycle count) = IfSome left (λ bytes. HasNoCycle budget bytes count)
IsJustAnswer budget left left' before now (Found cycle) = IfSome left (λ bytes. HasThisCycle budget bytes cycle)
IsJustAnswer budget left left' before now (Illegal place why) = IsJust budget left left' before now (verdict.Illegal place why)
IsJustAnswer budget left left' before now (BadLine k) = IsJust budget left left' before now (verdict.BadLine k)
IsJustAnswer budget left left' before now TooLong = IsJust budget left left' before now verdict.TooLong
IsJustAnswer budget left left' before now ReadFault = IsJust budget left left' before now verdict.ReadFault

-- the same answer, or two cycles
abbrev pub Agree : OrderAnswer → OrderAnswer → Type 0
Agree (Found c) (Found d) = Unit {0}
Agree x y = x ≡ y
