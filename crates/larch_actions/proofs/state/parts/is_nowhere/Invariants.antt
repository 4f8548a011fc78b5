use Rattle.std.proofs.Common.{◌≢◌, ◌<◌, ℕ}
use mathlib.Core.Option.{none, some}
use Rattle.larch_actions.specs.State.{shown_at, holder_of}
use Rattle.larch_actions.proofs.state.parts.is_nowhere.Given as goal

abbrev pub invariant-loop-m : goal.invariant-loop-m
invariant-loop-m l = (m : ℕ) → m < l.m → shown_at holder_of none l.holders m ≢ some l.t.0
