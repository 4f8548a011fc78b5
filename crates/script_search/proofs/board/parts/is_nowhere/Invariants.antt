use Rattle.std.proofs.Common.{◌≢◌, ◌<◌, ℕ}
use mathlib.Core.Option.{none, some}
use Rattle.larch_actions.specs.State.{shown_at}
use Rattle.script_search.specs.Boards.{holder_of}
use Rattle.script_search.proofs.board.parts.is_nowhere.Given as goal

abbrev pub invariant-loop-m : goal.invariant-loop-m
invariant-loop-m l = (m : ℕ) → m < l.m → shown_at holder_of none l.holders m ≢ some l.t
