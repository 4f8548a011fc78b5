-- Which causes are awaited.
use Rattle.std.specs.Prelude.{◌≡◌, ℕ, ◌≤◌, Bool, true, false, List}
use Rattle.larch_actions.specs.State.{shown_at}
use Rattle.trace_board.specs.declared.causes.Cause.{Cause}
use Rattle.trace_board.specs.declared.causes.Cause.TheVariants.{Never, Awaited, By}

abbrev pub is_awaited : Cause → Bool
is_awaited Never = false
is_awaited (Awaited k) = true
is_awaited (By o) = false

-- none of these is awaited from the number n on
abbrev pub NoneFrom : ℕ → List Cause → Type 0
NoneFrom n entries = (k : ℕ) → n ≤ k → is_awaited (shown_at (λ x. x) Never entries k) ≡ false
