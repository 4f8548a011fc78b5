-- Events after others, the latest first.
use Rattle.std.proofs.Common.{◌≡◌, ◌+◌, List, [], ◌∷◌, ◌++◌, length, refl, arith}
use Rattle.larch_actions.specs.declared.event.Event.{Event}
use Rattle.trace_board.specs.Tracked.{extended}

pub extended-push : (past es : List Event) (e : Event) → extended past (es ++ e ∷ []) ≡ e ∷ extended past es
extended-push past [] e = refl
extended-push past (x ∷ es) e = extended-push (x ∷ past) es e

pub length-extended : (past es : List Event) → length (extended past es) ≡ length past + length es
length-extended past [] = omega arith
length-extended past (x ∷ es) = omega (arith, length-extended (x ∷ past) es)
