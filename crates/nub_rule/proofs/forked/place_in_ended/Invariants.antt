use Rattle.std.proofs.Common.{◌≡◌, ◌≢◌, ◌<◌, ℕ}
use lib.ListN.{get_elem?}
use mathlib.Core.Option.{some}
use Rattle.nub_rule.specs.Known.{Known}
use Rattle.nub_rule.proofs.forked.place_in_ended.Given as goal

abbrev pub invariant-loop-i : goal.invariant-loop-i
invariant-loop-i g l = (n : ℕ) (k : Known g.row.U-Value.Denot g.row.U-Share.Denot g.row.U-World.Denot) → n < l.i → get_elem? l.ended.items n ≡ some k → k.number ≢ l.number
