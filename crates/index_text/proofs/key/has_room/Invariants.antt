use Rattle.std.proofs.Common.{◌≡◌, drop}
use Rattle.std.specs.Prelude.{nat_lt}
use Rattle.std.specs.List.{list_any}
use Rattle.index_text.proofs.key.has_room.Given as goal

abbrev pub invariant-loop-b : goal.invariant-loop-b
invariant-loop-b l = list_any (λ b. nat_lt b 122) (drop l.b-index l.rest) ≡ list_any (λ b. nat_lt b 122) l.rest
