-- Values that a test refused.
use Rattle.std.proofs.Common.{ℕ, List, [], ◌∷◌}
use Rattle.std.specs.List.{AllByRecursion}
use Rattle.monitor.specs.Waits.{AreRefused}

all_so : {V : Type 0} (P Q : V → Type 0) → ((x : V) → P x → Q x) → (xs : List V) → AllByRecursion P xs → AllByRecursion Q xs
all_so P Q to [] h = tt
all_so P Q to (x ∷ xs) h = (to x h.0, all_so P Q to xs h.1)

-- what a test refused, said in other words
pub refused_so : {V : Type 0} (P Q : V → Type 0) (k : ℕ) → ((x : V) → P x → Q x) → AreRefused P k → AreRefused Q k
refused_so P Q k to was = record { seen = was.seen; count = was.count; each = all_so P Q to was.seen was.each }
