-- A thread, before it plays.
use Rattle.std.proofs.Common.{ℕ, List, [], sym, subst}
use Rattle.nub_rule.specs.Known.{Shape}
use Rattle.nub.specs.Ended.{IsFirst}
use Rattle.sum_uses.specs.declared.added.Added.{Added}
use Rattle.script_run.specs.Playing.{Player}

-- the first thread at its own number
pub own_first : (p : Shape (Prim.Unit {0})) (n : ℕ) (t : Player) → IsFirst p (λ w i. let s : List Added = [] in s) n t → IsFirst p (λ w i. let s : List Added = [] in s) t.number t
own_first p n t f = let P : ℕ → Type 0 = λ i. IsFirst p (λ w k. let s : List Added = [] in s) i t in subst P (sym f.number) f
