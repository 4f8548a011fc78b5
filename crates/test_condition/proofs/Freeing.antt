-- A free thread, and the rings at first.
use Rattle.std.proofs.Common.{◌≡◌, ℕ, zero, suc, List, [], ◌∷◌, sym, ap, ◌∙◌}
use mathlib.Core.Option.{some, some-injective, some-ne-none}
use lib.ListN.{get_elem?}
use Rattle.nub_rule.specs.Known.{Known, Shape}
use Rattle.nub.specs.Ended.{IsDone}
use Rattle.nub.proofs.Users.{idle_done}
use Rattle.test_condition.specs.Free.{IsFree}

module _ {T H W : Type 0} where
  -- a free thread is done
  pub free_done : (p : Shape W) (n : ℕ) (t : Known T H W) → IsFree p n t → IsDone p n t
  free_done p n t free = idle_done p n free.share t free.idle

-- the only value of a list
pub only_value : {A : Type 0} (values : List A) (x : A) → values ≡ x ∷ [] → (m : ℕ) (q : A) → get_elem? values m ≡ some q → q ≡ x
only_value values x is zero q at = sym (some-injective x q (sym (ap (λ l. get_elem? l 0) is) ∙ at))
only_value values x is (suc m) q at = absurd (some-ne-none q (sym at ∙ ap (λ l. get_elem? l (suc m)) is))
