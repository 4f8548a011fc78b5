-- Threads of a test of readers and writers.
use Rattle.std.proofs.Common.{◌≡◌, ℕ, zero, suc, List, [], ◌∷◌, refl, sym, ap, subst, ◌∙◌}
use mathlib.Core.Option.{some, some-injective, some-ne-none}
use lib.ListN.{get_elem?}
use Rattle.nub_rule.specs.Known.{Known, Shape}
use Rattle.nub.specs.Ended.{IsFirst, IsDone}
use Rattle.nub.proofs.Users.{idle_done, idle_first}
use Rattle.readers_writers.specs.declared.role.Role.{Role}
use Rattle.readers_writers.specs.declared.role.Role.TheVariants.{Idle}
use Rattle.readers_writers.specs.declared.role.RoleChange.{RoleChange}
use Rattle.readers_writers.specs.declared.state.RwState.{RwState}
use Rattle.test_condition.specs.Acting.{IsActing}

pub acting_done : (p : Shape (Unit {0})) (n : ℕ) (role : Role) (t : Known RwState (List RoleChange) (Unit {0})) → IsActing p n role t → IsDone p n t
acting_done p n role t a = idle_done p n a.share t a.idle

pub acting_own : (p : Shape (Unit {0})) (n : ℕ) (role : Role) (t : Known RwState (List RoleChange) (Unit {0})) → IsActing p n role t → IsActing p t.number role t
acting_own p n role t a = let P : ℕ → Type 0 = λ k. IsActing p k role t in subst P (sym a.idle.number) a

pub acting_first : (p : Shape (Unit {0})) (n : ℕ) (t : Known RwState (List RoleChange) (Unit {0})) → IsFirst p (λ w k. []) n t → IsActing p n Idle t
acting_first p n t f = record { share = []; idle = idle_first p (λ w k. []) n t f; acts = refl }

-- what holds of both of two holds of each
pub each_of_two : {A : Type 0} (P : ℕ → A → Type 0) (xs : List A) (a b : A) → xs ≡ a ∷ b ∷ [] → P 0 a → P 1 b → (n : ℕ) (x : A) → get_elem? xs n ≡ some x → P n x
each_of_two {A = A} P xs a b is one two zero x at = let Q : A → Type 0 = λ y. P 0 y in subst Q (some-injective a x (sym (ap (λ l. get_elem? l 0) is) ∙ at)) one
each_of_two {A = A} P xs a b is one two (suc zero) x at = let Q : A → Type 0 = λ y. P 1 y in subst Q (some-injective b x (sym (ap (λ l. get_elem? l 1) is) ∙ at)) two
each_of_two {A = A} P xs a b is one two (suc (suc n)) x at = absurd (some-ne-none x (sym at ∙ ap (λ l. get_elem? l (suc (suc n))) is))
