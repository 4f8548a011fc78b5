-- The rule of readers and writers holds at first.
use Rattle.std.proofs.Common.{◌≡◌, ℕ, ◌≤◌, List, [], None, arith, sym, ap, ◌∙◌, refl}
use Rattle.std.proofs.lemmas.List.FromFn.{length-map-range_with_len}
use mathlib.Core.Option.{some}
use lib.ListN.{get_elem?}
use Rattle.nub_rule.specs.Ends.{firsts}
use Rattle.nub.proofs.Totals.{at_firsts, total_firsts}
use Rattle.readers_writers.specs.declared.role.RoleChange.{RoleChange}
use Rattle.readers_writers.specs.declared.role.Role.TheVariants.{Idle}
use Rattle.readers_writers.specs.declared.state.RwState.{RwState}
use Rattle.readers_writers.specs.Roles.{AreRoles, one_if_reading, role_of}

-- where nobody reads or writes
pub roles_begin : (values : List RwState) (n : ℕ) → n ≤ 256 → ((m : ℕ) (q : RwState) → get_elem? values m ≡ some q → (q.readers ≡ 0) × (q.writer ≡ None)) → AreRoles values (firsts (λ t. []) n)
roles_begin values n few new = record {
  few = let e = length-map-range_with_len {X = List RoleChange} (λ t. []) 0 n in omega arith;
  each = λ m q at. let none = new m q at in record {
    readers = none.0 ∙ sym (total_firsts (λ (s : List RoleChange). one_if_reading (role_of s m)) [] n refl);
    writes = λ t is. absurd (cc);
    writer = λ t s e is. let fresh : role_of [] m ≡ role_of s m = ap (λ (l : List RoleChange). role_of l m) (at_firsts {A = List RoleChange} [] n t s e) in let idle : role_of [] m ≡ Idle = refl in absurd (cc);
    apart = λ t is. none.0;
  };
}
