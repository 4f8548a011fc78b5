-- What readers and writers leave together.
use Rattle.std.proofs.Common.{◌≡◌, ℕ, zero, suc, ◌+◌, ◌*◌, ◌<◌, ◌≤◌, cond, true, false, List, [], ◌∷◌, length, Option as Opt, Some, None, add-one, arith, sym, ap, subst, ◌∙◌, refl, eq-eqb}
use Rattle.std.specs.Bool.{nat_lt}
use Rattle.std.specs.List.{sum}
use Rattle.std.proofs.lemmas.Bool.Decides.{nat_tests}
use mathlib.Core.Option.{some}
use lib.ListN.{get_elem?}
use Rattle.nub_rule.specs.Items.{Each}
use Rattle.nub.specs.Ended.{KeepsLocks}
use Rattle.nub.proofs.Totals.{sum_said, total_most}
use Rattle.nub.proofs.Users.{all_recorded}
use Rattle.readers_writers.specs.declared.role.Role.{Role}
use Rattle.readers_writers.specs.declared.role.Role.TheVariants.{Idle, Reading, Writing}
use Rattle.readers_writers.specs.declared.role.RoleChange.{RoleChange}
use Rattle.readers_writers.specs.declared.state.RwState.{RwState}
use Rattle.readers_writers.specs.Roles.{AreRoles, IsRole, one_if_reading, role_of, turn}
use Rattle.bench_workloads.specs.Reading.{AreTurns, HasPlayed, Player, role_by, writes_by}
use Rattle.bench_workloads.proofs.Totals.{total_sides}

-- after its turns a thread is idle
pub idle_after : (role : Role) (n : ℕ) (s : List RoleChange) → AreTurns role n s → role_of s 0 ≡ Idle
idle_after role zero s are = ap (λ u. role_of u 0) are
idle_after role (suc n) s are = ap (λ u. role_of u 0) are.2 ∙ (ap (λ b. cond b are.0.now (role_of (turn 0 role ∷ are.1) 0)) (eq-eqb are.0.mutex 0 are.3) ∙ are.4)

-- after one more
pub turned_on : (role now : Role) (i : ℕ) (over : RoleChange) (before : List RoleChange) → now ≡ role → over.mutex ≡ 0 → over.now ≡ Idle → AreTurns role i before → AreTurns role (i + 1) (over ∷ turn 0 now ∷ before)
turned_on role now i over before is at idle are = subst (λ k. AreTurns role k (over ∷ turn 0 now ∷ before)) (sym (add-one i)) (over, before, (λ j. over ∷ turn 0 (is j) ∷ before), at, idle, are)

-- what is so of a reader, and of a writer
pub reads_by : (readers times n : ℕ) (P : Role → ℕ → Type 0) → n < readers → P Reading 0 → P (role_by readers n) (writes_by readers times n)
reads_by readers times n P low so = let is : true ≡ nat_lt n readers = grind (arith, nat_tests) in subst (λ b. P (cond b Reading Writing) (cond b 0 times)) is so

pub writes_on : (readers times n : ℕ) (P : Role → ℕ → Type 0) → readers ≤ n → P Writing times → P (role_by readers n) (writes_by readers times n)
writes_on readers times n P high so = let is : false ≡ nat_lt n readers = grind (arith, nat_tests) in subst (λ b. P (cond b Reading Writing) (cond b 0 times)) is so

no_one : (w : Opt ℕ) → ((t : ℕ) → w ≡ Some t → ⊥) → w ≡ None
no_one None n = refl
no_one (Some t) n = absurd (n t refl)

idle_writes : (a : Role) → a ≡ Idle → a ≡ Writing → ⊥
idle_writes a x y = cc

-- where all are idle nobody reads or writes
all_idle : (q : RwState) (shares : List (List RoleChange)) → IsRole 0 q shares → Each (λ k u. role_of u 0 ≡ Idle) shares → q ≡ record { readers = 0; writer = None }
all_idle q shares rule idle =
    let none = total_most (λ (s : List RoleChange). one_if_reading (role_of s 0)) 0 shares (λ k u at. let e = ap one_if_reading (idle k u at) in omega arith) in
    let counted = rule.readers in
    let readers : q.readers ≡ 0 = omega arith in
    let writer : q.writer ≡ None = no_one q.writer (λ t is. let w = rule.writes t is in idle_writes (role_of w.0 0) (idle t w.0 w.1) w.2) in
    λ i. record { readers = readers i; writer = writer i }

-- what is left of the one state when all threads have taken their turns
pub left_free : (readers times : ℕ) (threads : List Player) (values : List RwState) → KeepsLocks (λ values shares. AreRoles values shares) threads values → Each (HasPlayed readers times) threads
    → length values ≡ 1 → values ≡ record { readers = 0; writer = None } ∷ []
left_free readers times threads [] kept played long = absurd (omega arith)
left_free readers times threads (q ∷ []) kept played long =
    ap (λ v. v ∷ []) (all_idle q kept.shares (kept.kept.each 0 q refl) (all_recorded (λ k u. role_of u 0 ≡ Idle) threads kept.shares kept.each_share
    (λ n t at. let p = played n t at in (p.0, p.1, idle_after (role_by readers n) times p.0 p.2))))
left_free readers times threads (q ∷ p ∷ values) kept played long = absurd (omega arith)

-- the writes of so many readers and so many writers
pub writes-sum : (readers writers times : ℕ) (counts : List ℕ) → length counts ≡ readers + writers → Each (λ k c. c ≡ writes_by readers times k) counts → sum counts ≡ writers * times
writes-sum readers writers times counts long each =
    let all = sum_said (λ (n : ℕ). n) counts counts refl (λ k c at. at) in
    let sides = total_sides (λ (n : ℕ). n) (λ i n. 0) (λ i. refl) (λ i n. refl) times readers counts (omega arith)
    (λ k c at low. each k c at ∙ reads_by readers times k (λ r w. w ≡ 0) low refl) (λ k c at high. each k c at ∙ writes_on readers times k (λ r w. w ≡ times) high refl) in
    let apart : (readers + writers) * times ≡ readers * times + writers * times = omega arith in
    let wide = ap (λ n. n * times) long in
    omega arith
