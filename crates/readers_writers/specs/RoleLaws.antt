-- Each allowed change keeps the rule of readers and writers.
use Rattle.std.specs.Prelude.{◌≡◌, ◌≢◌, ℕ, ◌+◌, ◌≤◌, cond, List, ◌∷◌, slice_set, Option as Opt, Some, None}
use Rattle.std.proofs.Common.{arith, sym, ap, subst, ◌∙◌, ⊎_elim, refl}
use Rattle.std.proofs.lemmas.List.{length-set}
use Rattle.std.proofs.lemmas.Option.{same_Some}
use Rattle.std.proofs.lemmas.Bool.{eq-eqb, cases_eq}
use Rattle.std.proofs.lemmas.Bool.Decides.{nat_tests}
use mathlib.Core.Option.{some, some-injective}
use lib.ListN.{get_elem?}
use Rattle.atomic_table.proofs.Lists.{at_set, set_here, set_else}
use Rattle.nub.proofs.Guards.{guarded_after}
use Rattle.nub.proofs.Totals.{own_part, part_set, total_most}
use Rattle.nub.proofs.Users.{from_at}
use Rattle.readers_writers.specs.declared.role.Role.{Role}
use Rattle.readers_writers.specs.declared.role.Role.TheVariants.{Idle, Reading, Writing}
use Rattle.readers_writers.specs.declared.role.RoleChange.{RoleChange}
use Rattle.readers_writers.specs.declared.state.RwState.{RwState}
use Rattle.readers_writers.specs.Roles.{goes_to, role_of, one_if_reading, reading, IsRole, AreRoles, IsKnown, Goes, Allowed}

pub role_here : (m : ℕ) (old role : Role) (y : RwState) (s : List RoleChange) → role_of (goes_to m old role y ∷ s) m ≡ role
role_here m old role y s = ap (λ b. cond b role (role_of s m)) (eq-eqb m m refl)

pub role_there : (m k : ℕ) (old role : Role) (y : RwState) (s : List RoleChange) → k ≢ m → role_of (goes_to m old role y ∷ s) k ≡ role_of s k
role_there m k old role y s n = grind (arith, nat_tests)

-- 1 if the thread with this share reads under the mutex
abbrev reads_at : ℕ → List RoleChange → ℕ
reads_at m s = one_if_reading (role_of s m)

one-small : (r : Role) → one_if_reading r ≤ 1
one-small Idle = omega arith
one-small Reading = omega arith
one-small Writing = omega arith

no_one : (w : Opt ℕ) → ((t : ℕ) → w ≡ Some t → ⊥) → w ≡ None
no_one None n = refl
no_one (Some t) n = absurd (n t refl)

no-writer : (m : ℕ) (q : RwState) (shares : List (List RoleChange)) → IsRole m q shares → 1 ≤ q.readers → q.writer ≡ None
no-writer m q shares h any = no_one q.writer (λ t is. let none = h.apart t is in absurd (omega arith))

pub fits_known : (w : Prim.Unit {0}) (values : List RwState) (shares : List (List RoleChange)) → AreRoles values shares
    → (m : ℕ) (x : RwState)
    → get_elem? values m ≡ some x
    → (t : ℕ) (s : List RoleChange) → get_elem? shares t ≡ some s → IsKnown m x t s
fits_known w values shares h m x at t s there =
    let rule = h.each m x at in
    let readers = rule.readers in
    let few = h.few in
    let all = total_most (reads_at m) 1 shares (λ t s e. one-small (role_of s m)) in
    record {
      few = omega arith;
      reads = λ is.
          let own = own_part (reads_at m) shares t s there in
          let one : one_if_reading (role_of s m) ≡ 1 = ap one_if_reading is in
          let any : 1 ≤ x.readers = omega arith in
          (any, no-writer m x shares rule any);
      writes = λ is. let writer = rule.writer t s there is in (writer, rule.apart t writer);
    }

-- the rule is kept if the roles there stay
rule-same : (m : ℕ) (q : RwState) (shares : List (List RoleChange)) (t : ℕ) (s r : List RoleChange) → get_elem? shares t ≡ some s
    → role_of r m ≡ role_of s m
    → IsRole m q shares → IsRole m q (slice_set shares t r)
rule-same m q shares t s r there same h = record {
  readers = let sum = part_set (reads_at m) shares t s r there in
      let one : one_if_reading (role_of r m) ≡ one_if_reading (role_of s m) = ap one_if_reading same in let old = h.readers in omega arith;
  writes = λ k is. let old = h.writes k is in ⊎_elim
      (λ (p : k ≡ t). (
        r,
        subst (λ j. get_elem? (slice_set shares t r) j ≡ some r) (sym p) (set_here shares t r (from_at shares t s there).0),
        same ∙ (ap (λ y. role_of y m) (some-injective s old.0 (sym there ∙ (ap (get_elem? shares) (sym p) ∙ old.1))) ∙ old.2),
      ))
      (λ (n : k ≢ t). (old.0, set_else shares t k r n ∙ old.1, old.2))
      (cases_eq k t);
  writer = λ k u e is. ⊎_elim
      (λ (p : (k ≡ t) × (r ≡ u)). h.writer k s (ap (get_elem? shares) p.0 ∙ there) (sym same ∙ (ap (λ y. role_of y m) p.1 ∙ is)))
      (λ (p : (k ≢ t) × (get_elem? shares k ≡ some u)). h.writer k u p.1 is)
      (at_set shares t k r u e);
  apart = h.apart;
}

is_none : {A : Type 0} (w : Opt A) (a : A) → w ≡ None → w ≡ Some a → ⊥
is_none w a x y = cc

-- the rule is kept if nobody writes
rule-none : (m : ℕ) (y : RwState) (shares : List (List RoleChange)) (t : ℕ) (r : List RoleChange) → y.writer ≡ None
    → y.readers ≡ reading m (slice_set shares t r)
    → ((k : ℕ) (u : List RoleChange) → k ≢ t → get_elem? shares k ≡ some u → role_of u m ≡ Writing → ⊥) → (role_of r m ≡ Writing → ⊥)
    → IsRole m y (slice_set shares t r)
rule-none m y shares t r none readers others own = record {
  readers = readers;
  writes = λ k is. absurd (is_none y.writer k none is);
  writer = λ k u e is. ⊎_elim
      (λ (p : (k ≡ t) × (r ≡ u)). absurd (own (ap (λ v. role_of v m) p.1 ∙ is)))
      (λ (p : (k ≢ t) × (get_elem? shares k ≡ some u)). absurd (others k u p.0 p.1 is))
      (at_set shares t k r u e);
  apart = λ k is. absurd (is_none y.writer k none is);
}

reading-writes : (a : Role) → a ≡ Reading → a ≡ Writing → ⊥
reading-writes a x y = cc

idle-writes : (a : Role) → a ≡ Idle → a ≡ Writing → ⊥
idle-writes a x y = cc

rule-goes : (m t : ℕ) (old role : Role) (x y : RwState) (shares : List (List RoleChange)) (s r : List RoleChange)
    → get_elem? shares t ≡ some s
    → role_of s m ≡ old → role_of r m ≡ role
    → Goes t old role x y → IsRole m x shares → IsRole m y (slice_set shares t r)
rule-goes m t Idle Reading x y shares s r there was now goes h =
    let none : y.writer ≡ None = ap (λ (q : RwState). q.writer) goes.1 ∙ goes.0 in
    let more : y.readers ≡ x.readers + 1 = ap (λ (q : RwState). q.readers) goes.1 in
    let sum = part_set (reads_at m) shares t s r there in
    let a : one_if_reading (role_of s m) ≡ 0 = ap one_if_reading was in
    let b : one_if_reading (role_of r m) ≡ 1 = ap one_if_reading now in
    let old = h.readers in
    rule-none m y shares t r none (omega arith) (λ k u n e is. is_none x.writer k goes.0 (h.writer k u e is))
    (reading-writes (role_of r m) now)
rule-goes m t Reading Idle x y shares s r there was now goes h =
    let sum = part_set (reads_at m) shares t s r there in
    let a : one_if_reading (role_of s m) ≡ 1 = ap one_if_reading was in
    let b : one_if_reading (role_of r m) ≡ 0 = ap one_if_reading now in
    let old = h.readers in
    let less = goes.0 in
    let none = no-writer m x shares h (omega arith) in
    rule-none m y shares t r (goes.1 ∙ none) (omega arith) (λ k u n e is. is_none x.writer k none (h.writer k u e is))
    (idle-writes (role_of r m) now)
rule-goes m t Idle Writing x y shares s r there was now goes h =
    let is : y.writer ≡ Some t = ap (λ (q : RwState). q.writer) goes.2 in
    let same : y.readers ≡ x.readers = ap (λ (q : RwState). q.readers) goes.2 in
    let sum = part_set (reads_at m) shares t s r there in
    let a : one_if_reading (role_of s m) ≡ 0 = ap one_if_reading was in
    let b : one_if_reading (role_of r m) ≡ 0 = ap one_if_reading now in
    let old = h.readers in
    let none = goes.1 in
    record {
      readers = omega arith;
      writes = λ k w. let e : k ≡ t = same_Some k t (sym w ∙ is) in
          (r, subst (λ j. get_elem? (slice_set shares t r) j ≡ some r) (sym e) (set_here shares t r (from_at shares t s there).0), now);
      writer = λ k u e w. ⊎_elim
          (λ (p : (k ≡ t) × (r ≡ u)). is ∙ ap (λ j. Some j) (sym p.0))
          (λ (p : (k ≢ t) × (get_elem? shares k ≡ some u)). absurd (is_none x.writer k goes.0 (h.writer k u p.1 w)))
          (at_set shares t k r u e);
      apart = λ k w. omega arith;
    }
rule-goes m t Writing Idle x y shares s r there was now goes h =
    let none : y.writer ≡ None = ap (λ (q : RwState). q.writer) goes in
    let same : y.readers ≡ x.readers = ap (λ (q : RwState). q.readers) goes in
    let sum = part_set (reads_at m) shares t s r there in
    let a : one_if_reading (role_of s m) ≡ 0 = ap one_if_reading was in
    let b : one_if_reading (role_of r m) ≡ 0 = ap one_if_reading now in
    let old = h.readers in
    rule-none m y shares t r none (omega arith) (λ k u n e is. n (same_Some k t (sym (h.writer k u e is) ∙ h.writer t s there was)))
    (idle-writes (role_of r m) now)
rule-goes m t Idle Idle x y shares s r there was now goes h = absurd goes
rule-goes m t Reading Reading x y shares s r there was now goes h = absurd goes
rule-goes m t Reading Writing x y shares s r there was now goes h = absurd goes
rule-goes m t Writing Reading x y shares s r there was now goes h = absurd goes
rule-goes m t Writing Writing x y shares s r there was now goes h = absurd goes

pub roles_after : (w : Prim.Unit {0}) (values : List RwState) (shares : List (List RoleChange)) → AreRoles values shares
    → (m : ℕ) (x y : RwState)
    → get_elem? values m ≡ some x
    → (t : ℕ) (s r : List RoleChange) → get_elem? shares t ≡ some s → Allowed m t x y s r
    → AreRoles (slice_set values m y) (slice_set shares t r)
roles_after w values shares h m x y at t s r there ok =
    let next = slice_set shares t r in
    let here : IsRole m x shares → IsRole m y next = ⊎_elim
    (λ (o : (y ≡ x) × (r ≡ s)). λ rule.
    subst (λ v. IsRole m v next) (sym o.0) (rule-same m x shares t s r there (ap (λ l. role_of l m) o.1) rule))
    (λ (o : (role : Role) × Goes t (role_of s m) role x y × (r ≡ goes_to m (role_of s m) role y ∷ s)). λ rule.
    rule-goes m t (role_of s m) o.0 x y shares s r there refl (ap (λ l. role_of l m) o.2 ∙ role_here m (role_of s m) o.0 y s) o.1 rule)
    ok in
    let there_is : (k : ℕ) → k ≢ m → role_of r k ≡ role_of s k = λ k other. ⊎_elim
    (λ (o : (y ≡ x) × (r ≡ s)). ap (λ l. role_of l k) o.1)
    (λ (o : (role : Role) × Goes t (role_of s m) role x y × (r ≡ goes_to m (role_of s m) role y ∷ s)). ap (λ l. role_of l k) o.2 ∙ role_there m k (role_of s m) o.0 y s other)
    ok in
    record {
      few = let a = length-set shares t r in let b = h.few in omega arith;
      each = (guarded_after IsRole values shares next m x y (record { each = h.each }) at here
          (λ k z other rule. rule-same k z shares t s r there (there_is k other) rule)).each;
    }
