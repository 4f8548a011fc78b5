use Rattle.std.proofs.Common.{◌≡◌, ℕ, zero, suc, ◌+◌, ◌∷◌, [], List, ◌++◌, length, refl, sym, ap, subst, ◌∙◌, arith, lit≤}
use mathlib.Core.Option.{some, some-injective, some-ne-none}
use lib.ListN.{get_elem?}
use Rattle.nub_rule.specs.Known.{Shape}
use Rattle.nub.specs.Ended.{IsFirst}
use Rattle.bounded_buffer.specs.Rings.{Held, fresh}
use Rattle.bounded_buffer.proofs.Opening.{rings_begin}
use Rattle.job_pool.specs.Working.{Worker, AreFirst, HasBuffer}
use Rattle.job_pool.proofs.Lists.{if_ok_map}
use Rattle.job_pool.proofs.opening.open.Goals as goal

one_new : {T : Type 0} (c : ℕ) (values : List (Held T)) → values ≡ fresh c ∷ [] → (m : ℕ) (q : Held T) → get_elem? values m ≡ some q → (k : ℕ) × (q ≡ fresh k)
one_new c values is zero q at = (c, sym (some-injective (fresh c) q (sym (ap (λ l. get_elem? l 0) is) ∙ at)))
one_new c values is (suc m) q at = absurd (some-ne-none q (sym at ∙ ap (λ l. get_elem? l (suc m)) is))

are_first : {T : Type 0} (p : Shape (Unit {0})) (n : ℕ) (ts : List (Worker T)) → ((k : ℕ) (t : Worker T) → get_elem? ts k ≡ some t → IsFirst p (λ w t. []) (n + k) t) → AreFirst p n ts
are_first p n [] h = tt
are_first p n (t ∷ ts) h =
    (subst (λ k. IsFirst p (λ w t. []) k t) (omega arith) (h 0 t refl), are_first p (n + 1) ts (λ k u at. subst (λ j. IsFirst p (λ w t. []) j u) (omega arith) (h (suc k) u at)))

pub open_package-requires-clause-holds : goal.open_package-requires-clause-holds
open_package-requires-clause-holds g c κs within =
    let items = c.push_reserved.new.self.items in
    let is : items ≡ fresh c.args.many ∷ [] = c.push_reserved.ensures.items ∙ (ap (λ l. l ++ c.in_ok-new.field-0 ∷ []) c.in_ok-rings.ensures.items ∙ ap (λ r. r ∷ []) c.in_ok-new.ensures) in
    rings_begin items c.of-layout.result.threads (one_new c.args.many items is)

pub open_package-requires-clause-values : goal.open_package-requires-clause-values
open_package-requires-clause-values g c κs within =
    ap length (c.push_reserved.ensures.items ∙ ap (λ l. l ++ c.in_ok-new.field-0 ∷ []) c.in_ok-rings.ensures.items) ∙ sym (ap (λ l. l.mutexes) c.of-layout.ensures)

pub returns-clause-package : goal.returns-clause-package
returns-clause-package g c = if_ok_map c.open_package.result _ _
    (λ o h. let is = h.0 ∙ c.of-layout.ensures in (subst HasBuffer (sym is) (record { mutexes = lit≤ tt; conditions = lit≤ tt }), ap (λ l. l.threads) is, ap (λ l. l.mutexes) is, h.1, ap (λ l. l.version) is))
    c.open_package.ensures.«package»

pub returns-clause-count : goal.returns-clause-count
returns-clause-count g c = if_ok_map c.open_package.result _ _ (λ o h. h ∙ ap (λ l. l.threads) c.of-layout.ensures) c.open_package.ensures.count

pub returns-clause-threads : goal.returns-clause-threads
returns-clause-threads g c = if_ok_map c.open_package.result _ _
    (λ o h. are_first o.0 0 o.1.items (λ k t at. subst (λ j. IsFirst o.0 (λ w t. []) j t) (omega arith) (h k t at)))
    c.open_package.ensures.threads
