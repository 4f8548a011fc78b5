use Rattle.std.proofs.Common.{[], length, ◌≡◌, ◌≢◌, ◌≤◌, ℕ, false, true, cond, refl, sym, ap, ◌∙◌, arith, rules, subst, ⊎_elim}
use Rattle.std.proofs.lemmas.Bool.Decides.{nat_tests}
use mathlib.Core.Option.{some}
use lib.ListN.{get_elem?}
use Rattle.atomic_table.proofs.Lists.{at_index}
use Rattle.nub_rule.specs.Known.{Shape}
use Rattle.nub_rule.proofs.Each.{each-set}
use Rattle.nub.specs.Ended.{IsFirst}
use Rattle.nub.proofs.Users.{from_at, idle_first}
use Rattle.bench_workloads.specs.declared.parts.Part.{Part}
use Rattle.bench_workloads.specs.Parts.{begun, is_pass}
use Rattle.bench_workloads.specs.Workloads.{HasMade, HasWorked, Worker, first_calls}
use Rattle.bench_workloads.proofs.Crewing.{one_more}
use Rattle.bench_workloads.proofs.parts.begin_part.Goals as goal

-- who has made no call
not_begun : (p : Shape (Unit {0})) (part : Part) (n : ℕ) (t : Worker) → begun part n ≡ 0 → IsFirst p (λ w t. []) n t → HasWorked p n 0 (HasMade (begun part n)) t
not_begun p part n t none f = record { share = []; idle = idle_first p (λ w t. []) n t f; sum = refl; is = ap length f.mine ∙ sym none }

pub p-requires-clause-rest : goal.p-requires-clause-rest
p-requires-clause-rest g c κs within = (c.requires.first 1 c.in-Some.second.now (at_index c.args.threads.now.items 1 c.in-Some.second.now (search rules) (search rules))).rest

pub returns-in-Some-clause-begun : goal.returns-in-Some-clause-begun
returns-in-Some-clause-begun g c =
    let p = c.args.shared.now in
    let part = c.args.part in
    let xs = c.args.threads.now.items in
    let second = c.in-Some.second.now in
    let first = c.requires.first 1 second (at_index xs 1 second (search rules) (search rules)) in
    let one = ap length c.p.ensures.event.mine ∙ one_more second.mine _ in
    let none = ap length first.mine in
    let passes : true ≡ is_pass part = search rules in
    let made : 1 ≡ begun part 1 = ap (λ b. cond b 1 0) passes in
    let now : HasWorked p 1 0 (HasMade (begun part 1)) c.p.new.me = record { share = []; idle = c.p.ensures.idle 1 [] (idle_first p (λ w t. []) 1 second first); sum = refl; is = omega arith } in
    each-set (IsFirst p (λ w t. [])) (λ k t. HasWorked p k 0 (HasMade (begun part k)) t) xs 1 c.p.new.me now (λ k t other there f. not_begun p part k t (grind (arith, nat_tests)) f) c.requires.first

pub returns-in_default-clause-begun : goal.returns-in_default-clause-begun
returns-in_default-clause-begun g c = λ n x at.
    let low = (from_at c.args.threads.now.items n x at).0 in
    let few : length c.args.threads.now.items ≤ 1 = search rules in
    not_begun c.args.shared.now c.args.part n x (grind (arith, nat_tests)) (c.requires.first n x at)

pub returns-then-not-passes-clause-begun : goal.returns-then-not-passes-clause-begun
returns-then-not-passes-clause-begun g c = λ n x at.
    let passes : false ≡ is_pass c.args.part = search rules in
    not_begun c.args.shared.now c.args.part n x (sym (ap (λ b. cond b (first_calls n) 0) passes)) (c.requires.first n x at)
