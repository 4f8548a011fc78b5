use Rattle.std.proofs.Common.{◌≡◌, ◌+◌, ◌≤◌, ◌∙◌, ℕ, ap, arith, length, sym}
use lib.ListN.{get_elem?}
use mathlib.Core.Option.{some}
use Rattle.larch_actions.specs.declared.event.Version.TheVariants.{Two}
use Rattle.nub_rule.specs.Ends.{first_known}
use Rattle.nub_rule.specs.Known.{Known}
use Rattle.nub_rule.proofs.Each.{at_within}
use Rattle.nub_rule.proofs.Ordering.{read-at}
use Rattle.nub.proofs.Begun.{tail_of-first, first_of_two, right_is, unborn_is}
use Rattle.nub.proofs.whole.open_forked.Given.{Over}
use Rattle.nub.proofs.whole.open_forked.Goals as goal
use Rattle.nub.proofs.whole.open_forked.Goals.{After-remove-first}

-- each thread of the package but the first
later : (g : Over) (c : After-remove-first g) (n : ℕ) (t : Known g.row.U-Value.Denot g.row.U-Share.Denot g.row.U-World.Denot) → get_elem? c.remove-first.new.self.items n ≡ some t
    → t ≡ first_known c.in_ok-package.package.table_id Two c.in_ok-package.package.world g.U.Uses.begin (n + 1)
later g c n t at =
    let e = c.in_ok-package.ensures in
    let some_there = c.requires.lawful.some in
    let long = e.count in
    e.threads (n + 1) t (tail_of-first c.in_ok-package.threads.items c.remove-first.new.self.items n t c.remove-first.ensures.items (omega arith) at)
    ∙ (λ j. first_known c.in_ok-package.package.table_id (c.requires.version j) (sym e.package.2 j) g.U.Uses.begin (n + 1))

pub rights_of-requires-clause-unborn : goal.rights_of-requires-clause-unborn
rights_of-requires-clause-unborn g c κs within = λ n t at.
    unborn_is c.in_ok-package.package.table_id c.in_ok-package.package.world g.U.Uses.begin (n + 1) t (λ z. omega arith) (later g (goal.at.rights_of-requires-clause-unborn g c).After-remove-first n t at)

pub returns-clause-first : goal.returns-clause-first
returns-clause-first g c =
    let e = c.in_ok-package.ensures in
    let some_there = c.requires.lawful.some in
    let lawful = c.requires.lawful.mutexes in
    let long = e.count in
    let same = ap (λ l. l.mutexes) e.package.0 in
    let low : 1 ≤ length c.in_ok-package.threads.items = omega arith in
    let at = read-at c.in_ok-package.threads.items 0 c.remove-first.result low c.remove-first.ensures.value in
    first_of_two c.in_ok-package.package g.U.Uses.begin c.remove-first.result (let all = ap (λ l. l.threads) e.package.0 in omega arith) (omega arith) (ap (λ l. l.version) e.package.0 ∙ c.requires.version)
    (e.threads 0 c.remove-first.result at ∙ (λ j. first_known c.in_ok-package.package.table_id (c.requires.version j) (sym e.package.2 j) g.U.Uses.begin 0))

pub returns-clause-rights : goal.returns-clause-rights
returns-clause-rights g c = λ n t at.
    let there = ap (λ l. get_elem? l n) (sym c.rights_of.ensures) ∙ at in
    let e = c.in_ok-package.ensures in
    let some_there = c.requires.lawful.some in
    let long = e.count in
    let all = ap (λ l. l.threads) e.package.0 in
    let low = at_within c.in_ok-package.threads.items (n + 1) t (tail_of-first c.in_ok-package.threads.items c.remove-first.new.self.items n t c.remove-first.ensures.items (omega arith) there) in
    right_is c.in_ok-package.package g.U.Uses.begin (n + 1) t (omega arith) (later g (goal.at.returns-clause-rights g c).After-remove-first n t (ap (λ l. get_elem? l n) (sym c.rights_of.ensures) ∙ at))
