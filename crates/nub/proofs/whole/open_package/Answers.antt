use Rattle.std.proofs.Common.{arith, ap, sym, ◌∙◌}
use Rattle.nub_rule.specs.Ends.{first_known}
use Rattle.nub_rule.proofs.Each.{at_within}
use Rattle.nub.proofs.Closing.{first_is}
use Rattle.nub.proofs.whole.open_package.Goals as goal

pub returns-clause-threads : goal.returns-clause-threads
returns-clause-threads g c = λ n t e.
    let p = c.in_ok-package.package in
    let lawful = c.requires.lawful.mutexes in
    let same = ap (λ l. l.mutexes) c.in_ok-package.ensures.package.0 in
    let one = c.requires.version in
    let there = at_within c.in_ok-package.threads.items n t e in
    let long = c.in_ok-package.ensures.count in
    let all = ap (λ l. l.threads) c.in_ok-package.ensures.package.0 in
    first_is p g.U.Uses.begin n t (omega arith) (omega arith) (ap (λ l. l.version) c.in_ok-package.ensures.package.0 ∙ one)
    (c.in_ok-package.ensures.threads n t e ∙ (λ j. first_known p.table_id (one j) (sym c.in_ok-package.ensures.package.2 j) g.U.Uses.begin n))
