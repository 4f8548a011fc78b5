use Rattle.std.proofs.Common.{◌++◌, ◌∷◌, sum, IfOk, arith, ap, sym, subst, ◌∙◌}
use Rattle.larch_actions.specs.Actions.{IsClosed}
use Rattle.example_sum.specs.declared.tree.Crew.{Crew}
use Rattle.example_sum.specs.Trees.{Adder, HaveAdded}
use Rattle.example_sum.proofs.Closing.{all_back, each_left, may_begin, opens, value_is}
use Rattle.example_sum.proofs.Steps.{comes_back, last}
use Rattle.example_sum.proofs.sum.forked_sum.Given.{Over}
use Rattle.example_sum.proofs.sum.forked_sum.Goals.{In_ok-push}
use Rattle.example_sum.proofs.sum.forked_sum.Goals as goal

pub open_forked-requires-clause-holds : goal.open_forked-requires-clause-holds
open_forked-requires-clause-holds g c κs =
    let threads = ap (λ l. l.threads) c.of_version-layout.ensures in
    let few = c.requires.some.1 in
    opens c.of_version-layout.result.threads c.in_ok-zero.zero.items (omega arith) c.in_ok-zero.ensures.items

pub add_all-first-requires-after_bounds : goal.add_all-first-requires-after_bounds
add_all-first-requires-after_bounds g c κs within =
    let opened = c.in_ok-p.ensures in
    let layout = opened.package.0 ∙ c.of_version-layout.ensures in
    let mutexes = ap (λ l. l.mutexes) layout in
    may_begin c.in_ok-p.p c.in_ok-p.first c.in_ok-p.rights.items opened.first opened.rights (opened.count ∙ sym (ap (λ l. l.threads) opened.package.0)) c.args.numbers.now (ap (λ l. l.version) layout) (omega arith) c.requires.small

-- all threads came back, and have added all numbers
came : (g : Over) (c : In_ok-push g) → HaveAdded c.in_ok-p.p (c.in_ok-p.first ∷ c.in_ok-p.rights.items) (sum c.args.numbers.now) (c.push.new.self.items ++ c.in_ok-ended.field-0.unborn.items)
came g c =
    let p = c.in_ok-p.p in
    let before = c.in_ok-p.first ∷ c.in_ok-p.rights.items in
    let n = sum c.args.numbers.now in
    let first : Adder = c.add_all-first.result.0 in
    let crew = c.in_ok-ended.field-0 in
    let over = c.end_thread-first.result in
    let ended = c.end_thread-first.ensures in
    let have = subst (λ r. IfOk r (λ (z : Crew). HaveAdded p before n (first ∷ (z.ended.items ++ z.unborn.items)))) c.in_ok-ended.was c.add_all-first.ensures.added in
    last p before c.push.new.self.items crew.ended.items crew.unborn.items n over c.in_ok-push.ensures.items
    (comes_back p before (crew.ended.items ++ crew.unborn.items) n first over ended.left ended.same.number ended.share have)

pub close_forked-requires-clause-left : goal.close_forked-requires-clause-left
close_forked-requires-clause-left g c κs = each_left c.in_ok-p.p (c.in_ok-p.first ∷ c.in_ok-p.rights.items) (c.push.new.self.items ++ c.in_ok-ended.field-0.unborn.items) (sum c.args.numbers.now) (came g c)

pub close_forked-requires-clause-all : goal.close_forked-requires-clause-all
close_forked-requires-clause-all g c κs =
    let opened = c.in_ok-p.ensures in
    all_back c.in_ok-p.p c.in_ok-p.first c.in_ok-p.rights.items opened.first opened.rights (opened.count ∙ sym (ap (λ l. l.threads) opened.package.0))
    (sum c.args.numbers.now) (c.push.new.self.items ++ c.in_ok-ended.field-0.unborn.items) (came g c)

pub returns-clause-value : goal.returns-clause-value
returns-clause-value g c =
    let all = c.push.new.self.items ++ c.in_ok-ended.field-0.unborn.items in
    let closed = c.in_ok-closed.ensures in
    value_is c.in_ok-p.p (c.in_ok-p.first ∷ c.in_ok-p.rights.items) all c.in_ok-closed.closed.threads (sum c.args.numbers.now) c.in_ok-closed.closed.values
    (came g (goal.at.returns-clause-value g c).In_ok-push) closed.threads closed.values.1

pub returns-clause-trace : goal.returns-clause-trace
returns-clause-trace g c =
    let layout = c.in_ok-p.ensures.package.0 ∙ c.of_version-layout.ensures in
    let whole = c.in_ok-closed.ensures.traced c.in_ok-p.ensures.package.1 in
    (whole.0, whole.1, subst (λ v. IsClosed v whole.0) (ap (λ l. l.version) layout) whole.2.closed)
