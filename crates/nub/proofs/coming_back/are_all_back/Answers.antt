use Rattle.std.proofs.Common.{◌≡◌, ◌≢◌, ◌<◌, ◌≤◌, ◌++◌, ◌∙◌, ℕ, arith, ap, sym, subst, ⊎_elim}
use Rattle.std.proofs.lemmas.Bool.{cases_eq}
use Rattle.nub.specs.Totals.{is_number, times}
use Rattle.nub.proofs.Numbered.{once_with, one_with, total_both}
use Rattle.nub.proofs.coming_back.are_all_back.Goals as goal

pub returns-then-not-is_one-clause-no : goal.returns-then-not-is_one-clause-no
returns-then-not-is_one-clause-no g c = λ _ all.
    let n = c.loop-number.number in
    let xs = c.args.ended.now.items in
    let ys = c.args.unborn.now.items in
    let threads = ap (λ l. l.threads) c.layout-number-end.ensures in
    let one = all n (let low = c.loop-number-test.true in omega arith) in
    let once = once_with n (xs ++ ys) one.0 one.1 in
    let both = total_both (is_number n) xs ys in
    let over = c.times_ended.ensures in
    let never = c.times_unborn.ensures in
    c.is_one.ensures.no c.if-not-is_one.true (omega arith)

pub loop-number-preserved : goal.loop-number-preserved
loop-number-preserved g c = λ n low.
    let k = c.loop-number.number in
    let xs = c.args.ended.now.items in
    let ys = c.args.unborn.now.items in
    let both = total_both (is_number k) xs ys in
    let over = c.times_ended.ensures in
    let never = c.times_unborn.ensures in
    let one = c.is_one.ensures.yes c.if-not-is_one.false in ⊎_elim
    (λ (e : n ≡ k). ap (λ (m : ℕ). times m (xs ++ ys)) e ∙ (let all : times k (xs ++ ys) ≡ 1 = omega arith in all))
    (λ (ne : n ≢ k). c.loop-number.invariant n (omega arith))
    (cases_eq n k)

pub returns-clause-yes : goal.returns-clause-yes
returns-clause-yes g c = λ _ i low.
    let threads = ap (λ l. l.threads) c.layout-number-end.ensures in
    let end = c.loop-number-test.false in
    one_with i (c.args.ended.now.items ++ c.args.unborn.now.items) (c.loop-number.invariant i (omega arith))
