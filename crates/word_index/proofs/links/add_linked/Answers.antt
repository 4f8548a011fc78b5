use Rattle.std.proofs.Common.{◌≡◌, ◌-◌, ◌<◌, ◌≤◌, ◌∙◌, List, length, take, sym, ap, subst, arith}
use Rattle.std.proofs.Math.Seq.{take-length}
use Rattle.word_index.specs.declared.rows.Place.{Place}
use Rattle.word_index.proofs.Chains.{Following, following_first, following_next, following_end, following_keeps, next_of}
use Rattle.word_index.proofs.links.add_linked.Goals as goal

pub loop-n-init : goal.loop-n-init
loop-n-init c = subst (λ (o : List Place). Following c.args.links.now c.args.last c.args.out.now.items c.args.last.earlier o) (sym c.in_ok-push.ensures.items)
    (following_first c.args.links.now c.args.last c.args.out.now.items c.requires.0 c.requires.1)

pub bounds-links-n : goal.bounds-links-n
bounds-links-n c = (next_of c.args.links.now c.loop-n.n c.loop-n.invariant.rest c.loop-n-test.true c.loop-n.invariant.chain).within

pub loop-n-preserved : goal.loop-n-preserved
loop-n-preserved c = rw c.in_ok-push-2.ensures.items (following_next c.loop-n.invariant c.loop-n-test.true)

pub loop-n-smaller : goal.loop-n-smaller
loop-n-smaller c =
    let n = next_of c.args.links.now c.loop-n.n c.loop-n.invariant.rest c.loop-n-test.true c.loop-n.invariant.chain in
    omega (arith, n.early, c.loop-n-test.true)

pub returns-in_err-push-2-clause-kept : goal.returns-in_err-push-2-clause-kept
returns-in_err-push-2-clause-kept c = ap (take (length c.args.out.now.items)) c.in_err-push-2.ensures.items ∙ following_keeps c.loop-n.invariant

pub returns-clause-ok : goal.returns-clause-ok
returns-clause-ok c = following_end c.loop-n.invariant (omega (arith, c.loop-n-test.false))

pub returns-clause-kept : goal.returns-clause-kept
returns-clause-kept c = following_keeps c.loop-n.invariant

pub returns-in_err-push-clause-kept : goal.returns-in_err-push-clause-kept
returns-in_err-push-clause-kept c = ap (take (length c.args.out.now.items)) c.in_err-push.ensures.items ∙ take-length c.args.out.now.items
