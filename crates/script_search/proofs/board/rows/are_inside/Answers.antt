use Rattle.std.proofs.Common.{◌∙◌, sym, refl, arith, true, false, below_more}
use Rattle.larch_actions.proofs.Answered.{not_both}
use Rattle.larch_actions.specs.Sets.{in_set}
use Rattle.script_search.specs.Thinned.{members_in}
use Rattle.script_search.proofs.Rows.{member_here}
use Rattle.script_search.proofs.board.rows.are_inside.Goals as goal
use Rattle.script_search.proofs.board.rows.are_inside.Goals.{else-has-via-then-has+else-not-is_inside, else-has-via-else-has}

pub returns-then-not-is_inside : goal.returns-then-not-is_inside
returns-then-not-is_inside c =
    let out = member_here c.args.threads.now c.args.cond c.loop-t.t false c.loop-t-test.true (sym c.is_inside.ensures ∙ c.if-not-is_inside.true) in
    ((λ e. absurd (cc)), (λ all. absurd (not_both (members_in c.args.threads.now c.args.cond c.loop-t.t) out (all c.loop-t.t (sym c.has.ensures ∙ c.if-has.true)))))

pub loop-t-preserved : goal.loop-t-preserved
loop-t-preserved c = below_more _ _ c.loop-t.invariant (elim c.else-has.branch [
  | else-has-via-then-has+else-not-is_inside w ↦
      λ _. member_here c.args.threads.now c.args.cond c.loop-t.t true c.loop-t-test.true (sym w.is_inside.ensures ∙ w.if-not-is_inside.false)
  | else-has-via-else-has w ↦
      λ has. absurd (not_both (in_set c.args.left.now c.loop-t.t) (sym c.has.ensures ∙ w.if-has.false) has)
])

pub returns : goal.returns
returns c = ((λ _. λ t has. c.loop-t.invariant t (omega (arith, c.requires.within t has)) has), (λ _. refl))
