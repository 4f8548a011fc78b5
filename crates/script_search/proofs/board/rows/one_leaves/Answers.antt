use Rattle.std.proofs.Common.{◌∙◌, sym, refl, arith, true, false, below_more}
use Rattle.larch_actions.proofs.Answered.{not_both}
use Rattle.larch_actions.specs.Sets.{in_set}
use Rattle.script_search.specs.Thinned.{members_in}
use Rattle.script_search.proofs.Rows.{member_here, member_low}
use Rattle.script_search.proofs.board.rows.one_leaves.Goals as goal
use Rattle.script_search.proofs.board.rows.one_leaves.Goals.{else-is_inside-via-then-is_inside+else-not-has, else-is_inside-via-else-is_inside}

pub returns-then-not-has : goal.returns-then-not-has
returns-then-not-has c = (
  (λ _. (c.loop-t.t, member_here c.args.threads.now c.args.cond c.loop-t.t true c.loop-t-test.true (sym c.is_inside.ensures ∙ c.if-is_inside.true), sym c.has.ensures ∙ c.if-not-has.true)),
  (λ _. refl),
)

pub loop-t-preserved : goal.loop-t-preserved
loop-t-preserved c = below_more _ _ c.loop-t.invariant (elim c.else-is_inside.branch [
  | else-is_inside-via-then-is_inside+else-not-has w ↦
      λ inside gone. not_both (in_set c.args.left.now c.loop-t.t) gone (sym w.has.ensures ∙ w.if-not-has.false)
  | else-is_inside-via-else-is_inside w ↦
      λ inside gone. not_both (members_in c.args.threads.now c.args.cond c.loop-t.t)
      (member_here c.args.threads.now c.args.cond c.loop-t.t false c.loop-t-test.true (sym c.is_inside.ensures ∙ w.if-is_inside.false)) inside
])

pub returns : goal.returns
returns c = (
  (λ e. absurd (cc)),
  (λ some. absurd (c.loop-t.invariant some.0 (omega (arith, member_low c.args.threads.now c.args.cond some.0 some.1)) some.1 some.2)),
)
