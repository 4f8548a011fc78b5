use Rattle.std.proofs.Common.{inl, inr, refl}
use Rattle.larch_actions.proofs.Answered.{not_both}
use Rattle.script_search.proofs.board.rows.may_leave.Goals as goal

pub returns-then-is_none : goal.returns-then-is_none
returns-then-is_none c = ((λ _. inl (c.is_none.ensures.0 c.if-is_none.true)), (λ _. refl))

pub returns-then-not-are_inside : goal.returns-then-not-are_inside
returns-then-not-are_inside c = (
  (λ e. absurd (cc)),
  (λ may. elim may [
    | inl empty ↦ absurd (not_both c.is_none.result c.if-is_none.false (c.is_none.ensures.1 empty))
    | inr part ↦ absurd (not_both c.are_inside.result c.if-not-are_inside.true (c.are_inside.ensures.1 part.0))
  ]),
)

pub returns : goal.returns
returns c = (
  (λ t. inr (c.are_inside.ensures.0 c.if-not-are_inside.false, c.one_leaves.ensures.0 t)),
  (λ may. elim may [
    | inl empty ↦ absurd (not_both c.is_none.result c.if-is_none.false (c.is_none.ensures.1 empty))
    | inr part ↦ c.one_leaves.ensures.1 part.1
  ]),
)
