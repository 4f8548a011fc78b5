use Rattle.std.proofs.Common.{◌≡◌, ℕ, eqb, refl, ap, sym, ◌∙◌, rules}
use Rattle.std.proofs.lemmas.Bool.{cond_both, eqb-true}
use Rattle.larch_actions.proofs.Shown.{shown_at-past}
use Rattle.larch_actions.specs.Actions.{put}
use Rattle.trace_board.specs.declared.rows.Row.{Row}
use Rattle.trace_board.specs.Rows.{empty_row, without_bar, row_of}
use Rattle.trace_board.proofs.rows.Rows.end.Goals as goal

-- what is put there was there
same_put : (f : ℕ → Row) (t : ℕ) (x : Row) → x ≡ f t → f ≡ put f t x
same_put f t x e = λ i j. at j i
  where
    at : (j : ℕ) → f j ≡ put f t x j
    at j = cond_both (eqb j t) x (f j) (λ y. f j ≡ y) (λ b. ap f (eqb-true j t b) ∙ sym e) (λ b. refl)

pub returns-then-t-lt256 : goal.returns-then-t-lt256
returns-then-t-lt256 c = c.put.ensures ∙ ap (put (row_of c.args.self.now) c.args.t) (c.without_bar-now.ensures ∙ ap (without_bar c.args.bar) c.at-was.ensures)

pub returns-else-t-lt256 : goal.returns-else-t-lt256
returns-else-t-lt256 c =
    let f = row_of c.args.self.now in
    let none : f c.args.t ≡ empty_row = shown_at-past (λ x. x) empty_row c.args.self.now.entries c.args.t (search rules) in
    same_put f c.args.t (without_bar c.args.bar (f c.args.t)) (ap (without_bar c.args.bar) none ∙ sym none)
