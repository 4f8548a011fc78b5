use Rattle.std.proofs.Common.{◌≡◌, List, ◌≤◌, ◌+◌, [], ◌∷◌, ◌++◌, take, refl, ap, sym, subst, ◌∙◌, IfOk, OnErr}
use Rattle.std.proofs.lemmas.Bool.{cond-true, cond-false, true≢false}
use Rattle.firefly_outside.specs.Causes.{AppendsPrefix}
use Rattle.larch_actions.specs.declared.event.Event.{Event}
use Rattle.trace_core.specs.Whole.{Flows}
use Rattle.trace_shapes.specs.Places.{in_view}
use Rattle.trace_picture.specs.Shown.{drawn_of}
use Rattle.trace_picture.specs.Keeping.{turned, added_on, drawn_on, noted_on}
use Rattle.trace_picture.proofs.Showing.{same_drawn}
use Rattle.trace_picture.proofs.draw.draw_on.Goals as goal

pub returns-then-is_in_view-clause-ok : goal.returns-then-is_in_view-clause-ok
returns-then-is_in_view-clause-ok g c =
    let l = c.args.layout.now in
    let v = c.args.view.now in
    let n = c.args.place in
    let d = drawn_of c.args.drawing.now in
    let es = c.args.kept.now ++ c.args.e.now ∷ [] in
    let seen = sym c.is_in_view.ensures ∙ c.if-is_in_view.true in
    subst (λ x. IfOk c.draw_if_full.result (λ end. Flows (g.O.Sink.held c.args.out.now) (g.O.Sink.held c.draw_if_full.new.out) (take c.args.at c.args.buf.now) (take end c.draw_if_full.new.buf) x))
    (ap (added_on l v n d) c.push.ensures ∙ sym (cond-true (in_view v n) (added_on l v n d es) [] seen)) c.draw_if_full.ensures.ok

pub returns-then-is_in_view-clause-drawn : goal.returns-then-is_in_view-clause-drawn
returns-then-is_in_view-clause-drawn g c =
    let l = c.args.layout.now in
    let v = c.args.view.now in
    let n = c.args.place in
    let d = drawn_of c.args.drawing.now in
    let es = c.args.kept.now ++ c.args.e.now ∷ [] in
    let seen = sym c.is_in_view.ensures ∙ c.if-is_in_view.true in
    subst (λ x. IfOk c.draw_if_full.result (λ end. drawn_of c.draw_if_full.new.drawing ≡ x))
    (ap (drawn_on l v n d) c.push.ensures ∙ sym (cond-true (in_view v n) (drawn_on l v n d es) (noted_on n c.args.e.now d) seen)) c.draw_if_full.ensures.drawn

pub returns-then-is_in_view-clause-err : goal.returns-then-is_in_view-clause-err
returns-then-is_in_view-clause-err g c =
    let l = c.args.layout.now in
    let v = c.args.view.now in
    let n = c.args.place in
    let d = drawn_of c.args.drawing.now in
    let es = c.args.kept.now ++ c.args.e.now ∷ [] in
    let seen = sym c.is_in_view.ensures ∙ c.if-is_in_view.true in
    subst (λ x. OnErr c.draw_if_full.result (AppendsPrefix (g.O.Sink.held c.args.out.now) (g.O.Sink.held c.draw_if_full.new.out) (take c.args.at c.args.buf.now ++ x)))
    (ap (added_on l v n d) c.push.ensures ∙ sym (cond-true (in_view v n) (added_on l v n d es) [] seen)) c.draw_if_full.ensures.err

pub returns-then-is_in_view-clause-low : goal.returns-then-is_in_view-clause-low
returns-then-is_in_view-clause-low g c = λ seen full.
    subst (λ (xs : List Event). (turned c.args.layout.now xs (drawn_of c.args.drawing.now)).page.next ≤ c.args.drawing.now.page.next + 65536) c.push.ensures (c.draw_if_full.ensures.low full)

pub returns-else-is_in_view-clause-low : goal.returns-else-is_in_view-clause-low
returns-else-is_in_view-clause-low g c = λ seen full. absurd (true≢false (sym seen ∙ (sym c.is_in_view.ensures ∙ c.if-is_in_view.false)))

pub returns-else-is_in_view-clause-drawn : goal.returns-else-is_in_view-clause-drawn
returns-else-is_in_view-clause-drawn g c =
    let l = c.args.layout.now in
    let v = c.args.view.now in
    let n = c.args.place in
    let e = c.args.e.now in
    let d = drawn_of c.args.drawing.now in
    let out = sym c.is_in_view.ensures ∙ c.if-is_in_view.false in
    same_drawn _ _ _ _ _ _ c.note.ensures refl refl ∙ sym (cond-false (in_view v n) (drawn_on l v n d (c.args.kept.now ++ e ∷ [])) (noted_on n e d) out)
