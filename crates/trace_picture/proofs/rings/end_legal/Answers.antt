use Rattle.std.proofs.Common.{Bool, List, ℕ, Some, refl, sym, subst}
use Rattle.trace_picture.specs.Shown.{drawn_of}
use Rattle.trace_picture.specs.Verdicts.{legal_words}
use Rattle.trace_picture.specs.Picture.{ending}
use Rattle.trace_picture.specs.Rings.{IsEnding}
use Rattle.trace_picture.proofs.rings.end_legal.Goals as goal

pub returns-else-view-clause-ended : goal.returns-else-view-clause-ended
returns-else-view-clause-ended g c = λ es now k.
    let l = c.args.layout.now in
    let v = c.args.view.now in
    let end : List ℕ = ending l v (drawn_of c.args.drawing.now) c.args.count legal_words (Some c.args.left) in
    (end, subst (λ (b : Bool). IsEnding b l v (drawn_of c.args.drawing.now) c.args.count c.args.left es end) (sym c.if-view.false) refl, (c.end_with.ensures.ok, c.end_with.ensures.err))
