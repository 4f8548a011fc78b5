use Rattle.std.proofs.Common.{◌≡◌, Bool, true, false, cond, ◌+◌, ◌-◌, length, take, ap, sym, ◌∙◌, arith}
use Rattle.std.proofs.lemmas.Bool.{cond-true, cond-false, true≢false}
use Rattle.std.proofs.lemmas.List.{take_all}
use Rattle.trace_shapes.specs.Places.{is_open}
use Rattle.trace_picture.specs.Shown.{drawn_of}
use Rattle.trace_picture.specs.Keeping.{turned, drawn_over, fills}
use Rattle.trace_picture.proofs.draw.draw_if_full.Goals as goal

pub returns-then-is_band_open-clause-low : goal.returns-then-is_band_open-clause-low
returns-then-is_band_open-clause-low g c = λ full.
    absurd (true≢false (sym full ∙ ap (λ b. cond b false true) (sym c.is_band_open.ensures ∙ c.if-is_band_open.true)))

pub returns-in-Ok-clause-drawn : goal.returns-in-Ok-clause-drawn
returns-in-Ok-clause-drawn g c =
    let l = c.args.layout.now in
    let v = c.args.view.now in
    let n = c.args.place in
    let d = drawn_of c.args.drawing.now in
    let es = c.args.kept.now in
    let full : fills v n ≡ true = ap (λ b. cond b false true) (sym c.is_band_open.ensures ∙ c.if-is_band_open.false) in
    let count = c.len-count.ensures.count in
    let all : take c.len-count.result es ≡ es = take_all c.len-count.result es (omega (arith, count)) in
    c.in-Ok.ensures.kept ∙ (λ i. drawn_over l v (n + 1 - count i) (turned l es d) (all i)) ∙ sym (cond-true (fills v n) (drawn_over l v (n + 1 - length es) (turned l es d) es) d full)
