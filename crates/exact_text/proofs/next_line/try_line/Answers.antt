use Rattle.std.proofs.Common.{◌≡◌, ◌-◌, length, length-drop, length-append, drop, Ok, arith, sym, ap, ◌∙◌}
use Rattle.std.proofs.lemmas.List.{drop_at}
use Rattle.exact_text.proofs.Grammar.{line_some}
use Rattle.exact_text.proofs.next_line.try_line.Goals as goal

pub overflow_sub-used : goal.overflow_sub-used
overflow_sub-used g c =
    let f = (g.met.L.NextLine.is_exact c.args.next.now c.requires).found _ _ _ c.in-Ok.ensures in
    omega (arith, ap length f.1, length-append (g.L.NextLine.text c.args.next.now c.in-Ok.line) c.in-Ok.rest.now)

pub returns-in-Ok-clause-line : goal.returns-in-Ok-clause-line
returns-in-Ok-clause-line g c =
    let text = g.L.NextLine.text c.args.next.now c.in-Ok.line in
    let rest = c.in-Ok.rest.now in
    let w = c.bytes-bytes.result.now in
    let f = (g.met.L.NextLine.is_exact c.args.next.now c.requires).found _ _ _ c.in-Ok.ensures in
    let used : length text ≡ length w - length rest = omega (arith, ap length f.1, length-append text rest) in
    let left : c.skip.new.self ≡ rest = c.skip.ensures ∙ ap (drop (length w - length rest)) (sym c.bytes-bytes.ensures ∙ f.1) ∙ drop_at text rest (length w - length rest) used in
    ap (g.L.NextLine.reads c.args.next.now) (sym c.bytes-bytes.ensures) ∙ c.in-Ok.ensures ∙ ap (λ r. Ok (c.in-Ok.line, r)) (sym left)

pub returns-in-Ok-clause-shorter : goal.returns-in-Ok-clause-shorter
returns-in-Ok-clause-shorter g c =
    let text = g.L.NextLine.text c.args.next.now c.in-Ok.line in
    let rest = c.in-Ok.rest.now in
    let w = c.bytes-bytes.result.now in
    let f = (g.met.L.NextLine.is_exact c.args.next.now c.requires).found _ _ _ c.in-Ok.ensures in
    let some = line_some text (g.met.L.NextLine.is_line c.args.next.now c.requires c.in-Ok.line f.0).0 in
    omega (arith, some, ap length f.1, length-append text rest, ap length c.skip.ensures, length-drop (length w - length rest) c.args.window.now, ap length c.bytes-bytes.ensures)
