use Rattle.std.proofs.Common.{◌≡◌, ◌≤◌, [], ◌∷◌, length, length-drop, drop, ap, ◌∙◌, arith}
use Rattle.std.proofs.Math.ListN.{drop_of_length-le}
use Rattle.index_print.proofs.Written.{prefix_written}
use Rattle.index_print.proofs.prefix.write_lead.Goals as goal

pub returns-clause-written : goal.returns-clause-written
returns-clause-written c =
    let ended : drop 64 c.args.text.now ≡ [] = drop_of_length-le c.args.text.now {i = 64} (omega (arith, c.requires)) in
    c.byte_before.ensures.written ∙ ap (λ l. 10 ∷ l) (prefix_written c.args.count c.args.line _ _ _ _ _ _ _ ended c.byte_before-start.ensures.written c.number_before-start.ensures.written c.byte_before-start-2.ensures.written c.number_before-start-2.ensures.written
    c.byte_before-start-3.ensures.written c.byte_before-start-4.ensures.written)

pub returns-clause-size : goal.returns-clause-size
returns-clause-size c =
    let g = c.byte_before in
    let same : length g.new.text ≡ 64 = omega (arith, c.requires, c.byte_before-start.auto.text, c.number_before-start.auto.text, c.byte_before-start-2.auto.text, c.number_before-start-2.auto.text, c.byte_before-start-3.auto.text, c.byte_before-start-4.auto.text, g.auto.text) in
    let within : g.result ≤ 64 = omega (arith, c.byte_before-start.ensures.near, c.number_before-start.ensures.before, c.byte_before-start-2.ensures.near, c.number_before-start-2.ensures.before, c.byte_before-start-3.ensures.near, c.byte_before-start-4.ensures.near, g.ensures.near) in
    omega (arith, ap length (returns-clause-written c), length-drop g.result g.new.text, same, within)
