use Rattle.std.proofs.Common.{◌≡◌, ◌+◌, ◌<◌, ◌++◌, take, sym, subst, ◌∙◌, arith, ℕ}
use Rattle.trace_core.specs.Text.{members, names_text}
use Rattle.trace_core.proofs.NamesPrinted.{names_after, names_first, names_with, names_without, names_last, three_digits}
use Rattle.trace_core.proofs.line_texts.add_names.Goals as goal
use Rattle.trace_core.proofs.line_texts.add_names.Goals.{then-has, else-has}

pub loop-t-init : goal.loop-t-init
loop-t-init c = record { text = names_first c.args.left.now (take c.args.at c.args.buf.now); near = omega arith }

pub loop-t-preserved : goal.loop-t-preserved
loop-t-preserved c =
    let set = c.args.left.now in
    let t = c.loop-t.t in
    let low : t < 256 = c.loop-t-test.true in
    let before = c.loop-t.invariant in
    let old = take c.loop-t.last c.loop-t.buf in
    let all = take c.args.at c.args.buf.now ++ names_text (members set) in
    elim c.if-has.branch [
      | then-has w ↦
          let added = w.add_named-last.ensures in
          let here : take c.if-has.last c.if-has.buf ≡ take w.add_named-last.result w.add_named-last.new.buf = (λ i. take (w.last-is i) (w.buf-is i)) in
          record { text = names_with set t old (take c.if-has.last c.if-has.buf) all low (sym w.if-has.ensures) (here ∙ added.text) before.text; near = omega (arith, w.last-is, added.end, three_digits t low, before.near) }
      | else-has w ↦
          let here : old ≡ take c.if-has.last c.if-has.buf = (λ i. take (sym w.last-is i) (sym w.buf-is i)) in
          record { text = subst (λ l. l ++ names_after set (t + 1) ≡ all) here (names_without set t old all low (sym w.if-has.ensures) before.text); near = omega (arith, w.last-is, before.near) }
    ]

pub returns-clause-text : goal.returns-clause-text
returns-clause-text c =
    let end : c.loop-t.t ≡ 256 = omega (arith, c.loop-t-test.false, c.loop-t.auto.t-end) in
    let all = take c.args.at c.args.buf.now ++ names_text (members c.args.left.now) in
    names_last c.args.left.now (take c.loop-t.last c.loop-t.buf) all (subst (λ (n : ℕ). take c.loop-t.last c.loop-t.buf ++ names_after c.args.left.now n ≡ all) end c.loop-t.invariant.text)
