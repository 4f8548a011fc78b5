use Rattle.std.proofs.Common.{◌≡◌, ◌∙◌, [], arith, subst, IfOk}
use Rattle.std.specs.List.{range_with_len, flat_map}
use Rattle.firefly_outside.proofs.SampleLines.{spaced_word, word_more, line_made}
use Rattle.index_sample.proofs.LineLemmas.{word_added}
use Rattle.index_sample.proofs.lines.line_from.Goals as goal

pub loop-q-preserved : goal.loop-q-preserved
loop-q-preserved c =
    let n = c.args.first in
    let q = c.loop-q.q in
    let before = c.loop-q.line.bytes in
    let worded = word_added n q before c.push_number.new.text.bytes c.requires c.push_number.ensures.bytes in
    (word_more n 0 0 q [] before c.push_number.new.text.bytes c.push_str.new.self.bytes c.loop-q.invariant.0 worded c.push_str.ensures.bytes, omega (arith, c.loop-q.invariant.1, c.push_number.ensures.len, c.push_str.ensures))

pub returns : goal.returns
returns c =
    let n = c.args.first in
    let spaced = c.loop-q.line.bytes in
    let last : c.loop-q.q ≡ 7 = omega (arith, c.loop-q-test.false, c.loop-q.auto.q-end) in
    let seven = subst (λ k. spaced ≡ flat_map (spaced_word n 0 0) (range_with_len 0 k)) last c.loop-q.invariant.0 in
    let worded = word_added n 7 spaced c.push_number-2.new.text.bytes c.requires c.push_number-2.ensures.bytes in
    let whole = line_made n 0 0 [] spaced c.push_number-2.new.text.bytes c.push_str-2.new.self.bytes seven worded c.push_str-2.ensures.bytes in
    subst (λ l. IfOk c.of.result (λ t. t ≡ l)) (c.as_str.ensures.value ∙ whole) c.of.ensures
