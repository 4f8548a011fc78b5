use Rattle.std.proofs.Common.{◌≡◌, ◌++◌, arith, subst}
use Rattle.std.specs.List.{range_with_len, flat_map}
use Rattle.firefly_outside.proofs.SampleLines.{spaced_word, word_more, line_made}
use Rattle.firefly_outside.proofs.samples.push_line.Goals as goal

pub loop-q-preserved : goal.loop-q-preserved
loop-q-preserved c =
    word_more c.args.seed c.args.file c.args.line c.loop-q.q c.args.bytes.now.items c.loop-q.bytes.items c.push_word.new.bytes.items c.push.new.self.items c.loop-q.invariant c.in_ok-push_word.ensures c.in_ok-push.ensures.items

pub returns : goal.returns
returns c =
    let last : c.loop-q.q ≡ 7 = omega (arith, c.loop-q-test.false, c.loop-q.auto.q-end) in
    line_made c.args.seed c.args.file c.args.line c.args.bytes.now.items c.loop-q.bytes.items c.push_word-2.new.bytes.items c.push-2.new.self.items
    (subst (λ n. c.loop-q.bytes.items ≡ c.args.bytes.now.items ++ flat_map (spaced_word c.args.seed c.args.file c.args.line) (range_with_len 0 n)) last c.loop-q.invariant)
    c.in_ok-push_word-2.ensures c.in_ok-push-2.ensures.items
