use Rattle.std.proofs.Common.{◌≡◌, ◌+◌, ◌-◌, ◌*◌, ◌++◌, length, take, drop, ap, sym, ◌∙◌, arith}
use Rattle.std.specs.Fmt.{decimal}
use Rattle.std.proofs.lemmas.List.{length-take-le, take-take}
use Rattle.trace_shapes.specs.declared.numbers.TheConstants.{SHORT}
use Rattle.trace_shapes.proofs.Digits.{short_at, cut_short, length-entry}
use Rattle.trace_shapes.proofs.numbers.add_short.Goals as goal

pub returns-clause-text : goal.returns-clause-text
returns-clause-text c =
    let n = c.args.n in
    let at = c.args.at in
    let old = take at c.args.buf.now in
    let entry = take 4 (drop (4 * n) SHORT) in
    let d = c.few_digits-count.result in
    let counted = c.few_digits-count.ensures in
    let size : length old ≡ at = length-take-le at c.args.buf.now (omega (arith, c.requires.room)) in
    let four : n * 4 + 4 - n * 4 ≡ 4 = omega arith in
    let from : n * 4 ≡ 4 * n = omega arith in
    let end : c.add.result ≡ at + 4 = c.add.ensures.end ∙ (λ i. at + length (take (four i) (drop (from i) SHORT))) ∙ ap (λ i. at + i) (length-entry n c.requires.short) in
    let text : take (at + 4) c.add.new.buf ≡ old ++ entry = ap (λ i. take i c.add.new.buf) (sym end) ∙ c.add.ensures.text ∙ (λ i. old ++ take (four i) (drop (from i) SHORT)) in
    let digits : take d entry ≡ decimal n = take-take d 4 (drop (4 * n) SHORT) counted.few ∙ ap (λ i. take i (drop (4 * n) SHORT)) counted.count ∙ short_at n c.requires.short in
    cut_short c.add.new.buf old entry (decimal n) at d size counted.count counted.few digits text
