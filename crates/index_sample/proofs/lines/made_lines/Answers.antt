use Rattle.std.proofs.Common.{◌∙◌, ◌++◌, ◌∷◌, [], ap, ◌≡◌, map, arith}
use Rattle.std.specs.List.{range_with_len}
use Rattle.firefly_outside.specs.Samples.{sample_line}
use Rattle.index_sample.proofs.LineLemmas.{lines_made}
use Rattle.index_sample.proofs.lines.made_lines.Goals as goal

pub loop-first-preserved : goal.loop-first-preserved
loop-first-preserved c =
    lines_made c.loop-first.first c.loop-first.lines.items c.push.new.self.items c.loop-first.invariant
    (c.in_ok-push.ensures.items ∙ ap (λ l. c.loop-first.lines.items ++ l ∷ []) c.in_ok-line_from.ensures)

pub returns : goal.returns
returns c =
    let last : c.loop-first.first ≡ 499 = omega (arith, c.loop-first-test.false, c.loop-first.auto.first-end) in
    c.loop-first.invariant ∙ ap (λ n. map (λ k. sample_line k 0 0) (range_with_len 0 n)) last
