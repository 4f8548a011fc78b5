use Rattle.std.proofs.Common.{◌<◌, ◌+◌, ◌≡◌, true, drop, get_or, sym, ◌∙◌, arith}
use Rattle.std.specs.List.{prefix_len}
use Rattle.std.proofs.lemmas.List.Sums.{prefix_len-drop_yes}
use Rattle.word_index.specs.Words.{is_word_byte}
use Rattle.word_index.proofs.Runs.{runs_from}
use Rattle.word_index.proofs.words.next_run.Goals as goal

pub returns-then-is_word : goal.returns-then-is_word
returns-then-is_word c =
    let word : is_word_byte (get_or c.args.bytes.now c.loop-at.at 0) ≡ true = sym c.is_word.ensures ∙ c.if-is_word.true in
    let longer = prefix_len-drop_yes is_word_byte c.args.bytes.now c.loop-at.at 0 c.loop-at-test.true word in
    let here : c.loop-at.at < c.run_end-end.result = omega (arith, longer, c.run_end-end.ensures.longest) in (
      c.loop-at.invariant.0,
      here,
      c.run_end-end.ensures.within,
      c.loop-at.invariant.2,
      c.loop-at.invariant.3 ∙ rw c.run_end-end.ensures.longest (runs_from _ _ _ c.loop-at-test.true word),
    )
