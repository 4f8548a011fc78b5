use Rattle.std.proofs.Common.{◌++◌}
use Rattle.std.specs.List.{flat_map}
use Rattle.text_output.specs.Paths.{newline}
use Rattle.text_output.proofs.Prefixes.{sends_then, fails_then}
use Rattle.text_output.proofs.Pieces.{puts_then, puts_failed, prefix_of_two, prefix_of_three}
use Rattle.word_index.specs.Index.{row_at}
use Rattle.index_print.specs.Text.{hit_after, word_start}
use Rattle.index_print.proofs.Written.{ends_moved}
use Rattle.index_print.proofs.print.put_row.Goals as goal

pub returns-in_err-put_word-clause-text : goal.returns-in_err-put_word-clause-text
returns-in_err-put_word-clause-text g c =
    let reported = g.O.Sink.held c.args.out.now in
    let held = c.args.held.now.items in
    let row = row_at c.args.piece.now c.args.at in
    rw (← ends_moved (word_start row) row.hits) (puts_failed c.from_residual.result reported _ held _ _ c.from_residual.ensures.0
    (prefix_of_three reported _ held (word_start row) (flat_map hit_after row.hits) newline c.in_err-put_word.ensures.text))

pub returns-in_err-put_hits-clause-text : goal.returns-in_err-put_hits-clause-text
returns-in_err-put_hits-clause-text g c =
    let reported = g.O.Sink.held c.args.out.now in
    let held = c.args.held.now.items in
    let row = row_at c.args.piece.now c.args.at in
    rw (← ends_moved (word_start row) row.hits) (puts_failed c.from_residual-in_err-put_hits.result reported _ held _ _ c.from_residual-in_err-put_hits.ensures.0
    (prefix_of_two reported _ held (word_start row ++ flat_map hit_after row.hits) newline
    (fails_then reported _ _ held _ (word_start row) (flat_map hit_after row.hits) c.in_ok-put_word.ensures.text c.in_err-put_hits.ensures.text)))

pub returns-clause-text : goal.returns-clause-text
returns-clause-text g c =
    let reported = g.O.Sink.held c.args.out.now in
    let held = c.args.held.now.items in
    let row = row_at c.args.piece.now c.args.at in
    rw (← ends_moved (word_start row) row.hits)
    (puts_then c.put.result reported _ _ held _ _ (word_start row ++ flat_map hit_after row.hits) newline
    (sends_then reported _ _ held _ _ (word_start row) (flat_map hit_after row.hits) c.in_ok-put_word.ensures.text c.in_ok-put_hits.ensures.text) c.put.ensures.text)
