use Rattle.std.proofs.Common.{◌∙◌, sym, ap, Some}
use Rattle.std.proofs.lemmas.Result.{on_ok_weaker}
use Rattle.index_find.proofs.Sieving.{rows_push, no_hits, last_word_is}
use Rattle.index_find.proofs.sieve.SieveTaker.end_row.Goals as goal

pub returns : goal.returns
returns c = λ first t k.
    let now = c.args.self.now in
    on_ok_weaker c.keep_row.result
    (λ h.
    let ended = rows_push k.hits k.rows now.wanted c.deref-2.result.now c.keep_row.new.draft k.wanted (c.deref-2.ensures.value ∙ k.word) h in
    record {
      query = k.query;
      whole = k.whole;
      rows = ended.0;
      hits = no_hits now.query c.keep_row.new.draft t.word ended.1;
      every_path = k.every_path;
      wanted = k.wanted;
      word = k.word;
      last_word = c.in_ok-set.ensures ∙ ap Some (c.deref.ensures.value ∙ k.word) ∙ sym (last_word_is t);
      last_path = c.clear.ensures;
      last_skipped = k.last_skipped;
    })
    c.keep_row.ensures
