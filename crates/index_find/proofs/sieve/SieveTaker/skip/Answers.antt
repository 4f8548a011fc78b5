use Rattle.std.proofs.Common.{◌∙◌, sym}
use Rattle.std.proofs.lemmas.Result.{on_ok_weaker}
use Rattle.index_find.proofs.Sieving.{last_skipped_is}
use Rattle.index_find.proofs.sieve.SieveTaker.skip.Goals as goal

pub returns : goal.returns
returns c = λ first t k. on_ok_weaker c.set.result
    (λ e. record {
      query = k.query;
      whole = k.whole;
      rows = k.rows;
      hits = k.hits;
      every_path = k.every_path;
      wanted = k.wanted;
      word = k.word;
      last_word = k.last_word;
      last_path = k.last_path;
      last_skipped = e ∙ sym (last_skipped_is t c.args.path.now);
    })
    c.set.ensures
