use Rattle.std.proofs.Common.{◌∙◌, List, sym, subst}
use Rattle.std.proofs.lemmas.Result.{on_ok_weaker}
use Rattle.word_index.specs.Index.{Hit, Row}
use Rattle.index_find.specs.Sieved.{KeepsRows}
use Rattle.index_find.proofs.Sieving.{hits_push, same_rows, last_path_is}
use Rattle.index_find.proofs.sieve.SieveTaker.hit.Goals as goal

pub returns : goal.returns
returns c = λ first t k.
    let now = c.args.self.now in
    let hit : Hit = record { path = c.args.path.now; count = c.args.count; line = c.args.line } in
    on_ok_weaker c.keep_hit.result
    (λ h. record {
      query = k.query;
      whole = k.whole;
      rows = subst (λ (rs : List Row). KeepsRows now.query rs t.rows) (sym (same_rows now.wanted now.every_path now.draft c.keep_hit.new.draft hit h)) k.rows;
      hits = hits_push k.hits now.wanted now.every_path hit c.keep_hit.new.draft k.wanted k.every_path h;
      every_path = k.every_path;
      wanted = k.wanted;
      word = k.word;
      last_word = k.last_word;
      last_path = c.in_ok-set.ensures ∙ sym (last_path_is t hit);
      last_skipped = k.last_skipped;
    })
    c.keep_hit.ensures
