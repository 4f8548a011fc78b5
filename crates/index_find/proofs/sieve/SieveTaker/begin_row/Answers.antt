use Rattle.std.proofs.Common.{◌≡◌, ◌∙◌, ◌++◌, refl, ap}
use Rattle.std.proofs.lemmas.Result.{on_ok_weaker}
use Rattle.firefly_outside.proofs.SampleLines.{grown}
use Rattle.index_find.proofs.Sieving.{hits_word}
use Rattle.index_find.proofs.sieve.SieveTaker.begin_row.Goals as goal

pub returns : goal.returns
returns c = λ first t k none. on_ok_weaker c.extend_from_slice.result
    (λ (e : c.extend_from_slice.new.self.items ≡ c.clear.new.self.items ++ c.args.word.now). record {
      query = k.query;
      whole = k.whole;
      rows = k.rows;
      hits = hits_word k.hits c.args.word.now none;
      every_path = k.every_path;
      wanted = c.asks_for-self.ensures;
      word = e ∙ ap (λ l. l ++ c.args.word.now) c.clear.ensures.items;
      last_word = k.last_word;
      last_path = k.last_path;
      last_skipped = k.last_skipped;
    })
    (grown c.extend_from_slice.result c.clear.new.self.items c.extend_from_slice.new.self.items c.args.word.now c.args.word.now c.extend_from_slice.ensures.items refl)
