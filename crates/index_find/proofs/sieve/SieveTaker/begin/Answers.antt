use Rattle.std.proofs.Common.{[], refl}
use Rattle.index_find.proofs.Sieving.{no_rows, no_hits}
use Rattle.index_find.proofs.sieve.SieveTaker.begin.Goals as goal

pub returns : goal.returns
returns c = record {
  query = refl;
  whole = c.negates-self.ensures.whole;
  rows = rw c.new.ensures (no_rows c.args.self.now.query);
  hits = rw c.new.ensures (no_hits c.args.self.now.query (record { rows = []; hits = []; skipped = [] }) [] refl);
  every_path = c.negates-self.ensures.negates;
  wanted = c.asks_for-self.ensures;
  word = c.clear.ensures.items;
  last_word = c.clear-2.ensures;
  last_path = c.clear-3.ensures;
  last_skipped = c.clear-4.ensures;
}
