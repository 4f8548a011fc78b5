-- A taker that keeps what a query asks for.
use Rattle.std.specs.Prelude.{◌≡◌}
use Rattle.index_text.specs.Offered.{Offered, last_word, last_path, last_skipped}
use Rattle.index_find.specs.Asked.{asks_for, negates}
use Rattle.index_find.specs.Postfix.{postfix, tree_of}
use Rattle.index_find.specs.Sieved.{KeepsRows, KeepsHits}
use Rattle.index_find.specs.declared.sieve.Sieve.{Sieve}

-- one that was offered this
pub record IsSieve (first : Sieve) (offered : Offered) (now : Sieve) : Type 0 where
  pub query : now.query ≡ first.query
  pub whole : now.query ≡ postfix (tree_of now.query)
  pub rows : KeepsRows now.query now.draft.rows offered.rows
  pub hits : KeepsHits now.query now.draft offered.word offered.hits
  pub every_path : now.every_path ≡ negates now.query
  pub wanted : now.wanted ≡ asks_for offered.word now.query
  pub word : now.word.items ≡ offered.word
  pub last_word : now.last_word ≡ last_word offered
  pub last_path : now.last_path ≡ last_path offered
  pub last_skipped : now.last_skipped ≡ last_skipped offered
