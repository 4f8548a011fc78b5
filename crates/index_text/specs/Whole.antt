-- A taker that keeps everything.
use Rattle.std.specs.Prelude.{◌≡◌}
use Rattle.index_text.specs.declared.whole.Whole.{Whole}
use Rattle.index_text.specs.Offered.{Offered}

-- it keeps all that it was offered
pub record IsWhole (s : Whole) (t : Offered) : Type 0 where
  pub draft : s.draft ≡ record { rows = t.rows; hits = t.hits; skipped = t.skipped }
  pub word : s.word.items ≡ t.word
