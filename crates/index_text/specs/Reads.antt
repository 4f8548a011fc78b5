-- What a taker was offered of a whole index text.
use Rattle.std.specs.Prelude.{◌≡◌, ℕ, ◌≤◌, List, [], length, IfSome}
use Rattle.std.specs.declared.option.Option.{Option}
use Rattle.index_table.specs.Rows.{AreOrdered}
use Rattle.index_text.specs.Offered.{Offered}
use Rattle.index_text.specs.Texts.{ReadsAs}

-- it was offered the rows and skipped paths of the text, which has at most so many bytes, and nothing else
pub record HasOffered {S : Type 0} (keeps : S → Offered → S → Type 0) (most : ℕ) (left : Option (List ℕ)) (old new : S) : Type 0 where
  pub offered : Offered
  pub kept : keeps old offered new
  pub ended : offered.hits ≡ []
  pub ordered : AreOrdered offered.rows
  pub text : IfSome left (λ bytes. (length bytes ≤ most) × ReadsAs bytes offered.rows offered.skipped)
