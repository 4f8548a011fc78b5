-- What is left of a buffer when its package is closed.
use Rattle.std.specs.Prelude.{◌≡◌, ℕ, List, ◌++◌, length, map, take, Some}
use Rattle.nub_rule.specs.Known.{Known}
use Rattle.bounded_buffer.specs.declared.note.Note.{Note}
use Rattle.bounded_buffer.specs.Plain.{BufferRule, all_puts, all_takes}
use Rattle.bounded_buffer.specs.Rings.{Held}

-- the items put under the mutex m, in order of puts, are those taken, each once, and then those
-- left in the ring
pub record IsSettled {T W : Type 0} (m : ℕ) (q : Held T) (threads : List (Known (Held T) (List (Note T)) W)) : Type 0 where
  pub shares : List (List (Note T))
  pub each_share : map (λ t. t.share) threads ≡ map (λ s. Some s) shares
  pub rule : BufferRule m q shares
  pub whole : rule.log ≡ take q.taken rule.log ++ q.items
  pub put_count : length (all_puts m shares) ≡ length rule.log
  pub taken_count : length (all_takes m shares) ≡ q.taken
