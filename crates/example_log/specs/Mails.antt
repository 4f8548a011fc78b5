-- The mail, and what threads did with it.
use Rattle.std.specs.Prelude.{◌≡◌, ℕ, ◌+◌, ◌*◌, ◌≤◌, ◌<◌, cond, false, ltb, List, [], ◌∷◌, ◌++◌, Option as Opt, Some, None}
use Rattle.firefly_threads.specs.Names.{range_with_len, total}
use Rattle.firefly_threads.specs.Times.{times}
use Rattle.example_log.specs.declared.mail.Deeds.{Deeds}
use Rattle.example_log.specs.declared.mail.Mail.{Mail}
use Rattle.example_log.specs.declared.run.Log.{Log}

abbrev pub in_slot : Opt ℕ → List ℕ
in_slot None = []
in_slot (Some x) = x ∷ []

-- threads 0, 1 and 2 may send
abbrev pub begins : ℕ → Deeds
begins t = record { sent = []; received = []; sends = cond (ltb t 3) 1 0; ended = 0 }

-- the message that was put into the slot was sent
abbrev pub sent : Opt ℕ → Deeds → Deeds
sent slot s = record s { sent = s.sent ++ in_slot slot }

-- the message in the slot was received; if there was none, the end was seen
abbrev pub received : Opt ℕ → Deeds → Deeds
received None s = record s { ended = 1 }
received (Some m) s = record s { received = s.received ++ m ∷ [] }

abbrev pub left : Deeds → Deeds
left s = record s { sends = 0 }

-- there is no message, and none will come
abbrev pub over : Mail
over = record { slot = None; senders = 0 }

-- each message that was sent was received or is in the slot; `senders` threads may still send; and
-- if one has seen the end, all is over
pub record IsKept (q : Mail) (shares : List Deeds) : Type 0 where
  pub all : (v : ℕ) → times v (in_slot q.slot) + total (λ s. times v s.received) shares ≡ total (λ s. times v s.sent) shares
  pub senders : q.senders ≡ total (λ s. s.sends) shares
  pub end : 1 ≤ total (λ s. s.ended) shares → q ≡ over

-- what a thread that holds the mutex knows
abbrev pub IsKnown : Mail → Deeds → Type 0
IsKnown q s = s.sends ≤ q.senders

-- a message is moved and none is lost, the threads that may send are counted, what is over stays
-- so, and a thread that sees the end sees what is over
pub record Moves (x y : Mail) (s r : Deeds) : Type 0 where
  pub all : (v : ℕ) → times v (in_slot y.slot) + times v r.received + times v s.sent ≡ times v (in_slot x.slot) + times v s.received
      + times v r.sent
  pub senders : y.senders + s.sends ≡ x.senders + r.sends
  pub stays : x ≡ over → y ≡ over
  pub end : s.ended < r.ended → y ≡ over

-- the deeds of a thread that has sent `count` numbers, from `first` on, and may send more
abbrev pub has_sent : ℕ → ℕ → Deeds
has_sent first count = record { sent = range_with_len first count; received = []; sends = 1; ended = 0 }

-- the deeds of the thread n: it has sent its numbers, or has written the log and seen the end
pub record IsPart (count n : ℕ) (log : Log) (s : Deeds) : Type 0 where
  pub sender : n < 3 → s ≡ left (has_sent (n * count) count)
  pub receiver : 3 ≤ n → (s.sent ≡ []) × (s.ended ≡ 1) × (log.lost ≡ false → s.received ≡ log.items.items)
