-- What a holder knows follows from what is kept, and each allowed change keeps that.
use Rattle.std.specs.Prelude.{◌≡◌, ℕ, List, slice_set}
use Rattle.std.proofs.Common.{arith}
use Rattle.firefly_threads.specs.Names.{get_elem?, some}
use Rattle.firefly_threads.specs.Laws.{own_part, part_set}
use Rattle.firefly_threads.specs.Times.{times}
use Rattle.example_log.specs.declared.mail.Deeds.{Deeds}
use Rattle.example_log.specs.declared.mail.Mail.{Mail}
use Rattle.example_log.specs.Mails.{IsKept, IsKnown, Moves}

pub known : (x : Mail) (shares : List Deeds) (t : ℕ) (s : Deeds) → get_elem? shares t ≡ some s → IsKept x shares → IsKnown x s
known x shares t s there was = grind (arith, own_part (λ (r : Deeds). r.sends) shares t s there)

pub kept : (x y : Mail) (shares : List Deeds) (t : ℕ) (s r : Deeds) → get_elem? shares t ≡ some s → Moves x y s r → IsKept x shares
    → IsKept y (slice_set shares t r)
kept x y shares t s r there moves was =
    let sends = part_set (λ (u : Deeds). u.sends) shares t s r there in
    let ended = part_set (λ (u : Deeds). u.ended) shares t s r there in
    let received = λ (v : ℕ). part_set (λ (u : Deeds). times v u.received) shares t s r there in
    let sent = λ (v : ℕ). part_set (λ (u : Deeds). times v u.sent) shares t s r there in
    grind (arith, received, sent)
