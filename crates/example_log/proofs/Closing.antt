-- What threads have done adds up to the log.
use Rattle.std.proofs.Common.{◌≡◌, ℕ, ◌*◌, false, List, [], ◌∷◌, length, arith, sym, ap, ◌∙◌, refl, None}
use mathlib.Core.Option.{some-injective}
use Rattle.firefly_threads.specs.Names.{Each, HaveWorked, Known, OneValue, firsts, get_elem?, range_with_len, some}
use Rattle.firefly_threads.specs.Laws.{the_value, times_range}
use Rattle.firefly_threads.specs.Times.{HasAll}
use Rattle.example_log.specs.declared.mail.Deeds.{Deeds}
use Rattle.example_log.specs.declared.mail.Mail.{Mail}
use Rattle.example_log.specs.declared.run.Log.{Log}
use Rattle.example_log.specs.Mails.{IsKept, IsPart, begins, over}

-- where three may send, and nobody has sent
pub begins_kept : IsKept (record { slot = None; senders = 3 }) (firsts begins 4)
begins_kept = grind arith

-- of four threads that have done their parts, and the log of the last
came : (count : ℕ) (q : Mail) (logs : List Log) (log : Log) (shares : List Deeds) → length shares ≡ 4 → IsKept q shares
    → Each (λ n s. (x : Log) × (get_elem? logs n ≡ some x) × IsPart count n x s) shares → get_elem? logs 3 ≡ some log
    → (q ≡ over) × (log.lost ≡ false → HasAll log.items.items (range_with_len 0 (3 * count)))
came count q logs log (a ∷ b ∷ c ∷ d ∷ []) long kept parts last =
    let x = (parts 0 a refl).2.sender (omega arith) in
    let y = (parts 1 b refl).2.sender (omega arith) in
    let z = (parts 2 c refl).2.sender (omega arith) in
    let r = parts 3 d refl in
    let is : r.0 ≡ log = some-injective r.0 log (sym r.1 ∙ last) in
    let mine = r.2.receiver (omega arith) in
    let end = kept.end (omega arith) in (
      end,
      λ whole v.
          let all = kept.all v in
          let first = times_range v 0 count count (2 * count) (3 * count) (omega arith) (omega arith) in
          let others = times_range v count count (2 * count) count (2 * count) (omega arith) (omega arith) in
          grind arith,
    )
came _ _ _ _ _ long _ _ _ = absurd (omega arith)

pub logged : (count : ℕ) (threads : List (Known Mail Deeds (Prim.Unit {0}))) (logs : List Log) (log : Log) (values : List Mail)
    → HaveWorked tt (OneValue IsKept) (λ n es log s. IsPart count n log s) threads values logs → length logs ≡ 4 → get_elem? logs 3 ≡ some log
    → (values ≡ over ∷ []) × (log.lost ≡ false → HasAll log.items.items (range_with_len 0 (3 * count)))
logged count threads logs log values worked four last =
    let one = the_value IsKept values worked.shares worked.kept in
    let did = came count one.0 logs log worked.shares (worked.count ∙ four) one.2 (λ n s at. let e = worked.each n s at in (e.left, e.is_left, e.goes)) last in
    (one.1 ∙ ap (λ q. q ∷ []) did.0, did.1)
