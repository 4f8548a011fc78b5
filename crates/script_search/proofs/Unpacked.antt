-- The bytes of a board say which board it is.
use Rattle.std.proofs.Common.{◌≡◌, ℕ, suc, ◌+◌, ◌-◌, ◌*◌, ◌/◌, ◌%◌, ◌<◌, ◌≤◌, Bool, true, false, cond, List, [], ◌∷◌, ◌++◌, length, refl, sym, ap, ◌∙◌, append_assoc, append-nil, arith, Some, None}
use Rattle.std.specs.Prelude.{nat_lt}
use Rattle.std.specs.List.{flat_map}
use Rattle.std.specs.declared.option.Option.{Option}
use Rattle.larch_actions.specs.declared.event.Layout.{Layout}
use Rattle.script_search.specs.declared.board.Place.{Place}
use Rattle.script_search.specs.declared.board.Place.TheVariants as place
use Rattle.script_search.specs.declared.board.Thread.{Thread}
use Rattle.script_search.specs.Boards.{Moment, IsBoard}
use Rattle.script_search.specs.Keys.{wide_cells, number_cells, wait_cells, thread_cells, holder_cells, available_cells, key_of, mark_of, read_wide, read_number, waiting_place, read_wait, thread_from, read_thread, read_holder, read_available, read_all, with_holders, with_threads, moment_in}

-- the four bytes of a number add up to it
wide_is : (n : ℕ) → n % 256 + 256 * (n / 256 % 256) + 65536 * (n / 256 / 256 % 256) + 16777216 * (n / 256 / 256 / 256) ≡ n
wide_is n = omega arith

number_back : (n : ℕ) (rest : List ℕ) → read_number (number_cells n ++ rest) ≡ (n, rest)
number_back n rest = by (nat_lt n 255) refl
  where
    by : (b : Bool) → nat_lt n 255 ≡ b → read_number (number_cells n ++ rest) ≡ (n, rest)
    by true e = ap (λ b. read_number (cond b (n ∷ []) (wide_cells n) ++ rest)) e ∙ ap (λ b. cond b (n, rest) (read_wide rest)) e
    by false e = ap (λ b. read_number (cond b (n ∷ []) (wide_cells n) ++ rest)) e ∙ (λ i. (wide_is n i, rest))

wait_back : (tag m c : ℕ) (rest : List ℕ) → read_wait tag ((number_cells m ++ number_cells c) ++ rest) ≡ (waiting_place tag m c, rest)
wait_back tag m c rest =
    let first = ap read_number (append_assoc (number_cells m) (number_cells c) rest) ∙ number_back m (number_cells c ++ rest) in
    ap (λ (q : ℕ × List ℕ). (waiting_place tag q.0 (read_number q.1).0, (read_number q.1).1)) first
    ∙ ap (λ (q : ℕ × List ℕ). (waiting_place tag m q.0, q.1)) (number_back c rest)

thread_with : ℕ → Bool → Place × List ℕ → Thread × List ℕ
thread_with n a q = (record { played = n; place = q.0; alerted = a }, q.1)

from_back : (n : ℕ) (p : Place) (a : Bool) (rest : List ℕ) → thread_from (mark_of p a) (n, wait_cells p ++ rest) ≡ (record { played = n; place = p; alerted = a }, rest)
unfolding thread_with
from_back n place.Unborn true rest = refl
from_back n place.Unborn false rest = refl
from_back n place.Running true rest = refl
from_back n place.Running false rest = refl
from_back n place.Ended true rest = refl
from_back n place.Ended false rest = refl
from_back n (place.Waiting m c true) true rest = ap (thread_with n true) (wait_back 3 m c rest)
from_back n (place.Waiting m c true) false rest = ap (thread_with n false) (wait_back 3 m c rest)
from_back n (place.Waiting m c false) true rest = ap (thread_with n true) (wait_back 4 m c rest)
from_back n (place.Waiting m c false) false rest = ap (thread_with n false) (wait_back 4 m c rest)
from_back n (place.AlertWaiting m c true) true rest = ap (thread_with n true) (wait_back 5 m c rest)
from_back n (place.AlertWaiting m c true) false rest = ap (thread_with n false) (wait_back 5 m c rest)
from_back n (place.AlertWaiting m c false) true rest = ap (thread_with n true) (wait_back 6 m c rest)
from_back n (place.AlertWaiting m c false) false rest = ap (thread_with n false) (wait_back 6 m c rest)

thread_back : (x : Thread) (rest : List ℕ) → read_thread (thread_cells x ++ rest) ≡ (x, rest)
thread_back x rest =
    let mark = mark_of x.place x.alerted in
    ap (λ (bs : List ℕ). thread_from mark (read_number bs)) (append_assoc (number_cells x.played) (wait_cells x.place) rest)
    ∙ (ap (thread_from mark) (number_back x.played (wait_cells x.place ++ rest))
    ∙ from_back x.played x.place x.alerted rest)

holder_back : (h : Option ℕ) (rest : List ℕ) → read_holder (holder_cells h ++ rest) ≡ (h, rest)
holder_back None rest = refl
holder_back (Some t) rest = ap (λ (q : ℕ × List ℕ). (Some q.0, q.1)) (number_back t rest)

available_back : (b : Bool) (rest : List ℕ) → read_available (available_cells b ++ rest) ≡ (b, rest)
available_back true rest = refl
available_back false rest = refl

-- what is written one after another is read back one after another
module _ {X : Type 0} (cells : X → List ℕ) (read : List ℕ → X × List ℕ) (back : (x : X) (rest : List ℕ) → read (cells x ++ rest) ≡ (x, rest)) where
  more_of : ℕ → X × List ℕ → List X × List ℕ
  more_of n q = (q.0 ∷ (read_all read n q.1).0, (read_all read n q.1).1)

  all_back : (xs : List X) (rest : List ℕ) → read_all read (length xs) (flat_map cells xs ++ rest) ≡ (xs, rest)
  unfolding more_of
  all_back [] rest = refl
  all_back (x ∷ xs) rest =
      let first = ap read (append_assoc (cells x) (flat_map cells xs) rest) ∙ back x (flat_map cells xs ++ rest) in
      ap (more_of (length xs)) first ∙ ap (λ (q : List X × List ℕ). (x ∷ q.0, q.1)) (all_back xs rest)

  pub so_many_back : (n : ℕ) (xs : List X) (rest : List ℕ) → length xs ≡ n → read_all read n (flat_map cells xs ++ rest) ≡ (xs, rest)
  so_many_back n xs rest size = ap (λ (k : ℕ). read_all read k (flat_map cells xs ++ rest)) (sym size) ∙ all_back xs rest

-- a board can be read back from its bytes
pub moment_back : (l : Layout) (m : Moment) → IsBoard l m → moment_in l (key_of m) ≡ m
moment_back l m b =
    let held = flat_map holder_cells m.holders in
    let last = flat_map available_cells m.available in
    let threads = ap (read_all read_thread l.threads) (append_assoc (flat_map thread_cells m.threads) held last) ∙ so_many_back thread_cells read_thread thread_back l.threads m.threads (held ++ last) b.threads in
    let holders = so_many_back holder_cells read_holder holder_back l.mutexes m.holders last b.holders in
    let available = ap (read_all read_available l.semaphores) (sym (append-nil last)) ∙ so_many_back available_cells read_available available_back l.semaphores m.available [] b.available in
    let v = sym b.version in
    ap (with_threads l) threads
    ∙ (ap (with_holders l m.threads) holders
    ∙ (λ i. record { second = v i; threads = m.threads; holders = m.holders; available = (available i).0 }))

-- so different boards have different bytes
pub same_key : (l : Layout) (m n : Moment) → IsBoard l m → IsBoard l n → key_of m ≡ key_of n → m ≡ n
same_key l m n bm bn e = sym (moment_back l m bm) ∙ (ap (moment_in l) e ∙ moment_back l n bn)

-- the first k of n were read, and the others stand in the rest
abbrev pub HasRead : {X : Type 0} → (List ℕ → X × List ℕ) → ℕ → List ℕ → ℕ → List X → List ℕ → Type 0
HasRead read n bytes k items rest = (items ++ (read_all read (n - k) rest).0, (read_all read (n - k) rest).1) ≡ read_all read n bytes

module _ {X : Type 0} (read : List ℕ → X × List ℕ) (n : ℕ) (bytes : List ℕ) where
  at_left : List X → List ℕ → ℕ → List X × List ℕ
  at_left items rest k = (items ++ (read_all read k rest).0, (read_all read k rest).1)

  pub read_first : (items : List X) → items ≡ [] → HasRead read n bytes 0 items bytes
  unfolding at_left
  read_first items none =
      let e : n - 0 ≡ n = omega arith in
      ap (λ (l : List X). at_left l bytes (n - 0)) none ∙ ap (at_left [] bytes) e

  pub read_more : (k : ℕ) (items more : List X) (x : X) (rest after : List ℕ) → k < n → (x, after) ≡ read rest → more ≡ items ++ x ∷ [] → HasRead read n bytes k items rest
      → HasRead read n bytes (k + 1) more after
  unfolding at_left
  read_more k items more x rest after low is now old =
      let j = n - (k + 1) in
      let e : suc j ≡ n - k = omega (arith, low) in
      let rear = ap (λ (l : List X). l ++ (read_all read j after).0) now ∙ append_assoc items (x ∷ []) (read_all read j after).0 in
      (λ i. (rear i, (read_all read j after).1))
      ∙ (ap (λ (q : X × List ℕ). (items ++ q.0 ∷ (read_all read j q.1).0, (read_all read j q.1).1)) is
      ∙ (ap (at_left items rest) e ∙ old))

  pub read_last : (k : ℕ) (items : List X) (rest : List ℕ) → n ≤ k → HasRead read n bytes k items rest → (items, rest) ≡ read_all read n bytes
  unfolding at_left
  read_last k items rest all old =
      let e : 0 ≡ n - k = omega (arith, all) in
      (λ i. (sym (append-nil items) i, rest)) ∙ (ap (at_left items rest) e ∙ old)
