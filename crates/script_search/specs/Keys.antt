-- A board as bytes, and back.
use Rattle.std.specs.Prelude.{ℕ, zero, suc, ◌+◌, ◌*◌, ◌/◌, ◌%◌, Bool, true, false, cond, eqb, nat_lt, nat_le, List, [], ◌∷◌, ◌++◌, Some, None}
use Rattle.std.specs.List.{flat_map}
use Rattle.std.specs.declared.option.Option.{Option}
use Rattle.larch_actions.specs.declared.event.Layout.{Layout}
use Rattle.script_search.specs.declared.board.Place.{Place}
use Rattle.script_search.specs.declared.board.Place.TheVariants as place
use Rattle.script_search.specs.declared.board.Thread.{Thread}
use Rattle.script_search.specs.Boards.{Moment, is_second}

-- a number below 255 is one byte, and another is the byte 255 and four more, the lowest first
abbrev pub wide_cells : ℕ → List ℕ
wide_cells n = 255 ∷ n % 256 ∷ n / 256 % 256 ∷ n / 256 / 256 % 256 ∷ n / 256 / 256 / 256 ∷ []

abbrev pub number_cells : ℕ → List ℕ
number_cells n = cond (nat_lt n 255) (n ∷ []) (wide_cells n)

-- where a thread stands and whether it is alerted
abbrev pub tag_of : Place → ℕ
tag_of place.Unborn = 0
tag_of place.Running = 1
tag_of place.Ended = 2
tag_of (place.Waiting m c inside) = cond inside 3 4
tag_of (place.AlertWaiting m c inside) = cond inside 5 6

abbrev pub mark_of : Place → Bool → ℕ
mark_of p alerted = cond alerted (tag_of p + 8) (tag_of p)

-- the mutex and the condition of a wait
abbrev pub wait_cells : Place → List ℕ
wait_cells (place.Waiting m c inside) = number_cells m ++ number_cells c
wait_cells (place.AlertWaiting m c inside) = number_cells m ++ number_cells c
wait_cells _ = []

abbrev pub thread_cells : Thread → List ℕ
thread_cells x = mark_of x.place x.alerted ∷ number_cells x.played ++ wait_cells x.place

abbrev pub holder_cells : Option ℕ → List ℕ
holder_cells None = 0 ∷ []
holder_cells (Some t) = 1 ∷ number_cells t

abbrev pub bit : Bool → ℕ
bit b = cond b 1 0

abbrev pub available_cells : Bool → List ℕ
available_cells b = bit b ∷ []

abbrev pub key_of : Moment → List ℕ
key_of m = (flat_map thread_cells m.threads ++ flat_map holder_cells m.holders) ++ flat_map available_cells m.available

-- what the first bytes say, and the bytes after them; a byte that is missing is 0
abbrev pub read_byte : List ℕ → ℕ × List ℕ
read_byte [] = (0, [])
read_byte (b ∷ bs) = (b, bs)

abbrev pub read_wide : List ℕ → ℕ × List ℕ
read_wide bs =
    let a = read_byte bs in
    let b = read_byte a.1 in
    let c = read_byte b.1 in
    let d = read_byte c.1 in
    (a.0 + 256 * b.0 + 65536 * c.0 + 16777216 * d.0, d.1)

abbrev pub number_from : ℕ × List ℕ → ℕ × List ℕ
number_from (b, bs) = cond (nat_lt b 255) (b, bs) (read_wide bs)

abbrev pub read_number : List ℕ → ℕ × List ℕ
read_number bs = number_from (read_byte bs)

abbrev pub still_place : ℕ → Place
still_place tag = cond (eqb tag 0) place.Unborn (cond (eqb tag 1) place.Running place.Ended)

abbrev pub waiting_place : ℕ → ℕ → ℕ → Place
waiting_place tag m c =
    cond (eqb tag 3) (place.Waiting m c true) (cond (eqb tag 4) (place.Waiting m c false)
    (cond (eqb tag 5) (place.AlertWaiting m c true) (place.AlertWaiting m c false)))

abbrev pub read_wait : ℕ → List ℕ → Place × List ℕ
read_wait tag bs =
    let m = read_number bs in
    let c = read_number m.1 in
    (waiting_place tag m.0 c.0, c.1)

abbrev pub read_place : ℕ → List ℕ → Place × List ℕ
read_place tag bs = cond (nat_lt tag 3) (still_place tag, bs) (read_wait tag bs)

abbrev pub thread_from : ℕ → ℕ × List ℕ → Thread × List ℕ
thread_from mark (played, bs) =
    let p = read_place (mark % 8) bs in
    (record { played = played; place = p.0; alerted = nat_le 8 mark }, p.1)

abbrev pub read_thread : List ℕ → Thread × List ℕ
read_thread bs =
    let b = read_byte bs in
    thread_from b.0 (read_number b.1)

abbrev pub holder_from : ℕ × List ℕ → Option ℕ × List ℕ
holder_from (b, bs) =
    let t = read_number bs in
    cond (eqb b 0) (None, bs) (Some t.0, t.1)

abbrev pub read_holder : List ℕ → Option ℕ × List ℕ
read_holder bs = holder_from (read_byte bs)

abbrev pub read_available : List ℕ → Bool × List ℕ
read_available bs =
    let b = read_byte bs in
    (eqb b.0 1, b.1)

-- so many one after another
abbrev pub read_all : {X : Type 0} → (List ℕ → X × List ℕ) → ℕ → List ℕ → List X × List ℕ
read_all read zero bs = ([], bs)
read_all read (suc n) bs =
    let x = read bs in
    let xs = read_all read n x.1 in
    (x.0 ∷ xs.0, xs.1)

abbrev pub with_holders : Layout → List Thread → List (Option ℕ) × List ℕ → Moment
with_holders l threads (holders, bs) =
    record { second = is_second l.version; threads = threads; holders = holders; available = (read_all read_available l.semaphores bs).0 }

abbrev pub with_threads : Layout → List Thread × List ℕ → Moment
with_threads l (threads, bs) = with_holders l threads (read_all read_holder l.mutexes bs)

-- the moment of a board of this layout that has these bytes
abbrev pub moment_in : Layout → List ℕ → Moment
moment_in l bs = with_threads l (read_all read_thread l.threads bs)
