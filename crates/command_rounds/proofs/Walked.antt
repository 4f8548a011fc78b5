-- The events and stints of one thread in its rounds.
use Rattle.std.proofs.Common.{Bool, true, false, cond, eqb, ◌≡◌, ℕ, ◌+◌, suc, List, [], ◌∷◌, ◌++◌, Some, None, arith, refl, sym, ap, subst, ◌∙◌, eq-eqb, inl, inr}
use Rattle.std.specs.List.{AllByRecursion}
use Rattle.std.proofs.lemmas.List.Elements.{filter-append}
use Rattle.std.proofs.lemmas.Option.{same_Some}
use Rattle.larch_actions.specs.declared.event.Event.{Event}
use Rattle.nub_rule.specs.Plays.{acquire_event, release_event}
use Rattle.larch_actions.specs.Takers.{gives}
use Rattle.nub_rule.specs.Stints.{stints_at}
use Rattle.barrier_once.specs.declared.share.RoundShare.{RoundShare}
use Rattle.barrier_once.specs.Calls.{IsStay}
use Rattle.barrier_once.specs.Cells.{once_of}
use Rattle.barrier_once.specs.Rounds.{fresh_share, passed_share}
use Rattle.barrier_once.specs.Walks.{EndsStints, RoundStint, Walks, acquires, how_many, releases}
use Rattle.barrier_once.proofs.Walks.{how_many_append, waits_acquire, waits_release, walks_on, walks_past}
use Rattle.command_rounds.specs.Playing.{HasBegun, HasWalked, KeepsArrivals}
use Rattle.command_rounds.specs.RoundEvents.{IsArrivalOf, visit}

pub all_append : {X : Type 0} (P : X → Type 0) (xs ys : List X) → AllByRecursion P xs → AllByRecursion P ys → AllByRecursion P (xs ++ ys)
all_append P [] ys p q = q
all_append P (x ∷ xs) ys p q = (p.0, all_append P xs ys p.1 q)

no_value : (X : Type 0) (v : ℕ) → fresh_share.agreed ≡ Some v → X
no_value X v e = cc

-- a thread that has done nothing
pub not_walked : (t : ℕ) → HasWalked t fresh_share [] []
not_walked t = record { walks = refl; arrivals = refl; left = refl; kept = tt; begun = λ v e. no_value (HasBegun t v []) v e }

begun_more : (t v : ℕ) (ss rs : List RoundStint) → HasBegun t v ss → HasBegun t v (ss ++ rs)
begun_more t v ss rs b = record { first = b.first; others = b.others ++ rs; are = ap (λ l. l ++ rs) b.are; mutex = b.mutex; before = b.before; offers = b.offers }

-- a visit to another mutex than the bar
visit_walks : (t m came left : ℕ) → eqb m 0 ≡ false → Walks 0 came left (visit t m) []
visit_walks t m came left other = walks_past 0 came left (acquire_event t m) (release_event t m ∷ []) [] refl other refl (walks_past 0 came left (release_event t m) [] [] other refl other refl)

visit_acquires : (t m : ℕ) → eqb m 0 ≡ false → how_many (acquires 0) (visit t m) ≡ 0
visit_acquires t m other = ap (λ (b : Bool). cond b 1 0 + (0 + 0)) other

visit_releases : (t m : ℕ) → eqb m 0 ≡ false → how_many (releases 0) (visit t m) ≡ 0
visit_releases t m other = ap (λ (b : Bool). 0 + (cond b 1 0 + 0)) other

at_none : (x : RoundStint) → eqb x.mutex 0 ≡ false → stints_at 0 (x ∷ []) ≡ []
at_none x other = ap (λ (b : Bool). cond b (x ∷ []) []) other

-- after it
walked_visit : (t m : ℕ) (s r : RoundShare) (x : RoundStint) (es : List Event) (ss : List RoundStint) → eqb m 0 ≡ false → x.mutex ≡ m → x.after.arrivals ≡ x.before.arrivals → r.arrivals ≡ s.arrivals → r.left ≡ s.left
    → ((v : ℕ) → r.agreed ≡ Some v → HasBegun t v (ss ++ x ∷ [])) → HasWalked t s es ss → HasWalked t r (es ++ visit t m) (ss ++ x ∷ [])
walked_visit t m s r x es ss other mutex kept arrivals left begun w =
    let a = how_many_append (acquires 0) es (visit t m) in
    let l = how_many_append (releases 0) es (visit t m) in
    let no_acquire = visit_acquires t m other in
    let no_release = visit_releases t m other in
    let was_arrivals = w.arrivals in
    let was_left = w.left in
    let out : eqb x.mutex 0 ≡ false = ap (λ n. eqb n 0) mutex ∙ other in
    let none : stints_at 0 (ss ++ x ∷ []) ≡ stints_at 0 ss ++ [] = filter-append (λ (s : RoundStint). eqb s.mutex 0) ss (x ∷ []) ∙ ap (λ l. stints_at 0 ss ++ l) (at_none x out) in
    record {
      walks = subst (Walks 0 0 0 (es ++ visit t m)) (sym none) (walks_on 0 0 0 es (visit t m) (stints_at 0 ss) [] w.walks (visit_walks t m (0 + how_many (acquires 0) es) (0 + how_many (releases 0) es) other));
      arrivals = omega arith;
      left = omega arith;
      kept = all_append KeepsArrivals ss (x ∷ []) w.kept (λ e. kept, tt);
      begun = begun;
    }

-- after a visit to the sum
pub walked_sum : (t : ℕ) (s r : RoundShare) (x : RoundStint) (es : List Event) (ss : List RoundStint) → x.mutex ≡ 1 → x.after.arrivals ≡ x.before.arrivals → r.arrivals ≡ s.arrivals → r.left ≡ s.left → r.agreed ≡ s.agreed
    → HasWalked t s es ss → HasWalked t r (es ++ visit t 1) (ss ++ x ∷ [])
walked_sum t s r x es ss mutex kept arrivals left agreed w = walked_visit t 1 s r x es ss refl mutex kept arrivals left (λ v e. begun_more t v ss (x ∷ []) (w.begun v (sym agreed ∙ e))) w

-- after the first call
pub walked_once : (t v : ℕ) (r : RoundShare) (x : RoundStint) → x.mutex ≡ 2 → x.before ≡ fresh_share → x.after.arrivals ≡ 0 → (once_of x.got ≡ None → v ≡ t + 1) → r.arrivals ≡ 0 → r.left ≡ 0 → r.agreed ≡ Some v
    → HasWalked t r ([] ++ visit t 2) (x ∷ [])
walked_once t v r x mutex before none offers arrivals left agreed =
    let kept : x.after.arrivals ≡ x.before.arrivals = none ∙ sym (ap (λ (u : RoundShare). u.arrivals) before) in
    let begun : HasBegun t v (x ∷ []) = record { first = x; others = []; are = refl; mutex = mutex; before = before; offers = offers } in
    walked_visit t 2 fresh_share r x [] [] refl mutex kept arrivals left (λ u e. subst (λ n. HasBegun t n (x ∷ [])) (same_Some v u (sym agreed ∙ e)) begun) (not_walked t)

-- the stints of a walk are with its mutex
walks_mutex : (m came left : ℕ) (es : List Event) (ss : List RoundStint) → Walks m came left es ss → AllByRecursion (λ s. s.mutex ≡ m) ss
walks_mutex m came left [] ss w = subst (AllByRecursion (λ s. s.mutex ≡ m)) (sym w) tt
walks_mutex m came left (e ∷ es) ss w =
    let own = ends_mutex m (gives m e.action) (releases m e.action) came left w.0 w.3 in
    subst (AllByRecursion (λ s. s.mutex ≡ m)) (sym w.2) (all_append (λ s. s.mutex ≡ m) w.0 w.1 own (walks_mutex m (came + cond (acquires m e.action) 1 0) (left + cond (releases m e.action) 1 0) es w.1 w.4))
  where
    ends_mutex : (m : ℕ) (given released : Bool) (came left : ℕ) (ss : List RoundStint) → EndsStints m given released came left ss → AllByRecursion (λ s. s.mutex ≡ m) ss
    ends_mutex m false released came left ss e = subst (AllByRecursion (λ s. s.mutex ≡ m)) (sym e) tt
    ends_mutex m true released came left ss e = subst (AllByRecursion (λ s. s.mutex ≡ m)) (sym e.1) (e.2, tt)

all_at : (m : ℕ) (ss : List RoundStint) → AllByRecursion (λ s. s.mutex ≡ m) ss → stints_at m ss ≡ ss
all_at m [] all = refl
all_at m (s ∷ ss) all = ap (λ (b : Bool). cond b (s ∷ stints_at m ss) (stints_at m ss)) (eq-eqb s.mutex m all.0) ∙ ap (λ l. s ∷ l) (all_at m ss all.1)

all_kept : (ss : List RoundStint) → AllByRecursion (λ s. s.mutex ≡ 0) ss → AllByRecursion KeepsArrivals ss
all_kept [] all = tt
all_kept (s ∷ ss) all = (λ e. never (s.after.arrivals ≡ s.before.arrivals) (sym (eq-eqb s.mutex 0 all.0) ∙ e), all_kept ss all.1)
  where
    never : (X : Type 0) → true ≡ false → X
    never X e = cc

-- an arrival acquires the bar once, and releases it once
stay_acquires : (t : ℕ) (es : List Event) → IsStay t 0 0 es → how_many (acquires 0) es ≡ 0
stay_acquires t es (inl is) = ap (how_many (acquires 0)) is
stay_acquires t es (inr is) = ap (how_many (acquires 0)) is.1 ∙ waits_acquire t 0 0 (suc is.0)

stay_releases : (t : ℕ) (es : List Event) → IsStay t 0 0 es → how_many (releases 0) es ≡ 0
stay_releases t es (inl is) = ap (how_many (releases 0)) is
stay_releases t es (inr is) = ap (how_many (releases 0)) is.1 ∙ waits_release t 0 0 (suc is.0)

arrival_acquires : (t : ℕ) (es : List Event) → IsArrivalOf t es → how_many (acquires 0) es ≡ 1
arrival_acquires t es is =
    let none = stay_acquires t is.0 is.1 in
    let a = how_many_append (acquires 0) is.0 (release_event t 0 ∷ []) in
    let all : how_many (acquires 0) ((acquire_event t 0 ∷ is.0) ++ release_event t 0 ∷ []) ≡ 1 = omega arith in
    ap (how_many (acquires 0)) is.2 ∙ all

arrival_releases : (t : ℕ) (es : List Event) → IsArrivalOf t es → how_many (releases 0) es ≡ 1
arrival_releases t es is =
    let none = stay_releases t is.0 is.1 in
    let a = how_many_append (releases 0) is.0 (release_event t 0 ∷ []) in
    let all : how_many (releases 0) ((acquire_event t 0 ∷ is.0) ++ release_event t 0 ∷ []) ≡ 1 = omega arith in
    ap (how_many (releases 0)) is.2 ∙ all

-- after an arrival
pub walked_arrival : (t : ℕ) (s : RoundShare) (es arrival : List Event) (ss rs : List RoundStint) → IsArrivalOf t arrival → Walks 0 s.arrivals s.left arrival rs → HasWalked t s es ss → HasWalked t (passed_share s) (es ++ arrival) (ss ++ rs)
walked_arrival t s es arrival ss rs is own w =
    let a = how_many_append (acquires 0) es arrival in
    let l = how_many_append (releases 0) es arrival in
    let once = arrival_acquires t arrival is in
    let one = arrival_releases t arrival is in
    let was_arrivals = w.arrivals in
    let was_left = w.left in
    let mutex = walks_mutex 0 s.arrivals s.left arrival rs own in
    let all : stints_at 0 (ss ++ rs) ≡ stints_at 0 ss ++ rs = filter-append (λ (s : RoundStint). eqb s.mutex 0) ss rs ∙ ap (λ l. stints_at 0 ss ++ l) (all_at 0 rs mutex) in
    let came : s.arrivals ≡ 0 + how_many (acquires 0) es = omega arith in
    let gone : s.left ≡ 0 + how_many (releases 0) es = omega arith in
    let P : ℕ → ℕ → Type 0 = λ i j. Walks 0 i j arrival rs in
    let own_on = subst (λ i. P i (0 + how_many (releases 0) es)) came (subst (P s.arrivals) gone own) in
    record {
      walks = subst (Walks 0 0 0 (es ++ arrival)) (sym all) (walks_on 0 0 0 es arrival (stints_at 0 ss) rs w.walks own_on);
      arrivals = omega arith;
      left = omega arith;
      kept = all_append KeepsArrivals ss rs w.kept (all_kept rs mutex);
      begun = λ v e. begun_more t v ss rs (w.begun v e);
    }
