-- A thread between two calls, and what a call adds to its own events.
use Rattle.std.proofs.Common.{◌≡◌, ◌⊎◌, ◌≢◌, ℕ, ◌+◌, ◌*◌, ◌<◌, suc, eq-eqb, ne_eqb, cond, List, [], ◌∷◌, ◌++◌, Some, None, arith, sym, subst, ap, ◌∙◌, refl, inl, inr, append_assoc, append-nil}
use Rattle.larch_actions.specs.declared.event.Event.{Event}
use Rattle.nub_rule.specs.Known.{Shape}
use Rattle.nub_rule.specs.Plays.{acquire_event, release_event}
use Rattle.nub.specs.Ended.{IsFirst}
use Rattle.nub.specs.Rest.{AtRest, IsSame}
use Rattle.nub.proofs.Users.{idle_again, idle_first}
use Rattle.barrier_once.specs.declared.cell.RoundAt.{RoundAt}
use Rattle.barrier_once.specs.declared.share.RoundShare.{RoundShare}
use Rattle.barrier_once.specs.declared.share.RoundWorld.{RoundWorld}
use Rattle.barrier_once.specs.declared.cell.Cell.{Cell}
use Rattle.barrier_once.specs.Calls.{Arrived, Enters, IsPlaced, RoundThread, Visited}
use Rattle.barrier_once.specs.declared.cell.Cell.TheVariants.{Once}
use Rattle.barrier_once.specs.Cells.{once_of}
use Rattle.barrier_once.specs.Rounds.{MayAdd, MayArrive, added_share, agreed_share as once_share, fresh_share, passed_share}
use Rattle.barrier_once.specs.Walks.{RoundStint}
use Rattle.barrier_once.specs.RoundLaws.{one_more}
use Rattle.command_rounds.specs.Playing.{HasWalked, IsBetween, IsHalfway, IsPlaying, IsTable, round_at}
use Rattle.command_rounds.specs.RoundEvents.{asked, AreEventsOf, IsArrivalOf, IsRoundOf, visit}
use Rattle.command_rounds.proofs.Walked.{not_walked, walked_arrival, walked_once, walked_sum}

pub placed : (p : Shape RoundWorld) (at : RoundAt) → IsTable p → at ≡ round_at → IsPlaced p at
placed p at table is =
    let mutexes = ap (λ l. l.mutexes) table.layout in
    let conditions = ap (λ l. l.conditions) table.layout in
    let bar = ap (λ l. l.bar.0) is in
    let cond = ap (λ l. l.cond.0) is in
    let sum = ap (λ l. l.sum.0) is in
    let once = ap (λ l. l.once.0) is in
    record {
      world = is ∙ sym table.at;
      parties = ap (λ l. l.threads) table.layout;
      bar = omega arith;
      cond = omega arith;
      sum = omega arith;
      once = omega arith;
    }

pub first_between : (p : Shape RoundWorld) (t : ℕ) (me : RoundThread) → IsFirst p (λ w n. fresh_share) t me → IsBetween p t fresh_share [] me
first_between p t me first = record {
  idle = idle_first p (λ w n. fresh_share) t me first;
  mine = first.mine;
  walked = subst (HasWalked t fresh_share []) (sym first.stints) (not_walked t);
}

-- after a call that took the mutex m and gave it back
pub visited : (p : Shape RoundWorld) (t m : ℕ) (s r : RoundShare) (es : List Event) (a e : RoundThread) → IsBetween p t s es a → AtRest p e → IsSame a e → Visited a.number m a e → e.held ≡ a.held → e.share ≡ Some r
    → HasWalked t r (es ++ visit t m) e.stints → IsBetween p t r (es ++ visit t m) e
visited p t m s r es a e b rest same ran held share walked =
    let own = subst (λ n. Visited n m a e) b.idle.number ran in
    record {
      idle = idle_again p t s r a e b.idle rest same held share;
      mine = own.mine ∙ (ap (λ l. (l ++ acquire_event t m ∷ []) ++ release_event t m ∷ []) b.mine ∙ append_assoc es (acquire_event t m ∷ []) (release_event t m ∷ []));
      walked = walked;
    }

-- after a visit to the sum
pub visited_sum : (p : Shape RoundWorld) (t : ℕ) (s r : RoundShare) (x y : Cell) (es : List Event) (a e : RoundThread) → IsBetween p t s es a → AtRest p e → IsSame a e → Visited a.number 1 a e → e.held ≡ a.held → e.share ≡ Some r
    → Enters a.number 1 x y s r a e → r.arrivals ≡ s.arrivals → r.left ≡ s.left → r.agreed ≡ s.agreed → IsBetween p t r (es ++ visit t 1) e
visited_sum p t s r x y es a e b rest same ran held share one arrivals left agreed =
    visited p t 1 s r es a e b rest same ran held share (subst (HasWalked t r (es ++ visit t 1)) (sym one) (walked_sum t s r _ es a.stints refl arrivals arrivals left agreed b.walked))

nothing : (t : ℕ) → 0 ≡ 0 * (t + 1)
nothing t = omega arith

-- what the share of a thread that has agreed has besides
agreed_share : (X : Type 0) (v : ℕ) (s : RoundShare) → (s ≡ record fresh_share { agreed = Some v }) ⊎ ((fresh_share.offered ≡ None) × X × (s ≡ record fresh_share { agreed = Some v; offered = Some v }))
    → (s.arrivals ≡ 0) × (s.left ≡ 0) × (s.added ≡ 0) × (s.agreed ≡ Some v)
agreed_share X v s (inl is) = (ap (λ (u : RoundShare). u.arrivals) is, ap (λ (u : RoundShare). u.left) is, ap (λ (u : RoundShare). u.added) is, ap (λ (u : RoundShare). u.agreed) is)
agreed_share X v s (inr h) =
    let is = h.2 in
    (ap (λ (u : RoundShare). u.arrivals) is, ap (λ (u : RoundShare). u.left) is, ap (λ (u : RoundShare). u.added) is, ap (λ (u : RoundShare). u.agreed) is)

-- after the first call, which agreed on v
pub visited_once : (p : Shape RoundWorld) (t v : ℕ) (X : Type 0) (r : RoundShare) (x : Cell) (a e : RoundThread) → IsFirst p (λ w n. fresh_share) t a → AtRest p e → IsSame a e → Visited a.number 2 a e → e.held ≡ a.held → e.share ≡ Some r
    → (r ≡ record fresh_share { agreed = Some v }) ⊎ ((fresh_share.offered ≡ None) × X × (r ≡ record fresh_share { agreed = Some v; offered = Some v }))
    → Enters a.number 2 x (Once (Some v)) fresh_share (once_share x (Once (Some v)) fresh_share) a e → (once_of x ≡ None → v ≡ t + 1) → IsBetween p t r ([] ++ visit t 2) e
visited_once p t v X r x a e first rest same ran held share has one offers =
    let is = agreed_share X v r has in
    let stint : RoundStint = record { thread = a.number; mutex = 2; got = x; left = Once (Some v); before = fresh_share; after = once_share x (Once (Some v)) fresh_share } in
    let walked = walked_once t v r stint refl refl refl offers is.0 is.1 is.3 in
    visited p t 2 fresh_share r [] a e (first_between p t a first) rest same ran held share (subst (HasWalked t r ([] ++ visit t 2)) (sym (one ∙ ap (λ l. l ++ stint ∷ []) first.stints)) walked)

-- after an arrival
pub arrived : (p : Shape RoundWorld) (t : ℕ) (s : RoundShare) (es : List Event) (a e : RoundThread) → IsBetween p t s es a → AtRest p e → IsSame a e → Arrived a.number 0 0 s a e → e.held ≡ a.held → e.share ≡ Some (passed_share s)
    → (arrival : List Event) × IsArrivalOf t arrival × IsBetween p t (passed_share s) (es ++ arrival) e
arrived p t s es a e b rest same ran held share =
    let own = subst (λ n. Arrived n 0 0 s a e) b.idle.number ran in
    let stay = acquire_event t 0 ∷ own.0 in
    let arrival = stay ++ release_event t 0 ∷ [] in
    let entered = own.3 in
    let is : IsArrivalOf t arrival = (own.0, own.1, refl) in
    let walked = walked_arrival t s es arrival a.stints entered.0 is entered.2 b.walked in (
      arrival,
      is,
      record {
        walked = subst (HasWalked t (passed_share s) (es ++ arrival)) (sym entered.1) walked;
        idle = idle_again p t s (passed_share s) a e b.idle rest same held share;
        mine = own.2.mine ∙ (ap (λ l. (l ++ stay) ++ release_event t 0 ∷ []) b.mine ∙ append_assoc es stay (release_event t 0 ∷ []));
      },
    )

-- a thread that has agreed plays its first round next
pub agreed : (p : Shape RoundWorld) (t v : ℕ) (X : Type 0) (s : RoundShare) (me : RoundThread) → (s ≡ record fresh_share { agreed = Some v }) ⊎ ((fresh_share.offered ≡ None) × X × (s ≡ record fresh_share { agreed = Some v; offered = Some v }))
    → IsBetween p t s ([] ++ visit t 2) me → IsPlaying p t 0 me
agreed p t v X s me has b =
    let is = agreed_share X v s has in
    record {
      share = s;
      events = visit t 2;
      between = b;
      arrivals = is.0;
      left = is.1;
      added = is.2 ∙ nothing t;
      agreed = (v, is.3);
      are = ([], refl, refl);
    }

pub may_add : (p : Shape RoundWorld) (t n : ℕ) (me : RoundThread) → (h : IsPlaying p t n me) → MayAdd t h.share
may_add p t n me h = record { pairs = n; left = h.left ∙ sym h.arrivals; arrivals = h.arrivals; added = h.added }

-- a thread that has added may arrive
pub may_arrive : (p : Shape RoundWorld) (t n : ℕ) (me : RoundThread) → (h : IsPlaying p t n me) → n < 1000 → MayArrive t (added_share t h.share)
may_arrive p t n me h few =
    let arrivals = h.arrivals in
    record {
      left = h.left ∙ sym h.arrivals;
      few = omega arith;
      even = λ j e. let same : n ≡ j = omega arith in one_more j t h.share.added (h.added ∙ ap (λ k. k * (t + 1)) same);
    }

two_parts : (es first : List Event) (visits : List Event) → (es ++ visits) ++ first ≡ es ++ ((visits ++ first) ++ [])
two_parts es first visits = append_assoc es visits first ∙ ap (λ l. es ++ l) (sym (append-nil (visits ++ first)))

-- a thread that has added and arrived
pub halfway : (p : Shape RoundWorld) (t n : ℕ) (me e : RoundThread) → (h : IsPlaying p t n me) → n < 1000 → (arrival : List Event) × IsArrivalOf t arrival × IsBetween p t (passed_share (added_share t h.share)) ((h.events ++ visit t 1) ++ arrival) e
    → IsHalfway p t n [] e
halfway p t n me e h few a =
    let arrivals = h.arrivals in
    let left = h.left in
    record {
      share = passed_share (added_share t h.share);
      before = h.events;
      first = a.0;
      between = subst (λ l. IsBetween p t (passed_share (added_share t h.share)) l e) (two_parts h.events a.0 (visit t 1)) a.2;
      few = few;
      arrivals = omega arith;
      left = omega arith;
      added = one_more n t h.share.added h.added;
      agreed = h.agreed;
      are = h.are;
      arrival = a.1;
    }

-- a thread that doesn't ask
pub unasked : (p : Shape RoundWorld) (t n : ℕ) (me : RoundThread) → t ≢ 0 → IsHalfway p t n [] me → IsHalfway p t n (asked t) me
unasked p t n me other h = subst (λ l. IsHalfway p t n l me) (sym (ap (λ b. cond b (visit t 1) []) (ne_eqb t 0 other))) h

ask_last : (before visits first own : List Event) → (before ++ ((visits ++ first) ++ [])) ++ own ≡ before ++ ((visits ++ first) ++ own)
ask_last before visits first own = ap (λ l. (before ++ l) ++ own) (append-nil (visits ++ first)) ∙ append_assoc before (visits ++ first) own

asks : (t : ℕ) → t ≡ 0 → visit t 1 ≡ asked t
asks t is = sym (ap (λ b. cond b (visit t 1) []) (eq-eqb t 0 is))

-- thread 0 has asked
pub has_asked : (p : Shape RoundWorld) (t n : ℕ) (me e : RoundThread) → t ≡ 0 → (h : IsHalfway p t n [] me) → IsBetween p t h.share ((h.before ++ ((visit t 1 ++ h.first) ++ [])) ++ visit t 1) e → IsHalfway p t n (asked t) e
has_asked p t n me e own h b = subst (λ l. IsHalfway p t n l e) (asks t own) record {
  share = h.share;
  before = h.before;
  first = h.first;
  between = subst (λ l. IsBetween p t h.share l e) (ask_last h.before (visit t 1) h.first (visit t 1)) b;
  few = h.few;
  arrivals = h.arrivals;
  left = h.left;
  added = h.added;
  agreed = h.agreed;
  are = h.are;
  arrival = h.arrival;
}

pub may_arrive_again : (p : Shape RoundWorld) (t n : ℕ) (es : List Event) (me : RoundThread) → (h : IsHalfway p t n es me) → MayArrive t h.share
may_arrive_again p t n es me h =
    let arrivals = h.arrivals in
    let few = h.few in
    record { left = h.left ∙ sym h.arrivals; few = omega arith; even = λ j e. absurd (omega arith) }

more_events : (t n m : ℕ) (es last : List Event) → m ≡ suc n → AreEventsOf t n es → IsRoundOf t last → AreEventsOf t m (es ++ last)
more_events t n m es last is are round =
    subst (λ k. AreEventsOf t k (es ++ last)) (sym is) (are.0 ++ last, (are.0, last, are.1, round, refl), ap (λ l. l ++ last) are.2 ∙ append_assoc (visit t 2) are.0 last)

one_suc : (n : ℕ) → n + 1 ≡ suc n
one_suc n = omega arith

-- a thread that has arrived again has played one round more
pub played : (p : Shape RoundWorld) (t n : ℕ) (me e : RoundThread) → (h : IsHalfway p t n (asked t) me) → (arrival : List Event) × IsArrivalOf t arrival × IsBetween p t (passed_share h.share) ((h.before ++ ((visit t 1 ++ h.first) ++ asked t)) ++ arrival) e
    → IsPlaying p t (n + 1) e
played p t n me e h a =
    let arrivals = h.arrivals in
    let left = h.left in
    let round = ((visit t 1 ++ h.first) ++ asked t) ++ a.0 in
    record {
      share = passed_share h.share;
      events = h.before ++ round;
      between = subst (λ l. IsBetween p t (passed_share h.share) l e) (append_assoc h.before ((visit t 1 ++ h.first) ++ asked t) a.0) a.2;
      arrivals = omega arith;
      left = omega arith;
      added = h.added;
      agreed = h.agreed;
      are = more_events t n (n + 1) h.before round (one_suc n) h.are (h.first, a.0, h.arrival, a.1, refl);
    }

-- by its own number
pub half_own : (p : Shape RoundWorld) (t n : ℕ) (me : RoundThread) → IsHalfway p t n [] me → IsHalfway p me.number n [] me
half_own p t n me h = subst (λ k. IsHalfway p k n [] me) (sym h.between.idle.number) h

pub half_at : (p : Shape RoundWorld) (t k n : ℕ) (me : RoundThread) → k ≡ t → IsHalfway p k n (asked k) me → IsHalfway p t n (asked t) me
half_at p t k n me is h = subst (λ j. IsHalfway p j n (asked j) me) is h

pub own_playing : (p : Shape RoundWorld) (t n : ℕ) (me : RoundThread) → IsPlaying p t n me → IsPlaying p me.number n me
own_playing p t n me h = subst (λ k. IsPlaying p k n me) (sym h.between.idle.number) h
