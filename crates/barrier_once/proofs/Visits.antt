-- A thread that takes a mutex and gives it back, and one at the bar.
use Rattle.std.proofs.Common.{◌≡◌, ℕ, ◌+◌, ◌≤◌, false, zero, suc, List, [], ◌∷◌, ◌++◌, Some, None, slice_set, arith, sym, subst, ap, ◌∙◌, refl, inl, ⊎_elim, append_assoc}
use Rattle.std.proofs.lemmas.List.{append-nil, set-set}
use Rattle.std.proofs.lemmas.Option.{same_Some}
use mathlib.Core.Option.{some}
use lib.ListN.{get_elem?}
use Rattle.atomic_table.proofs.Lists.{set_again}
use Rattle.larch_actions.specs.declared.event.Event.{Event}
use Rattle.nub_rule.specs.Plays.{acquire_event, release_event, enqueue_event, event, broadcast_action}
use Rattle.nub_rule.specs.Known.{Shape, Holds}
use Rattle.nub.specs.Rest.{AtRest, Added, Adds, IsSame}
use Rattle.barrier_once.specs.declared.cell.RoundAt.{RoundAt}
use Rattle.nub.proofs.Adding.{added, added_on, adds_on}
use Rattle.condition.specs.Waits.{resume_event}
use Rattle.barrier_once.specs.declared.cell.Cell.{Cell}
use Rattle.barrier_once.specs.declared.share.RoundShare.{RoundShare}
use Rattle.barrier_once.specs.declared.share.RoundWorld.{RoundWorld}
use Rattle.barrier_once.specs.Calls.{Arrived, Enters, EntersAll, HasLeft, IsAtBar, IsPlaced, IsStay, RoundThread, Visited, waits}
use Rattle.barrier_once.specs.Cells.{round_of}
use Rattle.barrier_once.specs.Rounds.{IsKnown, KnowsBar, MayArrive}
use Rattle.barrier_once.specs.Walks.{RoundStint, Walks, acquires, how_many, releases}
use Rattle.barrier_once.proofs.Walks.{waits_acquire, waits_release, walks_acquire, walks_after, walks_past, walks_release, walks_wait}

-- what is true of the world and of the share of a thread is true of whatever these are said to be
pub of_own : (P : RoundWorld → RoundShare → Type 0) (b : RoundThread) (w : RoundWorld) (s : RoundShare) → b.world ≡ Some w → b.share ≡ Some s → P w s
    → (v : RoundWorld) (u : RoundShare) → b.world ≡ Some v → b.share ≡ Some u → P v u
of_own P b w s world share h v u world' share' = subst (λ k. P k u) (same_Some w v (sym world ∙ world')) (subst (P w) (same_Some s u (sym share ∙ share')) h)

-- a mutex that was taken and given back
pub held_back : (a b e : RoundThread) (m : ℕ) (x : Cell) → get_elem? a.held m ≡ some None → b.held ≡ slice_set a.held m (Some x) → e.held ≡ slice_set b.held m None → e.held ≡ a.held
held_back a b e m x lacks took gave = gave ∙ (ap (λ h. slice_set h m None) took ∙ (set-set a.held m (Some x) None ∙ set_again a.held m None lacks))

-- the thread took the mutex, did something, and gave it back
pub came_back : (m : ℕ) (es : List Event) (a b e : RoundThread) → IsSame a b → Adds [] (acquire_event a.number m) a b → Adds es (release_event b.number m) b e → Adds (acquire_event a.number m ∷ es) (release_event a.number m) a e
came_back m es a b e same took gave =
    let t = a.number in
    adds_on (acquire_event t m ∷ []) es (release_event t m) a b e (added [] (acquire_event t m) a b took) (subst (λ n. Adds es (release_event n m) b e) same.number gave)

pub visited : (m : ℕ) (a b e : RoundThread) → IsSame a b → Adds [] (acquire_event a.number m) a b → Adds [] (release_event b.number m) b e → Visited a.number m a e
visited m a b e same took gave = came_back m [] a b e same took gave

pub waits_more : (t m c k : ℕ) → waits t m c k ++ enqueue_event false t m c ∷ resume_event t m c ∷ [] ≡ waits t m c (suc k)
waits_more t m c zero = refl
waits_more t m c (suc k) = ap (λ l. enqueue_event false t m c ∷ resume_event t m c ∷ l) (waits_more t m c k)

-- one wait, and one wait more
pub waited : (m c : ℕ) (a b : RoundThread) → Adds (enqueue_event false a.number m c ∷ []) (resume_event a.number m c) a b → Added (waits a.number m c 1) a b
waited m c a b h = added (enqueue_event false a.number m c ∷ []) (resume_event a.number m c) a b h

pub waited_on : (m c k : ℕ) (a b e : RoundThread) → IsSame a b → Added (waits a.number m c k) a b
    → Adds (enqueue_event false b.number m c ∷ []) (resume_event b.number m c) b e → Added (waits a.number m c (suc k)) a e
waited_on m c k a b e same was again =
    let t = a.number in
    let once = added (enqueue_event false t m c ∷ []) (resume_event t m c) b e (subst (λ n. Adds (enqueue_event false n m c ∷ []) (resume_event n m c) b e) same.number again) in
    subst (λ l. Added l a e) (waits_more t m c k) (added_on (waits t m c k) (enqueue_event false t m c ∷ resume_event t m c ∷ []) a b e was once)

-- after its waits the thread gave the mutex back
pub gave_after : (m c k : ℕ) (a b e : RoundThread) → IsSame a b → Added (waits a.number m c k) a b → Adds [] (release_event b.number m) b e → Adds (waits a.number m c k) (release_event a.number m) a e
gave_after m c k a b e same was gave =
    let t = a.number in
    subst (λ l. Adds l (release_event t m) a e) (append-nil (waits t m c k)) (adds_on (waits t m c k) [] (release_event t m) a b e was (subst (λ n. Adds [] (release_event n m) b e) same.number gave))

-- the thread woke all others and gave the mutex back
pub woke_after : (m c : ℕ) (a b e : RoundThread) → IsSame a b → Adds [] (event a.number (broadcast_action c [])) a b → Adds [] (release_event b.number m) b e
    → Adds (event a.number (broadcast_action c []) ∷ []) (release_event a.number m) a e
woke_after m c a b e same recorded gave =
    let t = a.number in
    let wake = event t (broadcast_action c []) in
    adds_on (wake ∷ []) [] (release_event t m) a b e (added [] wake a b recorded) (subst (λ n. Adds [] (release_event n m) b e) same.number gave)

-- a thread at the bar that has left as often as it has arrived is in the bar's round
pub at_round : (w : RoundWorld) (t : ℕ) (x : Cell) (s : RoundShare) → KnowsBar w x s → MayArrive t s → s.arrivals ≡ round_of x
at_round w t x s knows may =
    let left = knows.left in
    let same = may.left in
    ⊎_elim (λ (e : s.arrivals ≡ round_of x). e) (λ (e : s.arrivals ≡ round_of x + 1). absurd (omega arith)) knows.arrivals

-- the thread took the bar, at which it may arrive
pub at_bar : (p : Shape RoundWorld) (at : RoundAt) (x : Cell) (s : RoundShare) (a b : RoundThread) → IsPlaced p at → a.world ≡ Some p.world → a.share ≡ Some s → MayArrive a.number s
    → AtRest p b → IsSame a b → Holds b at.bar.0 x → b.share ≡ a.share → ((w : RoundWorld) (u : RoundShare) → a.world ≡ Some w → a.share ≡ Some u → IsKnown w at.bar.0 x a.number u) → IsAtBar p at x s b
at_bar p at x s a b placed world share may rest same holds kept fits = record {
  placed = placed;
  rest = rest;
  world = same.world ∙ world;
  share = kept ∙ share;
  holds = holds;
  may = subst (λ n. MayArrive n s) (sym same.number) may;
  knows = (fits p.world s world share).bar (ap (λ l. l.bar.0) placed.world);
}

-- the thread took the bar and has left it
pub arrived_at : (p : Shape RoundWorld) (at : RoundAt) (s : RoundShare) (a b e : RoundThread) → IsSame a b → Adds [] (acquire_event a.number at.bar.0) a b → b.stints ≡ a.stints → HasLeft p at s b e
    → Arrived a.number at.bar.0 at.cond.0 s a e
arrived_at p at s a b e same took none left =
    let t = a.number in
    let m = at.bar.0 in
    let ran = left.ran in
    let ss = ran.3.0 in
    let own = subst (λ n. Walks m (s.arrivals + 1) s.left (ran.0 ++ release_event n m ∷ []) ss) same.number ran.3.2 in (
      ran.0,
      subst (λ n. IsStay n m at.cond.0 ran.0) same.number ran.1,
      came_back m ran.0 a b e same took ran.2,
      (ss, ran.3.1 ∙ ap (λ l. l ++ ss) none, walks_acquire t m s.arrivals s.left (ran.0 ++ release_event t m ∷ []) ss own),
    )

-- the bar was given back in one stint more
pub entered_last : (m came left : ℕ) (es : List Event) (a b e : RoundThread) (s : RoundStint) → how_many (acquires m) es ≡ 0 → how_many (releases m) es ≡ 0 → EntersAll m came left es a b
    → e.stints ≡ b.stints ++ s ∷ [] → s.mutex ≡ m → s.after.arrivals ≤ came → s.after.left ≡ left + 1 → EntersAll m came left (es ++ release_event a.number m ∷ []) a e
entered_last m came left es a b e s acquired released entered one mutex few more = (
  entered.0 ++ s ∷ [],
  one ∙ (ap (λ l. l ++ s ∷ []) entered.1 ∙ append_assoc a.stints entered.0 (s ∷ [])),
  walks_after m came left es (release_event a.number m ∷ []) entered.0 (s ∷ []) acquired released entered.2 (walks_release a.number m came left s mutex few more),
)

-- the bar was given back in one stint by the last to arrive
pub entered_woken : (m c came left : ℕ) (a b e : RoundThread) (s : RoundStint) → b.stints ≡ a.stints → e.stints ≡ b.stints ++ s ∷ [] → s.mutex ≡ m → s.after.arrivals ≤ came → s.after.left ≡ left + 1
    → EntersAll m came left (event a.number (broadcast_action c []) ∷ release_event a.number m ∷ []) a e
entered_woken m c came left a b e s none one mutex few more =
    let t = a.number in
    (s ∷ [], one ∙ ap (λ l. l ++ s ∷ []) none, walks_past m came left (event t (broadcast_action c [])) (release_event t m ∷ []) (s ∷ []) refl refl refl (walks_release t m came left s mutex few more))

-- and in a first wait, and in one wait more
pub entered_first : (m c came left : ℕ) (a b : RoundThread) (s : RoundStint) → b.stints ≡ a.stints ++ s ∷ [] → s.mutex ≡ m → s.after.arrivals ≤ came → EntersAll m came left (waits a.number m c 1) a b
entered_first m c came left a b s one mutex few = (s ∷ [], one, walks_wait a.number m c came left s mutex few)

pub entered_more : (m c k came left : ℕ) (a b e : RoundThread) (s : RoundStint) → EntersAll m came left (waits a.number m c k) a b → e.stints ≡ b.stints ++ s ∷ [] → s.mutex ≡ m → s.after.arrivals ≤ came
    → EntersAll m came left (waits a.number m c (suc k)) a e
entered_more m c k came left a b e s entered one mutex few =
    let t = a.number in
    let again = walks_after m came left (waits t m c k) (waits t m c 1) entered.0 (s ∷ []) (waits_acquire t m c k) (waits_release t m c k) entered.2 (walks_wait t m c came left s mutex few) in (
      entered.0 ++ s ∷ [],
      one ∙ (ap (λ l. l ++ s ∷ []) entered.1 ∙ append_assoc a.stints entered.0 (s ∷ [])),
      subst (λ l. Walks m came left l (entered.0 ++ s ∷ [])) (waits_more t m c k) again,
    )

-- the thread took the mutex and gave it back in one stint
pub entered_own : (m : ℕ) (x y z : Cell) (s : RoundShare) (f : ℕ → RoundShare) (a b e : RoundThread) → IsSame a b → b.stints ≡ a.stints → y ≡ z
    → e.stints ≡ b.stints ++ record { thread = b.number; mutex = m; got = x; left = y; before = s; after = f b.number } ∷ [] → Enters a.number m x z s (f a.number) a e
entered_own m x y z s f a b e same none left one =
    let entry : ℕ → Cell → RoundStint = λ n v. record { thread = n; mutex = m; got = x; left = v; before = s; after = f n } in
    one ∙ (ap (λ l. l ++ entry b.number y ∷ []) none ∙ (ap (λ n. a.stints ++ entry n y ∷ []) same.number ∙ ap (λ v. a.stints ++ entry a.number v ∷ []) left))
