-- The events of a call at a buffer, and the share that it leaves.
use Rattle.std.specs.Prelude.{◌≡◌, ◌≢◌, ℕ, zero, suc, ◌+◌, Bool, true, false, cond, List, [], ◌∷◌, ◌++◌, Option as Opt, Some, None, IsSome, Result, Ok, Err}
use Rattle.larch_actions.specs.declared.event.CondId.{CondId}
use Rattle.larch_actions.specs.declared.event.Event.{Event}
use Rattle.nub_rule.specs.Known.{Known}
use Rattle.nub_rule.specs.Plays.{acquire_event, release_event, enqueue_event, event, signal_action, broadcast_action}
use Rattle.nub.specs.Rest.{Adds}
use Rattle.alert_wait.specs.declared.outcome.Outcome.TheVariants.{Returned, Alerted}
use Rattle.alert_wait.specs.Outcomes.{wait_end}
use Rattle.bounded_buffer.specs.declared.did.Did.{Did}
use Rattle.bounded_buffer.specs.declared.did.Did.TheVariants.{Put, Took, Shut, SawShut, SawEnd}
use Rattle.bounded_buffer.specs.declared.ends.PutEnd.{PutEnd}
use Rattle.bounded_buffer.specs.declared.ends.PutEnd.TheVariants.{Closed, Alerted as PutAlerted}
use Rattle.bounded_buffer.specs.declared.ends.TakeEnd.{TakeEnd}
use Rattle.bounded_buffer.specs.declared.ends.TakeEnd.TheVariants.{ClosedEmpty, Alerted as TakeAlerted}
use Rattle.bounded_buffer.specs.Parts.{Used, KnowsShut, did}
use Rattle.bounded_buffer.specs.Rings.{Held, Does}

-- k waits of the thread t on the mutex m in the condition c, none of which an alert ended
abbrev pub waits : ℕ → ℕ → ℕ → ℕ → List Event
waits t m c zero = []
waits t m c (suc k) = enqueue_event true t m c ∷ wait_end Returned t m c ∷ waits t m c k

abbrev pub entered : ℕ → ℕ → ℕ → ℕ → List Event
entered t m c k = acquire_event t m ∷ waits t m c k

-- a wait of the thread t on the mutex m in the condition c that an alert ended
abbrev pub raise : ℕ → ℕ → ℕ → List Event
raise t m c = enqueue_event true t m c ∷ wait_end Alerted t m c ∷ []

-- a signal of the condition, if there is one
abbrev pub exit_events : ℕ → List ℕ → Opt CondId → List Event
exit_events t left (Some c) = event t (signal_action c.0 left) ∷ []
exit_events t left None = []

module _ {T : Type 0} where
  -- whether a thread that did this signals the other side
  abbrev pub is_signalled : Did T → Bool
  is_signalled (Put n i) = true
  is_signalled (Took n i) = true
  is_signalled _ = false

  -- the signal of the condition o, if the thread put or took
  abbrev pub signals : ℕ → ℕ → List ℕ → Did T → List Event
  signals t o left d = cond (is_signalled d) (event t (signal_action o left) ∷ []) []

  -- what comes between the waits of the thread t and its Release, after it did something or was
  -- alerted
  abbrev pub finish : ℕ → ℕ → ℕ → ℕ → List ℕ → Opt (Did T) → List Event
  finish t m c o left None = raise t m c
  finish t m c o left (Some d) = signals t o left d

  -- the number of all waits, where k returned: one more if an alert ended the last
  abbrev pub wait_count : Opt (Did T) → ℕ → ℕ
  wait_count None k = k + 1
  wait_count (Some _) k = k

  abbrev pub did_last : Opt (Did T) → Used T → Used T
  did_last None u = u
  did_last (Some d) u = did d u

  -- what a put of the item did last, by its result
  abbrev pub put_did : T → Result ℕ (PutEnd × T) → Opt (Did T)
  put_did item (Ok n) = Some (Put n item)
  put_did item (Err e) = elim e.0 [ Closed ↦ Some SawShut | PutAlerted ↦ None ]

  -- what a take did last, by its result
  abbrev pub take_did : Result (ℕ × T) TakeEnd → Opt (Did T)
  take_did (Ok r) = Some (Took r.0 r.1)
  take_did (Err ClosedEmpty) = Some SawEnd
  take_did (Err TakeAlerted) = None

module _ {W V H T : Type 0} (ring_in : V → Opt (Held T)) (part : H → ℕ → Used T) (after : W → ℕ → ℕ → V → V → H → H) where
  -- with the share s the thread t did this last under the mutex m, and has the share r afterwards
  abbrev pub Looked : W → ℕ → ℕ → Opt (Did T) → H → H → Type 0
  Looked w m t None s r = r ≡ s
  Looked w m t (Some d) s r = (x y : V) × (q p : Held T) × (ring_in x ≡ Some q) × (ring_in y ≡ Some p) × Does d q p
      × (r ≡ after w m t x y s)

  -- a call of the thread t at the ring that m protects: it acquired m, waited in the condition c
  -- while it had to, did this last, signalled o if it put or took, and released m
  pub record Ran (alike : H → H → Type 0) (w : W) (m c o t : ℕ) (more : ℕ → Used T → Used T) (d : Opt (Did T)) (s : H) (a b : Known V H W) :
      Type 0 where
    pub waited : ℕ
    pub left : List ℕ
    pub events : Adds (entered t m c waited ++ finish t m c o left d) (release_event t m) a b
    pub share : H
    pub is_share : b.share ≡ Some share
    pub here : part share m ≡ did_last d (more (wait_count d waited) (part s m))
    pub elsewhere : (k : ℕ) → k ≢ m → part share k ≡ part s k
    -- the share with which it looked last
    pub looking : H
    pub is_alike : alike s looking
    pub looked : Looked w m t d looking share
    -- if the thread knew the ring to be shut, it didn't wait
    pub shut : KnowsShut (part s m) → (waited ≡ 0) × IsSome d

  -- the thread t acquired m, shut the ring, broadcast the conditions c and o, and released m
  pub record HasShut (w : W) (m c o t : ℕ) (s : H) (a b : Known V H W) : Type 0 where
    pub events : Adds (acquire_event t m ∷ event t (broadcast_action c []) ∷ event t (broadcast_action o []) ∷ []) (release_event t m) a b
    pub share : H
    pub is_share : b.share ≡ Some share
    pub here : part share m ≡ did Shut (part s m)
    pub elsewhere : (k : ℕ) → k ≢ m → part share k ≡ part s k
    pub looked : Looked w m t (Some Shut) s share

-- what was done at the ring q, as the result shows: it turned q into p
pub record Answers {T : Type 0} (answered : Opt (Did T)) (kind : Did T → Type 0) (good : Bool) (q p : Held T) : Type 0 where
  pub did : Did T
  pub is : answered ≡ Some did
  pub of : kind did
  pub signalled : good ≡ is_signalled did
  pub does : Does did q p
