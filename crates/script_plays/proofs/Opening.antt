-- The rows of a thread's lines are what the thread makes from its first line on.
use Rattle.std.proofs.Common.{◌≡◌, ◌⊎◌, inl, inr, ℕ, zero, suc, ◌≤◌, true, false, le-leb, List, [], ◌∷◌, ◌++◌, length, refl, ap, sym, subst, ◌∙◌, append-nil, append_assoc}
use Rattle.std.proofs.lemmas.Bool.{lt-leb}
use Rattle.larch_actions.specs.declared.event.Event.{Event}
use Rattle.larch_actions.specs.declared.event.Version.{Version}
use Rattle.larch_actions.specs.declared.event.Version.TheVariants.{One, Two}
use Rattle.larch_actions.specs.declared.event.MutexId.{MutexId}
use Rattle.larch_actions.specs.declared.event.CondId.{CondId}
use Rattle.larch_actions.specs.declared.event.Action.{Action}
use Rattle.larch_actions.specs.declared.event.Action.TheVariants as action
use Rattle.script_text.specs.declared.line.Line.{Line}
use Rattle.script_text.specs.declared.line.Operation.{Operation}
use Rattle.script_text.specs.declared.line.Operation.TheVariants.{Acquire, Release, Wait, AlertWait, Signal, Broadcast, P, V, Alert, TestAlert, AlertP, Add, Until, AlertUntil, Fork, Join}
use Rattle.script_text.specs.Runs.{IsRow, event, raised, returned, times, waited}
use Rattle.script_text.specs.Visits.{AreBelow, AreLeft, Hand, Leaves, Visit, after_waits, gets, leaves, waits}
use Rattle.script_plays.specs.declared.choice.Turn.{Turn}
use Rattle.script_plays.specs.declared.choice.Turn.TheVariants.{Stays, Next}
use Rattle.script_plays.specs.declared.choice.Choice.{Choice}
use Rattle.script_plays.specs.Choices.{MayMake, Gives, is_silent, next, stays}
use Rattle.script_plays.proofs.Owning.{lines_after}
use Rattle.script_plays.proofs.Running.{Deal, Deals, Giving, Opens, Runs, Taking, deal, now, quiet_hand, quiet_lines, silently}

-- one event, after which the thread goes on
once : (t : ℕ) (o : Operation) (a : Action) (es : List Event) (hand : Hand) (vs : List Visit) (after : Hand) → is_silent o (now hand) ≡ false → MayMake o (next a) → Deals t (deal a) hand vs after
    → es ≡ event t a ∷ [] → Opens t o es hand vs after
once t o a es hand vs after loud made deals is = subst (λ (l : List Event). Opens t o l hand vs after) (sym is) (loud, Next, vs, [], after, made, deals, sym (append-nil vs), inl (refl, refl, refl, refl))

-- the first part of a wait, and what follows
first : (t : ℕ) (o : Operation) (m : MutexId) (a : Action) (es : List Event) (hand : Hand) (vs : List Visit) (after : Hand) → is_silent o (now hand) ≡ false → MayMake o (stays a)
    → deal a ≡ Giving m → Opens t o es hand vs after → Opens t o (event t a ∷ es) hand (leaves t m hand ∷ vs) after
first t o m a es hand vs after loud made gives rest =
    (loud, Stays, leaves t m hand ∷ [], vs, hand, made, subst (λ (d : Deal). Deals t d hand (leaves t m hand ∷ []) hand) (sym gives) (refl, refl), refl, inr (refl, rest))

-- the second part of a wait that is made again, with the number x, and what follows
second : (t : ℕ) (o : Operation) (m : MutexId) (x : ℕ) (a : Action) (es : List Event) (hand : Hand) (vs : List Visit) (after : Hand) → is_silent o (now hand) ≡ false → MayMake o (stays a)
    → deal a ≡ Taking m → Opens t o es (gets m x hand) vs after → Opens t o (event t a ∷ es) hand vs after
second t o m x a es hand vs after loud made takes rest =
    (loud, Stays, [], vs, gets m x hand, made, subst (λ (d : Deal). Deals t d hand [] (gets m x hand)) (sym takes) (x, refl, refl), refl, inr (refl, rest))

-- a wait that is made once
waited_once : (t : ℕ) (o : Operation) (m : MutexId) (x : ℕ) (a b : Action) (es : List Event) (hand : Hand) (vs : List Visit) (after : Hand) → is_silent o (now hand) ≡ false → MayMake o (stays a)
    → MayMake o (next b) → deal a ≡ Giving m → deal b ≡ Taking m → es ≡ event t a ∷ event t b ∷ [] → vs ≡ leaves t m hand ∷ [] → after ≡ gets m x hand → Opens t o es hand vs after
waited_once t o m x a b es hand vs after loud made ends gives takes is left got =
    subst (λ (l : List Event). Opens t o l hand vs after) (sym is)
    (subst (λ (w : List Visit). Opens t o (event t a ∷ event t b ∷ []) hand w after) (sym left)
    (first t o m a (event t b ∷ []) hand [] after loud made gives
    (once t o b (event t b ∷ []) hand [] after loud ends (subst (λ (d : Deal). Deals t d hand [] after) (sym takes) (x, refl, got)) refl)))

-- waits that are made again while the number is too small
module _ (t : ℕ) (m : MutexId) (c : CondId) (n : ℕ) where
  until : (xs : List ℕ) (hand : Hand) → AreBelow n m xs hand → n ≤ (after_waits m xs hand m.0).1
      → Opens t (Until m c n) (times (length xs) (waited t m c)) hand (waits t m xs hand) (after_waits m xs hand)
  until [] hand below reached = (le-leb n (hand m.0).1 reached, refl, refl)
  until (x ∷ xs) hand below reached =
      let loud = lt-leb n (hand m.0).1 below.0 in
      first t (Until m c n) m (action.Enqueue m c) _ hand _ _ loud (inl refl) refl
      (second t (Until m c n) m x (action.Resume m c) _ hand _ _ loud (inr (inl refl)) refl (until xs (gets m x hand) below.1 reached))

  alerted : (xs : List ℕ) (hand : Hand) → AreBelow n m xs hand → n ≤ (after_waits m xs hand m.0).1
      → Opens t (AlertUntil m c n) (times (length xs) (returned t m c)) hand (waits t m xs hand) (after_waits m xs hand)
  alerted [] hand below reached = (le-leb n (hand m.0).1 reached, refl, refl)
  alerted (x ∷ xs) hand below reached =
      let loud = lt-leb n (hand m.0).1 below.0 in
      first t (AlertUntil m c n) m (action.AlertEnqueue m c) _ hand _ _ loud (inl refl) refl
      (second t (AlertUntil m c n) m x (action.AlertReturn m c) _ hand _ _ loud (inr (inl refl)) refl (alerted xs (gets m x hand) below.1 reached))

  ended : (xs : List ℕ) (k : ℕ) (hand : Hand) → length xs ≡ suc k → AreBelow n m xs hand
      → Opens t (AlertUntil m c n) (times k (returned t m c) ++ raised t m c) hand (waits t m xs hand) (after_waits m xs hand)
  ended [] k hand size below = absurd (cc)
  ended (x ∷ []) zero hand size below =
      waited_once t (AlertUntil m c n) m x (action.AlertEnqueue m c) (action.AlertRaise m c) _ hand _ _ (lt-leb n (hand m.0).1 below.0) (inl refl) (inr (inr (inl refl))) refl refl refl refl refl
  ended (x ∷ y ∷ xs) zero hand size below = absurd (cc)
  ended (x ∷ xs) (suc k) hand size below =
      let loud = lt-leb n (hand m.0).1 below.0 in
      first t (AlertUntil m c n) m (action.AlertEnqueue m c) _ hand _ _ loud (inl refl) refl
      (second t (AlertUntil m c n) m x (action.AlertReturn m c) _ hand _ _ loud (inr (inl refl)) refl (ended xs k (gets m x hand) (cc) below.1))

-- each call is made of its choices
opens : (t : ℕ) (o : Operation) (es : List Event) (hand : Hand) (vs : List Visit) (after : Hand) → IsRow t o es → Leaves t o es hand vs after → Opens t o es hand vs after
opens t (Acquire m) es hand vs after row l = once t (Acquire m) (action.Acquire m) es hand vs after refl (inl refl) l row
opens t (Release m) es hand vs after row l = once t (Release m) (action.Release m) es hand vs after refl (inl refl) l row
opens t (Wait m c) es hand vs after row l =
    waited_once t (Wait m c) m l.0 (action.Enqueue m c) (action.Resume m c) es hand vs after refl (inl refl) (inr (inl refl)) refl refl row l.1 l.2
opens t (AlertWait m c) es hand vs after (inl row) l =
    waited_once t (AlertWait m c) m l.0 (action.AlertEnqueue m c) (action.AlertReturn m c) es hand vs after refl (inl refl) (inr (inl refl)) refl refl row l.1 l.2
opens t (AlertWait m c) es hand vs after (inr row) l =
    waited_once t (AlertWait m c) m l.0 (action.AlertEnqueue m c) (action.AlertRaise m c) es hand vs after refl (inl refl) (inr (inr (inl refl))) refl refl row l.1 l.2
opens t (Signal c) es hand vs after row l = once t (Signal c) (action.Signal c row.0) es hand vs after refl (row.0, refl) l row.1
opens t (Broadcast c) es hand vs after row l = once t (Broadcast c) (action.Broadcast c) es hand vs after refl (inl refl) l row
opens t (P s) es hand vs after row l = once t (P s) (action.P s) es hand vs after refl (inl refl) l row
opens t (V s) es hand vs after row l = once t (V s) (action.V s) es hand vs after refl (inl refl) l row
opens t (Alert u) es hand vs after row l = once t (Alert u) (action.Alert u) es hand vs after refl (inl refl) l row
opens t TestAlert es hand vs after (true, row) l = once t TestAlert (action.TestAlert true) es hand vs after refl (inl refl) l row
opens t TestAlert es hand vs after (false, row) l = once t TestAlert (action.TestAlert false) es hand vs after refl (inr (inl refl)) l row
opens t (AlertP s) es hand vs after (inl row) l = once t (AlertP s) (action.AlertPReturn s) es hand vs after refl (inl refl) l row
opens t (AlertP s) es hand vs after (inr row) l = once t (AlertP s) (action.AlertPRaise s) es hand vs after refl (inr (inl refl)) l row
opens t (Add m n) es hand vs after row l = subst (λ (z : List Event). Opens t (Add m n) z hand vs after) (sym row) (refl, l.0, l.1)
opens t (Until m c n) es hand vs after row l =
    let made = until t m c n l.0 hand l.2 (subst (λ (h : Hand). n ≤ (h m.0).1) l.4 l.5) in
    subst (λ (z : List Event). Opens t (Until m c n) z hand vs after) (sym l.1)
    (subst (λ (w : List Visit). Opens t (Until m c n) (times (length l.0) (waited t m c)) hand w after) (sym l.3)
    (subst (λ (h : Hand). Opens t (Until m c n) (times (length l.0) (waited t m c)) hand (waits t m l.0 hand) h) (sym l.4) made))
opens t (AlertUntil m c n) es hand vs after row l =
    subst (λ (w : List Visit). Opens t (AlertUntil m c n) es hand w after) (sym l.2)
    (subst (λ (h : Hand). Opens t (AlertUntil m c n) es hand (waits t m l.0 hand) h) (sym l.3) (either l.4))
  where
    either : ((es ≡ times (length l.0) (returned t m c)) × (n ≤ (after m.0).1)) ⊎ ((k : ℕ) × (length l.0 ≡ suc k) × (es ≡ times k (returned t m c) ++ raised t m c))
        → Opens t (AlertUntil m c n) es hand (waits t m l.0 hand) (after_waits m l.0 hand)
    either (inl r) = subst (λ (z : List Event). Opens t (AlertUntil m c n) z hand (waits t m l.0 hand) (after_waits m l.0 hand)) (sym r.0)
        (alerted t m c n l.0 hand l.1 (subst (λ (h : Hand). n ≤ (h m.0).1) l.3 r.1))
    either (inr r) = subst (λ (z : List Event). Opens t (AlertUntil m c n) z hand (waits t m l.0 hand) (after_waits m l.0 hand)) (sym r.2) (ended t m c n l.0 r.0 hand r.1 l.1)
opens t (Fork u) es hand vs after row l = once t (Fork u) (action.Fork u) es hand vs after refl (inl refl) l row
opens t (Join u) es hand vs after row l = once t (Join u) (action.Join u) es hand vs after refl (inl refl) l row

gives_line : (v : Version) (x : Line) (rest : List Line) (c : Choice) → MayMake x.operation c → Gives v (x ∷ rest) c
gives_line One x rest c made = made
gives_line Two x rest c made = made

-- a call, and what its thread makes after it
module _ (v : Version) (t : ℕ) (x : Line) (rest : List Line) (es : List Event) (w : List Visit) where
  through : (calls : List Event) (hand : Hand) (vs : List Visit) (after : Hand) → Opens t x.operation calls hand vs after → Runs v t (quiet_lines rest after) (quiet_hand rest after) es w
      → Runs v t (quiet_lines (x ∷ rest) hand) (quiet_hand (x ∷ rest) hand) (calls ++ es) (vs ++ w)
  through [] hand vs after o runs =
      rw o.0 (subst (λ (u : List Visit). Runs v t (quiet_lines rest (silently x.operation hand)) (quiet_hand rest (silently x.operation hand)) es (u ++ w)) (sym o.1)
      (subst (λ (h : Hand). Runs v t (quiet_lines rest h) (quiet_hand rest h) es w) o.2 runs))
  through (e ∷ calls) hand vs after (loud, turn, a, b, between, made, deals, is, ends) runs =
      rw loud (turn, a, b ++ w, between, gives_line v x rest _ made, deals, ap (λ (u : List Visit). u ++ w) is ∙ append_assoc a b w, on (λ more. through calls between b after more runs) ends)
    where
      on : (Opens t x.operation calls between b after → Runs v t (quiet_lines (x ∷ rest) between) (quiet_hand (x ∷ rest) between) (calls ++ es) (b ++ w)) → (((turn ≡ Next) × (calls ≡ []) × (b ≡ []) × (between ≡ after)) ⊎ ((turn ≡ Stays) × Opens t x.operation calls between b after))
          → Runs v t (quiet_lines (lines_after turn (x ∷ rest)) between) (quiet_hand (lines_after turn (x ∷ rest)) between) (calls ++ es) (b ++ w)
      on again (inl (goes, none, left, same)) =
          subst (λ (z : List Event). Runs v t (quiet_lines (lines_after turn (x ∷ rest)) between) (quiet_hand (lines_after turn (x ∷ rest)) between) (z ++ es) (b ++ w)) (sym none)
          (subst (λ (u : List Visit). Runs v t (quiet_lines (lines_after turn (x ∷ rest)) between) (quiet_hand (lines_after turn (x ∷ rest)) between) es (u ++ w)) (sym left)
          (subst (λ (k : Turn). Runs v t (quiet_lines (lines_after k (x ∷ rest)) between) (quiet_hand (lines_after k (x ∷ rest)) between) es w) (sym goes)
          (subst (λ (h : Hand). Runs v t (quiet_lines rest h) (quiet_hand rest h) es w) (sym same) runs)))
      on again (inr (stay, more)) =
          subst (λ (k : Turn). Runs v t (quiet_lines (lines_after k (x ∷ rest)) between) (quiet_hand (lines_after k (x ∷ rest)) between) (calls ++ es) (b ++ w)) (sym stay)
          (again more)

-- the calls of all its lines, and what it makes after them
pub runs_of : (v : Version) (t : ℕ) (tail : List Event) → ((h : Hand) → Runs v t [] h tail []) → (rest : List Line) (es : List Event) (hand : Hand) (vs : List Visit) (after : Hand)
    → AreLeft t rest es hand vs after → Runs v t (quiet_lines rest hand) (quiet_hand rest hand) (es ++ tail) vs
runs_of v t tail ending [] es hand vs after (none, left, same) =
    subst (λ (z : List Event). Runs v t [] hand (z ++ tail) vs) (sym none) (subst (λ (u : List Visit). Runs v t [] hand tail u) (sym left) (ending hand))
runs_of v t tail ending (x ∷ rest) es hand vs after (a, b, one, others, between, row, call, more, is, left) =
    let later = runs_of v t tail ending rest b between others after more in
    subst (λ (z : List Event). Runs v t (quiet_lines (x ∷ rest) hand) (quiet_hand (x ∷ rest) hand) z vs) (sym (ap (λ (z : List Event). z ++ tail) is ∙ append_assoc a b tail))
    (subst (λ (u : List Visit). Runs v t (quiet_lines (x ∷ rest) hand) (quiet_hand (x ∷ rest) hand) (a ++ (b ++ tail)) u) (sym left)
    (through v t x rest (b ++ tail) others a hand one between (opens t x.operation a hand one between row call) later))
