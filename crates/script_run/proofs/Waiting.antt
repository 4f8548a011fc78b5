-- Waits within a line.
use Rattle.std.proofs.Common.{◌≡◌, ℕ, zero, suc, ◌+◌, ◌<◌, ◌≤◌, inl, inr, List, [], ◌∷◌, ◌++◌, append_assoc, append-nil, length, length-append, get_or, refl, ap, sym, subst, ◌∙◌, true, Some, arith}
use mathlib.Core.Option.{some}
use lib.ListN.{get_elem?, set}
use Rattle.std.proofs.lemmas.List.{length-set}
use Rattle.larch_actions.specs.declared.event.CondId.{CondId}
use Rattle.larch_actions.specs.declared.event.Event.{Event}
use Rattle.larch_actions.specs.declared.event.Layout.{Layout}
use Rattle.larch_actions.specs.declared.event.MutexId.{MutexId}
use Rattle.larch_actions.specs.declared.event.SemId.{SemId}
use Rattle.nub_rule.specs.Known.{Shape}
use Rattle.nub_rule.specs.declared.view.Stint.{Stint}
use Rattle.nub_rule.specs.Plays.{enqueue_event}
use Rattle.nub.specs.Rest.{AtRest, Adds, IsSame}
use Rattle.sum_uses.specs.declared.added.Added.{Added}
use Rattle.sum_uses.specs.Sums.{IsAbove, GrowsAlike, grown}
use Rattle.alert_wait.specs.declared.outcome.Outcome.{Outcome}
use Rattle.alert_wait.specs.declared.outcome.Outcome.TheVariants.{Returned, Alerted}
use Rattle.alert_wait.specs.Outcomes.{p_end, wait_end}
use Rattle.script_text.specs.declared.line.Line.{Line}
use Rattle.script_text.specs.declared.line.Operation.{Operation}
use Rattle.script_text.specs.declared.line.Operation.TheVariants.{AlertWait, AlertP, AlertUntil, Until}
use Rattle.script_text.specs.declared.table.Use.{Use}
use Rattle.script_text.specs.declared.table.Use.TheVariants.{Needs}
use Rattle.script_text.specs.Operations.{none_held, held_after, holding_with}
use Rattle.script_text.specs.Runs.{IsRow, added_by, lines_of, times, total, waited}
use Rattle.script_text.specs.Visits.{AreBelow, Hand, Leaves, Visit, after_waits, gets, leaves, waits}
use Rattle.script_text.specs.Table.{use_of}
use Rattle.script_run.specs.Playing.{Player, AreLinked, EndAs, HasHand, HasNumber, HasWaited, IsInLine, IsPlaying, IsWide, HasMutex, alertable, visit_of, visits_of}
use Rattle.script_run.proofs.Calls.{got, left_as, sums_small}
use Rattle.script_run.proofs.Hands.{after_more, below_more, hand_gets, linked_more, visits_more, waits_more}
use Rattle.script_run.proofs.Plays.{wide_set, played, may_release, untouched, waited_for}

module _ (p : Shape (Prim.Unit {0})) (l : Layout) (xs : List Line) (es : List Event) (vs : List Visit) (start hand : Hand) (numbers : List ℕ) (a : Player) (s : IsInLine p a.number xs es vs start hand numbers a) (m : MutexId) (low : m.0 < 64) (has : HasMutex l a.number xs m.0) where
  -- the number that was got, and that it may be given back as the number now
  pub may_wait : (x : ℕ) × (get_elem? a.held m.0 ≡ some (Some x)) × GrowsAlike m.0 x (get_or numbers m.0 0) s.share (grown m.0 x (get_or numbers m.0 0) s.share)
  may_wait =
      let h = held_after none_held xs in
      let sums : ℕ → ℕ = λ k. total (lines_of a.number xs) k in
      let x = got a.held m.0 (get_or numbers m.0 0) s.share (sums m.0) (h a.number m.0) has.held (s.each m.0 low) in
      (x.0, x.1, may_release h a.number m.0 a.held numbers s.share sums low s.size s.held_size s.each x.0 has.held x.1 (sums_small l a.number m.0 xs has.follow has.few))

  -- the number now is the one in the hand
  pub number_is : (hand m.0).1 ≡ get_or numbers m.0 0
  number_is = ap (λ (q : ℕ × ℕ). q.1) (s.agrees m.0 may_wait.0 may_wait.1)

  -- after a wait with these two events
  pub after_wait : (first last : Event) (x y : ℕ) (b : Player) → get_elem? a.held m.0 ≡ some (Some x) → AtRest p b → IsSame a b → Adds (first ∷ []) last a b → b.held ≡ set a.held m.0 (Some y) → b.share ≡ Some (grown m.0 x (get_or numbers m.0 0) s.share)
      → b.stints ≡ a.stints ++ left_as m.0 x a.number (get_or numbers m.0 0) s.share ∷ [] → IsAbove m.0 y (grown m.0 x (get_or numbers m.0 0) s.share)
      → IsInLine p a.number xs (es ++ first ∷ last ∷ []) (vs ++ leaves a.number m hand ∷ []) start (gets m y hand) (set numbers m.0 y) b
  after_wait first last x y b at rest same adds held share stints above =
      let h = held_after none_held xs in
      let H : List _ → Type 0 = λ q. (k : ℕ) → k < 64 → HasNumber (h a.number k) q k (get_or (set numbers m.0 y) k 0) (grown m.0 x (get_or numbers m.0 0) s.share) (total (lines_of a.number xs) k) in
      let st = left_as m.0 x a.number (get_or numbers m.0 0) s.share in
      record {
        rest = rest;
        number = same.number;
        world = same.world ∙ s.world;
        size = length-set numbers m.0 y ∙ s.size;
        held_size = subst IsWide (sym held) (wide_set a.held m.0 (Some y) low s.held_size);
        before = s.before;
        visits = s.visits;
        are = s.are;
        mine = adds.mine ∙ ap (λ q. (q ++ first ∷ []) ++ last ∷ []) s.mine ∙ append_assoc (s.before ++ es) (first ∷ []) (last ∷ []) ∙ append_assoc s.before es (first ∷ last ∷ []);
        stints = ap visits_of stints ∙ (visits_more a.stints st (s.visits ++ vs) s.stints
            ∙ (append_assoc s.visits vs (visit_of st ∷ []) ∙ ap (λ (q : ℕ × ℕ). s.visits ++ (vs ++ record { thread = a.number; mutex = m.0; got = q.0; left = q.1 } ∷ [])) (sym (s.agrees m.0 x at))));
        agrees = subst (λ (q : List _). HasHand q (set numbers m.0 y) (gets m y hand)) (sym held) (hand_gets a.held numbers hand s.agrees m y (omega (arith, s.size)));
        share = grown m.0 x (get_or numbers m.0 0) s.share;
        is_share = share;
        linked = subst (λ (q : List (Stint ℕ (List Added))). AreLinked [] q (grown m.0 x (get_or numbers m.0 0) s.share)) (sym stints) (linked_more [] a.stints st s.share s.linked refl);
        each = subst H (sym held) (waited_for h a.number m.0 a.held numbers s.share (λ k. total (lines_of a.number xs) k) low s.size s.held_size s.each x y has.held at above);
      }

-- the events of an alertable wait, by its end
pub alertable_is : (r : Outcome) (t : ℕ) (m : MutexId) (c : CondId) → enqueue_event true t m.0 c.0 ∷ wait_end r t m.0 c.0 ∷ [] ≡ alertable r t m c
alertable_is Returned t m c = refl
alertable_is Alerted t m c = refl

pub times_more : (k : ℕ) (es : List Event) → times k es ++ es ≡ times (suc k) es
times_more zero es = sym (append-nil es)
times_more (suc k) es = append_assoc es (times k es) es ∙ ap (λ l. es ++ l) (times_more k es)

-- the same of a number that is equal
pub numbered : (p : Shape (Prim.Unit {0})) (t u : ℕ) (xs : List Line) (es : List Event) (vs : List Visit) (start hand : Hand) (numbers : List ℕ) (b : Player) → t ≡ u → IsInLine p t xs es vs start hand numbers b → IsInLine p u xs es vs start hand numbers b
numbered p t u xs es vs start hand numbers b e s = let P : ℕ → Type 0 = λ v. IsInLine p v xs es vs start hand numbers b in subst P e s

pub has_numbered : (l : Layout) (t u : ℕ) (xs : List Line) (m : ℕ) → t ≡ u → HasMutex l t xs m → HasMutex l u xs m
has_numbered l t u xs m e h = let P : ℕ → Type 0 = λ v. HasMutex l v xs m in subst P e h

-- the number now of a thread whose number is t is the one in the hand
pub number_now : (p : Shape (Prim.Unit {0})) (l : Layout) (t : ℕ) (xs : List Line) (es : List Event) (vs : List Visit) (start hand : Hand) (numbers : List ℕ) (b : Player) → IsInLine p t xs es vs start hand numbers b → (m : MutexId) → m.0 < 64 → HasMutex l t xs m.0
    → (hand m.0).1 ≡ get_or numbers m.0 0
number_now p l t xs es vs start hand numbers b s m low has = number_is p l xs es vs start hand numbers b (numbered p t b.number xs es vs start hand numbers b (sym s.number) s) m low (has_numbered l t b.number xs m.0 (sym s.number) has)

module _ (p : Shape (Prim.Unit {0})) (xs : List Line) (n : ℕ) (m : MutexId) (hand : Hand) (t : ℕ) where
  -- no wait yet
  pub not_waited : (Are : ℕ → List Event → Type 0) (numbers : List ℕ) (b : Player) → Are 0 [] → IsInLine p t xs [] [] hand hand numbers b → HasWaited p t xs Are n m hand numbers b
  not_waited Are numbers b none s = record { gained = []; below = tt; events = []; are_events = none; line = s }

  -- one wait more, of a thread u whose number is t, with these events
  module _ (Are Are' : ℕ → List Event → Type 0) (u y : ℕ) (e : ℕ → List Event) (numbers numbers' : List ℕ) (a b : Player) (same : u ≡ t) (w : HasWaited p t xs Are n m hand numbers a) where
    abbrev now : Hand
    now = after_waits m w.gained hand

    pub one_more : (now m.0).1 < n → ((k : ℕ) → length w.gained ≡ k → Are k w.events → Are' (suc k) (w.events ++ e t))
        → IsInLine p u xs (w.events ++ e u) (waits t m w.gained hand ++ leaves u m now ∷ []) hand (gets m y now) numbers' b → HasWaited p t xs Are' n m hand numbers' b
    one_more less are s =
        let P : ℕ → Type 0 = λ v. IsInLine p v xs (w.events ++ e v) (waits t m w.gained hand ++ leaves v m now ∷ []) hand (gets m y now) numbers' b in
        let V : List Visit → Type 0 = λ vs. IsInLine p t xs (w.events ++ e t) vs hand (gets m y now) numbers' b in
        let H : Hand → Type 0 = λ h. IsInLine p t xs (w.events ++ e t) (waits t m (w.gained ++ y ∷ []) hand) hand h numbers' b in
        let long : suc (length w.gained) ≡ length (w.gained ++ y ∷ []) = omega (arith, length-append w.gained (y ∷ [])) in
        record {
          gained = w.gained ++ y ∷ [];
          below = below_more n m w.gained y hand w.below less;
          events = w.events ++ e t;
          are_events = (let L : ℕ → Type 0 = λ k. Are' k (w.events ++ e t) in subst L long (are (length w.gained) refl w.are_events));
          line = subst H (sym (after_more m w.gained y hand)) (subst V (sym (waits_more t m w.gained y hand)) (subst P same s));
        }

-- the events and the visits of an `until` and of an `alert-until` are those of its line
pub until_leaves : (t : ℕ) (m : MutexId) (c : CondId) (n : ℕ) (xs : List ℕ) (hand : Hand) (es : List Event) → AreBelow n m xs hand → es ≡ times (length xs) (waited t m c) → n ≤ (after_waits m xs hand m.0).1
    → Leaves t (Until m c n) es hand (waits t m xs hand) (after_waits m xs hand)
until_leaves t m c n xs hand es below are enough = (xs, are, below, refl, refl, enough)

pub alert_until_leaves : (r : Outcome) (t : ℕ) (m : MutexId) (c : CondId) (n : ℕ) (xs : List ℕ) (hand : Hand) (es : List Event) → AreBelow n m xs hand → EndAs r t m c (length xs) es → (r ≡ Returned → n ≤ (after_waits m xs hand m.0).1)
    → Leaves t (AlertUntil m c n) es hand (waits t m xs hand) (after_waits m xs hand)
alert_until_leaves Returned t m c n xs hand es below are enough = (xs, below, refl, refl, inl (are, enough refl))
alert_until_leaves Alerted t m c n xs hand es below are enough = (xs, below, refl, refl, inr are)

pub ended_row : (r : Outcome) (t k : ℕ) (m : MutexId) (c : CondId) (n : ℕ) (es : List Event) → EndAs r t m c k es → IsRow t (AlertUntil m c n) es
ended_row Returned t k m c n es are = (k, inl are)
ended_row Alerted t k m c n es are = (are.0, inr are.2)

pub alertable_row : (r : Outcome) (t : ℕ) (m : MutexId) (c : CondId) → IsRow t (AlertWait m c) (alertable r t m c)
alertable_row Returned t m c = inl refl
alertable_row Alerted t m c = inr refl

pub p_row : (r : Outcome) (t : ℕ) (s : SemId) → IsRow t (AlertP s) (p_end r t s.0 ∷ [])
p_row Returned t s = inl refl
p_row Alerted t s = inr refl

-- the line with these events and visits is played: it leaves the mutex held, and adds nothing
pub finished : (p : Shape (Prim.Unit {0})) (t : ℕ) (xs : List Line) (es : List Event) (vs : List Visit) (start hand : Hand) (numbers : List ℕ) (b : Player) (x : Line) (o : Operation) (m : MutexId) → x.thread.0 ≡ t → x.operation ≡ o → IsRow t o es → Leaves t o es start vs hand
    → use_of o ≡ Needs m → ((k : ℕ) → added_by o k ≡ 0) → IsInLine p t xs es vs start hand numbers b → IsPlaying p t (xs ++ x ∷ []) numbers b
finished p t xs es vs start hand numbers b x o m own is row left uses none s =
    let h = held_after none_held xs in
    let R : Operation → Type 0 = λ q. IsRow t q es in
    let L : Operation → Type 0 = λ q. Leaves t q es start vs hand in
    let E : Operation → Type 0 = λ q. (k : ℕ) → k < 64 → HasNumber (holding_with h t (use_of q) t k) b.held k (get_or numbers k 0) s.share (total (lines_of t xs) k + added_by q k) in
    let each : (k : ℕ) → k < 64 → HasNumber (holding_with h t (use_of o) t k) b.held k (get_or numbers k 0) s.share (total (lines_of t xs) k + added_by o k) = λ k low.
    let U : Use → Type 0 = λ u. HasNumber (holding_with h t u t k) b.held k (get_or numbers k 0) s.share (total (lines_of t xs) k + added_by o k) in
    let N : ℕ → Type 0 = λ n. HasNumber (h t k) b.held k (get_or numbers k 0) s.share (total (lines_of t xs) k + n) in
    subst U (sym uses) (subst N (sym (none k)) (untouched h t 0 b.held numbers s.share (λ i. total (lines_of t xs) i) (omega arith) s.size s.held_size s.each k low))
    in
    played p t xs x numbers s.before es s.visits vs start hand b s.share own (record { rest = s.rest; number = s.number; world = s.world; held_size = s.held_size }) s.size s.are (subst R (sym is) row) (subst L (sym is) left) s.mine s.stints s.agrees s.is_share s.linked (subst E (sym is) each)

pub alerted≢returned : Alerted ≡ Returned → ⊥
alerted≢returned e = cc

-- a number that was as great as is awaited is not less while the numbers are the same
pub still_less : (numbers old : List ℕ) (m n : ℕ) → numbers ≡ old → n ≤ get_or old m 0 → get_or numbers m 0 < n → ⊥
still_less numbers old m n same enough less = let now : n ≤ get_or numbers m 0 = subst (λ (l : List ℕ). n ≤ get_or l m 0) (sym same) enough in omega arith
