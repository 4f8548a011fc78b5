-- What a step leaves of a thread: that it is one still, and what contracts see of it. And the slot that a step is on, at the front of the thread's hand.
use Rattle.std.proofs.Common.{◌≡◌, ℕ, ◌<◌, ◌≤◌, List, [], ◌∷◌, ◌++◌, length, length-set, set, refl, sym, ap, ◌∙◌, subst, arith, Some, None}
use Rattle.std.specs.Prelude.{Option as Opt}
use mathlib.Core.Option.{some}
use lib.ListN.{get_elem?}
use Rattle.atomic_table.specs.Table.{rest}
use Rattle.atomic_table.specs.Seated.{TableId}
use Rattle.atomic_table.proofs.Lists.{set_here}
use Rattle.larch_actions.specs.declared.event.Event.{Event}
use Rattle.nub_rule.specs.declared.package.Entry.{Entry}
use Rattle.nub_rule.specs.declared.rule.Slot.{Slot}
use Rattle.nub_rule.specs.declared.rule.Slot.TheVariants.{Value, Queue}
use Rattle.nub_rule.specs.declared.view.Part.{Part}
use Rattle.nub_rule.specs.declared.view.Stint.{Stint}
use Rattle.nub_rule.specs.declared.view.View.{View}
use Rattle.nub_rule.specs.Items.{queue_of}
use Rattle.nub_rule.specs.Known.{EntersStint, Holds, IsIn, Known, known_as, values_of, value_in, IsThread, Makes, PicksShare, Space}
use Rattle.nub_rule.specs.Places.{most_threads, queue_at, value_at}
use Rattle.nub_rule.specs.Plays.{Entered, Sat, with_part, recorded, Grows, stint}
use Rattle.nub_rule.specs.Slots.{find, IsDistinct, Below, past_first}
use Rattle.nub_rule.proofs.Each.{at_within}
use Rattle.nub_rule.proofs.Handling.{Refilled, refilled, values-same, values-set, value-found, hands-freed, hands-queue, hands-same, hands-value}
use Rattle.nub_rule.proofs.Seen.{fit_given, fit_moved, fit_still}
use Rattle.nub_rule.proofs.Turns.{keys}

module _ {T H W : Type 0} where
  -- the thread, as contracts see it, after a step that changed the part by f and the values by h
  pub seen_as : (f : ℕ → Part T H → Part T H) (h : List (Opt (Opt T)) → List (Opt (Opt T))) (z z' : TableId) (n : ℕ) (es : List Entry) (lo : Space) {nx : ℕ} (me me' : Sat T H W) (ds : List (ℕ × Slot T)) (a : Known T H W)
      → known_as z n me es lo nx ≡ a → z' ≡ z → me' ≡ (with_part me.0 (f n me.0.part), ds) → values_of ds ≡ h (values_of me.1) → known_as z' n me' es lo nx ≡ record a { part = f a.number a.part; values = h a.values }
  seen_as f h z z' n es lo {nx} me me' ds a v ez em vs = subst (λ (t : TableId × Sat T H W × Known T H W). known_as t.0 n t.1 es lo nx ≡ record t.2 { part = f t.2.number t.2.part; values = h t.2.values }) (λ i. (sym ez i, sym em i, v i))
      (λ i. record (known_as z n me es lo nx) { part = f n me.0.part; values = vs i })

  -- and after a step that changed the part alone
  pub noted : (f : ℕ → Part T H → Part T H) (z z' : TableId) (n : ℕ) (es : List Entry) (lo : Space) {nx : ℕ} (me me' : Sat T H W) (a : Known T H W) → known_as z n me es lo nx ≡ a → z' ≡ z → me' ≡ (with_part me.0 (f n me.0.part), me.1) → known_as z' n me' es lo nx ≡ record a { part = f a.number a.part }
  noted f z z' n es lo me me' a v ez em = seen_as f (λ vs. vs) z z' n es lo me me' me.1 a v ez em refl

  -- the thread is one still after a step that changed neither what it has nor where it stands
  pub fit_noted : (z z' : TableId) (n : ℕ) (hand : List ℕ) (me me' : Sat T H W) (q : Part T H) {kept : List T} {room : ℕ} → z' ≡ z → me' ≡ (with_part me.0 q, me.1) → IsThread z n hand me kept room
      → q.held ≡ me.0.part.held → q.spin ≡ me.0.part.spin → q.queue ≡ me.0.part.queue → q.owed ≡ me.0.part.owed → q.stand ≡ me.0.part.stand → IsThread z' n hand me' kept room
  fit_noted z z' n hand me me' q ez em i eh es eq eo et = let h = i.hands in fit_still z z' n hand me me' q ez em i (ap length eh) (hands-same me.0.part q me.1 me.1 (λ k. refl) es eq eh
      (λ o there nowhere. subst (λ (l : List ℕ). length l < most_threads) (sym eq) (h.room o (sym es ∙ there) (sym et ∙ nowhere))) (λ none. eo ∙ h.settled (sym es ∙ none)) h)

  -- the thread is one still, and contracts see it with its part changed by f and its values by h
  pub record After (f : ℕ → Part T H → Part T H) (h : List (Opt (Opt T)) → List (Opt (Opt T))) (z z' : TableId) (n : ℕ) (hand : List ℕ) (me me' : Sat T H W) (kept : List T) (room : ℕ) : Type 0 where
    pub fits : IsThread z' n hand me' kept room
    pub sees : (es : List Entry) (lo : Space) (nx : ℕ) (a : Known T H W) → known_as z n me es lo nx ≡ a → known_as z' n me' es lo nx ≡ record a { part = f a.number a.part; values = h a.values }

  -- the queue of the object whose spin word the thread has stands first in its hand
  pub record QueueAtHand (me front : Sat T H W) (hand : List ℕ) (o : ℕ) : Type 0 where
    pub far : o < 192
    pub spins : me.0.part.spin ≡ Some o
    pub same : front.0 ≡ me.0
    pub first : front.1 ≡ (queue_at o, Queue (queue_of me.0.part.queue)) ∷ rest front.1
    pub refill : (zs : List ℕ) → Refilled (queue_at o) (Queue (queue_of zs)) hand me.1 ((queue_at o, Queue (queue_of zs)) ∷ rest front.1)

  pub queue_at_hand : (z : TableId) (n : ℕ) (hand hand' : List ℕ) (me front : Sat T H W) (o : ℕ) {kept : List T} {room : ℕ} → IsThread z n hand me kept room → me.0.part.spin ≡ Some o
      → front.0 ≡ me.0 → keys front.1 ≡ hand' → IsDistinct front.1 → Below 256 front.1 → ((k : ℕ) → find k front.1 ≡ find k me.1) → ((x : Slot T) → find o me.1 ≡ Some x → front.1 ≡ (o, x) ∷ rest front.1) → QueueAtHand me front hand' o
  queue_at_hand z n hand hand' me front o i here same keyed distinct below found first = let at = first (Queue (queue_of me.0.part.queue)) (i.hands.queue_in o here) in record {
    far = i.hands.below o here;
    spins = here;
    same = same;
    first = at;
    refill = λ zs. refilled o (Queue (queue_of me.0.part.queue)) (Queue (queue_of zs)) hand' me.1 front.1 at found keyed distinct below;
  }

  -- what contracts see of a thread after the queue became zs, by a step that changed the part by f
  pub requeued_seen : (f : ℕ → Part T H → Part T H) (zs : List ℕ) (s : Slot T) (z z' : TableId) (n : ℕ) (hand hand' : List ℕ) (me front me' : Sat T H W) (o : ℕ) {kept : List T} {room : ℕ} → IsThread z n hand me kept room → QueueAtHand me front hand' o → z' ≡ z → s ≡ Queue (queue_of zs)
      → me' ≡ (with_part front.0 (f front.0.number front.0.part), (queue_at o, s) ∷ rest front.1)
      → (es : List Entry) (lo : Space) (nx : ℕ) (a : Known T H W) → known_as z n me es lo nx ≡ a → known_as z' n me' es lo nx ≡ record a { part = f a.number a.part }
  requeued_seen f zs s z z' n hand hand' me front me' o i at ez is em es lo nx a v =
      let ds : List (ℕ × Slot T) = (queue_at o, Queue (queue_of zs)) ∷ rest front.1 in
      let r = at.refill zs in
      let far = at.far in
      let number : front.0.number ≡ n = ap (λ v. v.number) at.same ∙ i.numbered in
      let now : me' ≡ (with_part me.0 (f n me.0.part), ds) = em ∙ (λ j. (with_part (at.same j) (f (number j) (at.same j).part), (queue_at o, is j) ∷ rest front.1)) in
      seen_as f (λ vs. vs) z z' n es lo me me' ds a v ez now (values-same me.1 ds (λ m. r.elsewhere (value_at m) (λ e. omega arith)))

  -- after the queue became zs, by a step that changed the part by f
  pub requeued : (f : ℕ → Part T H → Part T H) (zs : List ℕ) (s : Slot T) (z z' : TableId) (n : ℕ) (hand hand' : List ℕ) (me front me' : Sat T H W) (o : ℕ) {kept : List T} {room : ℕ} → IsThread z n hand me kept room → QueueAtHand me front hand' o → z' ≡ z → s ≡ Queue (queue_of zs)
      → me' ≡ (with_part front.0 (f front.0.number front.0.part), (queue_at o, s) ∷ rest front.1) → (f n me.0.part).held ≡ me.0.part.held → (f n me.0.part).spin ≡ me.0.part.spin → (f n me.0.part).queue ≡ zs → ((f n me.0.part).stand ≡ None → length zs < most_threads)
      → After f (λ vs. vs) z z' n hand' me me' kept room
  requeued f zs s z z' n hand hand' me front me' o i at ez is em eh es eq space =
      let q = f n me.0.part in
      let ds : List (ℕ × Slot T) = (queue_at o, Queue (queue_of zs)) ∷ rest front.1 in
      let r = at.refill zs in
      let far = at.far in
      let number : front.0.number ≡ n = ap (λ v. v.number) at.same ∙ i.numbered in
      let now : me' ≡ (with_part me.0 q, ds) = em ∙ (λ j. (with_part (at.same j) (f (number j) (at.same j).part), (queue_at o, is j) ∷ rest front.1)) in record {
        fits = fit_moved z z' n hand hand' me me' q ds ez now i r.keyed r.distinct r.below (ap length eh) (hands-queue me.0.part q me.1 ds o zs far r.here r.elsewhere at.spins es eq eh space i.hands);
        sees = requeued_seen f zs s z z' n hand hand' me front me' o i at ez is em;
      }

  -- the value of the mutex m, with this in its slot, stands first in the hand
  pub record ValueAtHand (me front : Sat T H W) (hand : List ℕ) (m : ℕ) (y : Opt T) : Type 0 where
    pub there : find (value_at m) me.1 ≡ Some (Value y)
    pub same : front.0 ≡ me.0
    pub first : front.1 ≡ (value_at m, Value y) ∷ rest front.1
    pub refill : (x : Opt T) → Refilled (value_at m) (Value x) hand me.1 ((value_at m, Value x) ∷ rest front.1)

  pub value_at_hand : (hand : List ℕ) (me front : Sat T H W) (m : ℕ) (y : Opt T) → find (value_at m) me.1 ≡ Some (Value y)
      → front.0 ≡ me.0 → keys front.1 ≡ hand → IsDistinct front.1 → Below 256 front.1 → ((k : ℕ) → find k front.1 ≡ find k me.1) → ((x : Slot T) → find (value_at m) me.1 ≡ Some x → front.1 ≡ (value_at m, x) ∷ rest front.1) → ValueAtHand me front hand m y
  value_at_hand hand me front m y there same keyed distinct below found first = let at = first (Value y) there in record {
    there = there;
    same = same;
    first = at;
    refill = λ x. refilled (value_at m) (Value y) (Value x) hand me.1 front.1 at found keyed distinct below;
  }

  -- after the value in the slot became x, without a step
  pub moved : (x : Opt T) (s : Slot T) (z z' : TableId) (n : ℕ) (hand hand' : List ℕ) (me front : Sat T H W) (m : ℕ) (y : Opt T) {kept : List T} {room : ℕ} → m < 64 → IsThread z n hand me kept room → ValueAtHand me front hand' m y → z' ≡ z → s ≡ Value x
      → After (λ _ p. p) (λ vs. set vs m (Some x)) z z' n hand' me (front.0, (value_at m, s) ∷ rest front.1) kept room
  moved x s z z' n hand hand' me front m y low i at ez is =
      let ds : List (ℕ × Slot T) = (value_at m, Value x) ∷ rest front.1 in
      let me' : Sat T H W = (front.0, (value_at m, s) ∷ rest front.1) in
      let r = at.refill x in
      let now : me' ≡ (with_part me.0 me.0.part, ds) = λ j. (at.same j, (value_at m, is j) ∷ rest front.1) in record {
        fits = fit_moved z z' n hand hand' me me' me.0.part ds ez now i r.keyed r.distinct r.below refl (hands-value me.0.part me.0.part me.1 ds m y x at.there r.here r.elsewhere refl i.hands);
        sees = λ es lo nx a v. seen_as (λ _ p. p) (λ vs. set vs m (Some x)) z z' n es lo me me' ds a v ez now (values-set m (Some x) me.1 ds low (ap value_in r.here) (λ k ne. r.elsewhere (value_at k) (λ e. ne (omega arith))));
      }

  pub value_is : (m : ℕ) (y : Opt T) (z : TableId) (n : ℕ) (es : List Entry) (lo : Space) {nx : ℕ} (me : Sat T H W) (a : Known T H W) → known_as z n me es lo nx ≡ a → get_elem? a.values m ≡ some (Some y) → find (value_at m) me.1 ≡ Some (Value y)
  value_is m y z n es lo me a v e = value-found m y me.1 (ap (λ k. get_elem? k.values m) v ∙ e)

  -- an event that the step made, as contracts see it
  pub makes_as : (e : Event) (u : List Event) (z z' : TableId) (n : ℕ) (es : List Entry) (lo : Space) {nx : ℕ} (me me' : Sat T H W) (q : Part T H) (ds : List (ℕ × Slot T)) (a : Known T H W) → known_as z n me es lo nx ≡ a → z' ≡ z → me' ≡ (with_part me.0 q, ds)
      → Grows n me.0.part u e → q.seen ≡ (me.0.part.seen ++ u) ++ e ∷ [] → q.mine ≡ me.0.part.mine ++ e ∷ [] → q.places ≡ me.0.part.places ++ length (me.0.part.seen ++ u) ∷ [] → Makes e a (known_as z' n me' es lo nx)
  makes_as e u z z' n es lo {nx} me me' q ds a v ez em grows seen mine places = subst (λ (t : TableId × Sat T H W × Known T H W). Makes e t.2 (known_as t.0 n t.1 es lo nx)) (λ i. (sym ez i, sym em i, v i)) (u, grows, seen, mine, places)

  -- a step told the event e, which has the number of its thread, and changed the part by f besides
  abbrev pub HistoryItem : (ℕ → Event) → (Part T H → Part T H) → Sat T H W → Sat T H W → Type 0
  HistoryItem e f me me' = (between : List Event) × Grows me.0.number me.0.part between (e me.0.number) × (me' ≡ (with_part me.0 (f (recorded me.0.part (me.0.part.seen ++ between) (e me.0.number))), me.1))

  pub recorded_fits : (e : ℕ → Event) (f : Part T H → Part T H) (z z' : TableId) (n : ℕ) (hand : List ℕ) (me me' : Sat T H W) {kept : List T} {room : ℕ} → HistoryItem e f me me' → z' ≡ z → IsThread z n hand me kept room
      → ((q : Part T H) → (f q).held ≡ q.held) → ((q : Part T H) → (f q).spin ≡ q.spin) → ((q : Part T H) → (f q).queue ≡ q.queue) → ((q : Part T H) → (f q).owed ≡ q.owed) → ((q : Part T H) → (f q).stand ≡ q.stand) → IsThread z' n hand me' kept room
  recorded_fits e f z z' n hand me me' u ez i eh es eq eo et = let q = recorded me.0.part (me.0.part.seen ++ u.0) (e me.0.number) in fit_noted z z' n hand me me' (f q) ez u.2 i (eh q) (es q) (eq q) (eo q) (et q)

  pub recorded_event : (e : ℕ → Event) (f : Part T H → Part T H) (z z' : TableId) (n : ℕ) (es : List Entry) (lo : Space) {nx : ℕ} (me me' : Sat T H W) (a : Known T H W) → HistoryItem e f me me' → known_as z n me es lo nx ≡ a → z' ≡ z → me.0.number ≡ n
      → ((q : Part T H) → (f q).seen ≡ q.seen) → ((q : Part T H) → (f q).mine ≡ q.mine) → ((q : Part T H) → (f q).places ≡ q.places) → Makes (e a.number) a (known_as z' n me' es lo nx)
  recorded_event e f z z' n es lo me me' a u v ez num seen mine places =
      let q = recorded me.0.part (me.0.part.seen ++ u.0) (e me.0.number) in
      let same : me.0.number ≡ a.number = num ∙ ap (λ k. k.number) v in
      makes_as (e a.number) u.0 z z' n es lo me me' (f q) me.1 a v ez u.2 (subst (λ (t : ℕ × ℕ). Grows t.0 me.0.part u.0 (e t.1)) (λ j. (num j, same j)) u.1)
      (seen q ∙ (λ j. (me.0.part.seen ++ u.0) ++ e (same j) ∷ [])) (mine q ∙ (λ j. me.0.part.mine ++ e (same j) ∷ [])) (places q)

  -- the thread is one still after a step before which the slot of the mutex m, which stood first, was given back
  pub fit_freed : (m : ℕ) (s : Slot T) (z z0 z' : TableId) (n : ℕ) (hand0 hand hand' : List ℕ) (me front me' : Sat T H W) (q : Part T H) {kept : List T} {room : ℕ} → m < 64 → IsThread z n hand0 me kept room → z0 ≡ z → front.0 ≡ me.0
      → keys front.1 ≡ hand → IsDistinct front.1 → Below 256 front.1 → ((k : ℕ) → find k front.1 ≡ find k me.1) → front.1 ≡ (value_at m, s) ∷ rest front.1 → hand' ≡ past_first hand → z' ≡ z0 → me' ≡ (with_part front.0 q, rest front.1)
      → q.held ≡ set front.0.part.held m None → q.spin ≡ front.0.part.spin → q.queue ≡ front.0.part.queue → q.stand ≡ front.0.part.stand → q.owed ≡ front.0.part.owed → IsThread z' n hand' me' kept room
  fit_freed m s z z0 z' n hand0 hand hand' me front me' q {kept} {room} near i ez same ks d low found first hs ez' em eh es eq est eo =
      let h = i.hands in
      let p = ap (λ v. v.part) same in
      let wide = ap (λ x. length x.held) p ∙ i.wide in
      fit_given z0 z' n (value_at m) s hand hand' front me' q front.1 ez' em (ap (λ v. v.kind) same ∙ i.member) (ap (λ v. v.number) same ∙ i.numbered) wide i.bare (subst (λ (x : TableId). n ≡ 0 → x.slots ≤ value_at room) (sym ez) i.roomy) i.few
      ks hs d low first (ap length eh ∙ length-set front.0.part.held m None)
      (hands-freed front.0.part q front.1 (rest front.1) m s near wide d first refl eh es eq est eo
      (hands-same me.0.part front.0.part me.1 front.1 found (ap (λ x. x.spin) p) (ap (λ x. x.queue) p) (ap (λ x. x.held) p)
      (λ k there nowhere. subst (λ (l : List ℕ). length l < most_threads) (ap (λ x. x.queue) (sym p)) (h.room k (ap (λ x. x.spin) (sym p) ∙ there) (ap (λ x. x.stand) (sym p) ∙ nowhere))) (λ none. ap (λ x. x.owed) p ∙ h.settled (ap (λ x. x.spin) (sym p) ∙ none)) h))

  -- the event that a step told after a slot was brought to the front, by the number and the queue of its thread
  pub recorded_after : (e : ℕ → List ℕ → Event) (f : Part T H → Part T H) (u : List Event) (z z' : TableId) (n : ℕ) (es : List Entry) (lo : Space) {nx : ℕ} (me me' : Sat T H W) (front : View T H W) (ds : List (ℕ × Slot T)) (a : Known T H W) → known_as z n me es lo nx ≡ a → z' ≡ z → front ≡ me.0 → me.0.number ≡ n
      → Grows front.number front.part u (e front.number front.part.queue) → me' ≡ (with_part front (f (recorded front.part (front.part.seen ++ u) (e front.number front.part.queue))), ds)
      → ((q : Part T H) → (f q).seen ≡ q.seen) → ((q : Part T H) → (f q).mine ≡ q.mine) → ((q : Part T H) → (f q).places ≡ q.places) → Makes (e a.number a.queue) a (known_as z' n me' es lo nx)
  recorded_after e f u z z' n es lo me me' front ds a v ez same num grows em seen mine places =
      let w = subst (λ (x : View T H W). Grows x.number x.part u (e x.number x.part.queue) × (me' ≡ (with_part x (f (recorded x.part (x.part.seen ++ u) (e x.number x.part.queue))), ds))) same (grows, em) in
      let q = recorded me.0.part (me.0.part.seen ++ u) (e me.0.number me.0.part.queue) in
      let is : e me.0.number me.0.part.queue ≡ e a.number a.queue = λ j. e ((num ∙ ap (λ k. k.number) v) j) (ap (λ k. k.queue) v j) in
      makes_as (e a.number a.queue) u z z' n es lo me me' (f q) ds a v ez w.1 (subst (λ (t : ℕ × Event). Grows t.0 me.0.part u t.1) (λ j. (num j, is j)) w.0)
      (seen q ∙ (λ j. (me.0.part.seen ++ u) ++ is j ∷ [])) (mine q ∙ (λ j. me.0.part.mine ++ is j ∷ [])) (places q)

  -- the share that was picked with a value that was given back, and the stint that was entered
  pub freed_stint : (after : W → ℕ → ℕ → T → T → H → H) (m : ℕ) (share : Opt H) (stints : List (Stint T H)) (z z' : TableId) (n : ℕ) (es : List Entry) (lo : Space) {nx : ℕ} (me front me' : Sat T H W) (q : Part T H) (ds : List (ℕ × Slot T)) (a : Known T H W) → known_as z n me es lo nx ≡ a → front.0 ≡ me.0 → me.0.number ≡ n
      → ((y : T) → find (value_at m) me.1 ≡ Some (Value (Some y)) → front.1 ≡ (value_at m, Value (Some y)) ∷ rest front.1) → me' ≡ (with_part front.0 q, ds) → q.share ≡ share → q.stints ≡ stints
      → Entered after m front share stints → PicksShare after m a (known_as z' n me' es lo nx) × EntersStint after m a (known_as z' n me' es lo nx)
  freed_stint after m share stints z z' n es lo me front me' q ds a v same num first em eq ek records =
      let number : front.0.number ≡ a.number = ap (λ u. u.number) same ∙ (num ∙ ap (λ k. k.number) v) in
      let says = λ (w : W) (s : H) (x y : T) (world : a.world ≡ Some w) (had : a.share ≡ Some s) (got : Holds a m x) (there : IsIn a m y). records w s x y (ap (λ u. u.world) same ∙ (ap (λ k. k.world) v ∙ world)) (ap (λ u. u.part.share) same ∙ (ap (λ k. k.share) v ∙ had))
      (ap (λ u. get_elem? u.part.held m) same ∙ (ap (λ k. get_elem? k.held m) v ∙ got)) (first y (value_is m (Some y) z n es lo me a v there)) in (
        (λ w s x y world had got there. ap (λ t. t.0.part.share) em ∙ (eq ∙ ((says w s x y world had got there).0 ∙ (λ j. Some (after w m (number j) x y s))))),
        (λ w s x y world had got there. ap (λ t. t.0.part.stints) em ∙ (ek ∙ ((says w s x y world had got there).1 ∙ (λ j. (ap (λ u. u.part.stints) same ∙ ap (λ k. k.stints) v) j ++ stint after w m (number j) x y s ∷ [])))),
      )

module _ {A : Type 0} where
  pub set_at : (xs : List A) (i : ℕ) (x y : A) → get_elem? xs i ≡ some y → get_elem? (set xs i x) i ≡ some x
  set_at xs i x y at = set_here xs i x (at_within xs i y at)
