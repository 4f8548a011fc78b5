-- The legend explains the marks of the events that are drawn, and no others.
use Rattle.std.proofs.Common.{◌≡◌, ℕ, ◌<◌, Bool, true, false, cond, eqb, List, [], ◌∷◌, ◌++◌, length, refl, ap, sym, subst, ◌∙◌, ⊎_elim, inl, inr, ◌⊎◌, eq-eqb, Some, arith}
use Rattle.std.specs.Prelude.{codes, is_some, nat_lt, slice_index_or, ◌==◌}
use Rattle.std.specs.declared.option.Option.{Option}
use Rattle.std.proofs.lemmas.Bool.{cond-true, eqb-true, true≢false}
use Rattle.larch_actions.specs.declared.event.Layout.{Layout}
use Rattle.larch_actions.specs.declared.event.Event.{Event}
use Rattle.larch_actions.specs.State.{count_below}
use Rattle.trace_board.specs.declared.history.Origin.{Origin}
use Rattle.trace_board.specs.declared.marks.Mark.{Mark}
use Rattle.trace_board.specs.declared.marks.Mark.TheVariants.{Acquire, Release, Enqueue, Resume, Signal, Broadcast, P, V, Alert, TestAlert, AlertEnqueue, AlertReturn, AlertRaise, AlertPReturn, AlertPRaise, Fork, End, Join, Failed}
use Rattle.trace_board.specs.declared.marks.Effects.{Effects}
use Rattle.trace_board.specs.History.{origin_of}
use Rattle.trace_board.specs.Marks.{marks}
use Rattle.trace_board.specs.Tracked.{Tracked, tracked_since, extended, came}
use Rattle.trace_shapes.specs.declared.view.DrawnRange.{DrawnRange}
use Rattle.trace_shapes.specs.declared.legend.Entry.TheVariants.{OfMark}
use Rattle.trace_shapes.specs.declared.legend.TheConstants.{ARROWS, TAKINGS, HOLDS, WAITS, LET_GO}
use Rattle.trace_shapes.specs.Looks.{look_of}
use Rattle.trace_shapes.specs.Shapes.{begins}
use Rattle.trace_shapes.specs.Legend.{name_of, entry_at, entry_text, entry_if, is_shown, shown_before, legend_text}
use Rattle.trace_shapes.specs.Places.{in_view, column}
use Rattle.trace_picture.specs.Shown.{shown_if, going_on, opened, lets_go_on, shown_by, has_arrows, shown_since}
use Rattle.trace_picture.specs.Seen.{HasText, MarksAreExplained, DrawnAreExplained}
use Rattle.trace_picture.proofs.Parts.{each_has}
use Rattle.trace_picture.proofs.Seeing.{index_of}

-- what is shown once stays so
stays_if : (name : ℕ) (so : Bool) (o : Origin) (f : ℕ → Option Origin) (x : ℕ) → is_some (f x) ≡ true → is_some (shown_if name so o f x) ≡ true
stays_if name false o f x h = h
stays_if name true o f x h = at (eqb x name)
  where
    at : (b : Bool) → is_some (cond b (Some o) (f x)) ≡ true
    at true = refl
    at false = h

both_ways : (b : Bool) (f g : ℕ → Option Origin) (x : ℕ) → is_some (f x) ≡ true → is_some (g x) ≡ true → is_some ((cond b f g) x) ≡ true
both_ways true f g x h k = h
both_ways false f g x h k = k

one_way : (b : Bool) (f g : ℕ → Option Origin) (x : ℕ) → is_some ((cond b f g) x) ≡ true → ((b ≡ true) × (is_some (f x) ≡ true)) ⊎ (is_some (g x) ≡ true)
one_way true f g x h = inl (refl, h)
one_way false f g x h = inr h

stays_opened : (l : Layout) (v : DrawnRange) (k : Tracked) (o : Origin) (f : ℕ → Option Origin) (x : ℕ) → is_some (f x) ≡ true → is_some (opened l v k o f x) ≡ true
stays_opened l v k o f x h =
    let held = nat_lt 0 (count_below (λ m. is_some (k.held m)) l.mutexes) in
    let taken = nat_lt 0 (count_below (λ s. is_some (k.taken s)) l.semaphores) in
    let waits = nat_lt 0 (count_below (λ t. is_some (k.waits t)) l.threads) in
    let let_go = nat_lt 0 (count_below (λ t. is_some (came (k.stands t))) l.threads) in
    let with_held = shown_if HOLDS held o f in
    let with_taken = shown_if TAKINGS taken o with_held in
    let with_waits = shown_if WAITS waits o with_taken in
    both_ways (column v o.place == 0) (going_on l k o f) f x
    (stays_if LET_GO let_go o with_waits x (stays_if WAITS waits o with_taken x (stays_if TAKINGS taken o with_held x (stays_if HOLDS held o f x h)))) h

stays_by : (o : Origin) (m : Effects) (arrows : Bool) (f : ℕ → Option Origin) (x : ℕ) → is_some (shown_if (look_of m.mark).letter true o f x) ≡ true → is_some (shown_by o m arrows f x) ≡ true
stays_by o m arrows f x h =
    let with_mark = shown_if (look_of m.mark).letter true o f in
    let with_held = shown_if HOLDS (begins m.mutex) o with_mark in
    let with_taken = shown_if TAKINGS (begins m.semaphore) o with_held in
    let with_waits = shown_if WAITS (begins m.wait) o with_taken in
    let with_arrows = shown_if ARROWS arrows o with_waits in
    stays_if LET_GO (lets_go_on m arrows) o with_arrows x
    (stays_if ARROWS arrows o with_waits x
    (stays_if WAITS (begins m.wait) o with_taken x (stays_if TAKINGS (begins m.semaphore) o with_held x (stays_if HOLDS (begins m.mutex) o with_mark x h))))

module _ (l : Layout) (v : DrawnRange) where
  stays_after : (past : List Event) (e : Event) (x : ℕ) → is_some (shown_since l v past x) ≡ true → is_some (shown_since l v (e ∷ past) x) ≡ true
  stays_after past e x h =
      let k = tracked_since past in
      let o = origin_of (length past) e in
      let before = shown_since l v past in
      let f = opened l v k o before in
      let now = shown_by o (marks e) (has_arrows l k o (marks e)) f in
      both_ways (in_view v (length past)) now before x (stays_by o (marks e) _ f x (stays_if _ true o f x (stays_opened l v k o before x h))) h

  stays : (es past : List Event) (x : ℕ) → is_some (shown_since l v past x) ≡ true → is_some (shown_since l v (extended past es) x) ≡ true
  stays [] past x h = h
  stays (e ∷ es) past x h = stays es (e ∷ past) x (stays_after past e x h)

  -- an event in view shows its mark
  shows : (past : List Event) (e : Event) → in_view v (length past) ≡ true → is_some (shown_since l v (e ∷ past) (look_of (marks e).mark).letter) ≡ true
  shows past e seen =
      let n = length past in
      let o = origin_of n e in
      let k = tracked_since past in
      let f = opened l v k o (shown_since l v past) in
      let x = (look_of (marks e).mark).letter in
      let arrows = has_arrows l k o (marks e) in
      let own : is_some (shown_if x true o f x) ≡ true = ap (λ b. is_some (cond b (Some o) (f x))) (eq-eqb x x refl) in
      ap (λ (g : ℕ → Option Origin). is_some (g x)) (cond-true (in_view v n) (shown_by o (marks e) arrows f) (shown_since l v past) seen) ∙ stays_by o (marks e) arrows f x own

-- the place of a mark's entry
place_of : (m : Mark) → (n : ℕ) × (n < 24) × (entry_at n ≡ OfMark m)
place_of Acquire = (0, omega arith, refl)
place_of Release = (1, omega arith, refl)
place_of Enqueue = (2, omega arith, refl)
place_of Resume = (3, omega arith, refl)
place_of Signal = (4, omega arith, refl)
place_of Broadcast = (5, omega arith, refl)
place_of P = (6, omega arith, refl)
place_of V = (7, omega arith, refl)
place_of Alert = (8, omega arith, refl)
place_of TestAlert = (9, omega arith, refl)
place_of AlertEnqueue = (10, omega arith, refl)
place_of AlertReturn = (11, omega arith, refl)
place_of AlertRaise = (12, omega arith, refl)
place_of AlertPReturn = (13, omega arith, refl)
place_of AlertPRaise = (14, omega arith, refl)
place_of Fork = (15, omega arith, refl)
place_of End = (16, omega arith, refl)
place_of Join = (17, omega arith, refl)
place_of Failed = (18, omega arith, refl)

pub marks_are_explained : MarksAreExplained
unfolding legend_text
marks_are_explained = λ l v past e es seen.
    let m = (marks e).mark in
    let shown = shown_since l v (extended (e ∷ past) es) in
    let p = place_of m in
    let n = p.0 in
    let there : is_some (shown (look_of m).letter) ≡ true = stays l v es (e ∷ past) (look_of m).letter (shows l v past e seen) in
    let is : is_shown shown n ≡ true = subst (λ x. is_some (shown (name_of x)) ≡ true) (sym p.2) there in
    let text : entry_if shown n ≡ entry_text (shown_before shown n) (OfMark m) =
    cond-true (is_shown shown n) (entry_text (shown_before shown n) (entry_at n)) [] is ∙ ap (entry_text (shown_before shown n)) p.2
    in
    (shown_before shown n, subst (HasText (legend_text shown)) text (each_has (entry_if shown) 24 n p.1))

-- a mark is known by its letter, which is the name of nothing else
abbrev letters : List ℕ
letters = codes "ARWCSBPVLTwcxpyfEJF"

abbrev number : Mark → ℕ
number m = index_of (look_of m).letter letters

abbrev all_marks : List Mark
all_marks =
    Acquire ∷ Release ∷ Enqueue ∷ Resume ∷ Signal ∷ Broadcast ∷ P ∷ V ∷ Alert ∷ TestAlert ∷ AlertEnqueue ∷ AlertReturn ∷ AlertRaise ∷ AlertPReturn
    ∷ AlertPRaise ∷ Fork ∷ End ∷ Join ∷ Failed ∷ []

numbered : (m : Mark) → (number m < 19) × (slice_index_or all_marks (number m) Failed ≡ m)
unfolding index_of
numbered Acquire = (omega arith, refl)
numbered Release = (omega arith, refl)
numbered Enqueue = (omega arith, refl)
numbered Resume = (omega arith, refl)
numbered Signal = (omega arith, refl)
numbered Broadcast = (omega arith, refl)
numbered P = (omega arith, refl)
numbered V = (omega arith, refl)
numbered Alert = (omega arith, refl)
numbered TestAlert = (omega arith, refl)
numbered AlertEnqueue = (omega arith, refl)
numbered AlertReturn = (omega arith, refl)
numbered AlertRaise = (omega arith, refl)
numbered AlertPReturn = (omega arith, refl)
numbered AlertPRaise = (omega arith, refl)
numbered Fork = (omega arith, refl)
numbered End = (omega arith, refl)
numbered Join = (omega arith, refl)
numbered Failed = (omega arith, refl)

same_mark : (m k : Mark) → (look_of m).letter ≡ (look_of k).letter → m ≡ k
same_mark m k e = sym (numbered m).1 ∙ ap (λ x. slice_index_or all_marks (index_of x letters) Failed) e ∙ (numbered k).1

no_mark : (m : Mark) (name : ℕ) → index_of name letters ≡ 19 → (look_of m).letter ≡ name → ⊥
no_mark m name out e = absurd (omega (arith, (numbered m).0, ap (λ x. index_of x letters) e, out))

is_no_mark : (name : ℕ) → index_of name letters ≡ 19 → (m : Mark) (so : Bool) (o : Origin) (f : ℕ → Option Origin)
    → is_some (shown_if name so o f (look_of m).letter) ≡ true → is_some (f (look_of m).letter) ≡ true
is_no_mark name out m false o f h = h
is_no_mark name out m true o f h = at (eqb (look_of m).letter name) refl h
  where
    at : (b : Bool) → eqb (look_of m).letter name ≡ b → is_some (cond b (Some o) (f (look_of m).letter)) ≡ true → is_some (f (look_of m).letter) ≡ true
    at true same h = absurd (no_mark m name out (eqb-true (look_of m).letter name same))
    at false other h = h

no_arrows : index_of ARROWS letters ≡ 19
unfolding index_of
no_arrows = refl

no_takings : index_of TAKINGS letters ≡ 19
unfolding index_of
no_takings = refl

no_holds : index_of HOLDS letters ≡ 19
unfolding index_of
no_holds = refl

no_waits : index_of WAITS letters ≡ 19
unfolding index_of
no_waits = refl

no_let_go : index_of LET_GO letters ≡ 19
unfolding index_of
no_let_go = refl

-- what goes on into a band is no mark
before_opened : (l : Layout) (v : DrawnRange) (k : Tracked) (o : Origin) (f : ℕ → Option Origin) (m : Mark)
    → is_some (opened l v k o f (look_of m).letter) ≡ true → is_some (f (look_of m).letter) ≡ true
before_opened l v k o f m h =
    let held = nat_lt 0 (count_below (λ m. is_some (k.held m)) l.mutexes) in
    let taken = nat_lt 0 (count_below (λ s. is_some (k.taken s)) l.semaphores) in
    let waits = nat_lt 0 (count_below (λ t. is_some (k.waits t)) l.threads) in
    let let_go = nat_lt 0 (count_below (λ t. is_some (came (k.stands t))) l.threads) in
    let with_held = shown_if HOLDS held o f in
    let with_taken = shown_if TAKINGS taken o with_held in
    let with_waits = shown_if WAITS waits o with_taken in
    ⊎_elim (λ (a : (column v o.place == 0 ≡ true) × (is_some (going_on l k o f (look_of m).letter) ≡ true)).
    is_no_mark HOLDS no_holds m held o f
    (is_no_mark TAKINGS no_takings m taken o with_held (is_no_mark WAITS no_waits m waits o with_taken (is_no_mark LET_GO no_let_go m let_go o with_waits a.1))))
    (λ (was : is_some (f (look_of m).letter) ≡ true). was)
    (one_way (column v o.place == 0) (going_on l k o f) f (look_of m).letter h)

-- an event shows its own mark alone
before_by : (o : Origin) (e : Effects) (arrows : Bool) (f : ℕ → Option Origin) (m : Mark) → is_some (shown_by o e arrows f (look_of m).letter) ≡ true
    → (e.mark ≡ m) ⊎ (is_some (f (look_of m).letter) ≡ true)
before_by o e arrows f m h =
    let with_mark = shown_if (look_of e.mark).letter true o f in
    let with_held = shown_if HOLDS (begins e.mutex) o with_mark in
    let with_taken = shown_if TAKINGS (begins e.semaphore) o with_held in
    let with_waits = shown_if WAITS (begins e.wait) o with_taken in
    let with_arrows = shown_if ARROWS arrows o with_waits in
    own (eqb (look_of m).letter (look_of e.mark).letter) refl
    (is_no_mark HOLDS no_holds m (begins e.mutex) o with_mark
    (is_no_mark TAKINGS no_takings m (begins e.semaphore) o with_held
    (is_no_mark WAITS no_waits m (begins e.wait) o with_taken
    (is_no_mark ARROWS no_arrows m arrows o with_waits (is_no_mark LET_GO no_let_go m (lets_go_on e arrows) o with_arrows h)))))
  where
    own : (b : Bool) → eqb (look_of m).letter (look_of e.mark).letter ≡ b → is_some (cond b (Some o) (f (look_of m).letter)) ≡ true
        → (e.mark ≡ m) ⊎ (is_some (f (look_of m).letter) ≡ true)
    own true same h = inl (sym (same_mark m e.mark (eqb-true (look_of m).letter (look_of e.mark).letter same)))
    own false other h = inr h

module _ (l : Layout) (v : DrawnRange) (m : Mark) where
  abbrev WasDrawn : List Event → Type 0
  WasDrawn past = (after before : List Event) × (e : Event) × (past ≡ after ++ e ∷ before) × (in_view v (length before) ≡ true) × ((marks e).mark ≡ m)

  later : (e : Event) (past : List Event) → WasDrawn past → WasDrawn (e ∷ past)
  later e past d = (e ∷ d.0, d.1, d.2, ap (λ x. e ∷ x) d.3, d.4, d.5)

  was_drawn : (past : List Event) → is_some (shown_since l v past (look_of m).letter) ≡ true → WasDrawn past
  was_drawn [] h = absurd (true≢false (sym h))
  was_drawn (e ∷ past) h =
      let k = tracked_since past in
      let o = origin_of (length past) e in
      let before = shown_since l v past in
      let f = opened l v k o before in
      let arrows = has_arrows l k o (marks e) in
      let now = shown_by o (marks e) arrows f in
      ⊎_elim (λ (a : (in_view v (length past) ≡ true) × (is_some (now (look_of m).letter) ≡ true)).
      ⊎_elim (λ (is : (marks e).mark ≡ m). ([], past, e, refl, a.0, is))
      (λ (was : is_some (f (look_of m).letter) ≡ true). later e past (was_drawn past (before_opened l v k o before m was)))
      (before_by o (marks e) arrows f m a.1))
      (λ (was : is_some (before (look_of m).letter) ≡ true). later e past (was_drawn past was))
      (one_way (in_view v (length past)) now before (look_of m).letter h)

pub drawn_are_explained : DrawnAreExplained
drawn_are_explained = λ l v past m h. was_drawn l v m past h
