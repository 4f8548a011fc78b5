-- What is drawn: marks, bars and lanes.
use Rattle.std.proofs.Common.{◌≡◌, ℕ, suc, ◌+◌, ◌-◌, ◌*◌, ◌%◌, ◌<◌, ◌≤◌, Bool, true, false, cond, eqb, List, [], ◌∷◌, ◌++◌, length, length-append, refl, ap, sym, subst, ◌∙◌, append_assoc, Some, None, MatchOption, arith}
use Rattle.std.specs.Prelude.{codes, ◌&&◌}
use Rattle.std.specs.declared.option.Option.{Option}
use mathlib.Core.Option.{none, some, Option as Optional}
use Rattle.std.proofs.lemmas.Bool.{cond-true, true≢false}
use Rattle.larch_actions.specs.declared.event.Layout.{Layout}
use Rattle.larch_actions.specs.declared.event.Event.{Event}
use Rattle.larch_actions.specs.declared.event.Action.{Action}
use Rattle.larch_actions.specs.declared.event.Action.TheVariants.{Acquire, Release, Enqueue, Resume, AlertEnqueue, AlertReturn, AlertRaise, Signal, Broadcast, P, V, Alert, TestAlert, AlertPReturn, AlertPRaise, Fork, End, Join}
use Rattle.larch_actions.specs.Actions.{Spec, MeetsRequires}
use Rattle.trace_board.specs.declared.history.Origin.{Origin}
use Rattle.trace_board.specs.declared.history.Change.TheVariants.{Begins, Ends, Stays}
use Rattle.trace_board.specs.declared.rows.Bar.{Bar}
use Rattle.trace_board.specs.declared.rows.Bar.TheVariants.{Mutex, Semaphore}
use Rattle.trace_shapes.specs.declared.view.DrawnRange.{DrawnRange}
use Rattle.trace_shapes.specs.Looks.{look_of}
use Rattle.trace_board.specs.Marks.{marks, marks_of}
use Rattle.trace_board.specs.History.{origin_of}
use Rattle.trace_board.specs.Rows.{lane_in}
use Rattle.trace_board.specs.Tracked.{Tracked, tracked_since, tracked_after, extended, let_on_by}
use Rattle.trace_shapes.specs.declared.view.Band.{Band}
use Rattle.trace_shapes.specs.declared.view.Strip.{Strip}
use Rattle.trace_shapes.specs.declared.geometry.TheConstants.{LEFT, COLUMN, MARK_TOP, LANE, BAR_GAP}
use Rattle.trace_shapes.specs.Places.{in_view, band_of, row_in, lanes_top, event_x, mark_y, bar_x, bar_width}
use Rattle.trace_shapes.specs.Shapes.{begins, mark_id, place_text, box_text, bar_box, bar_name, bar_text, taken_text, span_text, given_text, line_of, number_text, mark_text, object_if, with_number}
use Rattle.trace_picture.specs.declared.plan.Page.{Page}
use Rattle.trace_picture.specs.Lives.{life_row}
use Rattle.trace_picture.specs.Bands.{opening, closing_after, up_to, strip_of, taken_strip, bar_if, taken_if, bar_ended, taken_ended, wait_ended, bars_ended, arrows_at, event_shapes, step_text}
use Rattle.trace_board.specs.Laws.{IsSince}
use Rattle.lock_order.specs.Order.{got}
use Rattle.trace_picture.proofs.Parts.{has_in}
use Rattle.trace_picture.specs.Seen.{kind_of, MarksDiffer, HasText, upper_of, EventsAreMarked, RingsAreNamed, BarsAreDrawn, TakingsAreDrawn}
use Rattle.trace_board.proofs.Extended.{length-extended}
use Rattle.trace_board.proofs.Holding as holding

-- the place of a letter among others
unfoldable pub index_of : ℕ → List ℕ → ℕ
index_of x [] = 0
index_of x (y ∷ ys) = cond (eqb x y) 0 (suc (index_of x ys))

by_letter : (t : ℕ) (a : Action) → index_of (look_of (marks_of t a).mark).letter (codes "ARWCSBPVLTwcxpyfEJ") ≡ kind_of a
unfolding index_of
by_letter t (Acquire m) = refl
by_letter t (Release m) = refl
by_letter t (Enqueue m c) = refl
by_letter t (Resume m c) = refl
by_letter t (AlertEnqueue m c) = refl
by_letter t (AlertReturn m c) = refl
by_letter t (AlertRaise m c) = refl
by_letter t (Signal c left) = refl
by_letter t (Broadcast c) = refl
by_letter t (P n) = refl
by_letter t (V n) = refl
by_letter t (Alert who) = refl
by_letter t (TestAlert b) = refl
by_letter t (AlertPReturn n) = refl
by_letter t (AlertPRaise n) = refl
by_letter t (Fork who) = refl
by_letter t End = refl
by_letter t (Join who) = refl

by_shown : (t : ℕ) (a : Action) → index_of (look_of (marks_of t a).mark).shown (codes "ARWCSBPV!?wcxpyFEJ") ≡ kind_of a
unfolding index_of
by_shown t (Acquire m) = refl
by_shown t (Release m) = refl
by_shown t (Enqueue m c) = refl
by_shown t (Resume m c) = refl
by_shown t (AlertEnqueue m c) = refl
by_shown t (AlertReturn m c) = refl
by_shown t (AlertRaise m c) = refl
by_shown t (Signal c left) = refl
by_shown t (Broadcast c) = refl
by_shown t (P n) = refl
by_shown t (V n) = refl
by_shown t (Alert who) = refl
by_shown t (TestAlert b) = refl
by_shown t (AlertPReturn n) = refl
by_shown t (AlertPRaise n) = refl
by_shown t (Fork who) = refl
by_shown t End = refl
by_shown t (Join who) = refl

pub marks_differ : MarksDiffer
marks_differ = λ t u a b ne. (
  (λ e. ne (sym (by_letter t a) ∙ ap (λ x. index_of x (codes "ARWCSBPVLTwcxpyfEJ")) e ∙ by_letter u b)),
  (λ e. ne (sym (by_shown t a) ∙ ap (λ x. index_of x (codes "ARWCSBPV!?wcxpyFEJ")) e ∙ by_shown u b)),
)

barred_there : (op num life mark object name box height span given end more arrow cl : List ℕ)
    → op ++ (num ++ life ++ mark ++ object ++ ((name ++ box ++ height ++ span ++ given ++ end) ++ more) ++ arrow) ++ cl
    ≡ (op ++ num ++ life ++ mark ++ object) ++ (name ++ box) ++ (height ++ (span ++ (given ++ (end ++ (more ++ (arrow ++ cl))))))
barred_there op num life mark object name box height span given end more arrow cl = simp append_assoc

taken_there : (op num life mark object bars name box height span end wait arrow cl : List ℕ)
    → op ++ (num ++ life ++ mark ++ object ++ (bars ++ (name ++ box ++ height ++ span ++ end) ++ wait) ++ arrow) ++ cl
    ≡ (op ++ num ++ life ++ mark ++ object ++ bars) ++ (name ++ box) ++ (height ++ (span ++ (end ++ (wait ++ (arrow ++ cl)))))
taken_there op num life mark object bars name box height span end wait arrow cl = simp append_assoc

marked_there : (op num life mark object bars arrow cl : List ℕ)
    → op ++ (num ++ life ++ mark ++ object ++ bars ++ arrow) ++ cl ≡ (op ++ num ++ life) ++ mark ++ (object ++ (bars ++ (arrow ++ cl)))
marked_there op num life mark object bars arrow cl = simp append_assoc

mark_there : (l : Layout) (v : DrawnRange) (p : Page) (k : Tracked) (n : ℕ) (e : Event) → in_view v n ≡ true → HasText (step_text l v p k n e) (mark_text v.ordered (band_of l v p.plan n) n e)
unfolding step_text event_shapes
mark_there l v p k n e seen =
    let b = band_of l v p.plan n in
    let op = opening l v p k n in
    let life = life_row b n (marks e).life in
    let mark = mark_text v.ordered b n e in
    let object = object_if b n e in
    let bars = bars_ended (up_to b n) k (marks e) in
    let arrow = arrows_at b k (origin_of n e) (marks e) in
    let cl = closing_after l v p.plan (tracked_after n e k) n in
    record {
      before = op ++ number_text b n ++ life;
      after = object ++ (bars ++ (arrow ++ cl));
      text = cond-true (in_view v n) (op ++ event_shapes v.ordered b k n e ++ cl) [] seen ∙ marked_there op (number_text b n) life mark object bars arrow cl;
    }

pub events_are_marked : EventsAreMarked
unfolding mark_text
events_are_marked = λ l v p k n e seen.
    let b = band_of l v p.plan n in
    let column : n - b.start ≡ (n - v.first) % 50 = omega arith in
    let tag = codes "<use href='#" ++ (look_of (marks e).mark).letter ∷ [] in
    let place : ℕ → List ℕ = λ c. place_text (LEFT + COLUMN * c) (upper_of p e.thread.0 + MARK_TOP) in
    let id = mark_id v.ordered n e in
    let rest = codes "'><title>" ++ line_of n e in
    let end = codes "</title></use>\n" in
    has_in (step_text l v p k n e) (mark_text v.ordered b n e) (tag ++ place ((n - v.first) % 50)) (mark_there l v p k n e seen)
    (record { before = []; after = id ++ (rest ++ end); text = at_once (tag ++ place (n - b.start)) id rest end ∙ ap (λ c. [] ++ (tag ++ place c) ++ (id ++ (rest ++ end))) column })
  where
    at_once : (part id rest end : List ℕ) → part ++ id ++ rest ++ end ≡ [] ++ part ++ (id ++ (rest ++ end))
    at_once part id rest end = simp append_assoc

-- an event by which a mutex is got takes it
takes_got : (t : ℕ) (a : Action) (m : ℕ) → got a ≡ some m → begins (marks_of t a).mutex ≡ true
takes_got t (Acquire x) m h = refl
takes_got t (Resume x c) m h = refl
takes_got t (AlertReturn x c) m h = refl
takes_got t (AlertRaise x c) m h = refl
takes_got t (Release x) m h = let bad : none ≡ some m = h in cc
takes_got t (Enqueue x c) m h = let bad : none ≡ some m = h in cc
takes_got t (AlertEnqueue x c) m h = let bad : none ≡ some m = h in cc
takes_got t (Signal c left) m h = let bad : none ≡ some m = h in cc
takes_got t (Broadcast c) m h = let bad : none ≡ some m = h in cc
takes_got t (P s) m h = let bad : none ≡ some m = h in cc
takes_got t (V s) m h = let bad : none ≡ some m = h in cc
takes_got t (Alert who) m h = let bad : none ≡ some m = h in cc
takes_got t (TestAlert b) m h = let bad : none ≡ some m = h in cc
takes_got t (AlertPReturn s) m h = let bad : none ≡ some m = h in cc
takes_got t (AlertPRaise s) m h = let bad : none ≡ some m = h in cc
takes_got t (Fork who) m h = let bad : none ≡ some m = h in cc
takes_got t End m h = let bad : none ≡ some m = h in cc
takes_got t (Join who) m h = let bad : none ≡ some m = h in cc

pub rings_are_named : RingsAreNamed
unfolding mark_text
rings_are_named = λ l v p k es n ordered f seen.
    let b = band_of l v p.plan n.place in
    let e = f.event in
    let tag = codes "<use href='#" ++ (look_of (marks e).mark).letter ∷ [] in
    let place = place_text (event_x b n.place) (mark_y b e.thread.0) in
    let name = with_number (codes "' id='e") n.place in
    let title = codes "'><title>" ++ line_of n.place e in
    let end = codes "</title></use>\n" in
    let both : (v.ordered && begins (marks e).mutex) ≡ true = ap (λ x. x && begins (marks e).mutex) ordered ∙ takes_got e.thread.0 e.action n.inner.0 f.gets in
    let id : mark_id v.ordered n.place e ≡ name = cond-true (v.ordered && begins (marks e).mutex) name [] both in
    has_in (step_text l v p k n.place e) (mark_text v.ordered b n.place e) (name ++ title) (mark_there l v p k n.place e seen)
    (record { before = tag ++ place; after = end; text = ap (λ x. (tag ++ place) ++ x ++ title ++ end) id ∙ inside (tag ++ place) name title end })
  where
    inside : (a b c d : List ℕ) → a ++ b ++ c ++ d ≡ a ++ (b ++ c) ++ d
    inside a b c d = simp append_assoc

-- the bar that the event ends is in what it adds
module _ (l : Layout) (v : DrawnRange) (p : Page) (k : Tracked) (n : ℕ) (e : Event) (seen : in_view v n ≡ true) (m : ℕ) (o : Origin) where
  abbrev b : Band
  b = band_of l v p.plan n

  abbrev box_at : ℕ → List ℕ
  box_at lane = box_text (bar_x (up_to b n) o) (upper_of p o.thread.0 + lanes_top (row_in p.plan o.thread.0).kind + LANE * lane) (bar_width (up_to b n) o)

  box_is : (s : Strip) → s.since ≡ o → bar_box (up_to b n) s ≡ box_at s.lane
  unfolding bar_box
  box_is s is = ap (λ (q : Origin). box_text (bar_x (up_to b n) q) (upper_of p q.thread.0 + lanes_top (row_in p.plan q.thread.0).kind + LANE * s.lane) (bar_width (up_to b n) q)) is

  abbrev taken : List ℕ
  taken = taken_ended (up_to b n) k (marks e).semaphore

  abbrev wait : List ℕ
  wait = wait_ended (up_to b n) k (let_on_by k (marks e).waker) (marks e).wait

  -- of a mutex
  bar_there : (marks e).mutex ≡ Ends m → k.held m ≡ Some o → HasText (step_text l v p k n e) (with_number (codes "<rect class='m") m ++ box_at (lane_in (k.rows o.thread.0) (Mutex m)))
  unfolding step_text event_shapes bar_text
  bar_there effect held =
      let op = opening l v p k n in
      let num = number_text b n in
      let life = life_row b n (marks e).life in
      let mark = mark_text v.ordered b n e in
      let object = object_if b n e in
      let arrow = arrows_at b k (origin_of n e) (marks e) in
      let cl = closing_after l v p.plan (tracked_after n e k) n in
      let strip = strip_of k m o in
      let name = with_number (codes "<rect class='m") m in
      let height = with_number (codes "' height='12' rx='2'><title>m") m in
      let span = span_text (codes " held by t") (up_to b n) o in
      let given = given_text o.thread.0 (k.given m) in
      let end = bar_name (codes "'>m") (up_to b n) strip in
      let is : bar_ended (up_to b n) k (marks e).mutex ≡ name ++ box_at strip.lane ++ height ++ span ++ given ++ end =
      ap (λ t. bar_ended (up_to b n) k t) effect ∙ ap (λ h. bar_if (up_to b n) k m h) held ∙ ap (λ z. name ++ z ++ height ++ span ++ given ++ end) (box_is strip refl)
      in
      record {
        before = op ++ num ++ life ++ mark ++ object;
        after = height ++ (span ++ (given ++ (end ++ ((taken ++ wait) ++ (arrow ++ cl)))));
        text =
            cond-true (in_view v n) (op ++ event_shapes v.ordered b k n e ++ cl) [] seen
            ∙ ap (λ b. op ++ (num ++ life ++ mark ++ object ++ b ++ arrow) ++ cl) (append_assoc (bar_ended (up_to b n) k (marks e).mutex) taken wait ∙ ap (λ b. b ++ (taken ++ wait)) is)
            ∙ barred_there op num life mark object name (box_at strip.lane) height span given end (taken ++ wait) arrow cl;
      }

  -- of a semaphore
  taking_there : (marks e).semaphore ≡ Ends m → k.taken m ≡ Some o → HasText (step_text l v p k n e) (codes "<rect class='e" ++ box_at (lane_in (k.rows o.thread.0) (Semaphore m)))
  unfolding step_text event_shapes taken_text
  taking_there effect since =
      let op = opening l v p k n in
      let num = number_text b n in
      let life = life_row b n (marks e).life in
      let mark = mark_text v.ordered b n e in
      let object = object_if b n e in
      let bars = bar_ended (up_to b n) k (marks e).mutex in
      let arrow = arrows_at b k (origin_of n e) (marks e) in
      let cl = closing_after l v p.plan (tracked_after n e k) n in
      let strip = taken_strip k m o in
      let name = codes "<rect class='e" in
      let height = with_number (codes "' height='12' rx='2'><title>s") m in
      let span = span_text (codes " taken by t") (up_to b n) o in
      let end = bar_name (codes "'>s") (up_to b n) strip in
      let is : taken ≡ name ++ box_at strip.lane ++ height ++ span ++ end =
      ap (λ t. taken_ended (up_to b n) k t) effect ∙ ap (λ h. taken_if (up_to b n) k m h) since ∙ ap (λ z. name ++ z ++ height ++ span ++ end) (box_is strip refl)
      in
      record {
        before = op ++ num ++ life ++ mark ++ object ++ bars;
        after = height ++ (span ++ (end ++ (wait ++ (arrow ++ cl))));
        text =
            cond-true (in_view v n) (op ++ event_shapes v.ordered b k n e ++ cl) [] seen
            ∙ ap (λ b. op ++ (num ++ life ++ mark ++ object ++ (bars ++ b ++ wait) ++ arrow) ++ cl) is
            ∙ taken_there op num life mark object bars name (box_at strip.lane) height span end wait arrow cl;
      }

gives_own : (t : ℕ) (a : Action) (s : Spec) (m : ℕ) → (marks_of t a).mutex ≡ Ends m → MeetsRequires t s a → s.holder m ≡ some t
gives_own t (Acquire k) s m h r = let bad : Begins k.0 ≡ Ends m = h in cc
gives_own t (Release k) s m h r = let same : k.0 ≡ m = ends_same k.0 m h in subst (λ i. s.holder i ≡ some t) same r
  where
    ends_same : (i j : ℕ) → Ends i ≡ Ends j → i ≡ j
    ends_same i j u = cc
gives_own t (Enqueue k c) s m h r = let same : k.0 ≡ m = ends_same k.0 m h in subst (λ i. s.holder i ≡ some t) same r
  where
    ends_same : (i j : ℕ) → Ends i ≡ Ends j → i ≡ j
    ends_same i j u = cc
gives_own t (Resume k c) s m h r = let bad : Begins k.0 ≡ Ends m = h in cc
gives_own t (AlertEnqueue k c) s m h r = let same : k.0 ≡ m = ends_same k.0 m h in subst (λ i. s.holder i ≡ some t) same r
  where
    ends_same : (i j : ℕ) → Ends i ≡ Ends j → i ≡ j
    ends_same i j u = cc
gives_own t (AlertReturn k c) s m h r = let bad : Begins k.0 ≡ Ends m = h in cc
gives_own t (AlertRaise k c) s m h r = let bad : Begins k.0 ≡ Ends m = h in cc
gives_own t (Signal c left) s m h r = let bad : Stays ≡ Ends m = h in cc
gives_own t (Broadcast c) s m h r = let bad : Stays ≡ Ends m = h in cc
gives_own t (P k) s m h r = let bad : Stays ≡ Ends m = h in cc
gives_own t (V k) s m h r = let bad : Stays ≡ Ends m = h in cc
gives_own t (Alert who) s m h r = let bad : Stays ≡ Ends m = h in cc
gives_own t (TestAlert b) s m h r = let bad : Stays ≡ Ends m = h in cc
gives_own t (AlertPReturn k) s m h r = let bad : Stays ≡ Ends m = h in cc
gives_own t (AlertPRaise k) s m h r = let bad : Stays ≡ Ends m = h in cc
gives_own t (Fork who) s m h r = let bad : Stays ≡ Ends m = h in cc
gives_own t End s m h r = let bad : Stays ≡ Ends m = h in cc
gives_own t (Join who) s m h r = let bad : Stays ≡ Ends m = h in cc

-- what a held mutex is held since
held_since : (m t : ℕ) (past : List Event) (x : Option Origin) (h : Optional ℕ) → h ≡ some t → MatchOption x (h ≡ none) (λ o. (h ≡ some o.thread.0) × IsSince (Mutex m) o past) → (o : Origin) × (x ≡ Some o) × (o.thread.0 ≡ t) × IsSince (Mutex m) o past
held_since m t past None h is none_held = absurd (let bad : some t ≡ none = sym is ∙ none_held in cc)
held_since m t past (Some o) h is held = (o, refl, same o.thread.0 t (sym held.0 ∙ is), held.1)
  where
    same : (i j : ℕ) → some i ≡ some j → i ≡ j
    same i j u = cc

-- places of a bar
left_here : (b : Band) (n : ℕ) (o : Origin) → o.place ≤ n → b.start ≤ o.place → bar_x (up_to b n) o ≡ LEFT + COLUMN * (o.place - b.start)
left_here b n o le from = omega arith

left_before : (b : Band) (n : ℕ) (o : Origin) → b.start ≤ n → o.place < b.start → bar_x (up_to b n) o ≡ LEFT
left_before b n o le from = omega arith

right_edge : (b : Band) (n : ℕ) (o : Origin) → b.start ≤ n → o.place ≤ n → bar_x (up_to b n) o + bar_width (up_to b n) o ≡ LEFT + COLUMN * (n + 1 - b.start) - BAR_GAP
right_edge b n o first le = omega arith

-- what a taken semaphore is taken since
taken_since : (n : ℕ) (past : List Event) (x : Option Origin) (b : Bool) → b ≡ false → MatchOption x (b ≡ true) (λ o. (b ≡ false) × IsSince (Semaphore n) o past) → (o : Origin) × (x ≡ Some o) × IsSince (Semaphore n) o past
taken_since n past None b shut free = absurd (true≢false (sym free ∙ shut))
taken_since n past (Some o) b shut since = (o, refl, since.1)

-- the event from which a bar goes is before
since_near : (b : Bar) (o : Origin) (es : List Event) → IsSince b o (extended [] es) → o.place < length es
since_near b o es h = omega (arith, h.place, ap length h.split, length-append h.later (h.taking ∷ h.earlier), length-extended [] es)

pub bars_are_drawn : BarsAreDrawn
bars_are_drawn = λ l v p es s r e may m effect seen.
    let past = extended [] es in
    let k = tracked_since past in
    let n = length es in
    let t = e.thread.0 in
    let b = band_of l v p.plan n in
    let h = held_since m t past (k.held m) (s.holder m) (gives_own t e.action s m effect may.requires_met) (holding.bars_are_holds l.version es s r m) in
    let o = h.0 in
    let near : o.place < n = since_near (Mutex m) o es h.3 in
    let first : b.start ≤ n = omega arith in (
      record {
        o = o;
        lane = lane_in (k.rows o.thread.0) (Mutex m);
        since = h.3;
        drawn = bar_there l v p k n e seen m o effect h.1;
        from_taking = λ le. left_here b n o (omega arith) le;
        from_before = λ lt. left_before b n o first lt;
        ends = right_edge b n o first (omega arith);
      },
      h.2,
    )

pub takings_are_drawn : TakingsAreDrawn
takings_are_drawn = λ l v p es s r e m effect shut seen.
    let past = extended [] es in
    let k = tracked_since past in
    let n = length es in
    let b = band_of l v p.plan n in
    let h = taken_since m past (k.taken m) (s.avail m) shut (holding.bars_are_takings l.version es s r m) in
    let o = h.0 in
    let near : o.place < n = since_near (Semaphore m) o es h.2 in
    let first : b.start ≤ n = omega arith in
    record {
      o = o;
      lane = lane_in (k.rows o.thread.0) (Semaphore m);
      since = h.2;
      drawn = taking_there l v p k n e seen m o effect h.1;
      from_taking = λ le. left_here b n o (omega arith) le;
      from_before = λ lt. left_before b n o first lt;
      ends = right_edge b n o first (omega arith);
    }
