-- What is drawn of the lives of threads.
use Rattle.std.proofs.Common.{◌≡◌, ℕ, zero, suc, ◌+◌, ◌-◌, ◌*◌, ◌%◌, ◌<◌, Bool, true, cond, List, [], ◌++◌, length, refl, ap, sym, subst, ◌∙◌, append_assoc, append-nil, Some, arith, ne_eqb}
use Rattle.std.specs.Prelude.{codes, ◌==◌, ◌&&◌, not, nat_lt}
use Rattle.std.proofs.lemmas.Bool.Decides.{nat_tests}
use mathlib.Core.Logic.{dite}
use native.Mathlib.Decide.{ℕ_discrete}
use Rattle.std.specs.declared.option.Option.{Option}
use Rattle.std.proofs.lemmas.Bool.{cond-true, cond-false}
use Rattle.larch_actions.specs.declared.event.Version.{Version}
use Rattle.larch_actions.specs.declared.event.Version.TheVariants.{One, Two}
use Rattle.larch_actions.specs.declared.event.Layout.{Layout}
use Rattle.larch_actions.specs.declared.event.Event.{Event}
use Rattle.larch_actions.specs.declared.event.Life.{Life}
use Rattle.larch_actions.specs.declared.event.Life.TheVariants.{Live, Ended}
use Rattle.larch_actions.specs.Actions.{Spec, MeetsWhen}
use Rattle.larch_actions.specs.State.{count_below}
use Rattle.trace_board.specs.declared.history.Origin.{Origin}
use Rattle.trace_board.specs.Marks.{marks, marks_of}
use Rattle.trace_board.specs.History.{origin_of}
use Rattle.trace_board.specs.Tracked.{Tracked, tracked_since, tracked_after, extended, life_in, let_on_by}
use Rattle.trace_board.specs.Laws.{is_live, IsMadeBy, awaited_by}
use Rattle.trace_board.proofs.Causing.{rows_are_lives, arrows_are_causes}
use Rattle.trace_board.proofs.Living.{over_own, over_some}
use Rattle.trace_shapes.specs.declared.view.DrawnRange.{DrawnRange}
use Rattle.trace_shapes.specs.declared.view.Band.{Band}
use Rattle.trace_shapes.specs.declared.geometry.TheConstants.{LEFT, COLUMN, NAME_LINE, IDLE_NAMES}
use Rattle.trace_shapes.specs.Places.{in_view, column, kind_in, band_of, event_x}
use Rattle.trace_shapes.specs.Shapes.{with_number, each_below, row_name, row_text, mark_text, object_if, number_text}
use Rattle.trace_shapes.specs.declared.view.Shape.{Shape}
use Rattle.trace_shapes.specs.declared.view.Shape.TheVariants.{FromEnd}
use Rattle.trace_shapes.specs.Arrows.{link, arrow_if, arrow_text, fork_text}
use Rattle.trace_picture.specs.declared.plan.Page.{Page}
use Rattle.trace_picture.specs.Plan.{is_absent, is_idle, idle_count}
use Rattle.trace_picture.specs.Lives.{row_if, row_box, row_from, row_until, life_row}
use Rattle.trace_picture.specs.Bands.{band_number, band_tag, lines_height, lines_text, idle_name, more_idle, idle_line, idle_text, up_to, opening, event_shapes, bars_ended, arrow_by, wakes_by, fork_by, arrows_at, closing_after, step_text}
use Rattle.trace_picture.specs.Seen.{HasText, row_tag, RowsStand, IdleAreNamed, RowsBegin, RowsEnd, JoinsAreDrawn, ForksAreDrawn}
use Rattle.trace_picture.proofs.Parts.{has_in, each_has}

-- texts that are the same for each number
each_same : (f g : ℕ → List ℕ) → ((t : ℕ) → f t ≡ g t) → (n : ℕ) → each_below f n ≡ each_below g n
unfolding each_below
each_same f g h zero = refl
each_same f g h (suc n) = λ i. each_same f g h n i ++ h n i

row_same : (version : Version) (b : Band) (k : Tracked) (s : Spec) → version ≡ Two → ((t : ℕ) → s.life t ≡ life_in version k t) → (t : ℕ)
    → row_if version b k t ≡ cond (is_live (s.life t) && not (is_absent (kind_in b t))) (row_text b t) []
row_same One b k s v h t = absurd (let bad : One ≡ Two = v in cc)
row_same Two b k s v h t = ap (λ x. cond (is_live x && not (is_absent (kind_in b t))) (row_text b t) []) (sym (h t))

-- the parts of a new band
module _ (l : Layout) (v : DrawnRange) (p : Page) (k : Tracked) (n : ℕ) (first : column v n ≡ 0) where
  abbrev whole : Band
  whole = band_of l v p.plan n

  abbrev tag : List ℕ
  tag = band_tag p.top (band_number v whole)

  abbrev rows : List ℕ
  rows = each_below (row_if l.version whole k) l.threads

  abbrev lines : List ℕ
  lines = lines_text (lines_height p.plan)

  opened_is : opening l v p k n ≡ tag ++ rows ++ lines ++ idle_text l p.plan k
  unfolding opening
  opened_is = cond-true (column v n == 0) (tag ++ rows ++ lines ++ idle_text l p.plan k) [] (ap (λ c. c == 0) first)

  idle_there : HasText (opening l v p k n) (idle_text l p.plan k)
  idle_there = record { before = tag ++ rows ++ lines; after = []; text = opened_is ∙ last tag rows lines (idle_text l p.plan k) }
    where
      last : (a b c d : List ℕ) → a ++ b ++ c ++ d ≡ (a ++ b ++ c) ++ d ++ []
      last a b c d = simp (append_assoc, append-nil)

pub rows_stand : RowsStand
rows_stand = λ l v p es s two r first.
    let k = tracked_since (extended [] es) in
    let n = length es in
    let b = band_of l v p.plan n in
    let tag = band_tag p.top (band_number v b) in
    let rest = lines_text (lines_height p.plan) ++ idle_text l p.plan k in
    let rows : ℕ → List ℕ = λ t. cond (is_live (s.life t) && not (is_absent (kind_in b t))) (row_text b t) [] in
    let all = each_same (row_if l.version b k) rows (row_same l.version b k s two (rows_are_lives l.version es s r)) l.threads in
    record { before = tag; after = rest; text = opened_is l v p k n first ∙ append_assoc (tag ++ each_below (row_if l.version b k) l.threads) (lines_text (lines_height p.plan)) (idle_text l p.plan k) ∙ ap (λ x. tag ++ x ++ rest) all }

name_there : (l : Layout) (p : Page) (k : Tracked) (t : ℕ) → t < l.threads → is_idle l.version p.plan k t ≡ true → nat_lt (count_below (is_idle l.version p.plan k) t) IDLE_NAMES ≡ true
    → HasText (idle_line l p.plan k) (with_number (codes " t") t)
unfolding idle_line
name_there l p k t lt idle few =
    let f : ℕ → List ℕ = idle_name l.version p.plan k in
    let start = with_number (codes "<text class='c' x='6' y='") (p.plan.end + NAME_LINE) in
    let names = each_below f l.threads in
    let more = more_idle (idle_count l p.plan k) in
    let both : (is_idle l.version p.plan k t && nat_lt (count_below (is_idle l.version p.plan k) t) IDLE_NAMES) ≡ true = ap (λ x. x && nat_lt (count_below (is_idle l.version p.plan k) t) IDLE_NAMES) idle ∙ few in
    let is : f t ≡ with_number (codes " t") t = cond-true (is_idle l.version p.plan k t && nat_lt (count_below (is_idle l.version p.plan k) t) IDLE_NAMES) (with_number (codes " t") t) [] both in
    subst (HasText (idle_line l p.plan k)) is
    (has_in (idle_line l p.plan k) names (f t) (record { before = start ++ codes "'>idle:"; after = more ++ codes "</text>\n"; text = inside start (codes "'>idle:") names more (codes "</text>\n") })
    (each_has f l.threads t lt))
  where
    inside : (a b c d e : List ℕ) → a ++ b ++ c ++ d ++ e ≡ (a ++ b) ++ c ++ (d ++ e)
    inside a b c d e = simp append_assoc

is_less : (i k : ℕ) → i < k → nat_lt i k ≡ true
is_less i k h = grind (arith, nat_tests)

abbrev weight : Bool → ℕ
weight b = cond b 1 0

pub idle_are_named : IdleAreNamed
idle_are_named = λ l v p k n t first lt idle few.
    let test : ℕ → Bool = is_idle l.version p.plan k in
    let some : nat_lt 0 (idle_count l p.plan k) ≡ true = is_less 0 (count_below test l.threads) (counted_in test l.threads t lt idle) in
    let is : idle_text l p.plan k ≡ idle_line l p.plan k = cond-true (nat_lt 0 (idle_count l p.plan k)) (idle_line l p.plan k) [] some in
    has_in (opening l v p k n) (idle_text l p.plan k) (with_number (codes " t") t) (idle_there l v p k n first)
    (subst (λ x. HasText x (with_number (codes " t") t)) (sym is) (name_there l p k t lt idle (is_less (count_below test t) IDLE_NAMES few)))
  where
    counted_in : (test : ℕ → Bool) (n t : ℕ) → t < n → test t ≡ true → 0 < count_below test n
    counted_in test zero t lt is = absurd (omega arith)
    counted_in test (suc n) t lt is = dite (ℕ_discrete t n)
        (λ same.
        let one : weight (test n) ≡ 1 = ap weight (ap test (sym same) ∙ is) in
        omega (arith, one))
        (λ ne. omega (arith, counted_in test n t (omega (arith, ne)) is))

-- a part of what the event does to a row is in what it adds
module _ (l : Layout) (v : DrawnRange) (p : Page) (k : Tracked) (n : ℕ) (e : Event) (seen : in_view v n ≡ true) where
  abbrev b : Band
  b = band_of l v p.plan n

  there : (op num part rest mark object bars arrow cl : List ℕ) → op ++ (num ++ (part ++ rest) ++ mark ++ object ++ bars ++ arrow) ++ cl ≡ (op ++ num) ++ part ++ (rest ++ (mark ++ (object ++ (bars ++ (arrow ++ cl)))))
  there op num part rest mark object bars arrow cl = simp append_assoc

  row_there : (part rest : List ℕ) → life_row b n (marks e).life ≡ part ++ rest → HasText (step_text l v p k n e) part
  unfolding step_text event_shapes
  row_there part rest is =
      let op = opening l v p k n in
      let num = number_text b n in
      let mark = mark_text v.ordered b n e in
      let object = object_if b n e in
      let bars = bars_ended (up_to b n) k (marks e) in
      let arrow = arrows_at b k (origin_of n e) (marks e) in
      let cl = closing_after l v p.plan (tracked_after n e k) n in
      record {
        before = op ++ num;
        after = rest ++ (mark ++ (object ++ (bars ++ (arrow ++ cl))));
        text =
            cond-true (in_view v n) (op ++ event_shapes v.ordered b k n e ++ cl) [] seen
            ∙ ap (λ x. op ++ (num ++ x ++ mark ++ object ++ bars ++ arrow) ++ cl) is ∙ there op num part rest mark object bars arrow cl;
      }

  among : (op num life mark object bars arrows cl : List ℕ) → op ++ (num ++ life ++ mark ++ object ++ bars ++ arrows) ++ cl ≡ (op ++ num ++ life ++ mark ++ object ++ bars) ++ arrows ++ cl
  among op num life mark object bars arrows cl = simp append_assoc

  -- its arrows are in what it adds
  pub arrows_there : HasText (step_text l v p k n e) (arrows_at b k (origin_of n e) (marks e))
  unfolding step_text event_shapes
  arrows_there =
      let op = opening l v p k n in
      let num = number_text b n in
      let life = life_row b n (marks e).life in
      let mark = mark_text v.ordered b n e in
      let object = object_if b n e in
      let bars = bars_ended (up_to b n) k (marks e) in
      let arrows = arrows_at b k (origin_of n e) (marks e) in
      let cl = closing_after l v p.plan (tracked_after n e k) n in
      record {
        before = op ++ num ++ life ++ mark ++ object ++ bars;
        after = cl;
        text = cond-true (in_view v n) (op ++ event_shapes v.ordered b k n e ++ cl) [] seen ∙ among op num life mark object bars arrows cl;
      }

  -- the arrow to it, and that to the thread that it forks, are among them
  first_there : HasText (step_text l v p k n e) (arrow_by b k (origin_of n e) (marks e).wait (marks e).waker)
  unfolding arrows_at
  first_there =
      let o = origin_of n e in
      let m = marks e in
      has_in (step_text l v p k n e) (arrows_at b k o m) (arrow_by b k o m.wait m.waker) arrows_there
      (record { before = []; after = wakes_by b o k.stands m.stand ++ fork_by b o m.life; text = append_assoc (arrow_by b k o m.wait m.waker) (wakes_by b o k.stands m.stand) (fork_by b o m.life) })

  last_there : HasText (step_text l v p k n e) (fork_by b (origin_of n e) (marks e).life)
  unfolding arrows_at
  last_there =
      let o = origin_of n e in
      let m = marks e in
      has_in (step_text l v p k n e) (arrows_at b k o m) (fork_by b o m.life) arrows_there
      (record { before = arrow_by b k o m.wait m.waker ++ wakes_by b o k.stands m.stand; after = []; text = sym (append-nil (arrows_at b k o m)) })

-- a row that begins or ends
from_there : (b : Band) (x t : ℕ) → row_from b x t ≡ (codes "<rect class='r" ++ row_box b x t) ++ row_name b t
unfolding row_from
from_there b x t = refl

until_there : (b : Band) (x t : ℕ) → row_until b x t ≡ (codes "<rect class='z" ++ row_box b x t) ++ (with_number (codes "'><title>t") t ++ codes " has ended</title></rect>\n")
unfolding row_until
until_there b x t = append_assoc (codes "<rect class='z" ++ row_box b x t) (with_number (codes "'><title>t") t) (codes " has ended</title></rect>\n")

column_there : (l : Layout) (v : DrawnRange) (p : Page) (n : ℕ) → event_x (band_of l v p.plan n) n ≡ LEFT + COLUMN * ((n - v.first) % 50)
column_there l v p n = omega arith

box_there : (l : Layout) (v : DrawnRange) (p : Page) (n : ℕ) (name : List ℕ) (x y t : ℕ) → x ≡ y → name ++ row_box (band_of l v p.plan n) x t ≡ row_tag name p y t
unfolding row_box
box_there l v p n name x y t same = ap (λ z. row_tag name p z t) same

pub rows_begin : RowsBegin
rows_begin = λ l v p k n e who is seen.
    let b = band_of l v p.plan n in
    let row : life_row b n (marks e).life ≡ row_from b (event_x b n) who.0 = ap (λ a. life_row b n (marks_of e.thread.0 a).life) is in
    subst (HasText (step_text l v p k n e)) (box_there l v p n (codes "<rect class='r") (event_x b n) (LEFT + COLUMN * ((n - v.first) % 50)) who.0 (column_there l v p n))
    (row_there l v p k n e seen (codes "<rect class='r" ++ row_box b (event_x b n) who.0) (row_name b who.0) (row ∙ from_there b (event_x b n) who.0))

pub rows_end : RowsEnd
rows_end = λ l v p k n e is seen.
    let b = band_of l v p.plan n in
    let t = e.thread.0 in
    let x = event_x b n + COLUMN in
    let row : life_row b n (marks e).life ≡ row_until b x t = ap (λ a. life_row b n (marks_of e.thread.0 a).life) is in
    subst (HasText (step_text l v p k n e)) (box_there l v p n (codes "<rect class='z") x (LEFT + COLUMN * ((n - v.first) % 50) + COLUMN) t (ap (λ z. z + COLUMN) (column_there l v p n)))
    (row_there l v p k n e seen (codes "<rect class='z" ++ row_box b x t) (with_number (codes "'><title>t") t ++ codes " has ended</title></rect>\n") (row ∙ until_there b x t))

-- the arrow from another thread is drawn
arrow_is : (shape : Shape) (b : Band) (n t : ℕ) (x : Option Origin) (o : Origin) → x ≡ Some o → (o.thread.0 ≡ t → ⊥) → arrow_if shape b n t x ≡ arrow_text shape (link b n t o)
arrow_is shape b n t x o is other = ap (arrow_if shape b n t) is ∙ cond-false (o.thread.0 == t) [] (arrow_text shape (link b n t o)) (ne_eqb o.thread.0 t other)

pub joins_are_drawn : JoinsAreDrawn
joins_are_drawn = λ l v p es s r e may who is seen.
    let k = tracked_since (extended [] es) in
    let n = length es in
    let t = e.thread.0 in
    let b = band_of l v p.plan n in
    let when : s.life who.0 ≡ Ended = subst (λ a. MeetsWhen t s a) is may.when_met in
    let over = over_some l.version k who.0 (sym (rows_are_lives l.version es s r who.0) ∙ when) in
    let o = over.0 in
    let by : let_on_by k (marks e).waker ≡ Some o = ap (λ a. let_on_by k (marks_of t a).waker) is ∙ over.1 in
    let other : o.thread.0 ≡ t → ⊥ = λ same. lives_not (ap s.life (sym (sym (over_own (extended [] es) who.0 o over.1) ∙ same)) ∙ when) may.live in
    let made = subst (λ a. IsMadeBy l.version (awaited_by t a) es s o) is (arrows_are_causes l.version es s r e may o by) in
    let drawn : arrow_by b k (origin_of n e) (marks e).wait (marks e).waker ≡ arrow_text FromEnd (link b n t o) =
    ap (λ a. arrow_by b k (origin_of n e) (marks_of t a).wait (marks_of t a).waker) is ∙ arrow_is FromEnd b n t (k.over who.0) o over.1 other
    in
    (o, made, subst (HasText (step_text l v p k n e)) drawn (first_there l v p k n e seen))
  where
    lives_not : {x : Life} → x ≡ Ended → x ≡ Live → ⊥
    lives_not e f = let bad : Ended ≡ Live = sym e ∙ f in cc

pub forks_are_drawn : ForksAreDrawn
forks_are_drawn = λ l v p k n e who is seen.
    let o = origin_of n e in
    let b = band_of l v p.plan n in
    let drawn : fork_by b o (marks e).life ≡ fork_text b o who.0 = ap (λ a. fork_by b o (marks_of e.thread.0 a).life) is in
    subst (HasText (step_text l v p k n e)) drawn (last_there l v p k n e seen)
