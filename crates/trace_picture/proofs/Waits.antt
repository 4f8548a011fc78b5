-- The end of a wait has its strip.
use Rattle.std.proofs.Common.{◌≡◌, ℕ, true, List, [], ◌++◌, length, ap, ◌∙◌, append_assoc, Some}
use Rattle.std.proofs.lemmas.Bool.{cond-true}
use Rattle.std.specs.declared.option.Option.{Option}
use Rattle.larch_actions.specs.declared.event.Event.{Event}
use Rattle.larch_actions.specs.declared.event.Layout.{Layout}
use Rattle.trace_board.specs.declared.history.Origin.{Origin}
use Rattle.trace_board.specs.declared.history.Change.{Change}
use Rattle.trace_board.specs.declared.history.Change.TheVariants.{Ends}
use Rattle.trace_board.specs.History.{origin_of}
use Rattle.trace_board.specs.Tracked.{Tracked, tracked_since, tracked_after, extended, let_on_by}
use Rattle.trace_board.specs.Marks.{marks}
use Rattle.trace_board.proofs.Causing.{arrows_are_causes}
use Rattle.trace_shapes.specs.declared.view.Band.{Band}
use Rattle.trace_shapes.specs.declared.view.DrawnRange.{DrawnRange}
use Rattle.trace_shapes.specs.Places.{in_view, band_of}
use Rattle.trace_shapes.specs.Shapes.{number_text, mark_text, object_if, parts_text, wait_name_if, wait_text}
use Rattle.trace_picture.specs.declared.plan.Page.{Page}
use Rattle.trace_picture.specs.Lives.{life_row}
use Rattle.trace_picture.specs.Bands.{opening, up_to, bar_ended, taken_ended, wait_if, wait_ended, event_shapes, arrows_at, closing_after, step_text}
use Rattle.trace_picture.specs.Seen.{HasText, WaitsAreDrawn}

waited_there : (op num life mark object bar taken parts name arrow cl : List ℕ)
    → op ++ (num ++ life ++ mark ++ object ++ (bar ++ taken ++ (parts ++ name)) ++ arrow) ++ cl
    ≡ (op ++ num ++ life ++ mark ++ object ++ bar ++ taken) ++ parts ++ (name ++ (arrow ++ cl))
waited_there op num life mark object bar taken parts name arrow cl = simp append_assoc

module _ (l : Layout) (v : DrawnRange) (p : Page) (k : Tracked) (n : ℕ) (e : Event) (seen : in_view v n ≡ true) (t : ℕ) (o by : Origin) where
  abbrev b : Band
  b = band_of l v p.plan n

  parts_there : (marks e).wait ≡ Ends t → k.waits t ≡ Some o → let_on_by k (marks e).waker ≡ Some by → HasText (step_text l v p k n e) (parts_text (up_to b n) o (Some by))
  unfolding step_text event_shapes wait_text
  parts_there effect since let_on =
      let op = opening l v p k n in
      let num = number_text b n in
      let life = life_row b n (marks e).life in
      let mark = mark_text v.ordered b n e in
      let object = object_if b n e in
      let r = up_to b n in
      let bar = bar_ended r k (marks e).mutex in
      let taken = taken_ended r k (marks e).semaphore in
      let arrow = arrows_at b k (origin_of n e) (marks e) in
      let cl = closing_after l v p.plan (tracked_after n e k) n in
      let p = let_on_by k (marks e).waker in
      let is : wait_ended r k p (marks e).wait ≡ parts_text r o (Some by) ++ wait_name_if r o =
      ap (λ (x : Change). wait_ended r k p x) effect ∙ ap (λ (x : Option Origin). wait_if r p x) since ∙ ap (λ (x : Option Origin). wait_text r o x) let_on
      in
      record {
        before = op ++ num ++ life ++ mark ++ object ++ bar ++ taken;
        after = wait_name_if r o ++ (arrow ++ cl);
        text =
            cond-true (in_view v n) (op ++ event_shapes v.ordered b k n e ++ cl) [] seen
            ∙ ap (λ w. op ++ (num ++ life ++ mark ++ object ++ (bar ++ taken ++ w) ++ arrow) ++ cl) is
            ∙ waited_there op num life mark object bar taken (parts_text r o (Some by)) (wait_name_if r o) arrow cl;
      }

pub waits_are_drawn : WaitsAreDrawn
waits_are_drawn = λ l v p es s r e may t o by effect since let_on seen.
    (arrows_are_causes l.version es s r e may by let_on, parts_there l v p (tracked_since (extended [] es)) (length es) e seen t o by effect since let_on)
