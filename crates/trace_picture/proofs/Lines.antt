-- What the last lines of a picture say.
use Rattle.std.proofs.Common.{◌≡◌, ℕ, ◌+◌, ◌<◌, List, [], ◌++◌, refl, ap, ◌∙◌, append_assoc, Some, None, MatchOption}
use Rattle.std.specs.Prelude.{codes}
use Rattle.std.specs.declared.option.Option.{Option}
use Rattle.larch_actions.specs.declared.event.Layout.{Layout}
use Rattle.trace_board.specs.declared.holds.Hold.{Hold}
use Rattle.trace_board.specs.Tracked.{tracked_since, longest_in}
use Rattle.trace_shapes.specs.Legend.{legend_text}
use Rattle.trace_picture.specs.Shown.{Drawn}
use Rattle.trace_shapes.specs.declared.view.DrawnRange.{DrawnRange}
use Rattle.trace_shapes.specs.declared.geometry.TheConstants.{NAME_LINE}
use Rattle.trace_shapes.specs.Shapes.{with_number, place_text}
use Rattle.trace_picture.specs.Longest.{hold_end, hold_text, reported_hold, line_x, line_y, sample_text, hold_line, holds_text}
use Rattle.trace_picture.specs.Picture.{last_tags, end_text}
use Rattle.trace_picture.specs.Seen.{HasText, HoldsAreReported}
use Rattle.trace_picture.proofs.Parts.{has_in, each_has}

-- a line of a picture's end
module _ (l : Layout) (v : DrawnRange) (d : Drawn) (n high : ℕ) (words : List ℕ) (m : ℕ) (lt : m < l.mutexes) where
  abbrev low : ℕ
  low = d.page.next

  abbrev legend : List ℕ
  legend = codes "</g>\n" ++ legend_text d.shown ++ codes "</g>\n"

  lines_there : HasText (end_text l v d n high words) (holds_text l.mutexes d.board n low)
  unfolding end_text
  lines_there = record {
    before = [];
    after = legend ++ words ++ last_tags l v d.shown n low high;
    text = in_front (holds_text l.mutexes d.board n low) legend words (last_tags l v d.shown n low high);
  }
    where
      in_front : (a b c d : List ℕ) → a ++ b ++ c ++ d ≡ [] ++ a ++ (b ++ c ++ d)
      in_front a b c d = simp append_assoc

  abbrev name : List ℕ
  name = with_number (codes "'><title>m") m ++ codes "</title>"

  abbrev before_name : List ℕ
  before_name = sample_text low m ++ (codes "<text class='t" ++ place_text (line_x m + 40) (line_y low m + NAME_LINE))

  line_there : (h : Option Hold) → longest_in d.board n m ≡ h → HasText (end_text l v d n high words) (name ++ reported_hold h)
  unfolding hold_line
  line_there h is =
      has_in (end_text l v d n high words) (hold_line low m (longest_in d.board n m)) (name ++ reported_hold h)
      (has_in (end_text l v d n high words) (holds_text l.mutexes d.board n low) (hold_line low m (longest_in d.board n m)) lines_there (each_has (λ i. hold_line low i (longest_in d.board n i)) l.mutexes m lt))
      (record { before = before_name; after = codes "</text>\n"; text = ap (λ x. before_name ++ name ++ reported_hold x ++ codes "</text>\n") is ∙ regroup before_name name (reported_hold h) (codes "</text>\n") })
    where
      regroup : (a b c d : List ℕ) → a ++ b ++ c ++ d ≡ a ++ (b ++ c) ++ d
      regroup a b c d = simp append_assoc

  reported : (h : Option Hold) → longest_in d.board n m ≡ h
      → MatchOption h (HasText (end_text l v d n high words) (name ++ codes "never held")) (λ h. HasText (end_text l v d n high words) (name ++ hold_text h))
  reported None is = line_there None is
  reported (Some h) is = line_there (Some h) is

pub holds_are_reported : HoldsAreReported
unfolding hold_text hold_end
holds_are_reported = λ l v p past shown n high words m lt.
    reported l v (record { board = tracked_since past; shown = shown; page = p }) n high words m lt (longest_in (tracked_since past) n m) refl
