-- Arrows from the events that let a thread go on, and from forks.
use Rattle.std.specs.Prelude.{ℕ, ◌+◌, ◌-◌, ◌==◌, ◌&&◌, not, nat_lt, nat_le, Bool, false, if◌then◌else◌, List, [], ◌++◌, codes, min, Some, None}
use Rattle.std.specs.declared.option.Option.{Option}
use Rattle.larch_actions.specs.Sets.{in_set}
use Rattle.trace_board.specs.declared.history.Origin.{Origin}
use Rattle.trace_board.specs.declared.causes.Cause.{Cause}
use Rattle.trace_board.specs.declared.causes.Cause.TheVariants.{Never, Awaited, By}
use Rattle.trace_shapes.specs.declared.view.RowKind.{RowKind}
use Rattle.trace_shapes.specs.declared.view.Band.{Band}
use Rattle.trace_shapes.specs.declared.view.Link.{Link}
use Rattle.trace_shapes.specs.declared.view.Freeing.{Freeing}
use Rattle.trace_shapes.specs.declared.view.Shape.{Shape}
use Rattle.trace_shapes.specs.declared.view.Shape.TheVariants.{Straight, Bent, FromEnd}
use Rattle.trace_shapes.specs.declared.view.Turn.{Turn}
use Rattle.trace_shapes.specs.declared.view.Way.{Way}
use Rattle.trace_shapes.specs.declared.geometry.TheConstants.{COLUMN, MIDDLE, MARK_HEIGHT, MARK_MIDDLE, HEAD_ABOVE, HEAD_BELOW, THIN_HEAD_ABOVE, THIN_HEAD_BELOW, LEVEL, EARLIER, HOOK}
use Rattle.trace_shapes.specs.Places.{is_thin, kind_in, event_x, row_y, mark_y}
use Rattle.trace_shapes.specs.Shapes.{with_number}

-- the arrow at the event n to the thread t in this band, from the event o
abbrev pub link : Band → ℕ → ℕ → Origin → Link
link b n t o = record { band = b; place = n; to = t; from = o }

abbrev pub turn_text : Option Turn → List ℕ
turn_text None = []
turn_text (Some t) = with_number (codes "V") t.level ++ with_number (codes "H") t.across

unfoldable pub way_text : Way → List ℕ
way_text w = with_number (codes "M") w.x ++ with_number (codes " ") w.y ++ turn_text w.turn ++ with_number (codes "V") w.end

-- an event, by its place and its thread
abbrev pub origin_text : Origin → List ℕ
origin_text o = with_number (codes "'><title>event ") o.place ++ with_number (codes " of t") o.thread.0

-- an arrow along this way, over a white line, with the event that it comes from
unfoldable pub tags_text : Way → Origin → List ℕ
tags_text w o = codes "<path class='q' d='" ++ way_text w ++ codes "'/><path class='a' d='" ++ way_text w ++ origin_text o

-- that an event lets a thread go on, or forks it
unfoldable pub lets_go : ℕ → List ℕ
lets_go t = with_number (codes " lets t") t ++ codes " go on</title></path>\n"

unfoldable pub forks : ℕ → List ℕ
forks t = with_number (codes " forks t") t ++ codes "</title></path>\n"

-- below its mark or above it an arrow leaves an event, to a thread below or above
abbrev pub leaves : Link → ℕ
leaves k = if nat_lt k.from.thread.0 k.to then mark_y k.band k.from.thread.0 + MARK_HEIGHT else mark_y k.band k.from.thread.0

-- from the upper edge of a row to the head of an arrow from above and from below
abbrev pub head_above : RowKind → ℕ
head_above k = if is_thin k then THIN_HEAD_ABOVE else HEAD_ABOVE

abbrev pub head_below : RowKind → ℕ
head_below k = if is_thin k then THIN_HEAD_BELOW else HEAD_BELOW

-- straight from its event into the row of the thread
abbrev pub straight : Link → Way
straight k = record {
  x = event_x k.band (min k.from.place k.place) + MIDDLE;
  y = leaves k;
  turn = None;
  end = if nat_lt k.from.thread.0 k.to then row_y k.band k.to + head_above (kind_in k.band k.to) else row_y k.band k.to + head_below (kind_in k.band k.to);
}

-- from its event along the row of the thread, into the mark there
abbrev pub bent : Link → Way
bent k = record {
  x = event_x k.band (min k.from.place k.place) + MIDDLE;
  y = leaves k;
  turn = Some (record { level = row_y k.band k.to + LEVEL; across = event_x k.band k.place + MIDDLE });
  end = mark_y k.band k.to - 1;
}

-- from the end of a thread along its row, into the mark of the join
abbrev pub from_end : Link → Way
from_end k = record {
  x = event_x k.band (min k.from.place k.place) + (COLUMN - 1);
  y = mark_y k.band k.from.thread.0 + MARK_MIDDLE;
  turn = Some (record { level = mark_y k.band k.from.thread.0 + MARK_MIDDLE; across = event_x k.band k.place + MIDDLE });
  end = if nat_lt k.from.thread.0 k.to then mark_y k.band k.to - 1 else mark_y k.band k.to + MARK_HEIGHT + 1;
}

-- from an earlier band
abbrev pub hook : Link → Way
hook k = record {
  x = event_x k.band k.place + MIDDLE - HOOK;
  y = row_y k.band k.to - EARLIER;
  turn = Some (record { level = row_y k.band k.to - EARLIER; across = event_x k.band k.place + MIDDLE });
  end = mark_y k.band k.to - 1;
}

-- the way of an arrow to the event by which its thread goes on
abbrev pub way_of : Shape → Link → Way
way_of Straight k = straight k
way_of Bent k = bent k
way_of FromEnd k = from_end k

abbrev pub way_or_hook : Shape → Link → Way
way_or_hook shape k = if nat_le k.band.start k.from.place then way_of shape k else hook k

unfoldable pub arrow_text : Shape → Link → List ℕ
arrow_text shape k = tags_text (way_or_hook shape k) k.from ++ lets_go k.to

-- that arrow, where another thread let t go on
abbrev pub arrow_if : Shape → Band → ℕ → ℕ → Option Origin → List ℕ
arrow_if shape b n t None = []
arrow_if shape b n t (Some o) = if o.thread.0 == t then [] else arrow_text shape (link b n t o)

-- the arrow at the event o to a thread that it takes out of its condition, and to one that it forks
unfoldable pub wake_text : Band → Origin → ℕ → List ℕ
wake_text b o u = tags_text (straight (link b o.place u o)) o ++ lets_go u

unfoldable pub fork_text : Band → Origin → ℕ → List ℕ
fork_text b o u = tags_text (straight (link b o.place u o)) o ++ forks u

-- the thread u, of which it is known how it stands with its condition, is taken out
abbrev pub is_freed : Freeing → ℕ → Cause → Bool
is_freed f u Never = false
is_freed f u (Awaited k) = k == f.cond && not (in_set f.left u)
is_freed f u (By o) = false

abbrev pub wake_if : Freeing → ℕ → Cause → List ℕ
wake_if f u x = if is_freed f u x then wake_text f.band f.by u else []
