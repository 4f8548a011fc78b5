-- The rings that mark the events of a cycle of the lock order, and how the picture of a legal trace ends.
use Rattle.std.specs.Prelude.{◌≡◌, ◌⊎◌, ℕ, Bool, true, false, List, [], ◌++◌, length, codes, Some, Result, OnOk, OnErr}
use Rattle.std.specs.List.{flat_map}
use Rattle.std.specs.Io.KnownBytes.{Appends}
use Rattle.std.specs.declared.option.Option.{Option}
use Rattle.firefly_outside.specs.Causes.{AppendsPrefix}
use Rattle.larch_actions.specs.declared.event.Layout.{Layout}
use Rattle.larch_actions.specs.declared.event.Event.{Event}
use Rattle.larch_actions.specs.Actions.{Spec}
use Rattle.trace_check.specs.declared.checker.Summary.{Summary}
use Rattle.lock_order.specs.declared.answer.Edge.{Edge}
use Rattle.lock_order.specs.declared.lock_graph.LockGraph.{LockGraph}
use Rattle.lock_order.specs.Order.{HasCycle, ReportsCycle}
use Rattle.lock_order.specs.Kept.{IsKept}
use Rattle.trace_shapes.specs.declared.view.DrawnRange.{DrawnRange}
use Rattle.trace_shapes.specs.Shapes.{with_number}
use Rattle.trace_picture.specs.Shown.{Drawn}
use Rattle.trace_picture.specs.Verdicts.{legal_words, counted_line}
use Rattle.trace_picture.specs.declared.verdicts.TheConstants.{TWO_LINES}
use Rattle.trace_picture.specs.Picture.{closing_if, end_text, ending, prefix_picture, drawn_at}

-- the edge of the mark of the event by which the inner mutex was got while the outer one was held
unfoldable pub ring_text : Edge → List ℕ
ring_text n = with_number (codes "<style>#e") n.place ++ codes "{stroke:#cf222e;stroke-width:3}</style>\n"

abbrev pub rings_text : List Edge → List ℕ
rings_text ns = flat_map ring_text ns

abbrev pub ringed_words : List ℕ
ringed_words = codes "<text class='hd' x='44' y='18'><tspan class='ok'>legal</tspan>, a lock-order cycle is ringed, events: "

abbrev pub no_cycle_words : List ℕ
no_cycle_words = codes "<text class='hd' x='44' y='18'><tspan class='ok'>legal</tspan>, no lock-order cycle, events: "

-- a step of a cycle: which mutex was got while which was held, by whom and by which event, with a link to its ring
unfoldable pub nesting_text : Edge → List ℕ
nesting_text n =
    with_number (codes ", <a href='#e") n.place ++ with_number (codes "'>m") n.outer.0 ++ with_number (codes " then m") n.inner.0
    ++ with_number (codes " by t") n.thread.0 ++ with_number (codes " at event ") n.place ++ codes "</a>"

-- a cycle in words
unfoldable pub cycle_text : List Edge → List ℕ
cycle_text ns = codes "<text x='44' y='36'>the cycle" ++ flat_map nesting_text ns ++ codes "</text>\n"

abbrev pub ringed_line : DrawnRange → ℕ → Summary → List Edge → List ℕ
ringed_line v n s ns = counted_line v n ringed_words (Some s) ++ cycle_text ns

-- the end of the picture of n events, with rings around the events of this cycle
abbrev pub ringed_ending : Layout → DrawnRange → Drawn → ℕ → Summary → List Edge → List ℕ
ringed_ending l v d n s ns = closing_if l v d.page.plan d.board n ++ rings_text ns ++ end_text l v d n TWO_LINES (ringed_line v n s ns)

-- A cycle of the events is ringed, or they have none and this is said.
abbrev pub ShowsOrdered : Layout → DrawnRange → Drawn → ℕ → Summary → List Event → List ℕ → Type 0
ShowsOrdered l v d n s es text =
    ((ns : List Edge) × ReportsCycle es ns × (text ≡ ringed_ending l v d n s ns))
    ⊎ ((¬ HasCycle es) × (text ≡ ending l v d n no_cycle_words (Some s)))

-- the end of the picture of n legal events with these counts, where the lock order is wanted or not
abbrev pub IsEnding : Bool → Layout → DrawnRange → Drawn → ℕ → Summary → List Event → List ℕ → Type 0
IsEnding false l v d n s es text = text ≡ ending l v d n legal_words (Some s)
IsEnding true l v d n s es text = ShowsOrdered l v d n s es text

-- the whole picture of a legal trace with these counts
abbrev pub IsLegalPicture : Layout → DrawnRange → Summary → List Event → List ℕ → Type 0
IsLegalPicture l v s es text =
    (end : List ℕ) × IsEnding v.ordered l v (drawn_at l v [] es) (length es) s es end × (text ≡ prefix_picture l v [] es ++ end)

-- it is kept what n events nest
abbrev pub AreNoted : LockGraph → ℕ → Type 0
AreNoted k n = (es : List Event) × (now : Spec) × IsKept es now k × (n ≡ length es)

-- the sink got this text, or a prefix of it where it failed
abbrev pub Sends : {T E : Type 0} → Result T E → Option (List ℕ) → Option (List ℕ) → List ℕ → Type 0
Sends r reported reported' text = OnOk r (Appends reported reported' text) × OnErr r (AppendsPrefix reported reported' text)
