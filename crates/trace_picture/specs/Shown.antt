-- What the legend explains: each sort of thing that was drawn so far, by the name of its entry, with the latest event that showed it.
use Rattle.std.specs.Prelude.{ℕ, ◌==◌, ◌&&◌, ◌||◌, nat_lt, Bool, true, false, is_some, if◌then◌else◌, List, [], ◌∷◌, length, Some, None}
use Rattle.std.specs.declared.option.Option.{Option}
use Rattle.larch_actions.specs.declared.event.Layout.{Layout}
use Rattle.larch_actions.specs.declared.event.Event.{Event}
use Rattle.larch_actions.specs.Actions.{put}
use Rattle.larch_actions.specs.State.{count_below}
use Rattle.trace_board.specs.declared.history.Origin.{Origin}
use Rattle.trace_board.specs.declared.history.Change.{Change}
use Rattle.trace_board.specs.declared.history.Change.TheVariants.{Ends}
use Rattle.trace_board.specs.declared.causes.CauseChange.{CauseChange}
use Rattle.trace_board.specs.declared.causes.CauseChange.TheVariants.{Frees}
use Rattle.trace_board.specs.declared.marks.Effects.{Effects}
use Rattle.trace_board.specs.declared.marks.Mark.TheVariants.{Failed}
use Rattle.trace_board.specs.History.{origin_of, entry_of}
use Rattle.trace_board.specs.Marks.{marks}
use Rattle.trace_board.specs.Tracked.{Tracked, nothing_tracked, tracked_after, tracked_since, tracked_of, came}
use Rattle.trace_shapes.specs.declared.view.DrawnRange.{DrawnRange}
use Rattle.trace_shapes.specs.declared.legend.TheConstants.{ARROWS, TAKINGS, HOLDS, WAITS, LET_GO}
use Rattle.trace_shapes.specs.Looks.{look_of}
use Rattle.trace_shapes.specs.Shapes.{begins}
use Rattle.trace_shapes.specs.declared.view.Band.{Band}
use Rattle.trace_shapes.specs.Places.{in_view, column}
use Rattle.trace_picture.specs.declared.shown.Drawing.{Drawing}
use Rattle.trace_picture.specs.declared.plan.Page.{Page}
use Rattle.trace_picture.specs.Plan.{no_page}
use Rattle.trace_picture.specs.Bands.{arrows_at}

-- what is kept of the events before, what was drawn, and the band under way
pub record Drawn : Type 0 where
  pub board : Tracked
  pub shown : ℕ → Option Origin
  pub page : Page

abbrev pub drawn_of : Drawing → Drawn
drawn_of d = record { board = tracked_of d.board; shown = entry_of d.shown; page = d.page }

abbrev pub nothing_drawn : Drawn
nothing_drawn = record { board = nothing_tracked; shown = λ (k : ℕ). None; page = no_page }

abbrev pub has_text : List ℕ → Bool
has_text [] = false
has_text (x ∷ xs) = true

abbrev pub ends : Change → Bool
ends (Ends k) = true
ends _ = false

abbrev pub frees : CauseChange → Bool
frees (Frees c left) = true
frees _ = false

-- the event o shows what has this name, if so
abbrev pub shown_if : ℕ → Bool → Origin → (ℕ → Option Origin) → ℕ → Option Origin
shown_if name so o shown = if so then put shown name (Some o) else shown

-- what goes on into the band that the event o begins
abbrev pub going_on : Layout → Tracked → Origin → (ℕ → Option Origin) → ℕ → Option Origin
going_on l k o shown =
    shown_if LET_GO (nat_lt 0 (count_below (λ t. is_some (came (k.stands t))) l.threads)) o
    (shown_if WAITS (nat_lt 0 (count_below (λ t. is_some (k.waits t)) l.threads)) o
    (shown_if TAKINGS (nat_lt 0 (count_below (λ s. is_some (k.taken s)) l.semaphores)) o
    (shown_if HOLDS (nat_lt 0 (count_below (λ m. is_some (k.held m)) l.mutexes)) o shown)))

abbrev pub opened : Layout → DrawnRange → Tracked → Origin → (ℕ → Option Origin) → ℕ → Option Origin
opened l v k o shown = if column v o.place == 0 then going_on l k o shown else shown

-- it ends a wait, or takes a thread out of its condition
abbrev pub lets_go_on : Effects → Bool → Bool
lets_go_on m arrows = ends m.wait || (frees m.stand && arrows)

-- what the event o shows that has these effects, and has arrows or none: its mark, and what it begins
abbrev pub shown_by : Origin → Effects → Bool → (ℕ → Option Origin) → ℕ → Option Origin
shown_by o m arrows shown =
    shown_if LET_GO (lets_go_on m arrows) o
    (shown_if ARROWS arrows o
    (shown_if WAITS (begins m.wait) o
    (shown_if TAKINGS (begins m.semaphore) o
    (shown_if HOLDS (begins m.mutex) o
    (shown_if (look_of m.mark).letter true o shown)))))

-- Whether an event has arrows is the same in all bands: said of one without rows.
abbrev pub bare_band : Layout → Band
bare_band l = record { start = 0; threads = l.threads; plan = record { rows = []; end = 0 } }

abbrev pub has_arrows : Layout → Tracked → Origin → Effects → Bool
has_arrows l k o m = has_text (arrows_at (bare_band l) k o m)

-- what was drawn after the event n, which shows something where it is drawn
abbrev pub shown_after : Layout → DrawnRange → Tracked → ℕ → Event → (ℕ → Option Origin) → ℕ → Option Origin
shown_after l v k n e shown =
    if in_view v n then
    shown_by (origin_of n e) (marks e) (has_arrows l k (origin_of n e) (marks e)) (opened l v k (origin_of n e) shown)
    else shown

abbrev pub drawn_after : Layout → DrawnRange → ℕ → Event → Drawn → Drawn
drawn_after l v n e d = record { board = tracked_after n e d.board; shown = shown_after l v d.board n e d.shown; page = d.page }

-- what was drawn after these events
abbrev pub shown_since : Layout → DrawnRange → List Event → ℕ → Option Origin
shown_since l v [] = λ (k : ℕ). None
shown_since l v (e ∷ past) = shown_after l v (tracked_since past) (length past) e (shown_since l v past)

abbrev pub drawn_since : Layout → DrawnRange → Page → List Event → Drawn
drawn_since l v p past = record { board = tracked_since past; shown = shown_since l v past; page = p }

-- what was drawn after the event n, which failed
abbrev pub shown_failed : Layout → DrawnRange → Tracked → Origin → (ℕ → Option Origin) → ℕ → Option Origin
shown_failed l v k o shown = if in_view v o.place then shown_if (look_of Failed).letter true o (opened l v k o shown) else shown

abbrev pub drawn_failed : Layout → DrawnRange → ℕ → Event → Drawn → Drawn
drawn_failed l v n e d = record { board = d.board; shown = shown_failed l v d.board (origin_of n e) d.shown; page = d.page }
