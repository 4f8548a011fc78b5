-- What is said of the state before an event.
use Rattle.std.specs.Prelude.{ℕ, ◌==◌, if◌then◌else◌, List, [], ◌++◌, codes, Some, None}
use Rattle.std.specs.declared.option.Option.{Option}
use Rattle.larch_actions.specs.declared.event.Version.{Version}
use Rattle.larch_actions.specs.declared.event.Version.TheVariants.{One, Two}
use Rattle.larch_actions.specs.declared.event.Event.{Event}
use Rattle.trace_board.specs.declared.history.Origin.{Origin}
use Rattle.trace_board.specs.declared.history.Change.{Change}
use Rattle.trace_board.specs.declared.history.Change.TheVariants as effect
use Rattle.trace_board.specs.declared.causes.Cause.{Cause}
use Rattle.trace_board.specs.declared.causes.Cause.TheVariants.{Never, Awaited, By}
use Rattle.trace_board.specs.declared.causes.CauseChange.{CauseChange}
use Rattle.trace_board.specs.declared.causes.CauseChange.TheVariants as move
use Rattle.trace_board.specs.declared.board.Reason.{Reason}
use Rattle.trace_board.specs.declared.board.Reason.TheVariants as waker
use Rattle.trace_board.specs.Marks.{marks_of}
use Rattle.trace_board.specs.Tracked.{Tracked}
use Rattle.trace_shapes.specs.Shapes.{with_number, each_below}
use Rattle.trace_explain.specs.Sentences.{plain, since, standing, ended}

-- the thread's wait: in which condition it stands, or who took it out
abbrev pub wait_text : ℕ → Cause → List ℕ
wait_text t Never = plain (codes "t") t (codes " is in no wait")
wait_text t (Awaited c) = standing t c
wait_text t (By o) = since (codes "t") t (codes " was taken out by t") o

-- who has a mutex
abbrev pub held_text : ℕ → Option Origin → List ℕ
held_text m None = plain (codes "m") m (codes " is held by nobody")
held_text m (Some o) = since (codes "m") m (codes " is held by t") o

-- whether a semaphore is available, and who made it so
abbrev pub open_text : ℕ → Cause → List ℕ
open_text s Never = plain (codes "s") s (codes " is available")
open_text s (Awaited k) = plain (codes "s") s (codes " is not available")
open_text s (By o) = since (codes "s") s (codes " is available by t") o

-- whether a thread is alerted, and by whom
abbrev pub alert_text : ℕ → Cause → List ℕ
alert_text t Never = plain (codes "t") t (codes " is not alerted")
alert_text t (Awaited k) = plain (codes "t") t (codes " is not alerted")
alert_text t (By o) = since (codes "t") t (codes " is alerted by t") o

-- the name of a thread that stands in the condition
abbrev pub stander : ℕ → ℕ → Cause → List ℕ
stander c t Never = []
stander c t (Awaited d) = if d == c then with_number (codes " t") t else []
stander c t (By o) = []

-- all that stand in the condition
unfoldable pub standers : Tracked → ℕ → List ℕ
standers k c = with_number (codes "in c") c ++ codes ":" ++ each_below (λ t. stander c t (k.stands t)) 256 ++ codes "\n"

-- the life of a thread at first
abbrev pub first_text : ℕ → List ℕ
first_text t = if t == 0 then plain (codes "t") t (codes " is live from the start") else plain (codes "t") t (codes " is not forked")

-- whether a thread is unborn, lives or has ended, and by which events
abbrev pub life_text : ℕ → Option Origin → Option Origin → List ℕ
life_text t born (Some o) = ended t o
life_text t (Some o) None = since (codes "t") t (codes " is forked by t") o
life_text t None None = first_text t

-- the name of a mutex that the thread holds
abbrev pub held_by : ℕ → ℕ → Option Origin → List ℕ
held_by t m None = []
held_by t m (Some o) = if o.thread.0 == t then with_number (codes " m") m else []

-- all that it holds
unfoldable pub holdings : Tracked → ℕ → List ℕ
holdings k t = with_number (codes "held by t") t ++ codes ":" ++ each_below (λ m. held_by t m (k.held m)) 64 ++ codes "\n"

-- the life of the thread that makes the event: in version one all live
abbrev pub own_fact : Version → Tracked → ℕ → List ℕ
own_fact One k t = []
own_fact Two k t = life_text t (k.born t) (k.over t)

-- the thread that is forked, and what the one that ends holds
abbrev pub life_fact : Tracked → Change → List ℕ
life_fact k (effect.Begins t) = life_text t (k.born t) (k.over t)
life_fact k (effect.Ends t) = holdings k t
life_fact k effect.Stays = []

-- the mutex that the action takes or gives back
abbrev pub mutex_fact : Tracked → Change → List ℕ
mutex_fact k (effect.Begins m) = held_text m (k.held m)
mutex_fact k (effect.Ends m) = held_text m (k.held m)
mutex_fact k effect.Stays = []

-- the condition that the action lets threads out of
abbrev pub stand_fact : Tracked → CauseChange → List ℕ
stand_fact k (move.Frees c left) = standers k c
stand_fact k _ = []

-- the semaphore of the action
abbrev pub open_fact : Tracked → CauseChange → List ℕ
open_fact k (move.Awaits s c) = open_text s (k.opens s)
open_fact k (move.Opens s) = open_text s (k.opens s)
open_fact k _ = []

-- the alert that the action goes on by, and the thread that it joins
abbrev pub waker_fact : Tracked → Reason → List ℕ
waker_fact k (waker.Alerted t) = alert_text t (k.alerts t)
waker_fact k (waker.Ended t) = life_text t (k.born t) (k.over t)
waker_fact k _ = []

-- all that the order and the action's row speak of
unfoldable pub facts : Version → Tracked → Event → List ℕ
facts version k e =
    own_fact version k e.thread.0 ++ wait_text e.thread.0 (k.stands e.thread.0) ++ life_fact k (marks_of e.thread.0 e.action).life
    ++ mutex_fact k (marks_of e.thread.0 e.action).mutex ++ stand_fact k (marks_of e.thread.0 e.action).stand
    ++ open_fact k (marks_of e.thread.0 e.action).avail ++ waker_fact k (marks_of e.thread.0 e.action).waker
