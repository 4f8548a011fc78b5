-- A scene as plain lists, and what they show.
use Rattle.std.specs.Prelude.{◌≡◌, ℕ, Bool, true, false, cond, eqb, List, length, Some, None, MatchBool}
use Rattle.std.specs.declared.option.Option.{Option}
use mathlib.Core.Option.{none, some, Option as Optional}
use Rattle.larch_actions.specs.declared.event.Event.{Event}
use Rattle.larch_actions.specs.declared.event.Layout.{Layout}
use Rattle.larch_actions.specs.declared.event.Version.{Version}
use Rattle.larch_actions.specs.declared.event.Version.TheVariants.{One, Two}
use Rattle.larch_actions.specs.declared.event.Life.{Life}
use Rattle.larch_actions.specs.declared.event.Life.TheVariants.{Unborn, Live, Ended}
use Rattle.larch_actions.specs.declared.event.Pending.{Pending}
use Rattle.larch_actions.specs.declared.event.Pending.TheVariants.{Nothing, Waiting, AlertWaiting}
use Rattle.larch_actions.specs.Actions.{Spec, Acts, MayAct}
use Rattle.larch_actions.specs.State.{shown_at}
use Rattle.script_plays.specs.Scenes.{Scene}
use Rattle.script_search.specs.declared.board.Place.{Place}
use Rattle.script_search.specs.declared.board.Place.TheVariants as place
use Rattle.script_search.specs.declared.board.Thread.{Thread}
use Rattle.script_search.specs.declared.board.Board.{Board}

-- what is kept of each thread, mutex and semaphore
pub record Moment : Type 0 where
  pub second : Bool
  pub threads : List Thread
  pub holders : List (Option ℕ)
  pub available : List Bool

abbrev pub moment_of : Board → Moment
moment_of b = record { second = b.second; threads = b.threads.items; holders = b.holders.items; available = b.available.items }

-- what a thread there has begun, its life, and whether it is inside the condition c
abbrev pub pending_of : Place → Pending
pending_of (place.Waiting m c inside) = Waiting (record { 0 = m }) (record { 0 = c })
pending_of (place.AlertWaiting m c inside) = AlertWaiting (record { 0 = m }) (record { 0 = c })
pending_of _ = Nothing

abbrev pub life_of : Place → Life
life_of place.Unborn = Unborn
life_of place.Ended = Ended
life_of _ = Live

abbrev pub is_inside : ℕ → Place → Bool
is_inside c (place.Waiting m k inside) = cond (eqb c k) inside false
is_inside c (place.AlertWaiting m k inside) = cond (eqb c k) inside false
is_inside c _ = false

abbrev pub holder_of : Option ℕ → Optional ℕ
holder_of None = none
holder_of (Some t) = some t

-- the life of a thread that is past all that are kept
abbrev pub life_beyond : Bool → Life
life_beyond false = Live
life_beyond true = Unborn

-- the state that the lists show, and the lines that are played
abbrev pub spec_of : Moment → Spec
spec_of m = record {
  holder = shown_at holder_of none m.holders;
  members = λ c. shown_at (λ x. is_inside c x.place) false m.threads;
  avail = shown_at (λ b. b) true m.available;
  alerts = shown_at (λ x. x.alerted) false m.threads;
  pending = shown_at (λ x. pending_of x.place) Nothing m.threads;
  life = shown_at (λ x. life_of x.place) (life_beyond m.second) m.threads;
}

abbrev pub played_of : Moment → ℕ → ℕ
played_of m = shown_at (λ x. x.played) 0 m.threads

abbrev pub scene_of : Moment → Scene
scene_of m = record { spec = spec_of m; played = played_of m }

abbrev pub is_second : Version → Bool
is_second One = false
is_second Two = true

-- as many of each kind as the layout has
pub record IsBoard (l : Layout) (m : Moment) : Type 0 where
  pub version : m.second ≡ is_second l.version
  pub threads : length m.threads ≡ l.threads
  pub holders : length m.holders ≡ l.mutexes
  pub available : length m.available ≡ l.semaphores

-- as many of each kind as before
pub record SameSize (old new : Moment) : Type 0 where
  pub second : new.second ≡ old.second
  pub threads : length new.threads ≡ length old.threads
  pub holders : length new.holders ≡ length old.holders
  pub available : length new.available ≡ length old.available

-- and the same lines played
pub record Keeps (old new : Moment) : Type 0 where
  pub sizes : SameSize old new
  pub played : played_of new ≡ played_of old

-- the event's step was made, or the event isn't allowed
abbrev pub Steps : Moment → Moment → Event → Bool → Type 0
Steps old new e b = MatchBool b (Acts (spec_of old) e (spec_of new) × Keeps old new) (MayAct (spec_of old) e → ⊥)
