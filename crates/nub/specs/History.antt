-- What each thread stores of a history.
use Rattle.std.specs.Prelude.{◌≡◌, ℕ, ◌+◌, ◌<◌, false, cond, eqb, List, [], ◌∷◌, length, slice_index_or}
use Rattle.std.specs.List.{All}
use Rattle.larch_actions.specs.declared.event.Event.{Event}
use Rattle.nub_rule.specs.declared.package.Entry.{Entry}
use Rattle.nub_rule.specs.declared.package.Stored.{Stored}

-- the events by the thread t with their places, counted from k
abbrev pub entries_from : ℕ → ℕ → List Event → List Entry
entries_from t k [] = []
entries_from t k (e ∷ es) = cond (eqb e.thread.0 t) (record { number = k; event = e } ∷ entries_from t (k + 1) es)
    (entries_from t (k + 1) es)

-- the events by the thread t with their places in the history
abbrev pub entries_of : ℕ → List Event → List Entry
entries_of t h = entries_from t 0 h

-- the threads of h are those of the lists, and the list at t is what the thread t stores of h,
-- unless that list lost an entry
pub record AreStored (h : List Event) (lists : List Stored) : Type 0 where
  pub threads : All (λ e. e.thread.0 < length lists) h
  pub each : (t : ℕ) (d : Stored) → t < length lists → (slice_index_or lists t d).lost ≡ false
      → (slice_index_or lists t d).entries.items ≡ entries_of t h

-- the entry's event is in h at its place
abbrev pub IsOf : List Event → Entry → Type 0
IsOf h x = (x.number < length h) × ((d : Event) → slice_index_or h x.number d ≡ x.event)

-- at k both lists have the same event, or none
abbrev pub SameAt : List Event → List Event → ℕ → Type 0
SameAt h xs k = (d : Event) → slice_index_or xs k d ≡ slice_index_or h k d
