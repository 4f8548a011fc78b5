-- What a thread stores of its own events.
use Rattle.std.specs.Prelude.{false, ◌≡◌, ◌<◌, ◌≤◌, ◌++◌, ◌∷◌, [], length, map}
use Rattle.larch_actions.specs.declared.event.Event.{Event}
use Rattle.nub_rule.specs.Known.{Known}

module _ {T H W : Type 0} where
  -- with the event e under the number that was last read, the thread's list has an entry for each
  -- of its own events, with its place, unless the list lost an entry
  abbrev pub ComesNext : Event → Known T H W → Type 0
  ComesNext e k = k.lost ≡ false → (map (λ x. x.number) k.entries ++ k.next ∷ [] ≡ k.places)
      × (map (λ x. x.event) k.entries ++ e ∷ [] ≡ k.mine)

  -- the list has no less room than before, and has lost no further event if there was room for one
  abbrev pub KeepsRoom : Known T H W → Known T H W → Type 0
  KeepsRoom a b = (a.capacity ≤ b.capacity) × (length a.entries < a.capacity → b.lost ≡ a.lost)
