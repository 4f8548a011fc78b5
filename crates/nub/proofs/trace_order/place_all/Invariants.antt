use Rattle.std.proofs.Common.{◌≡◌, ℕ, List, vec_len}
use Rattle.std.specs.List.{All, AllWithin}
use Rattle.larch_actions.specs.declared.event.Event.{Event}
use Rattle.nub.specs.History.{IsOf, SameAt}
use Rattle.nub.proofs.trace_order.place_all.Given as goal

abbrev pub invariant-loop-x : goal.invariant-loop-x
invariant-loop-x l = record {
  long : vec_len l.places ≡ vec_len l.initial.places;
  keeps : (h : List Event) → All (IsOf h) l.list.items → (k : ℕ) → SameAt h l.initial.places.items k → SameAt h l.places.items k;
  fills : (h : List Event) → All (IsOf h) l.list.items → AllWithin (λ x. SameAt h l.places.items x.number) l.list.items 0 l.x-index;
}
