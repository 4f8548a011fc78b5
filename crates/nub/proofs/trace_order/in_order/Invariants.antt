use Rattle.std.proofs.Common.{◌≡◌, ◌<◌, ℕ, List, [], vec_len, get_or}
use Rattle.std.specs.List.{All}
use Rattle.larch_actions.specs.declared.event.Event.{Event}
use Rattle.nub.specs.History.{AreStored, SameAt}
use Rattle.nub.proofs.Places.{lists_of}
use Rattle.nub.proofs.trace_order.in_order.Given as goal

abbrev pub invariant-loop-s : goal.invariant-loop-s
invariant-loop-s l = record {
  long : vec_len l.places ≡ l.total;
  fills : (h : List Event) → AreStored h l.stored → (t : ℕ) → t < l.s-index → All (λ x. SameAt h l.places.items x.number) (get_or (lists_of l.stored) t []);
}
