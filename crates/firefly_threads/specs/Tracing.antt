-- From what closing a traced package says.
use Rattle.std.proofs.Common.{◌≡◌, ◌<◌, ℕ, List, length, Some, arith, subst, sym}
use mathlib.Core.Option.{some}
use lib.ListN.{get_elem?}
use Rattle.larch_actions.specs.Layout.{IsLawful}
use Rattle.larch_actions.specs.declared.event.Event.{Event}
use Rattle.larch_actions.specs.declared.event.Layout.{Layout}
use Rattle.larch_actions.specs.Actions.{by_thread}
use Rattle.nub.specs.Ended.{Ended, IsWhole}
use Rattle.nub_rule.specs.Known.{Known}
use Rattle.nub_rule.proofs.Each.{at_below}
use Rattle.package_crew.specs.Runs.{HaveWorked}
use Rattle.firefly_threads.specs.Traces.{IsTraced}

pub is_traced : {T H W : Type 0} (l : Layout) (c : Ended T H W) → IsLawful l → c.layout ≡ l
    → (h : List Event) × (c.trace ≡ Some h) × IsWhole l c.threads h → IsTraced c
is_traced l c lawful same was = record {
  lawful = subst IsLawful (sym same) lawful;
  history = was.0;
  is = was.1;
  whole = subst (λ (k : Layout). IsWhole k c.threads was.0) (sym same) was.2;
}

-- what the work promises of its own events is so of each thread's part of the whole history
pub in_history : {T H W X : Type 0} (world : W) (holds : List T → List H → Type 0) (did : ℕ → List Event → X → H → Type 0)
    (threads : List (Known T H W)) (values : List T) (left : List X) (l : Layout) (h : List Event)
    → HaveWorked world holds did threads values left → IsWhole l threads h
    → (n : ℕ) → n < length left → (x : X) × (s : H) × (get_elem? left n ≡ some x) × did n (by_thread n h) x s
in_history world holds did threads values left l h worked whole n low =
    let many = worked.count in
    let one = at_below worked.shares n (omega arith) in
    let own = worked.each n one.0 one.1 in
    (own.left, one.0, own.is_left, subst (λ es. did n es own.left one.0) (sym (whole.own n own.thread own.is_thread)) own.goes)
