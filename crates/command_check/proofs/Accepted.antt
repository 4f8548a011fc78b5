-- The text of a legal and closed list of events is accepted.
use Rattle.std.proofs.Common.{◌≡◌, ◌≢◌, ℕ, zero, suc, ◌≤◌, List, length, refl, ap, Bool, false, None, arith}
use Rattle.larch_actions.specs.declared.event.Layout.{Layout}
use Rattle.larch_actions.specs.declared.event.Event.{Event}
use Rattle.larch_actions.specs.State as state
use Rattle.trace_core.specs.Text.{MutexValue}
use Rattle.trace_check.specs.declared.checker.Summary.{Summary}
use Rattle.trace_check.specs.declared.checker.Verdict.TheVariants.{Legal, ReadFault}
use Rattle.trace_check.specs.Verdicts.{IsLegalText}
use Rattle.trace_check.proofs.Unique.{one_verdict}
use Rattle.command_check.specs.Accepted.{IsAccepted}
use Rattle.command_check.specs.Traces.{IsClosedTrace}

nothing_counted : (test : ℕ → Bool) (n : ℕ) → ((k : ℕ) → test k ≡ false) → state.count_below test n ≡ 0
nothing_counted test zero none = refl
nothing_counted test (suc n) none = let ih = nothing_counted test n none in rw (none n) (omega (arith, ih))

module _ (l : Layout) (values : List MutexValue) (events : List Event) (bytes : List ℕ) (t : IsClosedTrace l values events bytes) where
  abbrev counted : Summary
  counted = record { events = length events; held = state.held l t.closed.0; waiting = state.waiting l t.closed.0; alerted = state.alerted l t.closed.0 }

  legal : (budget : ℕ) → length bytes ≤ budget → IsLegalText budget bytes counted
  legal budget within = record {
    layout = l;
    events = events;
    values = values;
    last = t.closed.0;
    text = t.reads;
    within = within;
    run = t.closed.1;
    counts = record { events = refl; held = refl; waiting = refl; alerted = refl };
  }

  none_held : counted.held ≡ 0
  none_held = nothing_counted (λ m. state.is_held (t.closed.0.holder m)) l.mutexes (λ m. ap state.is_held (t.closed.2 m))

  none_waits : counted.waiting ≡ 0
  none_waits = nothing_counted (λ n. state.is_begun (t.closed.0.pending n)) l.threads (λ n. ap state.is_begun (t.closed.3 n))

no_read_fault : (s : Summary) → Legal s ≢ ReadFault
no_read_fault s e = cc

pub closed_accepted : (l : Layout) (values : List MutexValue) (events : List Event) (bytes : List ℕ) → IsClosedTrace l values events bytes → IsAccepted bytes
closed_accepted l values events bytes t budget within fits = (
  counted l values events bytes t,
  none_held l values events bytes t,
  none_waits l values events bytes t,
  (λ left before now. legal l values events bytes t budget within),
  (λ v left before now ne just. one_verdict budget bytes left None before now 0 0 v (Legal (counted l values events bytes t)) fits ne (no_read_fault _) just (legal l values events bytes t budget within)),
)
