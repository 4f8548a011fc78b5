-- Which spans an action begins and ends.
use Rattle.std.specs.Prelude.{Some, None}
use Rattle.std.specs.declared.option.Option.{Option}
use Rattle.larch_actions.specs.declared.event.Action.{Action}
use Rattle.larch_actions.specs.declared.event.Action.TheVariants.{Acquire, Release, Enqueue, Resume, AlertEnqueue, AlertReturn, AlertRaise, P, V, AlertPReturn}
use Rattle.trace_json.specs.declared.spans.Span.{Span}
use Rattle.trace_json.specs.declared.spans.Span.TheVariants.{Mutex, Wait, Semaphore}

abbrev pub ended_by : Action → Option Span
ended_by (Release m) = Some (Mutex m)
ended_by (Enqueue m c) = Some (Mutex m)
ended_by (AlertEnqueue m c) = Some (Mutex m)
ended_by (Resume m c) = Some (Wait c)
ended_by (AlertReturn m c) = Some (Wait c)
ended_by (AlertRaise m c) = Some (Wait c)
ended_by (V s) = Some (Semaphore s)
ended_by _ = None

abbrev pub begun_by : Action → Option Span
begun_by (Acquire m) = Some (Mutex m)
begun_by (Resume m c) = Some (Mutex m)
begun_by (AlertReturn m c) = Some (Mutex m)
begun_by (AlertRaise m c) = Some (Mutex m)
begun_by (Enqueue m c) = Some (Wait c)
begun_by (AlertEnqueue m c) = Some (Wait c)
begun_by (P s) = Some (Semaphore s)
begun_by (AlertPReturn s) = Some (Semaphore s)
begun_by _ = None
