use Rattle.std.proofs.Common.{◌*◌, [], ◌∷◌, arith, ap, inl, inr, refl, subst, sym}
use lib.ListN.{get_elem?}
use Rattle.std.specs.List.{AllByRecursion}
use Rattle.larch_actions.specs.declared.event.Layout.{Layout}
use Rattle.larch_actions.specs.Layout.{HasNames, IsLawful}
use Rattle.trace_core.specs.Text.{ReadsAs, trace_text}
use Rattle.trace_core.specs.Whole.{numbered}
use Rattle.barrier_once.specs.Rounds.{triangle}
use Rattle.command_rounds.proofs.Printed.{lawful}
use Rattle.command_rounds.proofs.command.run_rounds.Goals as goal

pub print-status-requires-clause-lawful : goal.print-status-requires-clause-lawful
print-status-requires-clause-lawful g c =
    let layout = c.in-Ok.ensures.layout in
    let mutexes = ap (λ l. l.mutexes) layout in
    (subst (λ (l : Layout). IsLawful l) (sym layout) (lawful c.args.threads c.requires.threads.0 c.requires.threads.1), omega arith)

pub print-status-requires-clause-traced : goal.print-status-requires-clause-traced
print-status-requires-clause-traced g c =
    let w = c.in-Ok.ensures.trace in
    (w.0, w.1, subst (λ (l : Layout). AllByRecursion (HasNames l) w.0) (sym c.in-Ok.ensures.layout) w.3)

pub print-status-requires-clause-values : goal.print-status-requires-clause-values
print-status-requires-clause-values g c =
    let v = c.in-Ok.ensures.values in
    (2 * c.args.rounds, c.args.rounds * triangle c.args.threads, v.0, v.3)

pub returns-in-Ok : goal.returns-in-Ok
returns-in-Ok g c =
    let w = c.in-Ok.ensures.trace in
    let v = c.in-Ok.ensures.values in
    let round = 2 * c.args.rounds in
    let sum = c.args.rounds * triangle c.args.threads in
    let numbers = numbered 0 (round ∷ sum ∷ v.0 ∷ []) in
    let bytes = trace_text c.in-Ok.left.closed.layout w.0 numbers in
    inl (
      bytes,
      record {
        events = w.0;
        value = v.0;
        within = (v.1, v.2);
        trace = record { reads = subst (λ (l : Layout). ReadsAs bytes l w.0 numbers) c.in-Ok.ensures.layout (c.print-status.ensures.reads w.0 round sum v.0 w.1 v.3); closed = w.2 };
        own = w.4;
        apart = c.in-Ok.ensures.apart w.0 w.1;
        first = c.in-Ok.ensures.first w.0 v.0 w.1 (ap (λ l. get_elem? l 2) v.3);
      },
      c.print-status.ensures.printed w.0 round sum v.0 w.1 v.3,
    )

pub returns-in-Err : goal.returns-in-Err
returns-in-Err g c = inr (c.ends.ensures.status, (refl, refl), c.ends.ensures.notes)
