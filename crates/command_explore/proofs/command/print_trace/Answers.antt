use Rattle.std.proofs.Common.{◌≡◌, ◌≤◌, ℕ, List, length, ap, sym, subst, ◌∙◌, arith}
use Rattle.std.specs.List.{AllByRecursion}
use Rattle.larch_actions.specs.Layout.{HasNames}
use Rattle.larch_actions.specs.declared.event.Event.{Event}
use Rattle.larch_actions.specs.declared.event.Layout.{Layout}
use Rattle.std.specs.Prelude.{OnOk, OnErr}
use Rattle.std.specs.Io.KnownBytes.{Appends}
use Rattle.firefly_outside.specs.Causes.{AppendsPrefix}
use Rattle.trace_core.specs.Text.{ReadsAs, trace_text}
use Rattle.trace_core.specs.Whole.{numbered}
use Rattle.script_search.specs.Boards.{moment_of, scene_of}
use Rattle.command_explore.proofs.Named.{play_named}
use Rattle.command_explore.proofs.command.print_trace.Goals as goal

-- the same of equal layouts, events and values
under : (P : Layout → List Event → List ℕ → Type 0) (k l : Layout) (es h : List Event) (vs ws : List ℕ) → k ≡ l → es ≡ h → vs ≡ ws → P k es vs → P l h ws
under P k l es h vs ws el eh ev p = subst (λ z. P z h ws) el (subst (λ z. P k z ws) eh (subst (λ z. P k es z) ev p))

pub print_whole-requires-clause-named : goal.print_whole-requires-clause-named
print_whole-requires-clause-named g c =
    let l = c.args.script.now.layout in
    let named = play_named l c.args.script.now.lines c.requires.script c.args.stuck.now.events.items (scene_of (moment_of c.args.stuck.now.board)) c.requires.stuck.play in
    under (λ k es vs. AllByRecursion (HasNames k) es) l c.layout-layout.result c.args.stuck.now.events.items c.as_slice-events.result.now c.args.stuck.now.numbers.items c.as_slice-values.result.now (sym c.layout-layout.ensures.layout) (sym c.as_slice-events.ensures.value) (sym c.as_slice-values.ensures.value) named

pub print_whole-requires-clause-valued : goal.print_whole-requires-clause-valued
print_whole-requires-clause-valued g c =
    let l = c.args.script.now.layout in
    let valued : length c.args.stuck.now.numbers.items ≤ l.mutexes = omega (arith, c.requires.stuck.numbers.size) in
    under (λ k es vs. length vs ≤ k.mutexes) l c.layout-layout.result c.args.stuck.now.events.items c.as_slice-events.result.now c.args.stuck.now.numbers.items c.as_slice-values.result.now (sym c.layout-layout.ensures.layout) (sym c.as_slice-events.ensures.value) (sym c.as_slice-values.ensures.value) valued

pub returns-clause-ok : goal.returns-clause-ok
returns-clause-ok g c =
    under (λ k es vs. OnOk c.print_whole.result (Appends (g.O.Sink.held c.args.out.now) (g.O.Sink.held c.print_whole.new.out) (trace_text k es (numbered 0 vs)))) c.layout-layout.result _ c.as_slice-events.result.now _ c.as_slice-values.result.now _ c.layout-layout.ensures.layout c.as_slice-events.ensures.value c.as_slice-values.ensures.value c.print_whole.ensures.ok

pub returns-clause-err : goal.returns-clause-err
returns-clause-err g c =
    under (λ k es vs. OnErr c.print_whole.result (AppendsPrefix (g.O.Sink.held c.args.out.now) (g.O.Sink.held c.print_whole.new.out) (trace_text k es (numbered 0 vs)))) c.layout-layout.result _ c.as_slice-events.result.now _ c.as_slice-values.result.now _ c.layout-layout.ensures.layout c.as_slice-events.ensures.value c.as_slice-values.ensures.value c.print_whole.ensures.err

pub returns-clause-reads : goal.returns-clause-reads
returns-clause-reads g c =
    under (λ k es vs. ReadsAs (trace_text k es (numbered 0 vs)) k es (numbered 0 vs)) c.layout-layout.result _ c.as_slice-events.result.now _ c.as_slice-values.result.now _ c.layout-layout.ensures.layout c.as_slice-events.ensures.value c.as_slice-values.ensures.value c.print_whole.ensures.reads
