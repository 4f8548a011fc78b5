use Rattle.std.proofs.Common.{◌≡◌, ◌≤◌, List, ℕ, Option, Some, inl, inr, length, refl, subst, sym}
use Rattle.std.specs.List.{AllByRecursion}
use Rattle.larch_actions.specs.Layout.{HasNames, IsLawful}
use Rattle.larch_actions.specs.declared.event.Event.{Event}
use Rattle.larch_actions.specs.declared.event.Layout.{Layout}
use Rattle.std.specs.Io.KnownBytes.{Appends}
use Rattle.trace_core.specs.Whole.{numbered}
use Rattle.firefly_outside.specs.Causes.{AppendsPrefix}
use Rattle.firefly.proofs.Ran.{reads_names, same_some, under_names}
use Rattle.firefly.proofs.print_trace.print_trace.Goals as goal

named : (k l : Layout) (es : List Event) (trace : Option (List Event)) → k ≡ l → trace ≡ Some es → (h : List Event) × (trace ≡ Some h) × AllByRecursion (HasNames l) h → AllByRecursion (HasNames k) es
named k l es trace same is has =
    let events = same_some trace has.0 es has.1 is in
    subst (λ z. AllByRecursion (HasNames z) es) (sym same) (subst (λ z. AllByRecursion (HasNames l) z) events has.2)

pub returns-in-Err-clause-printed : goal.returns-in-Err-clause-printed
returns-in-Err-clause-printed g c = λ h reported.
    let events = same_some c.args.closed.now.trace c.in-Some.events.now h c.in-Some.ensures reported in
    let P : List ℕ → Type 0 = λ text. AppendsPrefix (g.O.Sink.held c.args.out.now) (g.O.Sink.held c.print_whole.new.out) text in
    let prefix = under_names P c.layout.result c.args.closed.now.layout c.in-Some.events.now h c.args.values.now c.args.values.now c.layout.ensures events refl c.in-Err.ensures.err in
    inr (c.ends.ensures.status, (c.in-Err.ensures.cause.failed, prefix), c.ends.ensures.notes)

pub returns-in-Ok-clause-printed : goal.returns-in-Ok-clause-printed
returns-in-Ok-clause-printed g c = λ h reported.
    let events = same_some c.args.closed.now.trace c.in-Some.events.now h c.in-Some.ensures reported in
    let P : List ℕ → Type 0 = λ text. Appends (g.O.Sink.held c.args.out.now) (g.O.Sink.held c.print_whole.new.out) text in
    inl (refl, under_names P c.layout.result c.args.closed.now.layout c.in-Some.events.now h c.args.values.now c.args.values.now c.layout.ensures events refl c.in-Ok.ensures.ok, (refl, refl))

pub returns-in-Ok-clause-reads : goal.returns-in-Ok-clause-reads
returns-in-Ok-clause-reads g c = λ h reported.
    let events = same_some c.args.closed.now.trace c.in-Some.events.now h c.in-Some.ensures reported in
    reads_names c.layout.result c.args.closed.now.layout c.in-Some.events.now h (numbered 0 c.args.values.now) c.layout.ensures events c.print_whole.ensures.reads

pub returns-in-Err-clause-reads : goal.returns-in-Err-clause-reads
returns-in-Err-clause-reads g c = λ h reported.
    let events = same_some c.args.closed.now.trace c.in-Some.events.now h c.in-Some.ensures reported in
    reads_names c.layout.result c.args.closed.now.layout c.in-Some.events.now h (numbered 0 c.args.values.now) c.layout.ensures events c.print_whole.ensures.reads

pub print_whole-requires-clause-lawful : goal.print_whole-requires-clause-lawful
print_whole-requires-clause-lawful g c = subst IsLawful (sym c.layout.ensures) c.requires.lawful

pub print_whole-requires-clause-named : goal.print_whole-requires-clause-named
print_whole-requires-clause-named g c =
    named c.layout.result c.args.closed.now.layout c.in-Some.events.now c.args.closed.now.trace c.layout.ensures c.in-Some.ensures c.requires.traced

pub print_whole-requires-clause-valued : goal.print_whole-requires-clause-valued
print_whole-requires-clause-valued g c = subst (λ (l : Layout). length c.args.values.now ≤ l.mutexes) (sym c.layout.ensures) c.requires.values
