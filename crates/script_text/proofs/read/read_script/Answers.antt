use Rattle.std.proofs.Common.{◌≡◌, ◌-◌, List, ℕ, Option, refl, sym, subst, ◌∙◌}
use Rattle.std.specs.Io.KnownBytes.{Consumes}
use Rattle.std.proofs.Common.{IfSome}
use Rattle.exact_text.specs.Exact.{HasReason, lines_room}
use Rattle.exact_text.specs.Intake.{rest_of}
use Rattle.larch_actions.specs.declared.event.Layout.{Layout}
use Rattle.larch_actions.specs.Layout.{IsLawful}
use Rattle.script_text.specs.declared.line.Line.{Line}
use Rattle.script_text.specs.Operations.{MayFollow, AllFree, none_held, none_forked, held_after}
use Rattle.script_text.specs.Text.{lines_text, IsScriptText}
use Rattle.script_text.specs.Texts.{head_text, IsRest}
use Rattle.exact_text.proofs.Stuck.{nothing_held}
use Rattle.exact_text.proofs.Texts.{or_memory, or_map}
use Rattle.script_text.proofs.Reading.{script_read}
use Rattle.script_text.proofs.Scripts.{head_reason}
use Rattle.script_text.proofs.read.read_script.Goals as goal

pub returns-in-Err-clause-fault : goal.returns-in-Err-clause-fault
returns-in-Err-clause-fault g c =
    let r = nothing_held c.new-intake.result.window (g.I.Source.left c.args.input.now) c.new-intake.ensures.rest in
    let P : Option (List ℕ) → Type 0 = λ o. HasReason IsScriptText (lines_room 100000) 0 o (g.I.Source.left c.head.new.input) (g.I.Source.faults c.args.input.now) (g.I.Source.faults c.head.new.input) c.in-Err.fault in
    or_memory (HasReason IsScriptText (lines_room 100000) 0 (g.I.Source.left c.args.input.now) (g.I.Source.left c.head.new.input) (g.I.Source.faults c.args.input.now) (g.I.Source.faults c.head.new.input)) c.in-Err.fault
    (subst P r c.in-Err.ensures.fault)

pub returns-in-Err-lines-clause-fault : goal.returns-in-Err-lines-clause-fault
returns-in-Err-lines-clause-fault g c =
    let r = nothing_held c.new-intake.result.window (g.I.Source.left c.args.input.now) c.new-intake.ensures.rest in
    let l = c.in-Ok.layout in
    let h = c.in-Ok.ensures in
    let rest = rest_of c.head.new.intake (g.I.Source.left c.head.new.input) in
    let left' = g.I.Source.left c.lines.new.input in
    let first = g.I.Source.faults c.args.input.now in
    let before = g.I.Source.faults c.head.new.input in
    let now = g.I.Source.faults c.lines.new.input in
    let P : Option (List ℕ) → Type 0 = λ o. Consumes o rest (head_text l) in
    or_map
    (HasReason (IsRest c.new-draft.result.layout none_held none_forked) (lines_room (100000 - c.head.new.intake.lines)) c.head.new.intake.lines rest left' before now)
    (HasReason IsScriptText (lines_room 100000) 0 (g.I.Source.left c.args.input.now) left' first now)
    (λ f why.
    let a = subst (λ (k : Layout). HasReason (IsRest k none_held none_forked) (lines_room (100000 - c.head.new.intake.lines)) c.head.new.intake.lines rest left' before now f) c.new-draft.ensures.layout why in
    let b = subst (λ (n : ℕ). HasReason (IsRest l none_held none_forked) (lines_room (100000 - n)) n rest left' before now f) h.lines a in
    head_reason l.version l (record { lawful = h.layout.0; version = refl }) (g.I.Source.left c.args.input.now) rest left' first before now f (subst P r h.layout.1) h.reported.later b)
    c.in-Err-lines.fault c.in-Err-lines.ensures.fault

pub returns-clause-script : goal.returns-clause-script
returns-clause-script g c =
    let r = nothing_held c.new-intake.result.window (g.I.Source.left c.args.input.now) c.new-intake.ensures.rest in
    let l = c.in-Ok.layout in
    let h = c.in-Ok.ensures in
    let rest = rest_of c.head.new.intake (g.I.Source.left c.head.new.input) in
    let P : Option (List ℕ) → Type 0 = λ o. Consumes o rest (head_text l) in
    let d = c.in-Ok-lines.ensures in
    let n = c.new.ensures in
    let same = n.layout ∙ d.layout ∙ c.new-draft.ensures.layout in
    let Text : List Line → Type 0 = λ ys. IfSome rest (λ bytes. bytes ≡ lines_text ys) in
    let Follow : List Line → Type 0 = λ ys. MayFollow c.lines.new.draft.layout none_held none_forked ys in
    let Within : Layout → Type 0 = λ k. MayFollow k none_held none_forked c.new.result.lines in
    let Free : List Line → Type 0 = λ ys. AllFree (held_after none_held ys) in
    script_read l c.new.result.layout c.new.result.lines (g.I.Source.left c.args.input.now) rest same (subst P r h.layout.1) (subst Text (sym n.lines) d.done.text) (record {
      lawful = subst IsLawful (sym same) h.layout.0;
      follow = subst Within (sym n.layout) (subst Follow (sym n.lines) d.done.follow);
      free = subst Free (sym n.lines) d.done.free;
    })
