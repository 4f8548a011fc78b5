-- An event whose line was read at once.
use Rattle.std.proofs.Common.{◌≡◌, ℕ, ◌+◌, ◌^◌, ◌<◌, ◌≤◌, List, ◌++◌, length, length-append, length-drop, drop, ap, ◌∙◌, Ok, arith}
use Rattle.std.specs.Prelude.{codes, decimal}
use Rattle.std.specs.declared.option.Option.{Option}
use Rattle.larch_actions.specs.declared.event.Layout.{Layout}
use Rattle.larch_actions.specs.declared.event.Event.{Event}
use Rattle.larch_actions.specs.Layout.{IsLawful}
use Rattle.trace_core.specs.declared.usual.event.UsualEvent.{UsualEvent}
use Rattle.trace_core.specs.declared.line.Expect.TheVariants as expect
use Rattle.trace_core.specs.declared.line.Line.TheVariants as line
use Rattle.trace_core.specs.declared.reader_state.Progress.{Progress}
use Rattle.trace_core.specs.declared.reader_state.Phase.TheVariants as phase
use Rattle.trace_core.specs.Usual.{IsEventAt}
use Rattle.exact_text.specs.Intake.{rest_of}
use Rattle.trace_core.specs.Lines.{line_at}
use Rattle.trace_core.specs.ReaderState.{reader_state_of}
use Rattle.trace_core.specs.Steps.{IsTaken, TakesEvent}
use Rattle.trace_core.specs.Text.{event_line, action_text, newline}
use Rattle.trace_core.proofs.LineLaws.{line_code}
use Rattle.exact_text.proofs.Stuck.{Keeps-refl, read_outcome, length_outcome}

after_some : (prefix : List ℕ) → 0 < length (prefix ++ newline)
after_some prefix = omega (arith, length-append prefix newline)

event_line_some : (n : ℕ) (e : Event) → 0 < length (event_line n e)
event_line_some n e = after_some (decimal n ++ codes " t" ++ decimal e.thread.0 ++ codes " " ++ action_text e.action)

-- the end of what was read lies after its beginning, within the bytes
pub held_size : (l : Layout) (n : ℕ) (w : List ℕ) (x : UsualEvent) → IsEventAt l n w x → (0 < x.end) × (x.end ≤ length w)
held_size l n w x h =
    let t = event_line n x.event in
    (omega (arith, event_line_some n x.event, ap length h.text.there, length-append t (drop x.end w), length-drop x.end w, h.text.within), h.text.within)

-- it is the line that comes next
pub usual_line : (l : Layout) (n : ℕ) (w : List ℕ) (x : UsualEvent) → IsLawful l → n + 1 < 2 ^ 64 → IsEventAt l n w x → line_at (expect.Events l n) w ≡ Ok (line.Event x.event, drop x.end w)
usual_line l n w x lawful fits h = ap (line_at (expect.Events l n)) h.text.there ∙ (line_code (expect.Events l n) (lawful, fits)).again (line.Event x.event) (drop x.end w) (h.named, h.made)

-- what taking it does to where the reader stands
pub usual_takes : (old new : Progress) (left : Option (List ℕ)) (e : Event) → IsLawful old.layout → old.place + 1 < 2 ^ 64 → old.phase ≡ phase.Events → IsTaken old new e → TakesEvent (reader_state_of old left) (reader_state_of new left) e
usual_takes old new left e lawful fits p t =
    let code = line_code (expect.Events old.layout old.place) (lawful, fits) in
    let r = read_outcome code (rest_of old.intake left) left old.intake.window new.intake.window (line.Event e) (Keeps-refl (rest_of old.intake left)) t.line in
    let s = length_outcome code old.intake.window new.intake.window (line.Event e) t.line in record {
      names = r.0.0;
      made = r.0.1;
      passes = record { bytes = r.1; room = omega (arith, s, t.given, t.budget); lines = t.lines };
      phase = t.phase ∙ p;
      layout = t.layout;
      place = t.place;
    }
