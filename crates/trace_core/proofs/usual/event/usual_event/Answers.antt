use Rattle.std.proofs.Common.{refl}
use Rattle.std.specs.Prelude.{codes, decimal}
use Rattle.trace_core.specs.Text.{action_text, newline}
use Rattle.trace_core.proofs.UsualTexts.{event_there}
use Rattle.trace_core.proofs.usual.event.usual_event.Goals as goal

pub returns : goal.returns
returns c =
    let t = c.in_ok-t.ensures.name in
    let h = c.in_ok-held.ensures in record {
      named = (t.below, h.named);
      made = h.made;
      text = event_there (decimal c.args.place.now) (codes " t") (decimal c.in_ok-t.t.value) (action_text c.in_ok-held.held.action) newline c.in_ok-at.ensures.text (c.if-not-has_two.ensures refl) t.text h.text;
    }
