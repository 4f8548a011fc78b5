use Rattle.std.proofs.Common.{take}
use Rattle.std.specs.Prelude.{codes}
use Rattle.trace_json.specs.Texts.{place_text}
use Rattle.trace_json.proofs.Adding.{added_two}
use Rattle.trace_json.proofs.texts.add_side_place.Goals as goal

pub returns-clause-text : goal.returns-clause-text
returns-clause-text c =
    added_two (take c.args.at c.args.buf.now) _ _ (codes "\"") (place_text c.args.place c.args.thread.0) c.add-at.ensures.text c.add_place.ensures.text
