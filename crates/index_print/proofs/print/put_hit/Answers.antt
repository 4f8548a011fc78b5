use Rattle.text_output.specs.Paths.{escaped}
use Rattle.index_print.specs.Text.{hit_lead}
use Rattle.text_output.proofs.Pieces.{puts_then, puts_failed, prefix_of_two}
use Rattle.index_print.proofs.print.put_hit.Goals as goal

pub returns-in_err-put_lead-clause-text : goal.returns-in_err-put_lead-clause-text
returns-in_err-put_lead-clause-text g c =
    let reported = g.O.Sink.held c.args.out.now in
    let held = c.args.held.now.items in
    let f = c.hit-found.result in
    rw (← c.hit-found.ensures.path, ← c.hit-found.ensures.count, ← c.hit-found.ensures.line)
    (puts_failed c.from_residual.result reported _ held _ _ c.from_residual.ensures.0 (prefix_of_two reported _ held (hit_lead f.count f.line) (escaped f.path.now) c.in_err-put_lead.ensures.text))

pub returns-clause-text : goal.returns-clause-text
returns-clause-text g c =
    let reported = g.O.Sink.held c.args.out.now in
    let held = c.args.held.now.items in
    let f = c.hit-found.result in
    rw (← c.hit-found.ensures.path, ← c.hit-found.ensures.count, ← c.hit-found.ensures.line)
    (puts_then c.put_known_path.result reported _ _ held _ _ (hit_lead f.count f.line) (escaped f.path.now) c.in_ok-put_lead.ensures.text c.put_known_path.ensures.text)
