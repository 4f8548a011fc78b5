use Rattle.trace_json.proofs.Writing.{prefix_after}
use Rattle.trace_json.proofs.events.close.Goals as goal

pub returns-in-Err-flush-clause-err : goal.returns-in-Err-flush-clause-err
returns-in-Err-flush-clause-err g c = prefix_after (g.O.Sink.held c.args.out.now) (g.O.Sink.held c.put.new.out) (g.O.Sink.held c.flush.new.out) c.args.held.now.items c.put.new.held.items _ c.in_default.ensures.text c.in-Err-flush.ensures.err
