use Rattle.trace_core.proofs.Quick.{place_read}
use Rattle.trace_core.proofs.token.place_and_t.Goals as goal

pub returns-then-n-place : goal.returns-then-n-place
returns-then-n-place c = rw (place_read c.in-Some.n c.args.place c.args.bytes.now c.in-Some.rest.now c.if-n-place.true c.in-Some.ensures) c.word.ensures
