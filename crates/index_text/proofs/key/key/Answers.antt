use Rattle.std.proofs.Common.{arith}
use Rattle.std.specs.Option.{option_copied}
use Rattle.index_text.proofs.Keyed.{key_more, key_gone, key_other, key_good, key_bad}
use Rattle.index_text.proofs.key.key.Goals as goal

pub returns-then-may_be : goal.returns-then-may_be
returns-then-may_be c = key_more (option_copied c.args.last) c.args.bytes.now c.key_end-at.result (omega arith) c.key_end-at.ensures.keys c.if-may_be.ensures

pub returns-then-at-bytes : goal.returns-then-at-bytes
returns-then-at-bytes c = key_gone (option_copied c.args.last) c.args.bytes.now c.key_end-at.result (omega arith) c.key_end-at.ensures.keys c.if-may_be.ensures

pub returns-then-bytes-at-ne32 : goal.returns-then-bytes-at-ne32
returns-then-bytes-at-ne32 c = key_other (option_copied c.args.last) c.args.bytes.now c.key_end-at.result (omega arith) c.key_end-at.ensures.keys (c.key_end-at.ensures.ends (omega arith)) c.if-bytes-at-ne32.true

pub returns-then-good : goal.returns-then-good
returns-then-good c = key_good (option_copied c.args.last) c.args.bytes.now c.key_end-at.result (omega arith) c.key_end-at.ensures.keys (c.key_end-at.ensures.ends (omega arith)) c.if-bytes-at-ne32.false c.if-good.ensures

pub returns-else-good : goal.returns-else-good
returns-else-good c = key_bad (option_copied c.args.last) c.args.bytes.now c.key_end-at.result (omega arith) c.key_end-at.ensures.keys (c.key_end-at.ensures.ends (omega arith)) c.if-bytes-at-ne32.false c.if-good.ensures
