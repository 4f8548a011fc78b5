use Rattle.larch_actions.specs.declared.kind.Kind.TheVariants.{Mutex}
use Rattle.script_text.specs.declared.table.Operand.TheVariants.{Name}
use Rattle.script_text.specs.Drafts.{allowed}
use Rattle.script_text.proofs.Parsed.{one_more, one_fewer, more_small}
use Rattle.script_text.proofs.parse.+operands.Goals as goal

pub returns-in-Ok-operands-clause-read : goal.returns-in-Ok-operands-clause-read
returns-in-Ok-operands-clause-read t c =
    one_more c.args.draft.now.layout (allowed c.args.draft.now c.args.place) c.args.kinds.now (Name Mutex) c.stop_before.result c.in-Ok.read.0 c.in-Ok-operands.others c.args.bytes.now c.in-Ok.read.1.now c.in-Ok-operands.rest.now c.in-len1-up.len_at_least
    c.requires.few c.stop_before.ensures c.in-Ok.ensures.read c.in-Ok-operands.ensures.read

pub returns-in-Ok-operands-clause-small : goal.returns-in-Ok-operands-clause-small
returns-in-Ok-operands-clause-small t c =
    let o = c.in-Ok-operands.others in
    more_small c.args.kinds.now (Name Mutex) c.in-Ok.read.0 o.first o.second o.third c.in-len1-up.len_at_least c.requires.few c.in-Ok.ensures.small c.in-Ok-operands.ensures.small

pub returns-in-Err-operands-clause-read : goal.returns-in-Err-operands-clause-read
returns-in-Err-operands-clause-read t c =
    one_fewer c.args.draft.now.layout (allowed c.args.draft.now c.args.place) c.args.kinds.now (Name Mutex) c.stop_before.result c.in-Ok.read.0 c.in-Err-operands.stop c.args.bytes.now c.in-Ok.read.1.now c.in-len1-up.len_at_least c.stop_before.ensures c.in-Ok.ensures.read
    c.in-Err-operands.ensures.read
