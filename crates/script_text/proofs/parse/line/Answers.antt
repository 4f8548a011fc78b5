use Rattle.std.proofs.Common.{arith}
use Rattle.script_text.specs.declared.parse.Place.TheVariants.{Thread}
use Rattle.script_text.specs.Drafts.{allowed}
use Rattle.script_text.proofs.Layouts.{few_threads}
use Rattle.script_text.proofs.LineCode.{some_number_code}
use Rattle.script_text.proofs.parse.line.Goals as goal

pub operation-requires-clause-thread : goal.operation-requires-clause-thread
operation-requires-clause-thread c =
    let d = c.args.draft.now in
    let read = c.in-Ok-some_number.read in
    let code = some_number_code (allowed d Thread) d.layout.threads 32 (omega (arith, few_threads d.layout c.requires.lawful)) (omega arith) in
    (code.found c.in-Ok.rest.now read.1.now read.0 c.in-Ok-some_number.ensures).0.0
