use Rattle.index_print.specs.Text.{hit_lead}
use Rattle.index_print.proofs.Written.{all_of}
use Rattle.index_print.proofs.prefix.put_long.Goals as goal

pub returns-clause-text : goal.returns-clause-text
returns-clause-text g c =
    let start = c.write_lead-start in
    rw (start.ensures.written, all_of (hit_lead c.args.count c.args.line) start.result start.ensures.size) at c.put.ensures.text
