use Rattle.index_print.proofs.Written.{middle_lead}
use Rattle.index_print.proofs.prefix.put_middle.Goals as goal

pub returns-clause-text : goal.returns-clause-text
returns-clause-text g c = rw (middle_lead c.args.count c.args.line c.requires.count c.requires.least c.requires.most, ← c.digit.ensures, ← c.digit-tens.ensures, ← c.digit-ones.ensures) c.put.ensures.text
