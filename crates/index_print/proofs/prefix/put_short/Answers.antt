use Rattle.index_print.proofs.Written.{short_lead}
use Rattle.index_print.proofs.prefix.put_short.Goals as goal

pub returns-clause-text : goal.returns-clause-text
returns-clause-text g c = rw (short_lead c.args.count c.args.line c.requires.count c.requires.line, ← c.digit.ensures, ← c.digit-2.ensures) c.put.ensures.text
