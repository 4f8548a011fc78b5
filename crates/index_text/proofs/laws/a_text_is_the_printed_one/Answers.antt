use Rattle.index_text.proofs.Printed.{printed}
use Rattle.index_text.proofs.laws.a_text_is_the_printed_one.Goals as goal

pub returns : goal.returns
returns c = printed
