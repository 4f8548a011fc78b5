use Rattle.std.proofs.Common.{map, filter, ap}
use Rattle.word_index.specs.Words.{is_short, lowered}
use Rattle.word_index.proofs.Begins.{runs_by_place}
use Rattle.word_index.proofs.laws.words_are_runs.Goals as goal

pub returns : goal.returns
returns c = ap (λ rs. map lowered (filter is_short rs)) (runs_by_place c.args.bytes.now)
